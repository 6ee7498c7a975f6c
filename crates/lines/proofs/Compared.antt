-- What comparing two lines rank by rank makes of their order in specs/Comparing. Leans on plans' laws of the order.
use Prim.Native.Nat.{ℕ, ◌≤◌, ◌<◌}
use mathlib.Core.Path.{◌≡◌, refl, sym}
use mathlib.Core.List.{List}
use native.Mathlib.Omega.{arith}
use Rattle.std.specs.Prelude.{Ok}
use Rattle.std.specs.Ordering.{MatchOrdering, nat_cmp}
use Rattle.std.specs.declared.cmp.Ordering.{Ordering}
use Rattle.std.specs.declared.cmp.Ordering.TheVariants.{Less as Lesser, Equal, Greater}
use Rattle.std.proofs.lemmas.Cmp.{ranked}
use Rattle.plans.specs.Order.{Less, Same, filled}
use Rattle.plans.proofs.Order.{Less_irrefl, Less_asym}
use Rattle.lines.specs.Comparing.{Ordered}

-- The two lines agree on the ranks before index i.
module _ (a b : List ℕ) (i : ℕ) (before : (j : ℕ) → j < i → filled a j ≡ filled b j) where
  -- At i they differ.
  pub ordered_by : i < 15 → (o : Ordering) → o ≡ nat_cmp (filled a i) (filled b i) → (o ≡ Equal → ⊥) → Ordered a b (Ok o)
  unfolding Same
  ordered_by inside o is differ = go o (ranked (filled a i) (filled b i) o is) differ
    where
      go : (o : Ordering) → MatchOrdering o (filled a i < filled b i) (filled a i ≡ filled b i) (filled b i < filled a i)
          → (o ≡ Equal → ⊥) → Ordered a b (Ok o)
      go Lesser less differ =
          let l : Less 15 (filled a) (filled b) = record { at = i; inside = inside; before = before; less = less } in
          record {
            lesser = λ m. refl;
            equal = λ e. absurd (Less_irrefl 15 (filled a) (filled b) e l);
            greater = λ m. absurd (Less_asym 15 (filled a) (filled b) l m);
          }
      go Equal same differ = absurd (differ refl)
      go Greater less differ =
          let l : Less 15 (filled b) (filled a) = record { at = i; inside = inside; before = λ j k. sym (before j k); less = less } in
          record {
            lesser = λ m. absurd (Less_asym 15 (filled a) (filled b) m l);
            equal = λ e. absurd (Less_irrefl 15 (filled b) (filled a) (λ j k. sym (e j k)) l);
            greater = λ m. refl;
          }

  -- They agree on all ranks.
  pub ordered_equal : 15 ≤ i → Ordered a b (Ok Equal)
  unfolding Same
  ordered_equal all =
      let same : Same 15 (filled a) (filled b) = λ j k. before j (omega arith) in
      record {
        lesser = λ l. absurd (Less_irrefl 15 (filled a) (filled b) same l);
        equal = λ e. refl;
        greater = λ l. absurd (Less_irrefl 15 (filled b) (filled a) (λ j k. sym (same j k)) l);
      }
