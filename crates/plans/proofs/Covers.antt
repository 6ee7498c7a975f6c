-- Covers decide which plans are best: with a certificate for all ranks, a tight plan is best (tight_is_best), and once there is
-- one the best plans are exactly the tight ones (best_is_tight). A tight plan's first counts add up to the weights of the
-- covers (tight_counts), and no plan does better (counts_at_most). Leans on Counting and BestCounts.
use Prim.Native.Nat.{ℕ, zero, suc, ◌+◌, ◌≤◌, ◌<◌}
use mathlib.Core.Path.{◌≡◌}
use native.Mathlib.Nat.{not-suc-le-zero}
use native.Mathlib.Omega.{arith}
use Rattle.plans.specs.Numbers.{under, sum}
use Rattle.plans.specs.Order.{Less, Same}
use Rattle.plans.specs.Plan.{Table, Places, Plan, BestPlan, placed, line}
use Rattle.plans.specs.Covers.{Covers, Stands, Live, Certificate, Tight, weight_at}
use Rattle.plans.proofs.Sums.{by_under, sum_ext, sum_weighed_le, sum_weighed_tight}
use Rattle.plans.proofs.Order.{split_last}
use Rattle.plans.proofs.Counting.{placed_yes, placed_true, charge, charge_at_most, charge_full, placed_of_charge, full_of_charge}
use Rattle.plans.proofs.BestCounts.{at_most, best_plans_same_line}

-- 1 where p has signal s at rank i + 1 or a lower one
abbrev early : Table → Places → ℕ → ℕ → ℕ
early T p i s = under (T.rank s (p s)) (suc (suc i))

-- what the cover at index i has on signal s and on its channel
abbrev cost : Covers → Places → ℕ → ℕ → ℕ
cost K p i s = K.on_signal i s + K.on_channel i (p s)

pub stands_less : (T : Table) (K : Covers) (i n s c : ℕ) → i ≤ n → Stands T K n s c → Stands T K i s c
stands_less T K i n s c l h = record { allows = λ j m. h.allows j (omega arith) }

-- One rank of a certificate, and a plan whose pairs stand after the ranks before.
module _ (T : Table) (K : Covers) (n : ℕ) (G : Certificate T K n) (p : Places) (P : Plan T p)
    (i : ℕ) (inside : i < n) (stand : (s : ℕ) → s < T.signals → p s < T.channels → Stands T K i s (p s)) where
  live : (s : ℕ) → s < T.signals → p s < T.channels → T.rank s (p s) ≤ suc i → Live T K i s (p s)
  live s l m h = record { signal = l; channel = m; listed = P.listed s l m; ranked = h; stands = stand s l m }

  -- Each of its signals of this rank or a lower one is covered,
  charged : (s : ℕ) → s < T.signals → 1 ≤ placed T p s → early T p i s ≤ cost K p i s
  charged s l k =
      by_under (T.rank s (p s)) (suc (suc i))
      (λ h e. omega (arith, e, G.covered i s (p s) inside (live s l (placed_true T p s k) (omega arith))))
      (λ h e. omega (arith, e))

  -- so its counts up to this rank add up to at most the charge, and so to at most the weight.
  counts_at_charge : sum (suc i) (line T p) ≤ charge T p (K.on_signal i) (K.on_channel i)
  unfolding charge
  counts_at_charge = omega (arith, at_most T p P (suc i), sum_weighed_le (placed T p) (early T p i) (cost K p i) T.signals charged)

  pub counts_at_most : sum (suc i) (line T p) ≤ weight_at T K i
  counts_at_most = omega (arith, counts_at_charge, charge_at_most T p (K.on_signal i) (K.on_channel i) P)

  module _ (reach : weight_at T K i ≤ sum (suc i) (line T p)) where
    -- If they add up to the weight, each signal is charged just what its rank allows,
    exact : (s : ℕ) → s < T.signals → 1 ≤ placed T p s → early T p i s ≡ cost K p i s
    unfolding charge
    exact =
        sum_weighed_tight (placed T p) (early T p i) (cost K p i) T.signals charged
        (omega (arith, at_most T p P (suc i), charge_at_most T p (K.on_signal i) (K.on_channel i) P))

    -- so that its pairs stand after this rank too.
    stand_on : (s : ℕ) → s < T.signals → p s < T.channels → Stands T K (suc i) s (p s)
    stand_on s l m = record { allows = λ j h. split_last j i h (λ e. rw e (omega (arith, here))) ((stand s l m).allows j) }
      where
        here : early T p i s ≡ cost K p i s
        here = exact s l (omega (arith, placed_yes T p s m))

module _ (T : Table) (K : Covers) (n : ℕ) (G : Certificate T K n) (p : Places) (P : Plan T p) where
  -- A plan whose first counts add up to the weights has pairs that stand,
  stand_of_counts : (i : ℕ) → i ≤ n → ((j : ℕ) → j < i → weight_at T K j ≤ sum (suc j) (line T p))
      → (s : ℕ) → s < T.signals → p s < T.channels → Stands T K i s (p s)
  stand_of_counts zero l h s ls m = record { allows = λ j k. absurd (not-suc-le-zero k) }
  stand_of_counts (suc i) l h s ls m =
      stand_on T K n G p P i l (stand_of_counts i (omega arith) (λ j k. h j (omega arith))) (h i (omega arith)) s ls m

  -- and one for which all of them do is tight;
  tight_of_counts : ((j : ℕ) → j < n → weight_at T K j ≤ sum (suc j) (line T p)) → Tight T K n p
  tight_of_counts h =
      record {
        stands = stand n (omega arith);
        placed = λ i s l. placed_of_charge T p (K.on_signal i) (K.on_channel i) P (reach i l) s;
        full = λ i c l m k. omega (arith, full_of_charge T p (K.on_signal i) (K.on_channel i) P (reach i l) c m k);
      }
    where
      stand : (i : ℕ) → i ≤ n → (s : ℕ) → s < T.signals → p s < T.channels → Stands T K i s (p s)
      stand i l = stand_of_counts i l (λ j k. h j (omega arith))

      reach : (i : ℕ) → i < n → weight_at T K i ≤ charge T p (K.on_signal i) (K.on_channel i)
      reach i l = omega (arith, h i l, counts_at_charge T K n G p P i l (stand i (omega arith)))

  -- conversely the counts of a tight plan add up to the weights.
  pub tight_counts : Tight T K n p → (i : ℕ) → i < n → sum (suc i) (line T p) ≡ weight_at T K i
  unfolding charge
  tight_counts t i l =
      omega (
        arith,
        counts_at_most T K n G p P i l (λ s ls m. stands_less T K i n s (p s) (omega arith) (t.stands s ls m)),
        charge_full T p (K.on_signal i) (K.on_channel i) P (λ s. t.placed i s l) (λ c. t.full i c l),
        at_most T p P (suc i),
        sum_weighed_le (placed T p) (cost K p i) (early T p i) T.signals (λ s ls k. (t.stands s ls (placed_true T p s k)).allows i l),
      )

-- A tight plan is best: a plan that first differs from it at some rank has no more there.
pub tight_is_best : (T : Table) (K : Covers) (p : Places) → Certificate T K T.ranks → Plan T p → Tight T K T.ranks p → BestPlan T p
unfolding sum
tight_is_best T K p G P t = record { plan = P; unbeaten = unbeaten }
  where
    counts : (i : ℕ) → i < T.ranks → sum (suc i) (line T p) ≡ weight_at T K i
    counts = tight_counts T K T.ranks G p P t

    agree : (q : Places) (m : Less T.ranks (line T p) (line T q)) (j : ℕ) → j ≤ m.at → sum j (line T p) ≡ sum j (line T q)
    agree q m j l = sum_ext (line T p) (line T q) j (λ i k. m.before i (omega arith))

    stand : (q : Places) → Plan T q → (m : Less T.ranks (line T p) (line T q))
        → (s : ℕ) → s < T.signals → q s < T.channels → Stands T K m.at s (q s)
    stand q Q m =
        stand_of_counts T K T.ranks G q Q m.at (omega arith)
        (λ j l. omega (arith, counts j (omega arith), agree q m (suc j) l))

    unbeaten : (q : Places) → Plan T q → Less T.ranks (line T p) (line T q) → ⊥
    unbeaten q Q m =
        omega (
          arith,
          counts m.at m.inside,
          agree q m m.at (omega arith),
          counts_at_most T K T.ranks G q Q m.at m.inside (stand q Q m),
        )

-- Where one plan is tight every best plan is.
pub best_is_tight : (T : Table) (K : Covers) (p q : Places) → Certificate T K T.ranks → Plan T p → Tight T K T.ranks p → BestPlan T q
    → Tight T K T.ranks q
unfolding Same
best_is_tight T K p q G P t Q =
    tight_of_counts T K T.ranks G q Q.plan (λ j l. omega (arith, tight_counts T K T.ranks G p P t j l, agree j l))
  where
    agree : (j : ℕ) → j < T.ranks → sum (suc j) (line T p) ≡ sum (suc j) (line T q)
    agree j l = sum_ext (line T p) (line T q) (suc j) (λ i k. best_plans_same_line T p q (tight_is_best T K p G P t) Q i (omega arith))
