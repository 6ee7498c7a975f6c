-- A rank at which nothing entered: the cover of the rank before serves again (standing_quiet). Leans on Standing and on plans'
-- FailedSearch.
use Prim.Native.Nat.{ℕ, zero, suc, ◌+◌, ◌≤◌, ◌<◌}
use mathlib.Core.Path.{◌≡◌, refl, sym, ◌∙◌}
use mathlib.Core.List.{List}
use native.Mathlib.Nat.{not-suc-le-zero}
use native.Mathlib.Omega.{arith}
use Rattle.plans.specs.Numbers.{under}
use Rattle.plans.specs.Covers.{Covers, Live, extend}
use Rattle.plans.proofs.Sums.{under_yes, under-bit}
use Rattle.plans.proofs.FailedSearch.{stands_after, certificate_covers, replaced_here, replaced_below, by_replaced}
use Rattle.plans.proofs.Order.{split_last}
use Rattle.plans.proofs.Covers.{stands_less}
use Rattle.units.specs.declared.Size.{Size}
use Rattle.work.specs.Work.{at, CHANNEL, SIGNAL}
use Rattle.work.specs.Input.{Input}
use Rattle.work.specs.State.{InList}
use Rattle.work.specs.Ranks.{table_with, Ranks}
use Rattle.placer.proofs.Standing.{Standing, Covering, list_rank}

-- Nothing entered at a rank: the cover of the rank before serves again, at the first rank an empty one

module _ (z : Size) (rank : ℕ → ℕ → ℕ) (K : Covers) (i : ℕ) (w : List ℕ) (S : Standing z rank K (suc i) i w) (a b : ℕ → ℕ)
    (covers : (s c : ℕ) → Live (table_with z rank) K i s c → 1 ≤ a s + b c)
    (allows : (s c : ℕ) → s < z.signals → InList w s c → a s + b c ≤ under (rank s c) (suc (suc i)))
    (bare-signal : (s : ℕ) → ((j : ℕ) → j < i → K.on_signal j s ≡ 0) → a s ≡ 0)
    (bare-channel : (c : ℕ) → ((j : ℕ) → j < i → K.on_channel j c ≡ 0) → b c ≡ 0)
    (on-placed : (s : ℕ) → s < z.signals → 1 ≤ a s → at w CHANNEL s < z.channels)
    (on-taken : (c : ℕ) → c < z.channels → 1 ≤ b c → at w SIGNAL c < z.signals) where
  -- a cover that leaves the area as it is
  standing_covered : Standing z rank (extend K i a b) (suc i) (suc i) w
  unfolding extend
  standing_covered =
      record {
        certificate = certificate_covers (table_with z rank) K i a b covers S.certificate;
        mates = S.mates;
        along = S.along;
        lists = S.lists;
        entered = S.entered;
        stands = λ s c l h. (stands_after (table_with z rank) K i a b s c).1 (S.stands s c l h, allows s c l h);
        all = λ s c l m k h st. S.all s c l m k h ((stands_after (table_with z rank) K i a b s c).0 st).0;
        open_signal = λ s l e j k.
            split_last j i k
            (λ (q : j ≡ i). rw q (replaced_here K.on_signal i a s ∙ bare-signal s (S.open_signal s l e)))
            (λ q. replaced_below K.on_signal i a s j q ∙ S.open_signal s l e j q);
        open_channel = λ c l e j k.
            split_last j i k
            (λ (q : j ≡ i). rw q (replaced_here K.on_channel i b c ∙ bare-channel c (S.open_channel c l e)))
            (λ q. replaced_below K.on_channel i b c j q ∙ S.open_channel c l e j q);
        never_signal = λ s l k. S.never_signal s l (λ j m. sym (replaced_below K.on_signal i a s j m) ∙ k j (omega arith));
        never_channel = λ c l k. S.never_channel c l (λ j m. sym (replaced_below K.on_channel i b c j m) ∙ k j (omega arith));
        placed = λ j s k l m. by_replaced K.on_signal i a s j k m (on-placed s l) (λ q. S.placed j s q l);
        taken = λ j c k l m. by_replaced K.on_channel i b c j k m (on-taken c l) (λ q. S.taken j c q l);
      }

pub standing_quiet : (z : Size) (rank : ℕ → ℕ → ℕ) (K : Covers) (i : ℕ) (w : List ℕ) → Input z w → Ranks z rank w
    → Standing z rank K (suc i) i w → ((s c : ℕ) → s < z.signals → InList w s c → rank s c ≤ i)
    → Covering z rank (suc i) w
standing_quiet z rank K zero w n r S quiet =
    let nothing : (s c : ℕ) → s < z.signals → InList w s c → ⊥ = λ s c l h. omega (arith, quiet s c l h, list_rank n r S.lists s c l h) in
    record {
      covers = extend K 0 (λ s. 0) (λ c. 0);
      standing =
          standing_covered z rank K 0 w S (λ s. 0) (λ c. 0)
          (λ s c v. absurd (nothing s c v.signal (S.all s c v.signal v.channel v.listed v.ranked v.stands)))
          (λ s c l h. omega arith) (λ s k. refl) (λ c k. refl) (λ s l k. absurd (not-suc-le-zero k)) (λ c l k. absurd (not-suc-le-zero k));
    }
standing_quiet z rank K (suc h) w n r S quiet =
    record {
      covers = extend K (suc h) (K.on_signal h) (K.on_channel h);
      standing =
          standing_covered z rank K (suc h) w S (K.on_signal h) (K.on_channel h) covers
          (λ s c l q.
          omega (arith, (S.stands s c l q).allows h (omega arith), under-bit (rank s c) (suc (suc h)), under_yes (rank s c) (suc (suc (suc h))) (omega (arith, quiet s c l q))))
          (λ s k. k h (omega arith)) (λ c k. k h (omega arith))
          (λ s l k. S.placed h s (omega arith) l k) (λ c l k. S.taken h c (omega arith) l k);
    }
  where
    -- a live pair is one of the lists, so of a rank before, where the cover covered it
    covers : (s c : ℕ) → Live (table_with z rank) K (suc h) s c → 1 ≤ K.on_signal h s + K.on_channel h c
    covers s c v =
        let q : InList w s c = S.all s c v.signal v.channel v.listed v.ranked v.stands in
        S.certificate.covered h s c (omega arith)
        (record {
          signal = v.signal;
          channel = v.channel;
          listed = v.listed;
          ranked = quiet s c v.signal q;
          stands = stands_less (table_with z rank) K h (suc h) s c (omega arith) v.stands;
        })
