-- How the best counts of a table made from others follow from theirs (document 01, "What a best plan is"), for any numbers of slots.
-- Main results: cut_counts, beside_counts, one_more_counts.
-- Leans on Cut, Beside and OneMore, and on best counts being unique.
use Prim.Native.Nat.{ℕ, suc, ◌+◌, ◌≤◌}
use mathlib.Core.Path.{◌≡◌}
use mathlib.Core.Logic.{◌⊎◌}
use Rattle.plans.specs.Numbers.{sum}
use Rattle.plans.specs.Order.{Less, Same}
use Rattle.plans.specs.Plan.{Table, Best}
use Rattle.plans.specs.Tables.{cut, beside, one_more}
use Rattle.plans.proofs.Cut.{cut_best}
use Rattle.plans.proofs.Beside.{beside_best}
use Rattle.plans.proofs.OneMore.{one_more_not_lower, one_more_total}
use Rattle.plans.proofs.BestCounts.{best_unique}

-- How the best counts b of a table with one more signal stand to its best counts a without it, over R ranks.
pub record OneMoreCounts (R : ℕ) (a b : ℕ → ℕ) : Type 0 where
  pub not_lower : Less R b a → ⊥
  pub total_same_or_one_more : (sum R b ≡ sum R a) ⊎ (sum R b ≡ suc (sum R a))

-- The best counts of a table cut at rank k are the first k best counts of the table.
pub cut_counts : (k : ℕ) (T : Table) (a b : ℕ → ℕ) → k ≤ T.ranks → Best T a → Best (cut k T) b → Same k a b
unfolding cut
cut_counts k T a b below A B = best_unique (cut k T) a b (cut_best k T a below A) B

-- The best counts of two tables side by side are the sums of their best counts.
pub beside_counts : (T U : Table) (a b d : ℕ → ℕ) → U.ranks ≡ T.ranks → Best T a → Best U b → Best (beside T U) d
    → Same T.ranks d (λ i. a i + b i)
unfolding beside
beside_counts T U a b d ranks A B D = best_unique (beside T U) d (λ i. a i + b i) D (beside_best T U a b ranks A B)

-- One more signal does not make the best counts lower, and its best total is the same or one more.
pub one_more_counts : (T : Table) (list : ℕ → ℕ) (a b : ℕ → ℕ) → Best T a → Best (one_more T list) b → OneMoreCounts T.ranks a b
one_more_counts T list a b A B = record { not_lower = one_more_not_lower T list a b A B; total_same_or_one_more = one_more_total T list a b A B }
