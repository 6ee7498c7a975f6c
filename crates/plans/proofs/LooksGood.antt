-- Plans that look good and are not: the four choices of document 01, each on its table. What is said of every plan goes
-- through Ways; the best counts are those of starred_rows.
-- Main results, at the end: first_come_falls_short, largest-total-falls-short, weights-mislead, found-afresh-falls-short.
use Prim.Native.Nat.{ℕ, ◌-◌, ◌*◌, ◌≤◌, ◌<◌}
use mathlib.Core.Path.{◌≡◌, refl, ap, sym, ◌∙◌}
use mathlib.Core.List.{List, [], ◌∷◌}
use native.Mathlib.Omega.{arith}
use lib.ListN.{length}
use Rattle.plans.specs.Numbers.{sum}
use Rattle.plans.specs.Order.{Less, Same, filled, Compared}
use Rattle.plans.specs.Order.Compared.{lesser, equal, greater}
use Rattle.plans.specs.Plan.{Table, Places, Plan, BestPlan, Best, line, total}
use Rattle.plans.specs.Tables.{table_of}
use Rattle.plans.specs.Rows.{Small, Agree, row_a, row_b, row_d, rows, table, placed_by, All}
use Rattle.plans.specs.LooksGood.{lowest, serve, served, after_rank, first_come, Largest, LargestFirst, score, chosen_b, chosen_d, FallsShort}
use Rattle.plans.proofs.Sums.{sum_ext}
use Rattle.plans.proofs.Order.{compare_lines, not_less_of_not_more}
use Rattle.plans.proofs.BestCounts.{total_of_line, line_of_best, best_total}
use Rattle.plans.proofs.Ways.{away, given, given_zero, over_plans, every_plan, agree_line, faults, plan_of_faults}
use Rattle.plans.proofs.Rows.{exceeds, misses, same_of_unequal, not_more_of_agree, starred_rows, by_computing}

-- how many signals a plan places, by its counts
size : Table → Places → ℕ
size T p = sum T.ranks (line T p)

total_of_size : (T : Table) (p : Places) → Plan T p → total T p ≡ size T p
unfolding size
total_of_size = total_of_line

less_of_same : {n : ℕ} {f g h k : ℕ → ℕ} → Same n f h → Same n g k → Less n f g → Less n h k
unfolding Same
less_of_same a b l =
    record {
      at = l.at;
      inside = l.inside;
      before = λ j m. sym (a j (omega (arith, l.inside))) ∙ l.before j m ∙ b j (omega (arith, l.inside));
      less = omega (arith, a l.at l.inside, b l.at l.inside, l.less);
    }

module _ (r : Small) (best : Best (table r) (filled r.counts)) where
  -- A plan whose counts differ from the best ones at rank i + 1 falls short.
  falls_short : (p : Places) (counts : List ℕ) → misses (table r) (filled counts) p ≡ 0
      → (i : ℕ) → i < r.ranks → (filled counts i ≡ filled r.counts i → ⊥) → FallsShort r p counts
  unfolding misses table table_of Same
  falls_short p counts h i l differ =
      record {
        plan = plan;
        has = has;
        lesser = go (compare_lines r.ranks (filled counts) (filled r.counts));
        never = λ q good e. differ (sym (e i l) ∙ line_of_best (table r) (filled r.counts) q best good i l);
      }
    where
      plan : Plan (table r) p
      plan = plan_of_faults (table r) p (omega arith)

      has : Same r.ranks (line (table r) p) (filled counts)
      has = same_of_unequal r.ranks (line (table r) p) (filled counts) (omega arith)

      go : Compared r.ranks (filled counts) (filled r.counts) → Less r.ranks (filled counts) (filled r.counts)
      go (lesser k) = k
      go (equal e) = absurd (differ (e i l))
      go (greater k) = absurd (best.best.unbeaten p plan (less_of_same (λ j m. sym (best.counts j m)) (λ j m. sym (has j m)) k))

  total_of_best : (q : Places) → BestPlan (table r) q → total (table r) q ≡ placed_by r
  unfolding table table_of placed_by
  total_of_best q h = best_total (table r) (filled r.counts) q best h

  score_of_best : (weights : List ℕ) → length weights ≤ r.ranks
      → (q : Places) → BestPlan (table r) q → score weights (line (table r) q) ≡ score weights (filled r.counts)
  unfolding score table table_of Same
  score_of_best weights h q good =
      sum_ext (λ i. filled weights i * line (table r) q i) (λ i. filled weights i * filled r.counts i) (length weights)
      (λ i l. ap (λ (n : ℕ). filled weights i * n) (line_of_best (table r) (filled r.counts) q best good i (omega arith)))

-- Largest plans

module _ (T : Table) (p : Places) where
  -- 0 where q is not larger than p
  more : Places → ℕ
  more q = size T q - size T p

  -- 0 where q is not of p's size, or does not exceed it
  ahead : Places → ℕ
  ahead q = given (away (size T q) (size T p)) (exceeds T.ranks (line T q) (line T p))

  same_size : (r q : Places) → Agree T r q → size T q ≡ size T r
  unfolding size
  same_size r q a = sum_ext (line T q) (line T r) T.ranks (λ i l. agree_line T r q a i)

  largest_of_more : faults T p ≡ 0 → over_plans T more ≡ 0 → Largest T p
  unfolding more
  largest_of_more none h =
      let plan : Plan T p = plan_of_faults T p none in
      record {
        plan = plan;
        largest = λ r other.
            let (q, a, e) = every_plan T more h r other in
            omega (arith, total_of_size T p plan, total_of_size T r other, same_size r q a);
      }

  first_of_ahead : Largest T p → over_plans T ahead ≡ 0 → LargestFirst T p
  unfolding ahead away
  first_of_ahead first h =
      record {
        first = first;
        second = λ r other level less.
            let (q, a, e) = every_plan T ahead h r other in
            let even : away (size T q) (size T p) ≡ 0 = omega (arith, total_of_size T p first.plan, total_of_size T r other, same_size r q a) in
            not_less_of_not_more T.ranks (line T r) (line T p) (not_more_of_agree T (line T p) r q a (given_zero _ _ e even)) less;
      }

-- Main results

-- First come, first served within a rank: table A gives (1,0).
pub first_come_falls_short : FallsShort row_a (first_come (table row_a)) (1 ∷ 0 ∷ [])
unfolding All rows misses first_come after_rank served serve lowest by_computing
first_come_falls_short =
    falls_short row_a starred_rows.0.best (first_come (table row_a)) (1 ∷ 0 ∷ []) refl 1 (omega arith) (λ e. omega arith)

-- The largest total first, ranks second: table B gives (0,2,0), which places 2 signals where every best plan places 1.
pub largest-total-falls-short :
    LargestFirst (table row_b) chosen_b × FallsShort row_b chosen_b (0 ∷ 2 ∷ 0 ∷ []) × (total (table row_b) chosen_b ≡ 2)
    × ((q : Places) → BestPlan (table row_b) q → total (table row_b) q ≡ 1)
unfolding All rows misses size more ahead total placed_by by_computing
largest-total-falls-short = (
  first_of_ahead (table row_b) chosen_b (largest_of_more (table row_b) chosen_b refl refl) refl,
  falls_short row_b starred_rows.1.0.best chosen_b (0 ∷ 2 ∷ 0 ∷ []) refl 0 (omega arith) (λ e. omega arith),
  refl,
  total_of_best row_b starred_rows.1.0.best,
)

-- Weights 3, 2, 1: table B scores 4 for (0,2,0) and 3 for every best plan.
pub weights-mislead :
    (score (3 ∷ 2 ∷ 1 ∷ []) (line (table row_b) chosen_b) ≡ 4)
    × ((q : Places) → BestPlan (table row_b) q → score (3 ∷ 2 ∷ 1 ∷ []) (line (table row_b) q) ≡ 3)
unfolding All rows score by_computing
weights-mislead = (refl, score_of_best row_b starred_rows.1.0.best (3 ∷ 2 ∷ 1 ∷ []) (omega arith))

-- A largest plan found afresh over the last live pairs: table D can give (0,2), which places as many as every best plan.
pub found-afresh-falls-short :
    Largest (table row_d) chosen_d × FallsShort row_d chosen_d (0 ∷ 2 ∷ [])
    × ((q : Places) → BestPlan (table row_d) q → total (table row_d) q ≡ total (table row_d) chosen_d)
unfolding All rows misses size more total placed_by by_computing
found-afresh-falls-short = (
  largest_of_more (table row_d) chosen_d refl refl,
  falls_short row_d starred_rows.1.1.0.best chosen_d (0 ∷ 2 ∷ []) refl 0 (omega arith) (λ e. omega arith),
  total_of_best row_d starred_rows.1.1.0.best,
)
