-- What the counts of plans and of best plans have in common. Main results: the counts of a line add up to the number of placed
-- signals (at_most, total_of_line), all best plans have one line and one total (best_plans_same_line, line_of_best, best_unique,
-- best_plans_same_total, best_total), and a total is at most the signals and at most the slots (total_at_most_min). Leans on Counting and Order.
use Prim.Native.Nat.{ℕ, zero, suc, ◌+◌, ◌*◌, min, ◌≤◌, ◌<◌}
use mathlib.Core.Path.{◌≡◌, refl, sym, ap, ◌∙◌}
use native.Mathlib.Omega.{arith}
use Rattle.plans.specs.Numbers.{same, under, sum}
use Rattle.plans.specs.Order.{Same}
use Rattle.plans.specs.Plan.{Table, Places, Plan, BestPlan, Best, placed, load, line, total}
use Rattle.plans.specs.Covers.{weight}
use Rattle.plans.proofs.Sums.{by_same, same_yes, under_yes, under_no, under_suc}
use Rattle.plans.proofs.Sums.{sum_le, sum_ext, sum_zero, sum_add, sum_scale, sum_swap, sum_same, sum_at_most, sum_weighed_ext, sum_weighed_one}
use Rattle.plans.proofs.Order.{same_of_not_more, not_more_of_not_less}
use Rattle.plans.proofs.Counting.{placed_true, placed-bit, charge, charge_at_most}

-- On a channel with one slot sits at most one signal.
pub one_each : (T : Table) (p : Places) → Plan T p → (c : ℕ) → c < T.channels → T.slots c ≡ 1
    → (s t : ℕ) → s < T.signals → t < T.signals → p s ≡ c → p t ≡ c → s ≡ t
unfolding load
one_each T p P c l one s t ls lt es et = by_same s t (λ e h. e) (λ ne h. absurd (omega (arith, P.room c l, two ne)))
  where
    on : (u i : ℕ) → p u ≡ c → u ≡ i → same (p i) c ≡ 1
    on u i e d = same_yes (p i) c (ap p (sym d) ∙ e)

    both : (s ≡ t → ⊥) → (i : ℕ) → i < T.signals → same s i + same t i ≤ same (p i) c
    both ne i m =
        by_same s i
        (λ e h. by_same t i (λ d k. absurd (ne (e ∙ sym d))) (λ d k. omega (arith, on s i es e)))
        (λ e h. by_same t i (λ d k. omega (arith, on t i et d)) (λ d k. omega arith))

    two : (s ≡ t → ⊥) → 2 ≤ sum T.signals (λ i. same (p i) c)
    two ne =
        omega (
          arith,
          sum_le (λ i. same s i + same t i) (λ i. same (p i) c) T.signals (both ne),
          sum_add (same s) (same t) T.signals,
          sum_same s T.signals,
          sum_same t T.signals,
          under_yes s T.signals ls,
          under_yes t T.signals lt,
        )

-- The ranks from 1 to i: a rank of at least 1 is one of them just when it is at most i.
sum_ranks : (r : ℕ) → 1 ≤ r → (i : ℕ) → sum i (λ k. same r (suc k)) ≡ under r (suc i)
unfolding sum
sum_ranks r h zero = sym (under_no r 1 h)
sum_ranks r h (suc i) = omega (arith, sum_ranks r h i, under_suc r (suc i))

module _ (T : Table) (p : Places) (P : Plan T p) where
  -- The first i counts of a plan's line add up to the number of its signals placed at a rank of at most i;
  pub at_most : (i : ℕ) → sum i (line T p) ≡ sum T.signals (λ s. placed T p s * under (T.rank s (p s)) (suc i))
  unfolding line
  at_most i =
      sum_swap (λ k s. placed T p s * at k s) i T.signals
      ∙ sum_ext (λ s. sum i (λ k. placed T p s * at k s)) (λ s. placed T p s * sum i (λ k. at k s)) T.signals apart
      ∙ sum_weighed_ext (placed T p) (λ s. sum i (λ k. at k s)) (λ s. under (T.rank s (p s)) (suc i)) T.signals early
    where
      at : ℕ → ℕ → ℕ
      at k s = same (T.rank s (p s)) (suc k)

      apart : (s : ℕ) → s < T.signals → sum i (λ k. placed T p s * at k s) ≡ placed T p s * sum i (λ k. at k s)
      apart s l = sum_scale (λ k. at k s) i (placed T p s)

      early : (s : ℕ) → s < T.signals → 1 ≤ placed T p s → sum i (λ k. at k s) ≡ under (T.rank s (p s)) (suc i)
      early s l k = sum_ranks (T.rank s (p s)) (P.listed s l (placed_true T p s k)) i

  -- all of them to the number of its placed signals.
  pub total_of_line : total T p ≡ sum T.ranks (line T p)
  unfolding total
  total_of_line =
      sym (sum_weighed_one (placed T p) T.signals)
      ∙ sum_weighed_ext (placed T p) (λ s. 1) (λ s. under (T.rank s (p s)) (suc T.ranks)) T.signals all
      ∙ sym (at_most T.ranks)
    where
      all : (s : ℕ) → s < T.signals → 1 ≤ placed T p s → 1 ≡ under (T.rank s (p s)) (suc T.ranks)
      all s l k = sym (under_yes (T.rank s (p s)) (suc T.ranks) (omega (arith, P.ranked s l (placed_true T p s k))))

  -- No more signals are placed than there are slots,
  pub total_at_most_slots : total T p ≤ sum T.channels T.slots
  unfolding total weight charge
  total_at_most_slots =
      omega (
        arith,
        charge_at_most T p (λ s. 0) (λ c. 1) P,
        sum_weighed_one (placed T p) T.signals,
        sum_zero (λ s. 0) T.signals (λ s l. refl),
        sum_scale T.slots T.channels 1,
      )

-- or signals,
pub total_at_most_signals : (T : Table) (p : Places) → total T p ≤ T.signals
unfolding total
total_at_most_signals T p = sum_at_most (placed T p) T.signals (λ s l. placed-bit T p s)

-- so with one slot on every channel no more than the fewer of signals and channels.
pub total_at_most_min : (T : Table) (p : Places) → Plan T p → ((c : ℕ) → c < T.channels → T.slots c ≡ 1)
    → total T p ≤ min T.signals T.channels
total_at_most_min T p P one =
    omega (arith, total_at_most_signals T p, total_at_most_slots T p P, sum_at_most T.slots T.channels (λ c l. omega (arith, one c l)))

-- All best plans of a table have the same line,
pub best_plans_same_line : (T : Table) (p q : Places) → BestPlan T p → BestPlan T q → Same T.ranks (line T p) (line T q)
best_plans_same_line T p q P Q =
    same_of_not_more T.ranks (line T p) (line T q)
    (not_more_of_not_less T.ranks (line T p) (line T q) (Q.unbeaten p P.plan))
    (not_more_of_not_less T.ranks (line T q) (line T p) (P.unbeaten q Q.plan))

-- which is the best counts,
pub line_of_best : (T : Table) (b : ℕ → ℕ) (p : Places) → Best T b → BestPlan T p → Same T.ranks (line T p) b
unfolding Same
line_of_best T b p B P i l = best_plans_same_line T p B.places P B.best i l ∙ B.counts i l

-- so that there is one line of best counts,
pub best_unique : (T : Table) (a b : ℕ → ℕ) → Best T a → Best T b → Same T.ranks a b
unfolding Same
best_unique T a b A B i l = sym (A.counts i l) ∙ line_of_best T b A.places B A.best i l

-- and all best plans place the same number of signals.
pub best_total : (T : Table) (b : ℕ → ℕ) (p : Places) → Best T b → BestPlan T p → total T p ≡ sum T.ranks b
unfolding Same
best_total T b p B P = total_of_line T p P.plan ∙ sum_ext (line T p) b T.ranks (line_of_best T b p B P)

pub best_plans_same_total : (T : Table) (p q : Places) → BestPlan T p → BestPlan T q → total T p ≡ total T q
unfolding Same
best_plans_same_total T p q P Q =
    best_total T (line T q) p (record { places = q; best = Q; counts = λ i l. refl }) P ∙ sym (total_of_line T q Q.plan)
