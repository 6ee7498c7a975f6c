-- The ten starred rows hold: one test, computed over the list of them, and one theorem that turns a passed test into what the
-- row claims of every plan. Main results: starred_rows; best_of_unbest for any table.
-- Leans on Ways, Order and BestCounts.
use Prim.Native.Nat.{ℕ, ◌+◌, ◌-◌}
use mathlib.Core.Path.{◌≡◌, refl, sym, ◌∙◌}
use mathlib.Core.List.{List, [], ◌∷◌}
use native.Mathlib.Omega.{arith}
use lib.ListN.{length}
use Rattle.plans.specs.Numbers.{bit, same, under, sum}
use Rattle.plans.specs.Order.{Same, NotMore, filled}
use Rattle.plans.specs.Plan.{Table, Places, Plan, BestPlan, Best, placed, load, line}
use Rattle.plans.specs.Tables.{pick, rank_in, table_of, cut, one_more}
use Rattle.plans.specs.Rows.{Small, Besides, Row, option, unplaced, row_a, row_b, row_d, row_e, row_f, row_g, row_h, row_i, row_j, row_k, rows}
use Rattle.plans.specs.Rows.{table, places_of, plan_at, Agree, OnlyBest, SameTable, placed_by, HoldsBesides, RowHolds, All}
use Rattle.plans.specs.Rows.Besides.{nothing, only, without_last, cut_at}
use Rattle.plans.proofs.Sums.{sum_term, sum_zero}
use Rattle.plans.proofs.BestCounts.{line_of_best}
use Rattle.plans.proofs.Ways.{away, away_zero, given, given_zero, sum_some, agree_line, agree_trans, apart, agree_of_apart, apart_of_agree}
use Rattle.plans.proofs.Ways.{ways, over_plans, every_plan, some_plan, faults, plan_of_faults}

-- Lines as tests

unfoldable pub unequal : ℕ → (ℕ → ℕ) → (ℕ → ℕ) → ℕ
unequal n f g = sum n (λ i. away (f i) (g i))

-- 0 where f is not the greater
unfoldable pub exceeds : ℕ → (ℕ → ℕ) → (ℕ → ℕ) → ℕ
exceeds n f g = sum n (λ i. given (unequal i f g) (f i - g i))

module _ (n : ℕ) (f g : ℕ → ℕ) where
  pub same_of_unequal : unequal n f g ≡ 0 → Same n f g
  unfolding unequal Same away
  same_of_unequal h i l = omega (arith, sum_term (λ j. away (f j) (g j)) n i l)

  pub unequal_of_same : Same n f g → unequal n f g ≡ 0
  unfolding unequal Same away
  unequal_of_same e = sum_zero (λ j. away (f j) (g j)) n (λ i l. omega (arith, e i l))

not_more_of_exceeds : (n : ℕ) (f g : ℕ → ℕ) → exceeds n f g ≡ 0 → NotMore n f g
unfolding exceeds NotMore Same
not_more_of_exceeds n f g h i l before =
    let here : given (unequal i f g) (f i - g i) ≡ 0 = omega (arith, sum_term (λ j. given (unequal j f g) (f j - g j)) n i l) in
    omega (arith, given_zero (unequal i f g) (f i - g i) here (unequal_of_same i f g before))

-- The best counts of a small table

module _ (T : Table) (b : ℕ → ℕ) where
  -- 0 where p is a plan with the counts b
  unfoldable pub misses : Places → ℕ
  misses p = faults T p + unequal T.ranks (line T p) b

  -- 0 where no plan exceeds b and some plan has it
  unfoldable pub unbest : ℕ
  unfolding misses
  unbest =
      over_plans T (λ p. exceeds T.ranks (line T p) b)
      + (1 - ways T.channels T.signals (λ l. 1 - misses (places_of l)))

  pub not_more_of_agree : (p q : Places) → Agree T p q → exceeds T.ranks (line T q) b ≡ 0 → NotMore T.ranks (line T p) b
  unfolding NotMore
  not_more_of_agree p q a h i m before =
      omega (arith, agree_line T p q a i, not_more_of_exceeds T.ranks (line T q) b h i m (λ j k. agree_line T p q a j ∙ before j k))

  none_exceeds : unbest ≡ 0 → (p : Places) → Plan T p → NotMore T.ranks (line T p) b
  unfolding unbest
  none_exceeds h p plan =
      let (q, a, e) = every_plan T (λ q. exceeds T.ranks (line T q) b) (omega arith) p plan in
      not_more_of_agree p q a e

  best_of_misses : unbest ≡ 0 → (p : Places) → misses p ≡ 0 → BestPlan T p
  unfolding misses Same NotMore
  best_of_misses h p e =
      let counts : Same T.ranks (line T p) b = same_of_unequal T.ranks (line T p) b (omega arith) in
      record {
        plan = plan_of_faults T p (omega arith);
        unbeaten = λ q plan less.
            omega (
              arith,
              less.less,
              counts less.at less.inside,
              none_exceeds h q plan less.at less.inside (λ j k. sym (less.before j k) ∙ counts j (omega (arith, less.inside))),
            );
      }

  pub best_of_unbest : unbest ≡ 0 → Best T b
  unfolding unbest misses
  best_of_unbest h =
      let (p, e) = some_plan T misses (omega arith) in
      record {
        places = p;
        best = best_of_misses h p e;
        counts = same_of_unequal T.ranks (line T p) b (omega arith);
      }

  -- The best plans are these and no others

  module _ (plans : List (List ℕ)) where
    -- 0 where p agrees with one of them
    strange : Places → ℕ
    strange p = 1 - sum (length plans) (λ i. 1 - apart T p (plan_at plans i))

    -- 0 where they are best plans, all different, and there are no others
    others : ℕ
    unfolding misses strange
    others =
        sum (length plans) (λ i. misses (plan_at plans i))
        + sum (length plans) (λ j. sum j (λ i. 1 - apart T (plan_at plans i) (plan_at plans j)))
        + over_plans T (λ p. given (unequal T.ranks (line T p) b) (strange p))

    only_of_others : unbest ≡ 0 → others ≡ 0 → OnlyBest T plans
    unfolding others strange Same
    only_of_others h e =
        record {
          each = λ i l. best_of_misses h (plan_at plans i) (omega (arith, sum_term (λ k. misses (plan_at plans k)) (length plans) i l));
          different = λ i j l m a.
              omega (
                arith,
                apart_of_agree T (plan_at plans i) (plan_at plans j) a,
                sum_term (λ k. 1 - apart T (plan_at plans k) (plan_at plans j)) j i l,
                sum_term (λ n. sum n (λ k. 1 - apart T (plan_at plans k) (plan_at plans n))) (length plans) j m,
              );
          no_other = λ p best.
              let (q, a, f) = every_plan T (λ q. given (unequal T.ranks (line T q) b) (strange q)) (omega arith) p best.plan in
              let counts : Same T.ranks (line T q) b = λ i l. agree_line T p q a i ∙ line_of_best T b p (best_of_unbest h) best i l in
              let known : strange q ≡ 0 = given_zero (unequal T.ranks (line T q) b) (strange q) f (unequal_of_same T.ranks (line T q) b counts) in
              let (i, l, near) = sum_some (λ k. 1 - apart T q (plan_at plans k)) (length plans) (omega arith) in
              (i, l, agree_trans T p q (plan_at plans i) a (agree_of_apart T q (plan_at plans i) (omega arith)));
        }

-- Tables as tests

unlike : Table → Table → ℕ
unlike T U =
    away T.signals U.signals + away T.channels U.channels + away T.ranks U.ranks
    + sum T.signals (λ s. sum T.channels (λ c. away (T.rank s c) (U.rank s c)))
    + sum T.channels (λ c. away (T.slots c) (U.slots c))

same_of_unlike : (T U : Table) → unlike T U ≡ 0 → SameTable T U
unfolding unlike
same_of_unlike T U h =
    record {
      signals = away_zero T.signals U.signals (omega arith);
      channels = away_zero T.channels U.channels (omega arith);
      ranks = away_zero T.ranks U.ranks (omega arith);
      rank = λ s c l k.
          away_zero (T.rank s c) (U.rank s c)
          (omega (
            arith,
            sum_term (λ d. away (T.rank s d) (U.rank s d)) T.channels c k,
            sum_term (λ t. sum T.channels (λ d. away (T.rank t d) (U.rank t d))) T.signals s l,
          ));
      slots = λ c k. away_zero (T.slots c) (U.slots c) (omega (arith, sum_term (λ d. away (T.slots d) (U.slots d)) T.channels c k));
    }

-- Rows

test_besides : Small → Besides → ℕ
unfolding table placed_by unlike others
test_besides r nothing = 0
test_besides r (only plans) = others (table r) (filled r.counts) plans
test_besides r (without_last whole more) =
    unlike (table whole) (one_more (table r) ((table whole).rank r.signals)) + away (placed_by whole) (placed_by r + more)
test_besides r (cut_at k whole) = unlike (table r) (cut k (table whole)) + unequal k (filled r.counts) (filled whole.counts)

test : Row → ℕ
unfolding test_besides
test r =
    away (length r.small.counts) r.small.ranks + unbest (table r.small) (filled r.small.counts)
    + test_besides r.small r.besides

holds_besides : (r : Small) (say : Besides) → unbest (table r) (filled r.counts) ≡ 0 → test_besides r say ≡ 0 → HoldsBesides r say
unfolding test_besides HoldsBesides
holds_besides r nothing h e = tt
holds_besides r (only plans) h e = only_of_others (table r) (filled r.counts) plans h e
holds_besides r (without_last whole more) h e = record { made = same_of_unlike _ _ (omega arith); adds = away_zero _ _ (omega arith) }
holds_besides r (cut_at k whole) h e =
    record { made = same_of_unlike _ _ (omega arith); first = same_of_unequal k (filled r.counts) (filled whole.counts) (omega arith) }

holds : (r : Row) → test r ≡ 0 → RowHolds r
unfolding test
holds r h =
    record {
      long = away_zero (length r.small.counts) r.small.ranks (omega arith);
      best = best_of_unbest (table r.small) (filled r.small.counts) (omega arith);
      besides = holds_besides r.small r.besides (omega arith) (omega arith);
    }

tests : List Row → ℕ
unfolding test
tests [] = 0
tests (r ∷ rs) = test r + tests rs

all_hold : (rs : List Row) → tests rs ≡ 0 → All RowHolds rs
unfolding tests All
all_hold [] h = tt
all_hold (r ∷ rs) h = (holds r (omega arith), all_hold rs (omega arith))

-- What a test of a table that is written out computes through, named once.
unfoldable pub by_computing : Unit {0}
unfolding option unplaced row_a row_b row_d table table_of rank_in pick places_of plan_at faults unequal exceeds over_plans ways away given line load placed sum same under bit
by_computing = tt

rows_pass : tests rows ≡ 0
unfolding tests rows row_e row_f row_g row_h row_i row_j row_k cut one_more placed_by unbest apart by_computing
rows_pass = refl

pub starred_rows : All RowHolds rows
starred_rows = all_hold rows rows_pass
