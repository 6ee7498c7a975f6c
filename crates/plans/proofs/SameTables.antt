-- Best counts depend only on how many signals, channels and ranks a table has, and on the ranks and slots inside it.
-- Main results: same_sym; best_same. Leans on Sums and Counting.
use Prim.Native.Nat.{ℕ, suc}
use mathlib.Core.Path.{◌≡◌, ap, sym, ◌∙◌}
use native.Mathlib.Omega.{arith}
use Rattle.plans.specs.Numbers.{same, sum}
use Rattle.plans.specs.Order.{Less, Same}
use Rattle.plans.specs.Plan.{Table, Places, Plan, Best, placed, load, line}
use Rattle.plans.specs.Rows.{SameTable}
use Rattle.plans.proofs.Sums.{sum_weighed_ext}
use Rattle.plans.proofs.Counting.{placed_true}

pub same_sym : {T U : Table} → SameTable T U → SameTable U T
same_sym E =
    record {
      signals = sym E.signals;
      channels = sym E.channels;
      ranks = sym E.ranks;
      rank = λ s c h l. sym (E.rank s c (omega arith) (omega arith));
      slots = λ c l. sym (E.slots c (omega arith));
    }

module _ {T U : Table} (E : SameTable T U) where
  line_same : (p : Places) (i : ℕ) → line T p i ≡ line U p i
  unfolding line placed
  line_same p i =
      sum_weighed_ext (placed T p) (λ s. same (T.rank s (p s)) (suc i)) (λ s. same (U.rank s (p s)) (suc i)) T.signals
      (λ s l h. ap (λ (r : ℕ). same r (suc i)) (E.rank s (p s) l (placed_true T p s h)))
      ∙ rw (E.signals, E.channels)

  plan_same : (p : Places) → Plan T p → Plan U p
  unfolding load
  plan_same p P =
      record {
        listed = λ s h l. omega (arith, P.listed s (omega arith) (omega arith), E.rank s (p s) (omega arith) (omega arith));
        ranked = λ s h l. omega (arith, P.ranked s (omega arith) (omega arith), E.rank s (p s) (omega arith) (omega arith));
        room = λ c l.
            omega (
              arith,
              P.room c (omega arith),
              E.slots c (omega arith),
              ap (λ (n : ℕ). sum n (λ s. same (p s) c)) E.signals,
            );
      }

-- Tables that are the same for their signals and channels have the same best counts.
pub best_same : {T U : Table} {b : ℕ → ℕ} → SameTable T U → Best T b → Best U b
unfolding Same
best_same {T} {U} E B =
    record {
      places = B.places;
      best =
          record {
            plan = plan_same E B.places B.best.plan;
            unbeaten = λ q Q l. B.best.unbeaten q (plan_same (same_sym E) q Q) (less q l);
          };
      counts = λ i l. sym (line_same E B.places i) ∙ B.counts i (omega arith);
    }
  where
    less : (q : Places) → Less U.ranks (line U B.places) (line U q) → Less T.ranks (line T B.places) (line T q)
    less q l =
        record {
          at = l.at;
          inside = omega arith;
          before = λ j h. line_same E B.places j ∙ l.before j h ∙ sym (line_same E q j);
          less = omega (arith, line_same E B.places l.at, line_same E q l.at, l.less);
        }
