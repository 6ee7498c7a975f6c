-- Which plans can be tallied: those of the table whose ranks the area lists (placeable_plan).
use Prim.Native.Nat.{ℕ}
use mathlib.Core.List.{List}
use Rattle.plans.specs.Plan.{Plan}
use Rattle.units.specs.declared.Size.{Size}
use Rattle.work.specs.Work.{at, CHANNEL, MIDDLE, Unchanged}
use Rattle.work.specs.Input.{Input}
use Rattle.work.specs.Ranks.{table_with, places, Ranks}
use Rattle.work.proofs.Input.{same_listed}
use Rattle.tally.specs.Tallying.{Placeable}

-- The area listed the ranks before the plan was laid into it.
pub placeable_plan : {z : Size} {rank : ℕ → ℕ → ℕ} {v w : List ℕ} → Input z v → Unchanged 0 MIDDLE w v → Ranks z rank v
    → Plan (table_with z rank) (places w) → Placeable z w
placeable_plan {w = w} n h R plan =
    record {
      listed = λ s l k. same_listed h n.limits.few_pairs (R.listed s (at w CHANNEL s) l k (plan.listed s l k) (plan.ranked s l k));
    }
