-- What placing promises: the plan in the area is a plan of the table, with covers that show it to be best.
use Rattle.std.specs.Prelude.{ℕ, List}
use Rattle.plans.specs.Plan.{Plan}
use Rattle.plans.specs.Covers.{Covers, Certificate, Tight}
use Rattle.units.specs.declared.Size.{Size}
use Rattle.work.specs.Work.{MIDDLE, Unchanged}
use Rattle.work.specs.Ranks.{table_with, Ranks, places}
use Rattle.work.specs.State.{Mates}

-- The promise of placing: a plan of the table, and covers for which it is tight.
pub record Placed (z : Size) (rank : ℕ → ℕ → ℕ) (w : List ℕ) : Type 0 where
  pub plan : Plan (table_with z rank) (places w)
  pub covers : Covers
  pub certificate : Certificate (table_with z rank) covers z.ranks
  pub tight : Tight (table_with z rank) covers z.ranks (places w)

-- What placing leaves of the area v: the table's part is as it was, the mates are inverse to each other, and for every table
-- whose ranks v lists the plan is placed.
pub record PlacedFrom (z : Size) (v w : List ℕ) : Type 0 where
  pub table : Unchanged 0 MIDDLE w v
  pub mates : Mates z w
  pub placed : (rank : ℕ → ℕ → ℕ) → Ranks z rank v → Placed z rank w
