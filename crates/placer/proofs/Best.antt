-- The plan that placing leaves is best: no plan of the table has greater counts (placed_best, and by the contract of `place`
-- placed_from_best), and every other best plan is tight for the same covers (best_tight). Leans on plans' cover theorem.
use Prim.Native.Nat.{ℕ}
use mathlib.Core.List.{List}
use Rattle.plans.specs.Plan.{Places, BestPlan}
use Rattle.plans.specs.Covers.{Tight}
use Rattle.plans.proofs.Covers.{tight_is_best, best_is_tight}
use Rattle.units.specs.declared.Size.{Size}
use Rattle.work.specs.Ranks.{table_with, places, Ranks}
use Rattle.placer.specs.Placing.{Placed, PlacedFrom}

module _ (z : Size) (rank : ℕ → ℕ → ℕ) (w : List ℕ) (P : Placed z rank w) where
  pub placed_best : BestPlan (table_with z rank) (places w)
  placed_best = tight_is_best (table_with z rank) P.covers (places w) P.certificate P.plan P.tight

  pub best_tight : (q : Places) → BestPlan (table_with z rank) q → Tight (table_with z rank) P.covers z.ranks q
  best_tight q = best_is_tight (table_with z rank) P.covers (places w) q P.certificate P.plan P.tight

-- of every table whose ranks the area lists before placing
pub placed_from_best : {z : Size} {rank : ℕ → ℕ → ℕ} {v w : List ℕ} → Ranks z rank v → PlacedFrom z v w → BestPlan (table_with z rank) (places w)
placed_from_best {z} {rank} {w = w} ranks P = placed_best z rank w (P.placed rank ranks)
