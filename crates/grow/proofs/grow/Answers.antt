-- `grow::grow` meets its contract: each way through the loop is a law of proofs/Grown.
use Rattle.std.proofs.Common.{List, ℕ, arith}
use Rattle.units.specs.declared.Size.{Size}
use Rattle.work.specs.Input.{Input}
use Rattle.work.specs.State.{Lists, Mates, Along, Sealed}
use Rattle.grow.proofs.Grown.{Growable, growing_asks, growing_more, growing_left, growing_placed}
use Rattle.grow.proofs.grow.Goals as goal
use Rattle.std.proofs.lemmas.Grind.{common_steps}

growable : {z : Size} {w : List ℕ} → Input z w × Lists z w × Mates z w × Along z w × Sealed z 0 w → Growable z w
growable p = record { input = p.0; lists = p.1; mates = p.2; along = p.3; sealed = p.4 }

pub grow_from-requires : goal.grow_from-requires
grow_from-requires c = growing_asks (growable c.requires) c.loop-root.invariant (omega arith) (omega (arith, c.get.ensures.0))

pub loop-root-preserved : goal.loop-root-preserved
loop-root-preserved c =
    let b = growable c.requires in
    let g = c.loop-root.invariant in
    grind (arith, common_steps, growing_more b g, growing_left b g, growing_placed b g)
