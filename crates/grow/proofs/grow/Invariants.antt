-- `grow::grow`: the plan is grown from the roots so far.
use Rattle.grow.proofs.Grown.{GrownSoFar}
use Rattle.grow.proofs.grow.Given as goal

abbrev pub invariant-loop-root : goal.invariant-loop-root
invariant-loop-root l = GrownSoFar l.fn.size l.root l.unplaced l.fn.w l.w
