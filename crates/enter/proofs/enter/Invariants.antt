-- The loop keeps Entering, by the laws of proofs/Chain; it ends because each entry's next one lies behind it.
use Rattle.std.proofs.Common.{◌-◌}
use Rattle.enter.proofs.Chain.{Entering}
use Rattle.enter.proofs.enter.Given as goal

abbrev pub invariant-loop-e : goal.invariant-loop-e
invariant-loop-e l = Entering l.fn.size l.fn.rank l.e l.any l.fn.w l.w

abbrev pub decreases-loop-e : goal.decreases-loop-e
decreases-loop-e l = l.fn.size.pairs.0 - l.e
