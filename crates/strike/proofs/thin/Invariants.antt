-- `strike::thin`: the loop keeps Thinning.
use Rattle.strike.proofs.Thinning.{Thinning}
use Rattle.strike.proofs.thin.Given as goal

abbrev pub invariant-loop-k : goal.invariant-loop-k
invariant-loop-k l = Thinning l.s l.fn.w l.w l.k l.kept
