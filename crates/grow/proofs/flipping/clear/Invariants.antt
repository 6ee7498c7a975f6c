-- `grow::flipping::clear`: the first j marks are gone.
use Rattle.grow.specs.Inside.{Cleared}
use Rattle.grow.proofs.flipping.clear.Given as goal

abbrev pub invariant-loop-j : goal.invariant-loop-j
invariant-loop-j l = Cleared l.j l.fn.w l.w
