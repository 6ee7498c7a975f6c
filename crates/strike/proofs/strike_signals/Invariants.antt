-- `strike::strike_signals`: the loop keeps StruckTo.
use Rattle.strike.specs.Inside.{StruckTo}
use Rattle.strike.proofs.strike_signals.Given as goal

abbrev pub invariant-loop-s : goal.invariant-loop-s
invariant-loop-s l = StruckTo l.s l.clear l.initial.w l.w
