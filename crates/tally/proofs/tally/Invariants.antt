-- `tally::tally`: the first signals are tallied.
use Rattle.tally.proofs.Tallies.{Tallying}
use Rattle.tally.proofs.tally.Given as goal

abbrev pub invariant-loop-s : goal.invariant-loop-s
invariant-loop-s l = Tallying l.fn.size l.s l.fn.w l.w
