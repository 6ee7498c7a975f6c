-- `unpack::find_starts`: the starts of the first signals are put, and the next one starts at e.
use Rattle.unpack.proofs.Starts.{Starting}
use Rattle.unpack.proofs.find_starts.Given as goal

abbrev pub invariant-loop-s : goal.invariant-loop-s
invariant-loop-s l = Starting l.pairs l.s l.e l.initial.w l.w
