-- `placer::place`: before each rank the area is After the ranks done, from the area where the loop began.
use Rattle.placer.proofs.Loop.{Before}
use Rattle.placer.proofs.place.Given as goal

abbrev pub invariant-loop-rank : goal.invariant-loop-rank
invariant-loop-rank l = Before l.size l.rank l.initial.w l.w
