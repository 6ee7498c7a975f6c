-- The loop of `fields::write` keeps Writing (proofs/Writing).
use Rattle.fields.proofs.Writing.{Writing}
use Rattle.fields.proofs.write.Given as goal

abbrev pub invariant-loop-i : goal.invariant-loop-i
invariant-loop-i l = Writing l.fn.out l.fn.at l.fn.width l.fn.value l.out l.i l.room l.left
