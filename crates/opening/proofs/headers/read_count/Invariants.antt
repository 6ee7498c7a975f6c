-- `opening::headers::read_count`: the loop keeps Counting.
use Rattle.opening.proofs.Digits.{Counting}
use Rattle.opening.proofs.headers.read_count.Given as goal

abbrev pub invariant-loop-i : goal.invariant-loop-i
invariant-loop-i l = Counting l.block l.fn.digits l.count l.i
