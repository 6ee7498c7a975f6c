-- The loop keeps the counts so far spliced in, by the laws of proofs/Written.
use Rattle.fields.specs.Fields.{packed}
use Rattle.plans.specs.Order.{filled}
use Rattle.answer.specs.Answer.{row}
use Rattle.answer.specs.Writing.{Spliced}
use Rattle.answer.proofs.write_counts.Given as goal

abbrev pub invariant-loop-i : goal.invariant-loop-i
invariant-loop-i l = Spliced 2 (packed (row 8 l.i (filled l.counts))) l.fn.out l.out
