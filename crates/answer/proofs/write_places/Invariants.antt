-- The loop keeps the places so far spliced in, by the laws of proofs/Written.
use Rattle.std.proofs.Common.{◌*◌}
use Rattle.fields.specs.Fields.{packed}
use Rattle.plans.specs.Order.{filled}
use Rattle.answer.specs.Answer.{row}
use Rattle.answer.specs.Writing.{Spliced}
use Rattle.answer.proofs.write_places.Given as goal

abbrev pub invariant-loop-two : goal.invariant-loop-two
invariant-loop-two l = Spliced l.start (packed (row 12 (2 * l.two) (filled l.places))) l.fn.out l.out
