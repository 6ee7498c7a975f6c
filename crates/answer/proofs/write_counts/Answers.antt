-- `answer::write_counts` meets its contract: a turn of the loop is one law of proofs/Written.
use Rattle.std.proofs.Common.{arith}
use Rattle.answer.proofs.Written.{row_none, counts_more}
use Rattle.answer.proofs.write_counts.Goals as goal

pub loop-i-init : goal.loop-i-init
loop-i-init c = row_none 2 8 _ _

pub loop-i-preserved : goal.loop-i-preserved
loop-i-preserved c = counts_more _ _ c.loop-i.invariant (omega (arith, c.requires.1)) (c.requires.0.each _ c.loop-i-test.true)
