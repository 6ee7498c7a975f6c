-- `fields::write` keeps Writing: nothing is written at first, and a turn fills what the field covers of one byte.
use Rattle.std.proofs.Common.{arith, rules}
use Rattle.fields.proofs.Writing.{writing_none, writing_more}
use Rattle.fields.proofs.write.Goals as goal

pub loop-i-init : goal.loop-i-init
loop-i-init c = writing_none _ _ _ _ c.requires.1

pub loop-i-preserved : goal.loop-i-preserved
loop-i-preserved c =
    writing_more _ _ _ _ c.put_in_byte.result c.loop-i.invariant (omega arith) c.requires.2 c.min-n.ensures
    (omega arith) (omega arith) (λ k. search rules) (rw c.from.ensures at c.low_bits-bits.ensures) (omega arith)
    c.put_in_byte.ensures
