-- `fields::put_in_byte` gives the byte: no shift cuts anything off, and the whole is a byte (shifted_back).
use Rattle.std.proofs.Common.{arith}
use Rattle.fields.proofs.Reading.{low_below}
use Rattle.fields.proofs.Writing.{Shifted, shifted_back}
use Rattle.fields.proofs.put_in_byte.Goals as goal
use Rattle.fields.proofs.put_in_byte.Goals.{After-low_bits}

shifted : (c : After-low_bits) → Shifted c.from-old.result c.args.n c.args.right c.args.bits c.low_bits.result
shifted c = shifted_back _ _ _ _ c.requires.0 (omega (arith, c.from-old.ensures)) c.requires.1 _ (low_below _ _ c.low_bits.ensures)

pub overflow_cast-result : goal.overflow_cast-result
overflow_cast-result c = omega (arith, shifted c)
