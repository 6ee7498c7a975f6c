-- `fields::read` gives the field: it lies within the five bytes (read_field), and fits 32 bits.
use Rattle.std.proofs.Common.{arith, ◌%◌, ◌∙◌}
use Rattle.fields.proofs.Reading.{read_field, low_fits}
use Rattle.fields.proofs.read.Goals as goal

pub overflow_cast-result : goal.overflow_cast-result
overflow_cast-result c = record { fits = low_fits _ _ c.low_bits.ensures c.requires }

pub returns : goal.returns
returns c =
    c.low_bits.ensures
    ∙ rw c.five_bytes.ensures
    (read_field c.args.s.now c.args.at c.args.width (c.args.at % 8) _ _ (omega arith) (omega arith))
