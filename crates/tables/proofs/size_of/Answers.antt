-- `tables::size_of` meets its contract: the parts of the 32 bits are the size.
use Rattle.tables.proofs.Parts.{size_parts}
use Rattle.tables.proofs.size_of.Goals as goal

pub returns : goal.returns
returns c = size_parts _ c.read-bits.result c.read-bits.ensures
