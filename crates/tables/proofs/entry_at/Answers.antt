-- `tables::entry_at` meets its contract: the field that is read is the entry's.
use Rattle.std.proofs.Common.{arith}
use Rattle.tables.proofs.Parts.{entry_read}
use Rattle.tables.proofs.entry_at.Goals as goal

pub returns : goal.returns
returns c = entry_read _ _ c.read.ensures (omega arith)
