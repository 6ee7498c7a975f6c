-- `tables::two_entries` meets its contract: two entries are five bytes (proofs/Parts).
use Rattle.std.proofs.Common.{arith}
use Rattle.tables.proofs.Parts.{even_entry, odd_entry}
use Rattle.tables.proofs.two_entries.Goals as goal

pub returns : goal.returns
returns c =
    let read = c.five_bytes-both.ensures in
    (even_entry _ _ read (omega arith), odd_entry _ _ read (omega arith))
