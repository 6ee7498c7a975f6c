-- `unpack::chain_odd` meets its contract: the last entry is chained where their number is odd.
use Rattle.std.proofs.Common.{arith}
use Rattle.unpack.proofs.Links.{chained_none, chained_at, linkable, link_chained}
use Rattle.unpack.proofs.chain_odd.Goals as goal

pub link-requires : goal.link-requires
link-requires c = linkable (chained_none c.requires) (omega arith) c.entry_at.ensures

pub returns-then-pairs-eq1 : goal.returns-then-pairs-eq1
returns-then-pairs-eq1 c =
    let chained = link_chained c.link.ensures (omega arith) c.entry_at.ensures (omega arith) (chained_none c.requires) in
    (chained_at (omega arith) chained, c.link.ensures.others _ (omega arith))
