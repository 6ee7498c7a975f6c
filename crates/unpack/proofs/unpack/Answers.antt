-- `unpack::unpack` meets its contract: chained entries of a sound payload are in order, and with their starts they are
-- Unpacked, by the laws of proofs/Unpacks.
use Rattle.std.proofs.Common.{arith}
use Rattle.work.proofs.Area.{but_trans, but_fill}
use Rattle.unpack.specs.Unpacking.Filled.{first_of}
use Rattle.unpack.proofs.Links.{unchained}
use Rattle.unpack.proofs.Unpacks.{size_limits, chained_rising, started_unpacked}
use Rattle.unpack.proofs.unpack.Goals as goal

pub chain-requires : goal.chain-requires
chain-requires c =
    let p = c.requires in
    unchained (record { room = p.2; few = omega (arith, (size_limits p.0 p.1).few_pairs) }) (omega arith) c.fill.ensures

pub find_starts-requires : goal.find_starts-requires
find_starts-requires c = let p = c.requires in chained_rising p.0 p.1 c.chain.ensures.0 (omega arith)

pub returns : goal.returns
returns c =
    let p = c.requires in
    started_unpacked p.0 p.1 c.chain.ensures.0 (omega arith) c.find_starts.ensures (but_trans c.chain.ensures.1 (but_fill c.fill.ensures first_of))
