-- `unpack::chain` meets its contract: the loop keeps that the entries from 2 · two on are chained.
use Rattle.std.proofs.Common.{arith}
use Rattle.work.proofs.Area.{but_trans}
use Rattle.unpack.proofs.Links.{linkable, link_chained}
use Rattle.unpack.proofs.chain.Goals as goal

pub link-requires : goal.link-requires
link-requires c =
    let i = c.loop-two.invariant in
    linkable i.2 (omega (arith, i.1)) c.two_entries-even.ensures.1

pub link-requires-in-loop-two : goal.link-requires-in-loop-two
link-requires-in-loop-two c =
    let i = c.loop-two.invariant in
    let odd = c.two_entries-even.ensures.1 in
    linkable (link_chained c.link.ensures (omega (arith, i.1)) odd (omega arith) i.2) (omega (arith, i.1)) c.two_entries-even.ensures.0

pub loop-two-preserved : goal.loop-two-preserved
loop-two-preserved c =
    let i = c.loop-two.invariant in
    let read = c.two_entries-even.ensures in
    let chained = link_chained c.link.ensures (omega (arith, i.1)) read.1 (omega arith) i.2 in (
      but_trans (c.link-in-loop-two.ensures.others _ (omega (arith, i.1))) (but_trans (c.link.ensures.others _ (omega (arith, i.1))) i.0),
      omega arith,
      link_chained c.link-in-loop-two.ensures (omega (arith, i.1)) read.0 (omega arith) chained,
    )
