-- `tally::tally` meets its contract: the loop carries on, by the laws of proofs/Tallies, what begins with counts of 0.
use Rattle.std.proofs.Common.{◌≡◌, arith}
use Rattle.tally.proofs.Tallies.{tallying_none, tally_asks, tallying_more, tallying_done}
use Rattle.tally.proofs.tally.Goals as goal

pub loop-s-init : goal.loop-s-init
loop-s-init c = let n = c.requires in tallying_none n.0 n.1 n.2 c.fill.ensures

pub tally_signal-requires : goal.tally_signal-requires
tally_signal-requires c = tally_asks c.loop-s.invariant (omega arith)

pub loop-s-preserved : goal.loop-s-preserved
loop-s-preserved c = tallying_more c.loop-s.invariant (omega arith) c.tally_signal.ensures

pub returns : goal.returns
returns c = let all : c.loop-s.s ≡ c.args.size.signals = omega arith in tallying_done (rw all at c.loop-s.invariant)
