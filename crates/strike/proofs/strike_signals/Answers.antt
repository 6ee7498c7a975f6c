-- `strike::strike_signals`: the loop keeps StruckTo, by the laws of proofs/Strikes.
use Rattle.std.proofs.Common.{arith}
use Rattle.strike.proofs.Strikes.{struck_more, next_list}
use Rattle.strike.proofs.strike_signals.Goals as goal

pub strike_signal-requires : goal.strike_signal-requires
strike_signal-requires c = next_list c.requires c.loop-s.invariant (omega arith) (omega arith)

pub loop-s-preserved : goal.loop-s-preserved
loop-s-preserved c = struck_more c.loop-s.invariant c.strike_signal.ensures
