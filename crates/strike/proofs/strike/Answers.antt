-- `strike::strike`: all signals and then all channels are struck (both_struck).
use Rattle.std.proofs.Common.{arith}
use Rattle.strike.proofs.Strikes.{met_by, both_struck}
use Rattle.strike.proofs.strike.Goals as goal

pub returns : goal.returns
returns c =
    let n = c.requires in
    let met = met_by n.0 n.1 n.2 c.is_clear-clear.ensures in
    both_struck n.0 n.1 (c.strike_signals.ensures.each _ met (omega arith)) c.strike_channels.ensures
