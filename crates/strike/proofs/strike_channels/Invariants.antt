-- `strike::strike_channels`: the loop keeps StruckChannels.
use Rattle.std.proofs.Common.{◌≤◌, length}
use Rattle.work.specs.Work.{NUMBERS}
use Rattle.strike.specs.Inside.{StruckChannels}
use Rattle.strike.proofs.strike_channels.Given as goal

abbrev pub invariant-loop-c : goal.invariant-loop-c
invariant-loop-c l = (NUMBERS ≤ length l.w) × StruckChannels l.c l.initial.w l.w
