-- `strike::strike_channels`: a turn keeps StruckChannels, by channels_more of proofs/Strikes.
use Rattle.std.proofs.Common.{arith}
use Rattle.strike.proofs.Strikes.{FlagAfter, channels_more}
use Rattle.strike.proofs.strike_channels.Goals as goal
use Rattle.strike.proofs.strike_channels.Goals.{then-get-eq-NONE, else-get-eq-NONE}

pub loop-c-preserved : goal.loop-c-preserved
loop-c-preserved c =
    let inv = c.loop-c.invariant in
    let first = c.put.ensures in
    let second = c.put-in-loop-c.ensures in
    let after : FlagAfter c.get.result c.get-flag.result c.if-get-eq-NONE.flag =
    elim c.if-get-eq-NONE.branch [
      | then-get-eq-NONE w ↦ record { unmarked = λ e. w.flag-is; marked = λ q. absurd (q w.if-get-eq-NONE.true) }
      | else-get-eq-NONE w ↦ record { unmarked = λ e. absurd (w.if-get-eq-NONE.false e); marked = λ q. w.flag-is }
    ] in (
      omega (arith, inv.0, first.size, second.size),
      channels_more inv.1 (omega arith) c.get.ensures.0 c.get-flag.ensures.0 after first second,
    )
