-- `grow::flipping::clear` meets its contract, by the laws of proofs/Flips.
use Rattle.std.proofs.Common.{◌≡◌, ℕ, ◌<◌, List, arith}
use Rattle.units.specs.Limits.{most_channels}
use Rattle.work.specs.Work.{at, QUEUE}
use Rattle.grow.specs.Inside.{ClearReady, Cleared}
use Rattle.grow.proofs.Flips.{cleared_is, cleared_more}
use Rattle.grow.proofs.flipping.clear.Goals as goal

-- what stands in the queue is a channel
small : {n j d : ℕ} {u v : List ℕ} → ClearReady n u → Cleared j u v → j < n → d ≡ at v QUEUE j → d < most_channels
small {j = j} ready h l e = omega (arith, cleared_is h (omega (arith, ready.few)) e, ready.channel j l)

pub put-requires : goal.put-requires
put-requires c =
    let h = c.loop-j.invariant in (
      omega (arith, c.requires.room, h.below.size, small c.requires h (omega arith) c.get-c.ensures.0),
      omega arith,
    )

pub loop-j-preserved : goal.loop-j-preserved
loop-j-preserved c =
    let h = c.loop-j.invariant in
    let is = c.get-c.ensures.0 in
    cleared_more h (omega (arith, c.requires.few)) is (small c.requires h (omega arith) is) c.put.ensures
