-- `placer::place` meets its contract, by the laws of proofs/Loop: a rank at which nothing entered, one that was struck, and one after
-- which everyone is placed.
use Rattle.std.proofs.Common.{arith, refl, ◌+◌}
use Rattle.work.specs.Input.{Input}
use Rattle.work.proofs.Input.{same_input}
use Rattle.enter.proofs.Waiting.{room_first}
use Rattle.placer.proofs.Loop.{after_prepared, enter_asks, grow_asks, strike_asks, turn_struck, turn_quiet, turn_everyone, turned, Before}
use Rattle.placer.proofs.place.Goals as goal
use Rattle.placer.proofs.place.Goals.{Joined-enter, then-enter+then-grow, else-enter}

-- a rank is done
turn : (c : Joined-enter) → Before c.args.size (c.loop-rank.rank + 1) c.prepare.new.w c.if-enter.w
turn c =
    elim c.if-enter.branch [
      | then-enter+then-grow w ↦ rw w.w-is (turn_struck c.loop-rank.invariant c.enter.ensures.0 w.grow.ensures.0 (omega arith) w.strike.ensures)
      | else-enter w ↦ rw w.w-is (turn_quiet c.loop-rank.invariant c.enter.ensures.0 (omega arith) (c.enter.ensures.1 w.if-enter.false))
    ]

pub loop-rank-init : goal.loop-rank-init
loop-rank-init c =
    let n : Input c.args.size c.prepare.new.w = same_input c.prepare.ensures.input c.requires in
    record { input = n; done = 0; is = refl; most = omega arith; after = after_prepared _ _ _ c.requires c.prepare.ensures (room_first _ _ n c.prepare.ensures.ends) }

pub enter-requires : goal.enter-requires
enter-requires c = enter_asks c.loop-rank.invariant (omega arith)

pub grow-requires : goal.grow-requires
grow-requires c = grow_asks c.loop-rank.invariant c.enter.ensures.0

pub strike-requires : goal.strike-requires
strike-requires c = strike_asks c.loop-rank.invariant c.enter.ensures.0 c.grow.ensures.0

pub returns-else-grow : goal.returns-else-grow
returns-else-grow c =
    turn_everyone c.loop-rank.invariant c.enter.ensures.0 c.grow.ensures.0 c.requires c.prepare.ensures (omega arith) (c.grow.ensures.1 c.if-grow.false)

pub loop-rank-preserved : goal.loop-rank-preserved
loop-rank-preserved c = turn (goal.at.loop-rank-preserved c).Joined-enter

pub returns : goal.returns
returns c = turned c.requires c.prepare.ensures c.loop-rank.invariant (omega arith)

pub returns-after-enter : goal.returns-after-enter
returns-after-enter c = turned c.requires c.prepare.ensures (turn (goal.at.returns-after-enter c).Joined-enter) (omega arith)
