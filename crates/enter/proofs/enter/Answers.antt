-- `enter::enter` meets its contract: the loop keeps Entering, by the laws of proofs/Chain.
use Rattle.std.proofs.Common.{arith}
use Rattle.enter.proofs.Chain.{entering_none, entering_slot, entering_later, entering_more, entering_done}
use Rattle.enter.proofs.enter.Goals as goal

pub loop-e-init : goal.loop-e-init
loop-e-init c =
    let p = c.requires in
    entering_none p.0 p.1 p.2 p.3 p.4 c.get-e.ensures.0

pub enter_pair-any-requires : goal.enter_pair-any-requires
enter_pair-any-requires c = entering_slot c.requires.0 c.loop-e.invariant (omega arith)

pub loop-e-smaller : goal.loop-e-smaller
loop-e-smaller c =
    omega (arith, entering_later c.requires.0 c.loop-e.invariant (omega arith) c.enter_pair-any.result c.enter_pair-any.new.w c.enter_pair-any.ensures c.get-e-in-loop-e.ensures.0)

pub loop-e-preserved : goal.loop-e-preserved
loop-e-preserved c =
    entering_more c.requires.0 c.loop-e.invariant (omega arith) c.enter_pair-any.result c.enter_pair-any.new.w c.enter_pair-any.ensures c.get-e-in-loop-e.ensures.0

pub returns : goal.returns
returns c = (entering_done c.requires.0 c.loop-e.invariant (omega arith), c.loop-e.invariant.quiet)
