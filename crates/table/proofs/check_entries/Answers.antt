-- `table::check_entries` meets its contract: each way on is one law of proofs/Judging.
use Rattle.std.proofs.Common.{◌+◌, ◌*◌, ◌/◌, arith, refl}
use Rattle.table.proofs.Judging.{Judging, judging_none, judging_same, judging_done, judging_stop, judging_more}
use Rattle.table.proofs.check_entries.Goals.{After-judge-in-loop-two}
use Rattle.table.proofs.check_entries.Goals as goal

pub loop-two-init : goal.loop-two-init
loop-two-init c = judging_none c.requires

pub returns-in_err-judge : goal.returns-in_err-judge
returns-in_err-judge c =
    judging_stop c.loop-two.invariant _ c.judge.ensures c.two_entries-even.ensures.0 c.in_err-judge.was (omega arith) _ c.from_residual.ensures.1

-- the first of two entries is judged
first : (c : After-judge-in-loop-two) → Judging c.args.payload.now c.args.size (c.two_entries-even.result.0 / 16 + 1) (2 * c.loop-two.two + 1)
first c = judging_more c.loop-two.invariant _ c.judge.ensures c.two_entries-even.ensures.0 c.in_ok-judge.was (omega arith)

pub returns-in_err-judge-2 : goal.returns-in_err-judge-2
returns-in_err-judge-2 c =
    judging_stop (first (goal.at.returns-in_err-judge-2 c).After-judge-in-loop-two) _ c.judge-in-loop-two.ensures c.two_entries-even.ensures.1
    c.in_err-judge-2.was (omega arith) _ c.from_residual-in_err-judge-2.ensures.1

pub loop-two-preserved : goal.loop-two-preserved
loop-two-preserved c =
    judging_same (omega arith) (omega arith)
    (judging_more (first (goal.at.loop-two-preserved c).After-judge-in-loop-two) _ c.judge-in-loop-two.ensures c.two_entries-even.ensures.1
    c.in_ok-judge-2.was (omega arith))

-- only the last entry is left
pub returns-in_err-judge-3 : goal.returns-in_err-judge-3
returns-in_err-judge-3 c =
    judging_stop (judging_same refl (omega arith) c.loop-two.invariant) _ c.judge-then-pairs-eq1.ensures c.entry_at.ensures
    c.in_err-judge-3.was (omega arith) _ c.from_residual-in_err-judge-3.ensures.1

pub returns-in_ok-judge-3 : goal.returns-in_ok-judge-3
returns-in_ok-judge-3 c =
    judging_done
    (judging_more (judging_same refl (omega arith) c.loop-two.invariant) _ c.judge-then-pairs-eq1.ensures c.entry_at.ensures
    c.in_ok-judge-3.was (omega arith))
    (omega arith)

pub returns-else-pairs-eq1 : goal.returns-else-pairs-eq1
returns-else-pairs-eq1 c = judging_done c.loop-two.invariant (omega arith)
