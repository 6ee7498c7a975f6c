-- `tally::tally_signal` meets its contract, by the laws of proofs/Recording: one way where the signal has no channel, one where it has.
use Rattle.std.proofs.Common.{arith}
use Rattle.tally.proofs.Recording.{one_unplaced, one_placed, within, count_fits}
use Rattle.tally.proofs.tally_signal.Goals as goal

pub put-requires-else-c-eq-NONE-2 : goal.put-requires-else-c-eq-NONE-2
put-requires-else-c-eq-NONE-2 c =
    let n = c.requires in
    let sits = c.get-c.ensures.0 in
    let taken = c.if-c-eq-NONE.false in
    let rank = c.rank_of-r.ensures in
    let few = count_fits n.is sits taken rank c.put-else-c-eq-NONE.ensures c.get-n.ensures.0 n.few in (
      omega (arith, n.is.input.room, n.is.input.limits.few_ranks, c.put-else-c-eq-NONE.ensures.size, within n.is sits taken rank),
      omega (arith, few),
    )

pub returns-then-c-eq-NONE : goal.returns-then-c-eq-NONE
returns-then-c-eq-NONE c = record { each = λ z n. one_unplaced n c.get-c.ensures.0 c.if-c-eq-NONE.true c.put.ensures (omega arith) }

pub returns-else-c-eq-NONE : goal.returns-else-c-eq-NONE
returns-else-c-eq-NONE c =
    record {
      each = λ z n.
          one_placed n c.get-c.ensures.0 c.if-c-eq-NONE.false c.rank_of-r.ensures c.put-else-c-eq-NONE.ensures c.get-n.ensures.0
          c.put-else-c-eq-NONE-2.ensures
          (omega arith)
          (omega arith);
    }
