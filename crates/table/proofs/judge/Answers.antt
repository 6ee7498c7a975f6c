-- `table::judge` meets its contract: each return is one law of proofs/Judging.
use Rattle.std.proofs.Common.{arith}
use Rattle.table.proofs.Judging.{stray_signal, stray_channel, stray_rank, sunk, stands}
use Rattle.table.proofs.judge.Goals.{then-size-key-via-then-size-key, then-size-key-via-else-size-key+then-size-key-2, then-size-key-via-else-size-key+else-size-key-2+then-size-rank}
use Rattle.table.proofs.judge.Goals as goal

pub returns-then-size-key : goal.returns-then-size-key
returns-then-size-key c =
    elim c.then-size-key.branch [
      | then-size-key-via-then-size-key w ↦ stray_signal _ _ _ _ (omega arith)
      | then-size-key-via-else-size-key+then-size-key-2 w ↦ stray_channel _ _ _ _ (omega arith)
      | then-size-key-via-else-size-key+else-size-key-2+then-size-rank w ↦ stray_rank _ _ _ _ (omega arith)
    ]

pub returns-then-key-floor : goal.returns-then-key-floor
returns-then-key-floor c = sunk _ _ _ _ (omega arith) (omega arith) (omega arith) (omega arith) (omega arith)

pub returns : goal.returns
returns c = stands _ _ _ _ (omega arith) (omega arith) (omega arith) (omega arith) (omega arith)
