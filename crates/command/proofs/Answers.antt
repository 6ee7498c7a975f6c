-- What is known of an answer to a payload: its length and its block's (answer_size, block_size), that it can be framed
-- (answer_short), and that two answers to one payload agree up to their places (answers_front); the counts in it are the best
-- (counts_best). Leans on answer's laws of bytes and on best plans having one line.
use Prim.Native.Nat.{ℕ, ◌+◌, ◌*◌, ◌≤◌}
use mathlib.Core.Path.{◌≡◌, ap, sym, ◌∙◌}
use mathlib.Core.List.{List}
use native.Mathlib.Omega.{arith}
use lib.ListN.{length, take}
use Rattle.fields.specs.Fields.{field_at}
use Rattle.plans.specs.Order.{Same}
use Rattle.plans.specs.Plan.{Best}
use Rattle.plans.specs.Tables.{table_of}
use Rattle.plans.proofs.BestCounts.{best_plans_same_line}
use Rattle.framing.specs.Framing.{longest, block_of, block_length}
use Rattle.framing.proofs.Framed.{length_block}
use Rattle.tables.specs.Payload.{signals_in, ranks_in, size_in, table_in}
use Rattle.tables.specs.Sound.{Sound}
use Rattle.answer.specs.Answer.{answer_length}
use Rattle.answer.proofs.Bytes.{length_answer, same_front}
use Rattle.answer.proofs.Reading.{count_read}
use Rattle.command.specs.Answers.{count_in, AnswerTo}
use Rattle.command.specs.Handling.{reply_length}

module _ {p a : List ℕ} (A : AnswerTo p a) where
  pub answer_size : length a ≡ answer_length (signals_in p) (ranks_in p)
  unfolding table_in table_of
  answer_size = ap length A.bytes ∙ length_answer (table_in p) A.plan

  pub block_size : length (block_of a) ≡ reply_length (size_in p)
  unfolding reply_length size_in
  block_size = length_block a ∙ ap block_length answer_size

  pub answer_short : Sound p → length a ≤ longest
  unfolding size_in
  answer_short sound = omega (arith, answer_size, sound.limits.few_signals, sound.limits.few_ranks)

  pub answers_front : {b : List ℕ} → AnswerTo p b → take (2 + ranks_in p) a ≡ take (2 + ranks_in p) b
  unfolding table_in table_of
  answers_front B =
      rw (A.bytes, B.bytes)
      (same_front (table_in p) A.plan B.plan (best_plans_same_line (table_in p) A.plan B.plan A.best B.best))

  pub counts_best : Sound p → Best (table_in p) (count_in a)
  unfolding count_in Same table_in table_of size_in
  counts_best sound =
      record {
        places = A.plan;
        best = A.best;
        counts = λ i l.
            sym
            (ap (λ a. field_at a (16 + 8 * i) 8) A.bytes
            ∙ count_read (table_in p) A.plan i l (omega (arith, sound.limits.few_signals)));
      }
