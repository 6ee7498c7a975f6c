-- The three laws of best counts, of accepted payloads and the counts in their answers: cut_in_answers, beside_in_answers and
-- more_in_answers. What the box writes opens to such an answer (answered_payload, handled_answer). Leans on the round trip of
-- blocks, on reading answers back, and on the laws of accepted payloads.
use Prim.Native.Nat.{ℕ, ◌+◌, ◌≤◌}
use mathlib.Core.Path.{◌≡◌, ap, sym, ◌∙◌}
use mathlib.Core.List.{List}
use lib.ListN.{length, take, drop}
use lib.Seq.{take_at}
use Rattle.std.specs.Prelude.{Ok}
use Rattle.units.specs.declared.Bytes.{Bytes}
use Rattle.plans.specs.Order.{Same}
use Rattle.plans.specs.Tables.{Entry}
use Rattle.plans.proofs.Laws.{OneMoreCounts}
use Rattle.opening.specs.Opening.{payload_of}
use Rattle.framing.specs.Framing.{block_of}
use Rattle.block.proofs.RoundTrip.{framed_opens}
use Rattle.tables.specs.Payload.{signals_in, channels_in, ranks_in, size_in}
use Rattle.tables.specs.Sound.{Sound}
use Rattle.tables.specs.Making.{NewList, CutOf, BesideOf, MoreOf}
use Rattle.tables.proofs.Making.{cut_accepted, beside_accepted, more_accepted}
use Rattle.command.specs.Answers.{count_in, AnswerTo}
use Rattle.command.specs.Handling.{reply_length, Answered, Handles}
use Rattle.command.proofs.Answers.{block_size, answer_short, counts_best}
use Rattle.command.proofs.Tight.{answered_sound}

-- What stands in the area after a command is answered opens to an answer.
pub answered_payload : {p area work area' work' : List ℕ} {n : ℕ} → Sound p → Answered p area work n area' work'
    → AnswerTo p (payload_of (take n area'))
answered_payload {p} {area} {work} {area'} {work'} {n} sound done =
    let a : List ℕ = done.written.answer in
    let size : length (block_of a) ≡ n = block_size done.written.to ∙ sym done.long in
    let opened : payload_of (take n area') ≡ a =
    ap payload_of (ap (take n) done.written.bytes ∙ take_at (block_of a) (drop (reply_length (size_in p)) area) n size)
    ∙ (framed_opens a (answer_short done.written.to sound)).payload in
    rw opened done.written.to

-- A whole command that is answered with n bytes: its payload was accepted, and what it wrote opens to an answer.
pub handled_answer : (block area work : List ℕ) (n : Bytes) (a w : List ℕ) → Handles block area work (Ok n) a w
    → Sound (payload_of block) × AnswerTo (payload_of block) (payload_of (take n.0 a))
handled_answer block area work n a w f =
    let sound : Sound (payload_of block) = answered_sound block (length area) (length work) (sym f.says) in
    (sound, answered_payload sound (f.answered n (sym f.says)))

-- The counts in the answer to a table cut at rank k are the first k counts in the answer to the table.
pub cut_in_answers : (k : ℕ) {p q a b : List ℕ} → k ≤ ranks_in p → Sound p → CutOf k p q → Sound q → AnswerTo p a → AnswerTo q b
    → Same k (count_in a) (count_in b)
cut_in_answers k {p} {q} {a} {b} below sound is_cut sound' A B =
    cut_accepted k sound below q (count_in a) (count_in b) is_cut (counts_best A sound) (counts_best B sound')

-- The counts in the answer to two tables side by side are the sums of the counts in their answers.
pub beside_in_answers : {p q r a b d : List ℕ} → Sound p → Sound q → ranks_in q ≡ ranks_in p → BesideOf p q r → Sound r
    → AnswerTo p a → AnswerTo q b → AnswerTo r d → Same (ranks_in p) (count_in d) (λ i. count_in a i + count_in b i)
beside_in_answers {p} {q} {r} {a} {b} {d} sound sound' ranks is-beside sound'' A B D =
    beside_accepted sound sound' ranks r (count_in a) (count_in b) (count_in d) is-beside
    (counts_best A sound) (counts_best B sound') (counts_best D sound'')

-- The counts in the answer to a table with one more signal are not lower, and their total is the same or one more.
pub more_in_answers : (list : List Entry) {p q a b : List ℕ} → NewList (signals_in p) (channels_in p) (ranks_in p) list
    → Sound p → MoreOf list p q → Sound q → AnswerTo p a → AnswerTo q b → OneMoreCounts (ranks_in p) (count_in a) (count_in b)
more_in_answers list {p} {q} {a} {b} new sound is-more sound' A B =
    more_accepted list sound new q (count_in a) (count_in b) is-more (counts_best A sound) (counts_best B sound')
