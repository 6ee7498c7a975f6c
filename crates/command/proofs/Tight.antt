-- How tight the promise of handling is. Main results: two replies to one command agree in all but the bytes of the places
-- (handle_tight); a block that is answered is shorter than 8,192 bytes (accepted_short); and neither a function that refuses it
-- nor one that leaves the area as it was meets the promise (refuses_all_falls_short, untouched_falls_short).
-- Leans on proofs/Answers.
use Prim.Native.Nat.{ℕ, ◌+◌, ◌≤◌, ◌<◌}
use mathlib.Core.Path.{◌≡◌, refl, ap, sym, ◌∙◌}
use mathlib.Core.List.{List, [], ◌∷◌, ◌++◌}
use native.Mathlib.Omega.{arith}
use lib.ListN.{length, get_or, take, drop, length-append, length-drop}
use lib.Seq.{drop_at, take-append-le, take-append-add}
use Rattle.std.specs.Prelude.{Result, Ok, Err}
use Rattle.units.specs.declared.Bytes.{Bytes}
use Rattle.units.specs.declared.Size.{Size}
use Rattle.units.specs.declared.refusals.Refusal.{Refusal}
use Rattle.units.specs.Refusals.{status_of}
use Rattle.opening.specs.declared.headers.Part.{Part}
use Rattle.opening.specs.Opening.{opening_of, payload_of}
use Rattle.framing.specs.Framing.{header_of, block_of, block_length}
use Rattle.framing.proofs.Framed.{length_header}
use Rattle.block.specs.Forms.{Block}
use Rattle.block.specs.Forms.Block.{definite, open_ended}
use Rattle.block.proofs.Forms.{opened_form}
use Rattle.tables.specs.Payload.{signals_in, ranks_in, size_in, payload_length}
use Rattle.tables.specs.Sound.{Sound}
use Rattle.table.specs.Checking.{checked_of}
use Rattle.table.proofs.Acceptance.{no_refusal, accepted_sound}
use Rattle.answer.specs.Answer.{answer_length}
use Rattle.command.specs.Answers.{AnswerTo}
use Rattle.command.specs.Handling.{reply_length, after_checking, after_opening, verdict_of, Written, Answered, Refused, Handles}
use Rattle.command.specs.Tightness.{places_start, SameReply}
use Rattle.command.proofs.Answers.{answer_size, block_size, answers_front}

-- The block of an answer, with what stands behind it

module _ {p a : List ℕ} (A : AnswerTo p a) (rest : List ℕ) where
  -- its bytes before the places: the header, and the answer's head and counts
  block_front : take (places_start p) (block_of a ++ rest) ≡ header_of (answer_length (signals_in p) (ranks_in p)) ++ take (2 + ranks_in p) a
  unfolding block_of places_start reply_length block_length size_in
  block_front =
      take-append-le (places_start p) (block_of a) rest (omega (arith, block_size A))
      ∙ rw (answer_size A, ← length_header (answer_length (signals_in p) (ranks_in p)))
      (take-append-add (header_of (answer_length (signals_in p) (ranks_in p))) a (2 + ranks_in p))

  behind_block : {n : ℕ} → n ≡ reply_length (size_in p) → drop n (block_of a ++ rest) ≡ rest
  behind_block {n} e = drop_at (block_of a) rest n (block_size A ∙ sym e)

-- Two replies to one command

module _ {p area work : List ℕ} {r r' : Result Bytes Refusal} {a a' w w' : List ℕ} (says : r ≡ r') where
  same_refused : {e : Refusal} → r ≡ Err e → Refused area work a w → Refused area work a' w' → SameReply p r a w r' a' w'
  same_refused refusal f f' =
      let same : a ≡ a' = f.untouched ∙ sym f'.untouched in
      record {
        reply = says;
        work = f.work_untouched ∙ sym f'.work_untouched;
        size = ap length same;
        refused_bytes = λ e told. same;
        front = λ n told. no_refusal (sym refusal ∙ told);
        behind = λ n told. no_refusal (sym refusal ∙ told);
      }

  same_answered : {b : Bytes} → r ≡ Ok b → Answered p area work b.0 a w → Answered p area work b.0 a' w' → SameReply p r a w r' a' w'
  same_answered {b} answer f f' =
      let later = drop (reply_length (size_in p)) area in
      record {
        reply = says;
        work = f.zeroed ∙ sym f'.zeroed;
        size = sized f.written ∙ sym (sized f'.written);
        refused_bytes = λ e told. no_refusal (sym told ∙ answer);
        front = λ n told.
            rw (f.written.bytes, f'.written.bytes)
            (block_front f.written.to later
            ∙ rw (answers_front f.written.to f'.written.to) (sym (block_front f'.written.to later)));
        behind = λ n told.
            let same : b ≡ n = cc in
            let long : n.0 ≡ reply_length (size_in p) = rw same at f.long in
            rw (f.written.bytes, f'.written.bytes, behind_block f.written.to later long, behind_block f'.written.to later long) refl;
      }
    where
      sized : {b : List ℕ} → Written p area b → length b ≡ reply_length (size_in p) + length (drop (reply_length (size_in p)) area)
      sized g =
          ap length g.bytes
          ∙ length-append (block_of g.answer) (drop (reply_length (size_in p)) area)
          ∙ ap (λ k. k + length (drop (reply_length (size_in p)) area)) (block_size g.to)

pub handle_tight : (block area work : List ℕ) (r r' : Result Bytes Refusal) (a a' w w' : List ℕ) → Handles block area work r a w → Handles block area work r' a' w'
    → SameReply (payload_of block) r a w r' a' w'
handle_tight block area work r r' a a' w w' f f' = pick (verdict_of block (length area) (length work)) refl
  where
    says : r ≡ r'
    says = f.says ∙ sym f'.says

    pick : (v : Result Bytes Refusal) → verdict_of block (length area) (length work) ≡ v → SameReply (payload_of block) r a w r' a' w'
    pick (Err e) verdict = same_refused says (f.says ∙ verdict) (f.refused e verdict) (f'.refused e verdict)
    pick (Ok n) verdict = same_answered says (f.says ∙ verdict) (f.answered n verdict) (f'.answered n verdict)

-- Blocks that are answered

module _ (block : List ℕ) (m k : ℕ) {n : Bytes} (success : verdict_of block m k ≡ Ok n) where
  opens : (status_of (opening_of block)).number ≡ 0
  unfolding verdict_of after_opening
  opens = go (opening_of block) success
    where
      go : (o : Result Part Refusal) → after_opening o (payload_of block) m k ≡ Ok n → (status_of o).number ≡ 0
      go (Err r) told = no_refusal told
      go (Ok part) told = refl

  pub answered_sound : Sound (payload_of block)
  unfolding verdict_of after_opening after_checking
  answered_sound = go (opening_of block) success
    where
      checked : (start : ℕ) (f : Result Size Refusal) → checked_of (payload_of block) ≡ f → after_checking start f m k ≡ Ok n → Sound (payload_of block)
      checked start (Err r) found told = no_refusal told
      checked start (Ok z) found told = accepted_sound (payload_of block) found

      go : (o : Result Part Refusal) → after_opening o (payload_of block) m k ≡ Ok n → Sound (payload_of block)
      go (Err r) told = no_refusal told
      go (Ok part) told = checked part.start (checked_of (payload_of block)) refl told

  short_payload : length (payload_of block) ≤ 7504
  unfolding payload_length size_in
  short_payload = omega (arith, answered_sound.sized, answered_sound.limits.few_pairs)

  -- the longest header has 11 bytes
  pub accepted_short : length block < 8192
  accepted_short = go (opened_form block opens)
    where
      go : Block block (payload_of block) → length block < 8192
      go (definite f) =
          omega (arith, short_payload, f.header.at, f.header.few, sym (length-drop f.start block) ∙ ap length f.rest)
      go (open_ended f) =
          omega (arith, short_payload, sym (length-drop 2 block) ∙ ap length f.rest ∙ length-append (payload_of block) (10 ∷ []))

module _ (block area work : List ℕ) {n : Bytes} (success : verdict_of block (length area) (length work) ≡ Ok n) where
  pub refuses_all_falls_short : (e : Refusal) (a w : List ℕ) → Handles block area work (Err e) a w → ⊥
  refuses_all_falls_short e a w f = no_refusal (f.says ∙ success)

  -- an area that does not start with the answer's mark already
  pub untouched_falls_short : (get_or area 0 0 ≡ 35 → ⊥) → (r : Result Bytes Refusal) (w : List ℕ) → Handles block area work r area w → ⊥
  unfolding block_of header_of
  untouched_falls_short unmarked r w f = unmarked (ap (λ l. get_or l 0 0) (f.answered n success).written.bytes)
