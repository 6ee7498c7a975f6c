-- A whole command as C is told of it, by the reply's number. Any but 0 is a refusal, which writes nothing (told_refused); 0 is an answer
-- (told_answered), and that is the verdict of the rows (told_says). The theorems of `command` hold of such replies: number 0 is an
-- answer that holds a best plan (told_answer); two replies agree in all but the places (told_tight); a block that gets number 0 has an
-- accepted payload and is short (told_sound, told_short); and who refuses, leaves the area as it was, or sends the same places for every
-- table does not meet the promise (told_refuses_all_falls_short, told_untouched_falls_short, told_fixed_plan_falls_short).
use Prim.Native.Nat.{ℕ, ◌≤◌, ◌<◌}
use mathlib.Core.Path.{◌≡◌, refl, ap, sym, ◌∙◌}
use mathlib.Core.List.{List}
use native.Mathlib.Omega.{arith}
use lib.ListN.{length, get_or, take, drop}
use Rattle.std.specs.Prelude.{Result, Ok, Err}
use Rattle.units.specs.declared.Bytes.{Bytes}
use Rattle.units.specs.declared.refusals.Refusal.{Refusal}
use Rattle.units.specs.Refusals.{number_of, status_of}
use Rattle.units.proofs.Numbers.{numbered}
use Rattle.opening.specs.Opening.{payload_of}
use Rattle.tables.specs.Sound.{Sound}
use Rattle.work.specs.Work.{NUMBERS}
use Rattle.command.specs.Answers.{AnswerTo}
use Rattle.command.specs.Handling.{verdict_of, Answered, Refused}
use Rattle.command.specs.Tightness.{SameReply, listing_only}
use Rattle.command.proofs.Laws.{handled_answer}
use Rattle.command.proofs.Tight.{handle_tight, answered_sound, accepted_short, untouched_falls_short}
use Rattle.command.proofs.FixedPlan.{fixed_plan_falls_short}
use Rattle.graupenzelt.specs.declared.Reply.{Reply}
use Rattle.graupenzelt.specs.Exports.{block_reply, HandlesInto}
use Rattle.graupenzelt.specs.Tightness.{SameTold}

-- No refusal is told by number 0.
unmistaken : {X : Type 0} (e : Refusal) {n : ℕ} → n ≡ number_of e → n ≡ 0 → X
unmistaken e is zero = absurd (omega (arith, is, zero, numbered e))

-- What number 0 says of what was found.
by_number : {X : Type 0} (f : Result Bytes Refusal) → (status_of f).number ≡ 0 → ((n : Bytes) → f ≡ Ok n → X) → X
by_number (Ok n) zero next = next n refl
by_number (Err e) zero next = unmistaken e refl zero

-- What was found is told by the number: it is 0 for an answer alone.
found_number : (f : Result Bytes Refusal) {r : Reply} → r ≡ block_reply f → r.status.number ≡ (status_of f).number
unfolding block_reply
found_number (Ok n) reply = ap (λ (r : Reply). r.status.number) reply
found_number (Err e) reply = ap (λ (r : Reply). r.status.number) reply

found_length : {n : Bytes} {r : Reply} → r ≡ block_reply (Ok n) → r.length ≡ n.0
unfolding block_reply
found_length reply = ap (λ (r : Reply). r.length) reply

module _ {block area work : List ℕ} {r : Reply} {a w : List ℕ} (told : HandlesInto block area work r a w) where
  -- C is told the verdict of the rows in their order.
  pub told_says : r ≡ block_reply (verdict_of block (length area) (length work))
  told_says = told.reply ∙ ap block_reply told.promise.says

  -- With any number but 0 the length is 0, and nothing was written;
  pub told_refused : (r.status.number ≡ 0 → ⊥) → (r.length ≡ 0) × Refused area work a w
  unfolding block_reply
  told_refused number = go told.found refl
    where
      go : (f : Result Bytes Refusal) → told.found ≡ f → (r.length ≡ 0) × Refused area work a w
      go (Ok n) found = absurd (number (ap (λ (r : Reply). r.status.number) (told.reply ∙ ap block_reply found)))
      go (Err e) found = (ap (λ (r : Reply). r.length) (told.reply ∙ ap block_reply found), told.promise.refused e (sym told.promise.says ∙ found))

  -- with 0 the command is answered, by a block of so many bytes.
  pub told_answered : r.status.number ≡ 0 → Answered (payload_of block) area work r.length a w
  told_answered number =
      by_number _ (sym (found_number told.found told.reply) ∙ number)
      (λ n found. rw (found_length (told.reply ∙ ap block_reply found)) (told.promise.answered n (sym told.promise.says ∙ found)))

-- A whole command with number 0: its payload was accepted, and what it wrote opens to an answer.
pub told_answer : (block area work : List ℕ) (r : Reply) (a w : List ℕ) → HandlesInto block area work r a w → r.status.number ≡ 0
    → Sound (payload_of block) × AnswerTo (payload_of block) (payload_of (take r.length a))
told_answer block area work r a w told number =
    by_number _ (sym (found_number told.found told.reply) ∙ number)
    (λ n found.
    rw (found_length (told.reply ∙ ap block_reply found))
    (handled_answer block area work n a w (rw found at told.promise)))

-- Two replies to one command agree in all but the bytes of the places.
pub told_tight : (block area work : List ℕ) (r r' : Reply) (a a' w w' : List ℕ) → HandlesInto block area work r a w → HandlesInto block area work r' a' w'
    → SameTold (payload_of block) r a w r' a' w'
told_tight block area work r r' a a' w w' told told' =
    let both = handle_tight block area work told.found told'.found a a' w w' told.promise told'.promise in
    let same : r ≡ r' = told.reply ∙ ap block_reply both.reply ∙ sym told'.reply in
    record {
      reply = same;
      work = both.work;
      size = both.size;
      refused_bytes = λ number. (told_refused told number).1.untouched ∙ sym (told_refused told' (rw same at number)).1.untouched;
      front = λ number. by_number _ (sym (found_number told.found told.reply) ∙ number) both.front;
      behind = behind told.found both refl;
    }
  where
    behind : (f : Result Bytes Refusal) → SameReply (payload_of block) told.found a w told'.found a' w' → told.found ≡ f → drop r.length a ≡ drop r.length a'
    behind (Ok n) both found = rw (found_length (told.reply ∙ ap block_reply found)) (both.behind n found)
    behind (Err e) both found = ap (drop r.length) (both.refused_bytes e found)

-- A block that gets number 0 has an accepted payload, and is shorter than 8,192 bytes.
pub told_sound : (block : List ℕ) (m k : ℕ) → (status_of (verdict_of block m k)).number ≡ 0 → Sound (payload_of block)
told_sound block m k number = by_number _ number (λ n success. answered_sound block m k success)

pub told_short : (block : List ℕ) (m k : ℕ) → (status_of (verdict_of block m k)).number ≡ 0 → length block < 8192
told_short block m k number = by_number _ number (λ n success. accepted_short block m k success)

-- Who refuses a command that is to be answered, who leaves the area as it was, or who sends the same places for every table.
module _ (block area work : List ℕ) (success : (status_of (verdict_of block (length area) (length work))).number ≡ 0) where
  pub told_refuses_all_falls_short : (r : Reply) → (r.status.number ≡ 0 → ⊥) → (a w : List ℕ) → HandlesInto block area work r a w → ⊥
  told_refuses_all_falls_short r refuses a w told =
      refuses (found_number told.found told.reply ∙ ap (λ (f : Result Bytes Refusal). (status_of f).number) told.promise.says ∙ success)

  pub told_untouched_falls_short : (get_or area 0 0 ≡ 35 → ⊥) → (r : Reply) (w : List ℕ) → HandlesInto block area work r area w → ⊥
  told_untouched_falls_short unmarked r w told =
      by_number _ success (λ n found. untouched_falls_short block area work found unmarked told.found w told.promise)

pub told_fixed_plan_falls_short : (area work : List ℕ) → 8 ≤ length area → NUMBERS ≤ length work → (r r' : Reply) (a a' w w' : List ℕ)
    → HandlesInto (listing_only 0) area work r a w → HandlesInto (listing_only 1) area work r' a' w' → get_or a 6 0 ≡ get_or a' 6 0 → ⊥
told_fixed_plan_falls_short area work long enough r r' a a' w w' told told' same =
    fixed_plan_falls_short area work long enough told.found told'.found a a' w w' told.promise told'.promise same
