-- The rows in their order: what each way through the code makes of the promise. Leans on what opening and checking find.
use Prim.Native.Nat.{ℕ, ◌≤◌, ◌<◌}
use mathlib.Core.Path.{◌≡◌, refl, sym, ◌∙◌}
use mathlib.Core.List.{List}
use borrow.Author.Tests.{lt-ltb, le-ltb}
use Rattle.std.specs.Result.{IsErrAnd}
use Rattle.std.proofs.lemmas.Bool.Decides.{nat_tests}
use Rattle.std.proofs.lemmas.Result.{err_from_is_err_and}
use Rattle.std.specs.Prelude.{Result, Ok, Err}
use Rattle.units.specs.declared.Bytes.{Bytes}
use Rattle.units.specs.declared.Size.{Size}
use Rattle.units.specs.declared.refusals.Refusal.{Refusal}
use Rattle.units.specs.declared.refusals.Refusal.TheVariants.{NoRoom, NoWork}
use Rattle.opening.specs.declared.headers.Part.{Part}
use Rattle.opening.specs.Opening.{opening_of, payload_of}
use Rattle.opening.proofs.Ending.{part_inside, part_payload}
use Rattle.table.specs.Checking.{checked_of}
use Rattle.table.proofs.Acceptance.{no_refusal, accepted_limits}
use Rattle.work.specs.Work.{NUMBERS}
use Rattle.command.specs.Handling.{reply_length, room_for, after_checking, after_opening, verdict_of, Answered, Replies}

-- A refusal that leaves both areas as they were is a reply to its own verdict,
pub refusal_replies : {v : Result Bytes Refusal} {p area work : List ℕ} {e : Refusal} → v ≡ Err e → Replies v p area work (Err e) area work
refusal_replies verdict =
    record {
      says = sym verdict;
      refused = λ e told. record { untouched = refl; work_untouched = refl };
      answered = λ n told. no_refusal (sym verdict ∙ told);
    }

-- also where it is what the exit of a `?` returns;
pub exit_replies : {v r : Result Bytes Refusal} {p area work : List ℕ} (e : Refusal) → IsErrAnd r (λ x. x ≡ e) → v ≡ Err e
    → Replies v p area work r area work
exit_replies {r = r} e given verdict =
    let exit = err_from_is_err_and r given in
    rw (exit.1, exit.2) (refusal_replies verdict)

-- and so is an answer, with its length.
pub answer_replies : {v : Result Bytes Refusal} {p area work area' work' : List ℕ} {b : Bytes} → v ≡ Ok b → Answered p area work b.0 area' work'
    → Replies v p area work (Ok b) area' work'
answer_replies {b = b} verdict done =
    record {
      says = sym verdict;
      refused = λ e told. no_refusal (sym told ∙ verdict);
      answered = λ n told. let same : b ≡ n = cc in rw same at done;
    }

-- Rows 10 and 11, for n bytes to be written

module _ (n m k : ℕ) where
  pub no_area : m < n → room_for n m k ≡ Err NoRoom
  unfolding room_for
  no_area h = rw (lt-ltb m n h)

  module _ (area : n ≤ m) where
    pub no_work_lem : k < NUMBERS → room_for n m k ≡ Err NoWork
    unfolding room_for
    no_work_lem h = rw (le-ltb m n area, lt-ltb k NUMBERS h) refl

    pub room : NUMBERS ≤ k → room_for n m k ≡ Ok (record { 0 = n })
    unfolding room_for
    room h = rw (le-ltb m n area, le-ltb k NUMBERS h) refl

-- A block that does not open; one that opens with payload p, which is refused; and one whose payload is accepted: rows 10 and 11 are left.

module _ (block : List ℕ) (m k : ℕ) where
  pub unopened : {e : Refusal} → opening_of block ≡ Err e → verdict_of block m k ≡ Err e
  unfolding verdict_of after_opening
  unopened e = rw e refl

  module _ {part : Part} (opened : opening_of block ≡ Ok part) {p : List ℕ} (same : p ≡ payload_of block) where
    pub unsound : {e : Refusal} → checked_of p ≡ Err e → verdict_of block m k ≡ Err e
    unfolding verdict_of after_opening after_checking
    unsound refused = rw (opened, ← same, refused) refl

    pub accepted : {z : Size} {n : ℕ} → checked_of p ≡ Ok z → n ≡ reply_length z → verdict_of block m k ≡ room_for n m k
    unfolding verdict_of after_opening after_checking
    accepted sound long = rw (opened, ← same, sound, long) refl

-- What the code of `handle` goes by on its way through the rows.
pub ruleset findings = (nat_tests, part_inside, part_payload, accepted_limits)
