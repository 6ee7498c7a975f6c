-- What a whole command comes to, for every byte string, every area and every work area (document 01, "Refusal numbers").
use Rattle.std.specs.Prelude.{ℕ, ◌≡◌, cond, List, ◌++◌, length, drop, replicate, ltb, Result, Ok, Err}
use Rattle.units.specs.declared.Bytes.{Bytes}
use Rattle.units.specs.declared.Size.{Size}
use Rattle.units.specs.declared.refusals.Refusal.{Refusal}
use Rattle.units.specs.declared.refusals.Refusal.TheVariants.{NoRoom, NoWork}
use Rattle.units.specs.Refusals.{in_block}
use Rattle.opening.specs.declared.headers.Part.{Part}
use Rattle.opening.specs.Opening.{opening_of, payload_of}
use Rattle.framing.specs.Framing.{block_of, block_length}
use Rattle.table.specs.Checking.{checked_of}
use Rattle.tables.specs.Payload.{size_in}
use Rattle.answer.specs.Answer.{answer_length}
use Rattle.work.specs.Work.{NUMBERS}
use Rattle.command.specs.Answers.{AnswerTo}

-- how many bytes the answer to a table of this size has, header and all
unfoldable pub reply_length : Size → ℕ
reply_length z = block_length (answer_length z.signals z.ranks)

-- Rows 10 and 11: n bytes are to be written into an area of m bytes, with a work area of k numbers.
unfoldable pub room_for : (n m k : ℕ) → Result Bytes Refusal
room_for n m k = cond (ltb m n) (Err NoRoom) (cond (ltb k NUMBERS) (Err NoWork) (Ok (record { 0 = n })))

-- Rows 4 to 11, by what checking finds of a payload that starts at byte `start` of its block.
unfoldable pub after_checking : (start : ℕ) → Result Size Refusal → (m k : ℕ) → Result Bytes Refusal
after_checking start (Err r) m k = Err (in_block start r)
after_checking start (Ok z) m k = room_for (reply_length z) m k

-- Rows 1 to 11, by what opening finds of a block, and checking of its payload p.
unfoldable pub after_opening : Result Part Refusal → (p : List ℕ) → (m k : ℕ) → Result Bytes Refusal
after_opening (Err r) p m k = Err r
after_opening (Ok part) p m k = after_checking part.start (checked_of p) m k

-- What a command block gets, with an area of m bytes and a work area of k numbers: a refusal, or the length of its answer's block.
unfoldable pub verdict_of : (block : List ℕ) → (m k : ℕ) → Result Bytes Refusal
verdict_of block m k = after_opening (opening_of block) (payload_of block) m k

-- The area holds at its start the block of an answer to payload p, and later bytes as they were.
pub record Written (p area area' : List ℕ) : Type 0 where
  pub answer : List ℕ
  pub to : AnswerTo p answer
  pub bytes : area' ≡ block_of answer ++ drop (reply_length (size_in p)) area

-- A command with payload p is answered: its answer is written, n is the length of the block, in bytes; the first 16,384 numbers
-- of the work area are zero, and later ones as they were.
pub record Answered (p area work : List ℕ) (n : ℕ) (area' work' : List ℕ) : Type 0 where
  pub written : Written p area area'
  pub long : n ≡ reply_length (size_in p)
  pub zeroed : work' ≡ replicate NUMBERS 0 ++ drop NUMBERS work

-- The command is refused: nothing is written.
pub record Refused (area work area' work' : List ℕ) : Type 0 where
  pub untouched : area' ≡ area
  pub work_untouched : work' ≡ work

-- The reply is verdict v, and leaves both lent areas as a refusal or an answer to payload p leaves them.
pub record Replies (v : Result Bytes Refusal) (p area work : List ℕ) (r : Result Bytes Refusal) (area' work' : List ℕ) : Type 0 where
  pub says : r ≡ v
  pub refused : (e : Refusal) → v ≡ Err e → Refused area work area' work'
  pub answered : (n : Bytes) → v ≡ Ok n → Answered p area work n.0 area' work'

-- The promise of handling a command block.
abbrev pub Handles : List ℕ → List ℕ → List ℕ → Result Bytes Refusal → List ℕ → List ℕ → Type 0
Handles block area work = Replies (verdict_of block (length area) (length work)) (payload_of block) area work
