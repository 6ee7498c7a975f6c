-- Handling, part by part: what the work area holds between placing and writing.
use Rattle.std.specs.Prelude.{ℕ, ◌≤◌, List, length, take, drop}
use Rattle.units.specs.declared.Size.{Size}
use Rattle.units.specs.Limits.{most_signals, most_ranks}
use Rattle.fields.specs.Fields.{packed}
use Rattle.answer.specs.Writing.{Answerable, fields_of}
use Rattle.work.specs.Work.{PLACE, COUNT, NUMBERS}
use Rattle.command.specs.Answers.{AnswerTo}

-- the counts that the area holds for so many ranks, the places for so many signals, and the answer's payload that they make
unfoldable pub counts_in : (ranks : ℕ) → List ℕ → List ℕ
counts_in ranks w = take ranks (drop COUNT w)

unfoldable pub places_in : (signals : ℕ) → List ℕ → List ℕ
places_in signals w = take signals (drop PLACE w)

unfoldable pub answer_in : (signals ranks : ℕ) → List ℕ → List ℕ
answer_in signals ranks w = packed (fields_of (counts_in ranks w) (places_in signals w))

-- The area can be answered for so many signals and ranks: it has them, and they fit their fields.
pub record Writable (signals ranks : ℕ) (w : List ℕ) : Type 0 where
  pub few_signals : signals ≤ most_signals
  pub few_ranks : ranks ≤ most_ranks
  pub enough : NUMBERS ≤ length w
  pub fits : Answerable (counts_in ranks w) (places_in signals w)

-- The area holds the counts and places of an answer to payload p.
pub record Solved (p : List ℕ) (z : Size) (w : List ℕ) : Type 0 where
  pub writable : Writable z.signals z.ranks w
  pub to : AnswerTo p (answer_in z.signals z.ranks w)
