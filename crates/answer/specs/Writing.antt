-- The answer of given counts and places: what they must be (Answerable), the fields they make (fields_of), when they are those of a
-- plan (Tells), and what writing bytes into the middle of a slice does (Spliced).
use Rattle.std.specs.Prelude.{ℕ, ◌+◌, ◌≤◌, ◌<◌, ◌≡◌, List, ◌++◌, length, take, drop, get_or}
use Rattle.fields.specs.Fields.{Field}
use Rattle.plans.specs.Plan.{Table, Places, line}
use Rattle.plans.specs.Order.{filled}
use Rattle.units.specs.Limits.{most_signals, most_ranks}
use Rattle.answer.specs.Answer.{payload_fields, place_for}

-- Every number of the list is below the bound.
pub record AllBelow (bound : ℕ) (l : List ℕ) : Type 0 where
  pub each : (i : ℕ) → i < length l → get_or l i 0 < bound

-- At most 15 counts of 8 bits and 200 places of 12 bits.
pub record Answerable (counts places : List ℕ) : Type 0 where
  pub few_ranks : length counts ≤ most_ranks
  pub few_signals : length places ≤ most_signals
  pub counts_fit : AllBelow 256 counts
  pub places_fit : AllBelow 4096 places

-- The fields of the answer with these counts, rank 1 first, and these places, signal 0 first.
unfoldable pub fields_of : (counts places : List ℕ) → List Field
fields_of counts places = payload_fields (length places) (length counts) (filled counts) (filled places)

-- The counts and places are those of the table's plan: one count for each rank, one place for each signal.
pub record Tells (T : Table) (p : Places) (counts places : List ℕ) : Type 0 where
  pub ranks : length counts ≡ T.ranks
  pub signals : length places ≡ T.signals
  pub count : (i : ℕ) → i < T.ranks → get_or counts i 0 ≡ line T p i
  pub place : (s : ℕ) → s < T.signals → get_or places s 0 ≡ place_for T p s

-- The bytes xs stand from index `start` on, and every other byte is as before.
pub record Spliced (start : ℕ) (xs before after : List ℕ) : Type 0 where
  pub size : length after ≡ length before
  pub is : after ≡ take start before ++ (xs ++ drop (start + length xs) before)
