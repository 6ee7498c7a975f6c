-- What comparing two lines of counts answers, for any two lists of bytes (document 01, "What a best plan is", row 5).
-- The order is Less of plans, the one that best plans are defined by, over the 15 ranks that there can be.
use Rattle.std.specs.Prelude.{ℕ, ◌≤◌, ◌<◌, ◌≡◌, Bool, true, false, List, length, get_or, ℤ, pos, negsuc, Result, Ok, Err}
use Rattle.std.specs.declared.cmp.Ordering.{Ordering}
use Rattle.std.specs.declared.cmp.Ordering.TheVariants.{Less as Lesser, Equal, Greater}
use Rattle.units.specs.Limits.{most_signals, most_ranks}
use Rattle.plans.specs.Order.{Less, Same, filled}
use Rattle.units.specs.declared.refusals.Refusal.{Refusal}
use Rattle.units.specs.declared.refusals.Refusal.TheVariants.{NoLine}

-- A line holds 0 to 15 counts of 0 to 200.
pub record Line (l : List ℕ) : Type 0 where
  pub short : length l ≤ most_ranks
  pub small : (i : ℕ) → i < length l → get_or l i 0 ≤ most_signals

-- The order of two lines, the shorter one filled up with zeros.
pub record Ordered (a b : List ℕ) (r : Result Ordering Refusal) : Type 0 where
  pub lesser : Less most_ranks (filled a) (filled b) → r ≡ Ok Lesser
  pub equal : Same most_ranks (filled a) (filled b) → r ≡ Ok Equal
  pub greater : Less most_ranks (filled b) (filled a) → r ≡ Ok Greater

-- The promise of comparing a and b: a refusal exactly where one of them is no line, and else their order.
pub record Compares (a b : List ℕ) (r : Result Ordering Refusal) : Type 0 where
  pub refused : (Line a → Line b → ⊥) → r ≡ Err NoLine
  pub ordered : Line a → Line b → Ordered a b r

-- The order as a number: −1 where the first line is the lesser, 1 where it is the greater, 0 where they are equal; a refusal's order
-- is 0.
abbrev pub comparison_order : Result Ordering Refusal → ℤ
comparison_order (Ok Lesser) = negsuc 0
comparison_order (Ok Equal) = pos 0
comparison_order (Ok Greater) = pos 1
comparison_order (Err r) = pos 0

-- A flag that says whether l is no line.
pub record Judged (l : List ℕ) (r : Bool) : Type 0 where
  pub yes : r ≡ true → Line l → ⊥
  pub no : r ≡ false → Line l
