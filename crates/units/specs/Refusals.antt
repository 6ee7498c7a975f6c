-- Every refusal of the box, with its number in the table of refusals, and its place. A row's refusal is given exactly when no earlier
-- row applies and the row's condition holds; the conditions stand with the steps that judge them.
use Rattle.std.specs.Prelude.{ℕ, Result, Ok, Err}
use Rattle.units.specs.declared.refusals.Refusal.{Refusal}
use Rattle.units.specs.declared.refusals.Refusal.TheVariants.{NoMark, NoDigit, WrongEnd, Short, TooLarge, NoLine, WrongLength, TooLong, DirtyFill, NotInTable, NotAbove, NoRoom, NoWork}
use Rattle.units.specs.declared.refusals.Status.{Status}

-- The number of each refusal, which is its row's.
abbrev pub number_of : Refusal → ℕ
-- Opening a block

-- Row 1: the input is empty, or its first byte is not `#`.
number_of NoMark = 1
-- Row 2: byte i is missing or no digit, where the form needs one.
number_of (NoDigit i) = 2
-- Row 3: the block whose payload starts at byte `start` does not end as its form says.
number_of (WrongEnd start) = 3
-- Checking a payload

-- Row 4: it is shorter than its head.
number_of Short = 4
-- Row 5: it has too many signals, channels or pairs; and for a line: too many counts, or too large a count.
number_of TooLarge = 5
number_of NoLine = 5
-- Row 6: it has not as many bytes as its pairs take; and for framing: it is longer than any payload.
number_of WrongLength = 6
number_of TooLong = 6
-- Row 7: a fill bit is not zero.
number_of DirtyFill = 7
-- Row 8: the signal, channel or rank of entry i is not one of the table's.
number_of (NotInTable i) = 8
-- Row 9: entry i does not stand strictly above the one before.
number_of (NotAbove i) = 9
-- Room

-- Row 10: the lent area is shorter than the whole block to be written.
number_of NoRoom = 10
-- Row 11: the work area has too few numbers.
number_of NoWork = 11

-- The place of each refusal: the entry's index for rows 8 and 9, and 0 for all others.
abbrev pub place_of : Refusal → ℕ
place_of NoMark = 0
place_of (NoDigit i) = 0
place_of (WrongEnd start) = 0
place_of Short = 0
place_of TooLarge = 0
place_of NoLine = 0
place_of WrongLength = 0
place_of TooLong = 0
place_of DirtyFill = 0
place_of (NotInTable i) = i
place_of (NotAbove i) = i
place_of NoRoom = 0
place_of NoWork = 0

-- What a block's refusal says of its payload's, when the payload starts at byte `start`: an entry's index counts from the
-- payload's first entry either way, so the place is the same.
abbrev pub in_block : (start : ℕ) → Refusal → Refusal
in_block start r = r

-- How C is told of a refusal, and of success: number 0 and place 0.
abbrev pub refused_with : Refusal → Status
refused_with r = record { number = number_of r; place = place_of r }

abbrev pub success : Status
success = record { number = 0; place = 0 }

-- How C is told of a step's answer.
abbrev pub status_of : {T : Type 0} → Result T Refusal → Status
status_of (Ok v) = success
status_of (Err r) = refused_with r
