-- Every refusal has a number above 0 (numbered), so that number 0 tells success and nothing else.
use Prim.Native.Nat.{ℕ, ◌≤◌}
use native.Mathlib.Omega.{arith}
use Rattle.units.specs.declared.refusals.Refusal.{Refusal}
use Rattle.units.specs.declared.refusals.Refusal.TheVariants.{NoMark, NoDigit, WrongEnd, Short, TooLarge, NoLine, WrongLength, TooLong, DirtyFill, NotInTable, NotAbove, NoRoom, NoWork}
use Rattle.units.specs.Refusals.{number_of}

pub numbered : (e : Refusal) → 1 ≤ number_of e
numbered NoMark = omega arith
numbered (NoDigit i) = omega arith
numbered (WrongEnd start) = omega arith
numbered Short = omega arith
numbered TooLarge = omega arith
numbered NoLine = omega arith
numbered WrongLength = omega arith
numbered TooLong = omega arith
numbered DirtyFill = omega arith
numbered (NotInTable i) = omega arith
numbered (NotAbove i) = omega arith
numbered NoRoom = omega arith
numbered NoWork = omega arith
