-- `framing::put_digits`: with i digits still to write, of the number left, those and what stands from i on are the digits of n.
use Rattle.std.proofs.Common.{◌≡◌, ◌++◌, length, drop}
use Rattle.framing.specs.Framing.{digits_of}
use Rattle.framing.proofs.put_digits.Given as goal

abbrev pub invariant-loop-i : goal.invariant-loop-i
invariant-loop-i l = digits_of l.i l.left ++ drop l.i l.out ≡ digits_of (length l.fn.out) l.n
