-- How tight the promise of checking is: two answers that meet it on the same payload are the same, and so agree in number, in place
-- and in the four numbers of the size. Main result: check_tight.
use Prim.Native.Nat.{ℕ}
use mathlib.Core.Path.{◌≡◌, sym, ◌∙◌}
use mathlib.Core.List.{List}
use Rattle.std.specs.Prelude.{Result}
use Rattle.units.specs.declared.Size.{Size}
use Rattle.units.specs.declared.refusals.Refusal.{Refusal}
use Rattle.table.specs.Checking.{checked_of}

pub check_tight : (p : List ℕ) (r r' : Result Size Refusal) → r ≡ checked_of p → r' ≡ checked_of p → r ≡ r'
check_tight p r r' e e' = e ∙ sym e'
