-- How a block must end: one law for each way through the rule of its form; what opening finds lies within the input (inside), and
-- what it refuses has a number from 1 to 3 (opening_refused). Leans on specs/Opening.
use Prim.Native.Nat.{ℕ, ◌+◌, ◌≤◌}
use mathlib.Core.Path.{◌≡◌, refl}
use mathlib.Core.List.{List, []}
use native.Mathlib.Omega.{arith}
use lib.ListN.{length, take, drop}
use Rattle.std.proofs.Common.{rules, tests}
use Rattle.std.proofs.lemmas.Bool.Decides.{nat_tests}
use Rattle.std.specs.Prelude.{Result, Ok, Err}
use Rattle.units.specs.declared.refusals.Refusal.{Refusal}
use Rattle.units.specs.declared.refusals.Refusal.TheVariants.{NoMark, NoDigit}
use Rattle.units.specs.Refusals.{number_of}
use Rattle.opening.specs.declared.headers.Part.{Part}
use Rattle.opening.specs.declared.headers.Header.{Header}
use Rattle.opening.specs.declared.headers.Header.TheVariants.{OpenEnded, Counted}
use Rattle.opening.specs.Header.{header_in, HeaderSays}
use Rattle.opening.proofs.Reading.{header_says}
use Rattle.opening.specs.Opening.{ended_of, counted_of, opening_by, opening_of, opening_start, opening_length, payload_of, from}

-- Definite

module _ (s : List ℕ) (start n : ℕ) where
  pub counted_ends : start + n ≡ length s → counted_of s start n ≡ from start n
  unfolding counted_of
  counted_ends e = grind (arith, nat_tests)

-- the header that was read decides
pub opening_from : (s : List ℕ) (h g : Result Header Refusal) → h ≡ header_in s → h ≡ g → opening_of s ≡ opening_by s g
unfolding opening_of
opening_from s h g read e = rw (← read, e) refl

-- Whatever opening finds lies within the input.

Inside : List ℕ → Result Part Refusal → Type 0
Inside s o = opening_start o + opening_length o ≤ length s

inside_by : (s : List ℕ) (h : Result Header Refusal) → Inside s (opening_by s h)
unfolding Inside opening_by ended_of counted_of from
inside_by s (Err r) = omega arith
inside_by s (Ok OpenEnded) = search (rules, tests)
inside_by s (Ok (Counted part)) = search (rules, tests)

module _ (s : List ℕ) (o : Result Part Refusal) (found : o ≡ opening_of s) where
  pub inside : opening_start o + opening_length o ≤ length s
  unfolding opening_of Inside
  inside = rw found (inside_by s (header_in s))

pub part_inside : (s : List ℕ) {part : Part} → Ok part ≡ opening_of s → part.start + part.length.0 ≤ length s
part_inside s {part} = inside s (Ok part)

-- The bytes of the part that opening finds are the payload.
pub part_payload : (s : List ℕ) {part : Part} → Ok part ≡ opening_of s → take part.length.0 (drop part.start s) ≡ payload_of s
unfolding payload_of
part_payload s e = rw (← e) refl

-- A block that is refused has no payload.
pub part_none : (s : List ℕ) {r : Refusal} → Err r ≡ opening_of s → [] ≡ payload_of s
unfolding payload_of
part_none s e = rw (← e) refl

-- A refusal has one of the rows' numbers.

OpeningNumbered : Result Part Refusal → Type 0
OpeningNumbered (Err r) = (1 ≤ number_of r) × (number_of r ≤ 3)
OpeningNumbered (Ok part) = Unit

opening_numbered : (s : List ℕ) (h : Result Header Refusal) → HeaderSays s h → OpeningNumbered (opening_by s h)
unfolding HeaderSays OpeningNumbered opening_by ended_of counted_of from
opening_numbered s (Err NoMark) f = search rules
opening_numbered s (Err (NoDigit i)) f = search rules
opening_numbered s (Err other) f = absurd f
opening_numbered s (Ok OpenEnded) f = search (rules, tests)
opening_numbered s (Ok (Counted part)) f = search (rules, tests)

pub opening_refused : (s : List ℕ) {r : Refusal} → opening_of s ≡ Err r → (1 ≤ number_of r) × (number_of r ≤ 3)
unfolding opening_of OpeningNumbered
opening_refused s {r} e = rw e at (opening_numbered s (header_in s) (header_says s))
