-- How tight the promises of opening and framing are: two results that meet one of them on the same input are equal, in number, place,
-- start, length and every byte of lent memory. Main results: open_tight, payload_tight, frame_tight, header_tight.
use Prim.Native.Nat.{ℕ}
use mathlib.Core.Path.{◌≡◌, ap, sym, ◌∙◌}
use mathlib.Core.List.{List}
use Rattle.std.specs.Prelude.{Result}
use Rattle.units.specs.declared.Bytes.{Bytes}
use Rattle.units.specs.declared.refusals.Refusal.{Refusal}
use Rattle.opening.specs.declared.headers.Part.{Part}
use Rattle.opening.specs.Opening.{opening_of, payload_of}
use Rattle.framing.specs.Framing.{Frames, Heads, area_after}

pub open_tight : (s : List ℕ) (r r' : Result Part Refusal) → r ≡ opening_of s → r' ≡ opening_of s → r ≡ r'
open_tight s r r' e e' = e ∙ sym e'

pub payload_tight : (s part part' : List ℕ) → part ≡ payload_of s → part' ≡ payload_of s → part ≡ part'
payload_tight s part part' e e' = e ∙ sym e'

-- two outcomes agree in what is answered and in every byte of the area
pub record SameOutcome {A : Type 0} (r r' : A) (after after' : List ℕ) : Type 0 where
  pub answer : r ≡ r'
  pub bytes : after ≡ after'

pub frame_tight : (p area : List ℕ) (r r' : Result Bytes Refusal) (after after' : List ℕ) → Frames p area r after → Frames p area r' after' → SameOutcome r r' after after'
frame_tight p area r r' after after' f f' =
    let same : r ≡ r' = f.answer ∙ sym f'.answer in
    record { answer = same; bytes = f.bytes ∙ ap (λ (o : Result Bytes Refusal). area_after o p area) same ∙ sym f'.bytes }

pub header_tight : (n : ℕ) (area : List ℕ) (r r' : ℕ) (after after' : List ℕ) → Heads n area r after → Heads n area r' after' → SameOutcome r r' after after'
header_tight n area r r' after after' h h' = record { answer = h.answer ∙ sym h'.answer; bytes = h.bytes ∙ sym h'.bytes }
