-- What two replies to one command, both as promised, have in common: all but the bytes of the places, since one table may have
-- several best plans. And two commands to which no one plan is an answer (listing_only).
use Rattle.std.specs.Prelude.{ℕ, ◌+◌, ◌≡◌, List, [], ◌∷◌, length, take, drop, Result, Ok, Err}
use Rattle.units.specs.declared.Bytes.{Bytes}
use Rattle.units.specs.declared.refusals.Refusal.{Refusal}
use Rattle.framing.specs.Framing.{header_length}
use Rattle.tables.specs.Payload.{signals_in, ranks_in}
use Rattle.answer.specs.Answer.{answer_length}

-- The first byte of the places in the answer to payload p: behind the block's header, the answer's head and the counts.
unfoldable pub places_start : List ℕ → ℕ
places_start p = header_length (answer_length (signals_in p) (ranks_in p)) + (2 + ranks_in p)

-- Replies r and r' to payload p leave a and w, or a' and w'. They are the same and agree in the whole work area; a refusal in every
-- byte of the area, and an answer in every byte before its places and in every byte behind its block.
pub record SameReply (p : List ℕ) (r : Result Bytes Refusal) (a w : List ℕ) (r' : Result Bytes Refusal) (a' w' : List ℕ) : Type 0 where
  pub reply : r ≡ r'
  pub work : w ≡ w'
  pub size : length a ≡ length a'
  pub refused_bytes : (e : Refusal) → r ≡ Err e → a ≡ a'
  pub front : (n : Bytes) → r ≡ Ok n → take (places_start p) a ≡ take (places_start p) a'
  pub behind : (n : Bytes) → r ≡ Ok n → drop n.0 a ≡ drop n.0 a'

-- The command of a table with one signal, two channels and one rank: the signal lists channel c alone.
abbrev pub listing_only : ℕ → List ℕ
listing_only c = 0x23 ∷ 0x31 ∷ 0x37 ∷ 0x01 ∷ 0x02 ∷ 0x10 ∷ 0x01 ∷ 0x00 ∷ c ∷ 0x10 ∷ []
