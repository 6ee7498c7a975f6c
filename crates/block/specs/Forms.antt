-- The two forms of a block, as document 01 describes them and whatever opens it: s is a block, p the payload that it marks; and what
-- it means that opening hands a payload back.
use Rattle.std.specs.Prelude.{ℕ, ◌<◌, ◌≡◌, List, [], ◌∷◌, ◌++◌, length, get_or, drop}
use Rattle.units.specs.Refusals.{success, status_of}
use Rattle.opening.specs.Header.{OpenHeader, Counts}
use Rattle.opening.specs.Opening.{opening_of, payload_of}

-- Definite: a header that counts the bytes of the payload, from index `start` on, then the payload and nothing more.
pub record DefiniteForm (s p : List ℕ) : Type 0 where
  pub start : ℕ
  pub header : Counts s start (length p)
  pub rest : drop start s ≡ p

-- Open-ended: `#0`, then a payload without a newline, then a newline and nothing more.
pub record OpenEndedForm (s p : List ℕ) : Type 0 where
  pub header : OpenHeader s
  pub rest : drop 2 s ≡ p ++ (10 ∷ [])
  pub plain : (i : ℕ) → i < length p → get_or p i 0 ≡ 10 → ⊥

-- s is a block of one form or the other, and p is its payload.
pub data Block (s p : List ℕ) : Type 0 where
  definite : DefiniteForm s p → Block s p
  open_ended : OpenEndedForm s p → Block s p

-- Opening s succeeds, and hands back p.
pub record HandsBack (s p : List ℕ) : Type 0 where
  pub succeeds : status_of (opening_of s) ≡ success
  pub payload : payload_of s ≡ p
