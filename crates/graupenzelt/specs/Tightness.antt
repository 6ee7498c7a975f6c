-- What two replies of a whole command to C, both as promised, have in common: all but the bytes of the places.
use Rattle.std.specs.Prelude.{◌≡◌, List, ℕ, length, take, drop}
use Rattle.command.specs.Tightness.{places_start}
use Rattle.graupenzelt.specs.declared.Reply.{Reply}

-- Replies r and r' to payload p leave a and w, or a' and w'. They agree in all numbers and in the whole work area; a refusal, whose number
-- is not 0, in every byte of the area, and an answer in every byte before its places and in every byte behind its block.
pub record SameTold (p : List ℕ) (r : Reply) (a w : List ℕ) (r' : Reply) (a' w' : List ℕ) : Type 0 where
  pub reply : r ≡ r'
  pub work : w ≡ w'
  pub size : length a ≡ length a'
  pub refused_bytes : (r.status.number ≡ 0 → ⊥) → a ≡ a'
  pub front : r.status.number ≡ 0 → take (places_start p) a ≡ take (places_start p) a'
  pub behind : drop r.length a ≡ drop r.length a'
