-- What opening a block finds, for every byte string (document 01, "Blocks", rows 1 to 3): the header of specs/Header, and the rule of
-- how a block of each form must end.
use Rattle.std.specs.Prelude.{ℕ, ◌+◌, cond, List, length, take, drop, eqb, Result, Ok, Err}
use Rattle.std.specs.List.{position_or_len}
use Rattle.units.specs.declared.refusals.Refusal.{Refusal}
use Rattle.units.specs.declared.refusals.Refusal.TheVariants.{WrongEnd}
use Rattle.opening.specs.declared.headers.Part.{Part}
use Rattle.opening.specs.declared.headers.Header.{Header}
use Rattle.opening.specs.declared.headers.Header.TheVariants.{OpenEnded, Counted}
use Rattle.opening.specs.Header.{header_in}

-- a payload of n bytes from index `start` on
unfoldable pub from : (start n : ℕ) → Result Part Refusal
from start n = Ok (record { start = start; length = record { 0 = n } })

-- The index of the first byte b of s, or the length of s where there is none.
unfoldable pub index_of : ℕ → List ℕ → ℕ
index_of b s = position_or_len (λ x. eqb x b) s

-- Open-ended, `#0`: the payload runs up to the first newline, byte 10, which is the last byte of the input.
unfoldable pub ended_of : List ℕ → Result Part Refusal
ended_of s = cond (eqb (2 + index_of 10 (drop 2 s) + 1) (length s)) (from 2 (index_of 10 (drop 2 s))) (Err (WrongEnd 2))

-- Definite: n bytes are counted from index `start` on, and there the input ends.
unfoldable pub counted_of : List ℕ → (start n : ℕ) → Result Part Refusal
counted_of s start n = cond (eqb (start + n) (length s)) (from start n) (Err (WrongEnd start))

-- What a header makes of s.
unfoldable pub opening_by : List ℕ → Result Header Refusal → Result Part Refusal
opening_by s (Err r) = Err r
opening_by s (Ok OpenEnded) = ended_of s
opening_by s (Ok (Counted part)) = counted_of s part.start part.length.0

-- What opening s finds.
unfoldable pub opening_of : List ℕ → Result Part Refusal
opening_of s = opening_by s (header_in s)

-- Where the payload starts, and how many bytes it has, both 0 for a refusal.
abbrev pub opening_start : Result Part Refusal → ℕ
opening_start (Err r) = 0
opening_start (Ok part) = part.start

abbrev pub opening_length : Result Part Refusal → ℕ
opening_length (Err r) = 0
opening_length (Ok part) = part.length.0

-- The payload that opening s hands back: the part of s that the answer marks, empty for a refusal.
unfoldable pub payload_of : List ℕ → List ℕ
payload_of s = take (opening_length (opening_of s)) (drop (opening_start (opening_of s)) s)
