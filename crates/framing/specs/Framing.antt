-- What framing a payload answers and leaves in the lent area, for every payload and every area (document 01, "Blocks",
-- rows 6 and 10). Every length here counts bytes.
use Rattle.std.specs.Prelude.{ℕ, zero, suc, ◌+◌, ◌/◌, ◌%◌, ◌≤◌, ◌≡◌, cond, List, [], ◌∷◌, ◌++◌, length, drop, ltb, Result, Ok, Err}
use Rattle.units.specs.declared.Bytes.{Bytes}
use Rattle.units.specs.declared.refusals.Refusal.{Refusal}
use Rattle.units.specs.declared.refusals.Refusal.TheVariants.{TooLong, NoRoom}

-- the longest payload that framing takes
abbrev pub longest : ℕ
longest = 7504

-- The fewest digits that write n, at least one; below 10,000 four are enough.
unfoldable pub width_of : ℕ → ℕ
width_of n = cond (ltb n 10) 1 (cond (ltb n 100) 2 (cond (ltb n 1000) 3 4))

-- the k last decimal digits of n as bytes, the most significant first
unfoldable pub digits_of : ℕ → ℕ → List ℕ
digits_of zero n = []
digits_of (suc k) n = digits_of k (n / 10) ++ ((48 + n % 10) ∷ [])

-- The header of n bytes: `#`, the number of digits, and the digits of n.
unfoldable pub header_of : ℕ → List ℕ
header_of n = 35 ∷ (48 + width_of n) ∷ digits_of (width_of n) n

-- The block of a payload: the header that counts its bytes, then the payload.
unfoldable pub block_of : List ℕ → List ℕ
block_of p = header_of (length p) ++ p

-- how long the header of n bytes is, and the block of a payload of n bytes
unfoldable pub header_length : ℕ → ℕ
header_length n = 2 + width_of n

unfoldable pub block_length : ℕ → ℕ
block_length n = header_length n + n

-- What framing a payload of n bytes into an area of m bytes answers.
unfoldable pub framing_of : (n m : ℕ) → Result Bytes Refusal
framing_of n m =
    cond (ltb longest n) (Err TooLong) (cond (ltb m (block_length n)) (Err NoRoom) (Ok (record { 0 = block_length n })))

-- The length of the block that was written, 0 for a refusal.
abbrev pub framing_length : Result Bytes Refusal → ℕ
framing_length (Err r) = 0
framing_length (Ok n) = n.0

-- What the area holds afterwards: on a refusal what it held; else the block at its start, and later bytes as they were.
unfoldable pub area_after : Result Bytes Refusal → (p area : List ℕ) → List ℕ
area_after (Err r) p area = area
area_after (Ok n) p area = block_of p ++ drop n.0 area

-- The promise of framing p into an area: the answer, and every byte of the area at exit.
pub record Frames (p area : List ℕ) (r : Result Bytes Refusal) (after : List ℕ) : Type 0 where
  pub answer : r ≡ framing_of (length p) (length area)
  pub bytes : after ≡ area_after r p area

-- The header of n bytes may be written: a payload of n bytes may be framed, and the area has room for the header.
pub record Headable (n : ℕ) (area : List ℕ) : Type 0 where
  pub short : n ≤ longest
  pub room : header_length n ≤ length area

-- The promise of writing a header alone: its length, and the header at the area's start with the rest as it was.
pub record Heads (n : ℕ) (area : List ℕ) (r : ℕ) (after : List ℕ) : Type 0 where
  pub answer : r ≡ header_length n
  pub bytes : after ≡ header_of n ++ drop (header_length n) area
