-- What the first bytes of an input say, for every byte string (document 01, "Blocks", rows 1 and 2): which form the block has, and
-- for the definite one how many bytes it counts. A byte past the end reads as 0, which is neither `#` nor a digit.
use Rattle.std.specs.Prelude.{ℕ, zero, suc, ◌+◌, ◌-◌, ◌*◌, ◌≤◌, ◌<◌, ◌≡◌, Bool, true, false, cond, ◌&&◌, List, length, get_or, eqb, leb, Result, Ok, Err}
use Rattle.units.specs.declared.refusals.Refusal.{Refusal}
use Rattle.units.specs.declared.refusals.Refusal.TheVariants.{NoMark, NoDigit}
use Rattle.opening.specs.declared.headers.Header.{Header}
use Rattle.opening.specs.declared.headers.Header.TheVariants.{OpenEnded, Counted}

-- a decimal digit: a byte from `0`, 48, to `9`, 57
unfoldable pub is_digit : ℕ → Bool
is_digit b = leb 48 b && leb b 57

-- The n bytes from index 2 on are all there and all digits.
unfoldable pub digits_at2 : List ℕ → ℕ → Bool
digits_at2 s zero = true
digits_at2 s (suc n) = digits_at2 s n && is_digit (get_or s (2 + n) 0)

-- The number that the n digits from index 2 on write, the most significant first.
unfoldable pub count_at2 : List ℕ → ℕ → ℕ
count_at2 s zero = 0
count_at2 s (suc n) = count_at2 s n * 10 + (get_or s (2 + n) 0 - 48)

-- Where the first byte that is no digit stands, among the n from index 2 on that are not all digits.
unfoldable pub first_other : List ℕ → ℕ → ℕ
first_other s zero = 2
first_other s (suc n) = cond (digits_at2 s n) (2 + n) (first_other s n)

-- so many bytes from index `start` on
unfoldable pub counting : (start n : ℕ) → Header
counting start n = Counted (record { start = start; length = record { 0 = n } })

-- Definite, with k count digits: they are digits, and count the bytes behind them.
unfoldable pub counted_in : List ℕ → ℕ → Result Header Refusal
counted_in s k = cond (digits_at2 s k) (Ok (counting (2 + k) (count_at2 s k))) (Err (NoDigit (first_other s k)))

-- What the first bytes of s say: the mark, a digit, and what the form of that digit needs.
unfoldable pub header_in : List ℕ → Result Header Refusal
header_in s =
    cond (eqb (get_or s 0 0) 35)
    (cond (is_digit (get_or s 1 0))
    (cond (eqb (get_or s 1 0) 48) (Ok OpenEnded) (counted_in s (get_or s 1 0 - 48)))
    (Err (NoDigit 1)))
    (Err NoMark)

-- A digit is missing at byte i, the first such byte: the form needs a digit at byte 1, and as many behind it as that one says.
pub record Missing (s : List ℕ) (i : ℕ) : Type 0 where
  pub mark : get_or s 0 0 ≡ 35
  pub behind : 1 ≤ i
  pub needed : i < 2 + (get_or s 1 0 - 48)
  pub before : (j : ℕ) → 1 ≤ j → j < i → is_digit (get_or s j 0) ≡ true
  pub other : is_digit (get_or s i 0) ≡ false
  pub within : i ≤ length s

-- The header of an open-ended block: `#0`.
pub record OpenHeader (s : List ℕ) : Type 0 where
  pub mark : get_or s 0 0 ≡ 35
  pub form : get_or s 1 0 ≡ 48

-- The header of a definite block: `#`, a digit k from 1 to 9, and k digits that count n bytes from index `start` on.
pub record Counts (s : List ℕ) (start n : ℕ) : Type 0 where
  pub k : ℕ
  pub some : 1 ≤ k
  pub few : k ≤ 9
  pub mark : get_or s 0 0 ≡ 35
  pub form : get_or s 1 0 ≡ 48 + k
  pub digits : digits_at2 s k ≡ true
  pub at : start ≡ 2 + k
  pub value : n ≡ count_at2 s k

-- What each answer tells of the bytes. No other refusal is ever answered.
unfoldable pub HeaderSays : List ℕ → Result Header Refusal → Type 0
HeaderSays s (Err NoMark) = get_or s 0 0 ≡ 35 → ⊥
HeaderSays s (Err (NoDigit i)) = Missing s i
HeaderSays s (Err other) = ⊥
HeaderSays s (Ok OpenEnded) = OpenHeader s
HeaderSays s (Ok (Counted part)) = Counts s part.start part.length.0
