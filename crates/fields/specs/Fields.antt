-- Bits and fields of a byte string, the most significant bit first: what stands at a bit (bit_at, field_at), what writing
-- one field does (Puts), and how a list of fields is packed into bytes (packed). A bit past the end reads as 0.
use Rattle.std.specs.Prelude.{ℕ, zero, suc, ◌+◌, ◌-◌, ◌*◌, ◌/◌, ◌%◌, ◌^◌, ◌≤◌, ◌<◌, ◌≡◌, List, [], ◌∷◌, ◌++◌, length, get_or}

-- Bit k of a byte string, counted from 0 with the most significant bit of byte 0 first; 0 past the end.
unfoldable pub bit_at : List ℕ → ℕ → ℕ
bit_at s k = get_or s (k / 8) 0 / 2 ^ (7 - k % 8) % 2

-- The number that w bits write, the most significant first: bit `at`, bit `at + 1` and so on.
unfoldable pub number : (ℕ → ℕ) → ℕ → ℕ → ℕ
number bit at zero = 0
number bit at (suc w) = 2 * number bit at w + bit (at + w)

-- The field of w bits from bit `at` of a byte string on.
unfoldable pub field_at : List ℕ → ℕ → ℕ → ℕ
field_at s at w = number (bit_at s) at w

-- The promise of writing v into the w bits from bit `at` on: they hold v, and every other bit is as before.
pub record Puts (before : List ℕ) (at w v : ℕ) (after : List ℕ) : Type 0 where
  pub size : length after ≡ length before
  pub field : field_at after at w ≡ v
  pub left : (k : ℕ) → k < at → bit_at after k ≡ bit_at before k
  pub right : (k : ℕ) → at + w ≤ k → bit_at after k ≡ bit_at before k

-- A byte b with the n bits that have r bits to their right replaced by v.
abbrev pub byte_with : ℕ → ℕ → ℕ → ℕ → ℕ
byte_with b n r v = (b / 2 ^ (n + r) * 2 ^ n + v) * 2 ^ r + b % 2 ^ r

-- A field to be packed: so many bits, and the number that they write.
pub record Field : Type 0 where
  pub width : ℕ
  pub value : ℕ

-- the w low bits of v, the most significant first
unfoldable pub bits_of : ℕ → ℕ → List ℕ
bits_of zero v = []
bits_of (suc w) v = bits_of w (v / 2) ++ (v % 2 ∷ [])

-- the bits of fields, one field after the other, and how many they are
unfoldable pub all_bits : List Field → List ℕ
all_bits [] = []
all_bits (f ∷ fs) = bits_of f.width f.value ++ all_bits fs

unfoldable pub bits_in : List Field → ℕ
bits_in [] = 0
bits_in (f ∷ fs) = f.width + bits_in fs

-- The first n bytes that bits make: byte i has bits 8i to 8i + 7, and a bit past the last is 0.
unfoldable pub gathered : List ℕ → ℕ → List ℕ
gathered bits zero = []
gathered bits (suc n) = gathered bits n ++ (number (λ k. get_or bits k 0) (8 * n) 8 ∷ [])

-- The fields packed: as many bytes as hold their bits, zero bits filling the last.
unfoldable pub packed : List Field → List ℕ
packed fs = gathered (all_bits fs) ((bits_in fs + 7) / 8)

-- A byte string holds these fields one after the other from bit `at` on.
pub data Holds (s : List ℕ) : ℕ → List Field → Type 0 where
  holds_none : {at : ℕ} → Holds s at []
  holds_next : {at : ℕ} {f : Field} {fs : List Field} → field_at s at f.width ≡ f.value → Holds s (at + f.width) fs
      → Holds s at (f ∷ fs)

-- All that makes a byte string the packing of these fields: as many bytes as hold their bits, each below 256, the fields
-- from bit 0 on, and zero bits after them.
pub record Packs (fs : List Field) (s : List ℕ) : Type 0 where
  pub size : length s ≡ (bits_in fs + 7) / 8
  pub bytes : (i : ℕ) → get_or s i 0 < 256
  pub fields : Holds s 0 fs
  pub fill : (k : ℕ) → bits_in fs ≤ k → bit_at s k ≡ 0
