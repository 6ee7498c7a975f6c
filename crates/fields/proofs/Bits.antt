-- Laws of a byte string's bits and fields. Main results, at the end: a field is below its power of two (field_bound), two
-- fields side by side are one (field_split), a byte is a field of 8 bits (field_byte, field_bytes), and equal fields have
-- equal bits, and byte strings with equal bits are equal (fields_determine, bits_determine). Leans on proofs/Numbers.
use Prim.Native.Nat.{ℕ, zero, suc, ◌+◌, ◌-◌, ◌*◌, ◌/◌, ◌%◌, ◌^◌, ◌≤◌, ◌<◌}
use mathlib.Core.Path.{◌≡◌, refl, sym, ◌∙◌}
use mathlib.Core.List.{List}
use native.Mathlib.Nat.{mod-eq_of_lt, zero-div}
use native.Mathlib.Omega.{arith}
use lib.ListN.{length, get_or, get_or-eq_default}
use lib.Seq.{ext_get_or}
use Rattle.fields.specs.Fields.{bit_at, number, field_at}
use Rattle.fields.proofs.Numbers.{Binary, number_bound, number_split, number_left, number_right, number_bit, number_of}

pub bits_binary : (s : List ℕ) → Binary (bit_at s)
unfolding bit_at
bits_binary s = record { small = λ k. omega arith }

-- Bit i of byte b, with j bits to its right in the byte.
pub bit_in_byte : (s : List ℕ) (b i j : ℕ) → i + suc j ≡ 8 → bit_at s (8 * b + i) ≡ get_or s b 0 / 2 ^ j % 2
unfolding bit_at
bit_in_byte s b i j e =
    let byte : (8 * b + i) / 8 ≡ b = omega arith in
    let place : 7 - (8 * b + i) % 8 ≡ j = omega arith in
    rw (byte, place)

pub bit_past_end : (s : List ℕ) (k : ℕ) → 8 * length s ≤ k → bit_at s k ≡ 0
unfolding bit_at
bit_past_end s k h =
    let byte : get_or s (k / 8) 0 ≡ 0 = get_or-eq_default s 0 (omega arith) in
    rw (byte, zero-div (2 ^ (7 - k % 8)))

module _ (s : List ℕ) where
  pub field_bound : (at w : ℕ) → field_at s at w < 2 ^ w
  unfolding field_at
  field_bound = number_bound (bit_at s) (bits_binary s)

  pub field_split : (at u w : ℕ) → field_at s at (u + w) ≡ field_at s at u * 2 ^ w + field_at s (at + u) w
  unfolding field_at
  field_split = number_split (bit_at s)

  -- the left and the right part of a field of u + w bits
  pub field_left : (at u w : ℕ) → field_at s at (u + w) / 2 ^ w ≡ field_at s at u
  unfolding field_at
  field_left = number_left (bit_at s) (bits_binary s)

  pub field_right : (at u w : ℕ) → field_at s at (u + w) % 2 ^ w ≡ field_at s (at + u) w
  unfolding field_at
  field_right = number_right (bit_at s) (bits_binary s)

  pub field-bit : (at i j w : ℕ) → i + suc j ≡ w → field_at s at w / 2 ^ j % 2 ≡ bit_at s (at + i)
  unfolding field_at
  field-bit = number_bit (bit_at s) (bits_binary s)

  pub field_byte : (i : ℕ) → get_or s i 0 < 256 → field_at s (8 * i) 8 ≡ get_or s i 0
  unfolding field_at
  field_byte i small = number_of (bit_at s) (8 * i) (get_or s i 0) 8 (bit_in_byte s i) ∙ mod-eq_of_lt small

  pub field_bytes : (i n : ℕ) → get_or s (i + n) 0 < 256
      → field_at s (8 * i) (8 * n + 8) ≡ field_at s (8 * i) (8 * n) * 256 + get_or s (i + n) 0
  field_bytes i n small =
      let next : 8 * i + 8 * n ≡ 8 * (i + n) = omega arith in
      field_split (8 * i) (8 * n) 8 ∙ rw (next, field_byte (i + n) small)

-- Equal bits make equal fields,
pub fields_same : (s t : List ℕ) (at w : ℕ) → ((k : ℕ) → at ≤ k → k < at + w → bit_at s k ≡ bit_at t k)
    → field_at s at w ≡ field_at t at w
unfolding field_at number
fields_same s t at zero same = refl
fields_same s t at (suc w) same =
    rw (fields_same s t at w (λ k l h. same k l (omega arith)), same (at + w) (omega arith) (omega arith))

-- and equal fields have equal bits.
pub fields_determine : (s t : List ℕ) (at w : ℕ) → field_at s at w ≡ field_at t at w
    → (k : ℕ) → at ≤ k → k < at + w → bit_at s k ≡ bit_at t k
fields_determine s t at w e k l h =
    let there : k ≡ at + (k - at) = omega arith in
    let parts : k - at + suc (at + w - suc k) ≡ w = omega arith in
    rw there (sym (field-bit s at (k - at) _ w parts) ∙ rw e (field-bit t at (k - at) _ w parts))

pub bits_determine : (s t : List ℕ) → length s ≡ length t → ((i : ℕ) → get_or s i 0 < 256) → ((i : ℕ) → get_or t i 0 < 256)
    → ((k : ℕ) → k < 8 * length s → bit_at s k ≡ bit_at t k) → s ≡ t
bits_determine s t len bytes-s bytes-t same =
    ext_get_or 0 s t len
    (λ i l.
    sym (field_byte s i (bytes-s i))
    ∙ fields_same s t (8 * i) 8 (λ k h h'. same k (omega arith))
    ∙ field_byte t i (bytes-t i))
