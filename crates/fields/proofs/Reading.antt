-- Reading a field by whole bytes: what a mask keeps (masked), what five bytes joined are (five_joined), and that the field
-- is what is left of them once the bits to its right are shifted out (read_field). Leans on proofs/Bits.
use Prim.Native.Nat.{ℕ, ◌+◌, ◌-◌, ◌*◌, ◌/◌, ◌%◌, ◌^◌, ◌≤◌, ◌<◌}
use mathlib.Core.Path.{◌≡◌, ◌∙◌}
use mathlib.Core.List.{List}
use native.Mathlib.Nat.{mod-lt, one-mul, lt_of_lt_of_le}
use native.Mathlib.Omega.{arith}
use lib.ListN.{get_or}
use lib.Pow.{pow_pos, pow_mono, shl_exact}
use lib.Bits.{bit_and, and_mask}
use Rattle.std.proofs.Common.{Fits, w8}
use Rattle.fields.specs.Fields.{field_at}
use Rattle.fields.proofs.Bits.{field_left, field_right, field_byte, field_bytes}

-- `1 << n` at 64 bits is a product cut to 64 bits, and nothing is cut off
one_shifted : (n : ℕ) → n < 64 → (1 * 2 ^ n) % 2 ^ 64 ≡ 2 ^ n
one_shifted n h = shl_exact {a = 1} 1 n 64 (omega arith) (omega arith) ∙ one-mul (2 ^ n)

pub masked : (x n : ℕ) → n < 64 → bit_and x ((1 * 2 ^ n) % 2 ^ 64 - 1) ≡ x % 2 ^ n
masked x n h = rw (one_shifted n h) (and_mask x n)

-- w low bits are below 2 ^ w, and up to 32 of them fit 32 bits
pub low_below : {r : ℕ} (x w : ℕ) → r ≡ x % 2 ^ w → r < 2 ^ w
low_below x w e = rw e (mod-lt x (pow_pos w))

pub low_fits : {r : ℕ} (x w : ℕ) → r ≡ x % 2 ^ w → w ≤ 32 → r < 2 ^ 32
low_fits x w e h = lt_of_lt_of_le (low_below x w e) (pow_mono h)

module _ (s : List ℕ) where
  pub five_joined : (i : ℕ) → ((k : ℕ) → Fits w8 (get_or s k 0)) → field_at s (8 * i) 40
      ≡ (((get_or s i 0 * 256 + get_or s (i + 1) 0) * 256 + get_or s (i + 2) 0) * 256 + get_or s (i + 3) 0) * 256 + get_or s (i + 4) 0
  five_joined i bytes =
      omega (
        arith,
        field_byte s i (bytes i).fits,
        field_bytes s i 1 (bytes (i + 1)).fits,
        field_bytes s i 2 (bytes (i + 2)).fits,
        field_bytes s i 3 (bytes (i + 3)).fits,
        field_bytes s i 4 (bytes (i + 4)).fits,
      )

  -- The field at `at`, with `left` bits between the start of byte i and it, and `right` bits after it in the five bytes.
  pub read_field : (at w left right i : ℕ) → 8 * i + left ≡ at → left + w + right ≡ 40
      → field_at s (8 * i) 40 / 2 ^ right % 2 ^ w ≡ field_at s at w
  read_field at w left right i place parts =
      rw (← place, ← parts, field_left s (8 * i) (left + w) right) (field_right s (8 * i) left w)
