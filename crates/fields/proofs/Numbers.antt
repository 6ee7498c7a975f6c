-- Laws of the number that bits write: its bound, its parts (number_split, number_left, number_right, number_bit), and the
-- number that the binary digits of v write (number_of). Leans on specs/Fields and the laws of powers.
use Prim.Native.Nat.{ℕ, zero, suc, ◌+◌, ◌*◌, ◌/◌, ◌%◌, ◌^◌, ◌<◌}
use mathlib.Core.Path.{◌≡◌, sym, ◌∙◌}
use native.Mathlib.Nat.{add-zero, add-suc, add_assoc, pow-suc}
use native.Mathlib.Numerals.{add-one, one-add}
use native.Mathlib.Omega.{arith}
use lib.Pow.{high, low, shr-shr, mod-pow-add}
use Rattle.fields.specs.Fields.{number}

-- every bit is 0 or 1
pub record Binary (bit : ℕ → ℕ) : Type 0 where
  pub small : (k : ℕ) → bit k < 2

module _ (bit : ℕ → ℕ) where
  pub number_split : (at u w : ℕ) → number bit at (u + w) ≡ number bit at u * 2 ^ w + number bit (at + u) w
  unfolding number
  number_split at u zero = rw (add-zero u) (omega arith)
  number_split at u (suc w) = rw (add-suc, pow-suc, add_assoc) (omega (arith, number_split at u w))

  module _ (binary : Binary bit) where
    pub number_bound : (at w : ℕ) → number bit at w < 2 ^ w
    unfolding number
    number_bound at zero = omega arith
    number_bound at (suc w) = omega (arith, number_bound at w, binary.small (at + w))

    -- the left and the right part of u + w bits
    pub number_left : (at u w : ℕ) → number bit at (u + w) / 2 ^ w ≡ number bit at u
    number_left at u w = rw (number_split at u w) (high (number bit at u) w (number_bound (at + u) w))

    pub number_right : (at u w : ℕ) → number bit at (u + w) % 2 ^ w ≡ number bit (at + u) w
    number_right at u w = rw (number_split at u w) (low (number bit at u) w (number_bound (at + u) w))

    -- one bit, with i bits to its left and j to its right
    pub number_bit : (at i j w : ℕ) → i + suc j ≡ w → number bit at w / 2 ^ j % 2 ≡ bit (at + i)
    unfolding number
    number_bit at i j w e =
        let parts : w ≡ suc i + j = omega arith in
        rw (parts, number_left at (suc i) j) (omega (arith, binary.small (at + i)))

-- digit j of v's half is digit j + 1 of v
pub half_digit : (v j : ℕ) → v / 2 / 2 ^ j % 2 ≡ v / 2 ^ suc j % 2
half_digit v j = rw (← one-add j, ← shr-shr v 1 j)

-- Bits that are the binary digits of v, the one with j bits to its right being digit j, write the w low digits of v.
pub number_of : (bit : ℕ → ℕ) (at v w : ℕ) → ((i j : ℕ) → i + suc j ≡ w → bit (at + i) ≡ v / 2 ^ j % 2)
    → number bit at w ≡ v % 2 ^ w
unfolding number
number_of bit at v zero digit = omega arith
number_of bit at v (suc w) digit =
    omega (arith, number_of bit at (v / 2) w halved, digit w 0 (omega arith), rw (add-one w) at (mod-pow-add v w 1))
  where
    halved : (i j : ℕ) → i + suc j ≡ w → bit (at + i) ≡ v / 2 / 2 ^ j % 2
    halved i j e = digit i (suc j) (omega arith) ∙ sym (half_digit v j)
