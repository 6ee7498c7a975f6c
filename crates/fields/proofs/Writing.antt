-- Writing a field by whole bytes: replacing bits of one byte puts them (byte_put), two fields put side by side are one
-- (puts_more), and what the loop over the bytes keeps (Writing). Leans on proofs/Bits and proofs/Reading.
use Prim.Native.Nat.{ℕ, ◌+◌, ◌-◌, ◌*◌, ◌/◌, ◌%◌, ◌^◌, ◌≤◌, ◌<◌, min}
use mathlib.Core.Path.{◌≡◌, refl, sym, ◌∙◌}
use mathlib.Core.List.{List}
use native.Mathlib.Nat.{mod-eq_of_lt, div-eq_of_lt, add_assoc, lt_of_lt_of_le}
use native.Mathlib.Decide.{dec_lt}
use native.Mathlib.Omega.{arith}
use lib.ListN.{length, get_or, set, length-set}
use lib.Pow.{pow-add, pow_mono, high, low, shr_lt, shr-shr, split}
use lib.Arith.{digits_lt}
use lib.Seq.{get_or-set_same, get_or-set_other}
use Rattle.fields.specs.Fields.{bit_at, number, field_at, Puts, byte_with}
use Rattle.fields.proofs.Reading.{low_below}
use Rattle.fields.proofs.Bits.{field_split, field_bound, field_left, field_right, field_byte, fields_same, fields_determine}

-- ---- one byte b: its n bits that have r bits to their right, replaced by v

-- what stands to their left, and v
abbrev front : ℕ → ℕ → ℕ → ℕ → ℕ
front b n r v = b / 2 ^ (n + r) * 2 ^ n + v

-- v shifted to its place at 64 bits, where a product is cut to 64 bits: nothing is cut off, and the low bits make it a byte.
pub record Shifted (b n r v low : ℕ) : Type 0 where
  pub exact : (((b / 2 ^ (n + r) * 2 ^ n) % 2 ^ 64 + v) * 2 ^ r) % 2 ^ 64 ≡ front b n r v * 2 ^ r
  pub byte : front b n r v * 2 ^ r + low < 256

module _ (b n r v : ℕ) (room : n + r ≤ 8) (is_byte_lem : b < 256) (fits : v < 2 ^ n) where
  kept : b / 2 ^ (n + r) < 2 ^ (8 - (n + r))
  kept =
      let eight : 8 ≡ 8 - (n + r) + (n + r) = omega arith in
      shr_lt (8 - (n + r)) (n + r) (rw (← eight) is_byte_lem)

  front_fits : front b n r v < 2 ^ (8 - r)
  front_fits =
      let wide : 8 - r ≡ 8 - (n + r) + n = omega arith in
      rw (wide, pow-add 2 (8 - (n + r)) n) (digits_lt kept fits)

  -- Nothing is cut off when v is shifted in,
  pub shifted_in : ((b / 2 ^ (n + r) * 2 ^ n) % 2 ^ 64 ≡ b / 2 ^ (n + r) * 2 ^ n) × (front b n r v < 256)
  shifted_in =
      let small : front b n r v < 256 = lt_of_lt_of_le front_fits (pow_mono {i = 8 - r} {j = 8} (omega arith)) in
      (mod-eq_of_lt (omega arith), small)

  -- and nothing when it is shifted to its place.
  pub shifted_back : (low : ℕ) → low < 2 ^ r → Shifted b n r v low
  shifted_back low below =
      let eight : 8 - r + r ≡ 8 = omega arith in
      let whole : front b n r v * 2 ^ r + low < 256 = rw (← pow-add 2 (8 - r) r, eight) at (digits_lt front_fits below) in
      record { exact = rw shifted_in.0 (mod-eq_of_lt (omega arith)); byte = whole }

-- Of two strings, a + w + b bits of the second are those of the first with v in place of the w in the middle.
module _ (s t : List ℕ) (at a w b v : ℕ) (fits : v < 2 ^ w)
    (whole : field_at t at (a + w + b) ≡ (field_at s at a * 2 ^ w + v) * 2 ^ b + field_at s (at + (a + w)) b) where
  byte_with_front : field_at t at (a + w) ≡ field_at s at a * 2 ^ w + v
  byte_with_front =
      sym (field_left t at (a + w) b) ∙ rw whole (high (field_at s at a * 2 ^ w + v) b (field_bound s (at + (a + w)) b))

  byte_with_left : field_at t at a ≡ field_at s at a
  byte_with_left = sym (field_left t at a w) ∙ rw byte_with_front (high (field_at s at a) w fits)

  byte_with_middle : field_at t (at + a) w ≡ v
  byte_with_middle = sym (field_right t at a w) ∙ rw byte_with_front (low (field_at s at a) w fits)

  byte_with_right : field_at t (at + (a + w)) b ≡ field_at s (at + (a + w)) b
  byte_with_right =
      sym (field_right t at (a + w) b) ∙ rw whole (low (field_at s at a * 2 ^ w + v) b (field_bound s (at + (a + w)) b))

other_byte : (s : List ℕ) (i x k : ℕ) → (k / 8 ≡ i → ⊥) → bit_at (set s i x) k ≡ bit_at s k
unfolding bit_at
other_byte s i x k ne = rw (get_or-set_other s i (k / 8) x 0 ne)

-- Byte i with its n bits after the first a replaced by v.
module _ (s : List ℕ) (i a n r v x : ℕ) (there : i < length s) (bytes : (k : ℕ) → get_or s k 0 < 256) (parts : a + n + r ≡ 8)
    (fits : v < 2 ^ n) (is_byte_lem : x < 256)
    (new : x ≡ byte_with (get_or s i 0) n r v) where
  whole : field_at (set s i x) (8 * i) (a + n + r) ≡ (field_at s (8 * i) a * 2 ^ n + v) * 2 ^ r + field_at s (8 * i + (a + n)) r
  whole =
      let stored : get_or (set s i x) i 0 ≡ x = get_or-set_same s i x 0 there in
      let old : field_at s (8 * i) (a + n + r) ≡ get_or s i 0 = rw parts (field_byte s i (bytes i)) in
      let left : get_or s i 0 / 2 ^ (n + r) ≡ field_at s (8 * i) a = rw (← old, add_assoc a n r) (field_left s (8 * i) a (n + r)) in
      let right : get_or s i 0 % 2 ^ r ≡ field_at s (8 * i + (a + n)) r = rw (← old) (field_right s (8 * i) (a + n) r) in
      rw (parts, field_byte (set s i x) i (rw stored is_byte_lem), stored, ← left, ← right) new

  pub byte_put : Puts s (8 * i + a) n v (set s i x)
  byte_put =
      record {
        size = length-set s i x;
        field = byte_with_middle s (set s i x) (8 * i) a n r v fits whole;
        left = λ k l. pick_left k l (dec_lt k (8 * i));
        right = λ k l. pick_right k l (dec_lt k (8 * i + 8));
      }
    where
      pick_left : (k : ℕ) → k < 8 * i + a → Dec (k < 8 * i) → bit_at (set s i x) k ≡ bit_at s k
      pick_left k l (yes h) = other_byte s i x k (λ e. omega arith)
      pick_left k l (no h) =
          fields_determine (set s i x) s (8 * i) a (byte_with_left s (set s i x) (8 * i) a n r v fits whole) k (omega arith) l

      pick_right : (k : ℕ) → 8 * i + a + n ≤ k → Dec (k < 8 * i + 8) → bit_at (set s i x) k ≡ bit_at s k
      pick_right k l (yes h) =
          fields_determine (set s i x) s (8 * i + (a + n)) r (byte_with_right s (set s i x) (8 * i) a n r v fits whole) k
          (omega arith) (omega arith)
      pick_right k l (no h) = other_byte s i x k (λ e. omega arith)

-- ---- one write after another

-- A field to the left of what is written is as it was.
pub puts_before : {s t : List ℕ} {at w v : ℕ} → Puts s at w v t → (a u : ℕ) → a + u ≤ at → field_at t a u ≡ field_at s a u
puts_before {s} {t} p a u h = fields_same t s a u (λ k l l'. p.left k (omega arith))

pub puts_none : (s : List ℕ) (at : ℕ) → Puts s at 0 0 s
unfolding field_at number
puts_none s at = record { size = refl; field = refl; left = λ k l. refl; right = λ k l. refl }

-- Two fields written side by side are one.
pub puts_more : {s t z : List ℕ} {at u x n y : ℕ} → Puts s at u x t → Puts t (at + u) n y z → Puts s at (u + n) (x * 2 ^ n + y) z
puts_more {s} {t} {z} {at} {u} {x} {n} p q =
    record {
      size = q.size ∙ p.size;
      field = field_split z at u n ∙ rw (puts_before q at u (omega arith), p.field, q.field);
      left = λ k l. q.left k (omega arith) ∙ p.left k l;
      right = λ k l. q.right k (omega arith) ∙ p.right k (omega arith);
    }

-- ---- the loop over the bytes

-- With `left` low bits of the value still to write: the bits before them stand, and the next goes into byte i, which has
-- `room` bits from there to its end.
pub record Writing (before : List ℕ) (at width value : ℕ) (now : List ℕ) (i room left : ℕ) : Type 0 where
  pub within : left ≤ width
  pub some : 0 < room
  pub most : room ≤ 8
  pub place : left ≡ at + width - (8 * i + (8 - room))
  pub next : 8 * i < at + width → 8 * i + (8 - room) ≤ at + width
  pub puts : Puts before at (width - left) (value / 2 ^ left) now

pub writing_none : (s : List ℕ) (at width value : ℕ) → value < 2 ^ width
    → Writing s at width value s (at / 8) (8 - at % 8) width
writing_none s at width value fits =
    let none : width - width ≡ 0 = omega arith in
    record {
      within = omega arith;
      some = omega arith;
      most = omega arith;
      place = omega arith;
      next = λ l. omega arith;
      puts = rw (none, div-eq_of_lt fits) (puts_none s at);
    }

-- One turn: n bits go into byte i, all that it has room for or all that are left, with `right` bits of the byte and `later`
-- bits of the value to their right.
pub writing_more : {s t : List ℕ} {at width value i room left : ℕ} (n right later bits x : ℕ) → Writing s at width value t i room left
    → 8 * i < at + width → at + width ≤ 8 * length s → n ≡ min room left → n + right ≡ room → n + later ≡ left
    → ((k : ℕ) → get_or t k 0 < 256) → bits ≡ value / 2 ^ later % 2 ^ n → x < 256 → x ≡ byte_with (get_or t i 0) n right bits
    → Writing s at width value (set t i x) (i + 1) 8 (left - n)
writing_more {s} {t} {at} {width} {value} {i} {room} {left} n right later bits x w more within least in-byte in-value bytes is-bits is_byte_lem new =
    record {
      within = omega arith;
      some = omega arith;
      most = omega arith;
      place = omega (arith, w.place);
      next = λ l. omega arith;
      puts = rw (rest, ← longer, ← high_bits) (puts_more w.puts here);
    }
  where
    rest : left - n ≡ later
    rest = omega arith

    longer : width - left + n ≡ width - later
    longer = omega arith

    high_bits : value / 2 ^ left * 2 ^ n + bits ≡ value / 2 ^ later
    high_bits =
        let all : left ≡ later + n = omega arith in
        rw (all, ← shr-shr value later n, is-bits) (split (value / 2 ^ later) n)

    here : Puts t (at + (width - left)) n bits (set t i x)
    here =
        let start : at + (width - left) ≡ 8 * i + (8 - room) = omega (arith, w.place, w.next more) in
        rw start
        (byte_put t i (8 - room) n right bits x (omega (arith, w.puts.size)) bytes (omega arith)
        (low_below (value / 2 ^ later) n is-bits)
        is_byte_lem
        new)
