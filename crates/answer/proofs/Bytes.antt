-- The bytes that the answer's fields are packed into, group by group: head_bytes, two_bytes, last_bytes; rows of fields grow by such
-- groups (row_count, row_two, row_last); how many bytes there are in all (length_payload, length_answer); and that plans with one
-- line have answers that agree up to the places (same_front).
-- Leans on the laws of packing.
use Prim.Native.Nat.{ℕ, zero, suc, ◌+◌, ◌*◌, ◌/◌, ◌%◌, ◌<◌}
use mathlib.Core.Path.{◌≡◌, refl, ap, sym, ◌∙◌}
use mathlib.Core.List.{List, [], ◌∷◌, ◌++◌, append_assoc}
use native.Mathlib.Nat.{mul-suc, mul-zero}
use native.Mathlib.Omega.{arith}
use lib.ListN.{length, take, length-append}
use lib.Seq.{take_at}
use Rattle.fields.specs.Fields.{number, bits_of, all_bits, bits_in, gathered, packed}
use Rattle.fields.proofs.Packing.{bits_in_append, length-packed, packed-append}
use Rattle.plans.specs.Plan.{Table, Places, line}
use Rattle.plans.specs.Order.{Same}
use Rattle.answer.specs.Answer.{field, head_fields, row, payload_fields, place_for, answer_fields, answer_of, answer_length}

-- Groups of fields that fill whole bytes, or end with zero bits

two : {a b x y : ℕ} → a ≡ x → b ≡ y → a ∷ b ∷ [] ≡ x ∷ y ∷ []
two e f = rw (e, f) refl

pub head_bytes : (S R : ℕ) → S < 256 → R < 16 → packed (head_fields S R) ≡ S ∷ (16 * R) ∷ []
unfolding packed gathered all_bits bits_of bits_in number
head_bytes S R l m = two (omega arith) (omega arith)

one_byte : (x : ℕ) → x < 256 → packed (field 8 x ∷ []) ≡ x ∷ []
unfolding packed gathered all_bits bits_of bits_in number
one_byte x l = ap (λ (a : ℕ). a ∷ []) (omega arith)

-- the number that the four low bits of x write, and that they write behind a number a
low_four : (x : ℕ) → 2 * (2 * (2 * (0 + x / 2 / 2 / 2 % 2) + x / 2 / 2 % 2) + x / 2 % 2) + x % 2 ≡ x % 16
low_four x = omega arith

four_more : (a x : ℕ) → 2 * (2 * (2 * (2 * a + x / 2 / 2 / 2 % 2) + x / 2 / 2 % 2) + x / 2 % 2) + x % 2 ≡ a * 16 + x % 16
four_more a x = omega arith

pub two_bytes : (p q : ℕ) → p < 4096 → q < 4096
    → packed (field 12 p ∷ field 12 q ∷ []) ≡ (p / 16) ∷ (p % 16 * 16 + q / 256) ∷ (q % 256) ∷ []
unfolding packed gathered all_bits bits_of bits_in number
two_bytes p q l m =
    three (omega arith) (rw (low_four p) (four_more (p % 16) (q / 2 / 2 / 2 / 2 / 2 / 2 / 2 / 2) ∙ omega arith))
    (rw (low_four (q / 2 / 2 / 2 / 2)) (four_more (q / 2 / 2 / 2 / 2 % 16) q ∙ rw sixteenth low_byte))
  where
    sixteenth : q / 2 / 2 / 2 / 2 ≡ q / 16
    sixteenth = omega arith

    low_byte : q / 16 % 16 * 16 + q % 16 ≡ q % 256
    low_byte = omega arith

    three : {a b c x y z : ℕ} → a ≡ x → b ≡ y → c ≡ z → a ∷ b ∷ c ∷ [] ≡ x ∷ y ∷ z ∷ []
    three e f g = rw (e, f, g) refl

pub last_bytes : (p : ℕ) → p < 4096 → packed (field 12 p ∷ []) ≡ (p / 16) ∷ (p % 16 * 16) ∷ []
unfolding packed gathered all_bits bits_of bits_in number
last_bytes p l = two (omega arith) (omega arith)

-- Rows of fields

pub bits_in_row : (width n : ℕ) (f : ℕ → ℕ) → bits_in (row width n f) ≡ width * n
unfolding bits_in row
bits_in_row width zero f = sym (mul-zero width)
bits_in_row width (suc n) f =
    bits_in_append (row width n f) (field width (f n) ∷ []) ∙ omega (arith, bits_in_row width n f, mul-suc width n)

pub row_ext : (width : ℕ) (f g : ℕ → ℕ) (n : ℕ) → ((i : ℕ) → i < n → f i ≡ g i) → row width n f ≡ row width n g
unfolding row
row_ext width f g zero h = refl
row_ext width f g (suc n) h = rw (row_ext width f g n (λ i l. h i (omega arith)), h n (omega arith)) refl

-- so many bytes are n counts, and n places
pub length_counts : (f : ℕ → ℕ) (n : ℕ) → length (packed (row 8 n f)) ≡ n
length_counts f n = omega (arith, length-packed (row 8 n f), bits_in_row 8 n f)

pub length-places : (g : ℕ → ℕ) (n : ℕ) → length (packed (row 12 n g)) ≡ (3 * n + 1) / 2
length-places g n = omega (arith, length-packed (row 12 n g), bits_in_row 12 n g)

pub row_count : (f : ℕ → ℕ) (n : ℕ) → f n < 256 → packed (row 8 (suc n) f) ≡ packed (row 8 n f) ++ (f n ∷ [])
unfolding row
row_count f n l = packed-append (row 8 n f) (field 8 (f n) ∷ []) n (bits_in_row 8 n f) ∙ rw (one_byte (f n) l) refl

-- After an even number n of places, which are k bytes, come two more, or the last.
module _ (g : ℕ → ℕ) (n k : ℕ) (even : 12 * n ≡ 8 * k) where
  pub row_two : packed (row 12 (suc (suc n)) g) ≡ packed (row 12 n g) ++ packed (field 12 (g n) ∷ field 12 (g (suc n)) ∷ [])
  unfolding row
  row_two =
      ap packed (append_assoc (row 12 n g) (field 12 (g n) ∷ []) (field 12 (g (suc n)) ∷ []))
      ∙ packed-append (row 12 n g) (field 12 (g n) ∷ field 12 (g (suc n)) ∷ []) k (bits_in_row 12 n g ∙ even)

  pub row_last : packed (row 12 (suc n) g) ≡ packed (row 12 n g) ++ packed (field 12 (g n) ∷ [])
  unfolding row
  row_last = packed-append (row 12 n g) (field 12 (g n) ∷ []) k (bits_in_row 12 n g ∙ even)

-- The whole payload

module _ (S R : ℕ) (counts places : ℕ → ℕ) where
  pub payload_bytes : packed (payload_fields S R counts places)
      ≡ packed (head_fields S R) ++ (packed (row 8 R counts) ++ packed (row 12 S places))
  unfolding payload_fields bits_in
  payload_bytes =
      packed-append (head_fields S R) (row 8 R counts ++ row 12 S places) 2 refl
      ∙ rw (packed-append (row 8 R counts) (row 12 S places) R (bits_in_row 8 R counts)) refl

  pub length_payload : length (packed (payload_fields S R counts places)) ≡ answer_length S R
  unfolding payload_fields bits_in
  length_payload =
      length-packed (payload_fields S R counts places)
      ∙ omega (arith, bits_in_append (row 8 R counts) (row 12 S places), bits_in_row 8 R counts, bits_in_row 12 S places)

pub length_answer : (T : Table) (p : Places) → length (answer_of T p) ≡ answer_length T.signals T.ranks
unfolding answer_of answer_fields
length_answer T p = length_payload T.signals T.ranks _ _

-- Before the places stand the head and the counts, which are the plan's line.

answer_front : (T : Table) (p : Places)
    → take (2 + T.ranks) (answer_of T p) ≡ packed (head_fields T.signals T.ranks) ++ packed (row 8 T.ranks (line T p))
unfolding answer_of answer_fields bits_in
answer_front T p =
    rw (payload_bytes T.signals T.ranks (line T p) (place_for T p), ← append_assoc head counts places)
    (take_at (head ++ counts) places (2 + T.ranks) size)
  where
    head : List ℕ
    head = packed (head_fields T.signals T.ranks)

    counts : List ℕ
    counts = packed (row 8 T.ranks (line T p))

    places : List ℕ
    places = packed (row 12 T.signals (place_for T p))

    size : length (head ++ counts) ≡ 2 + T.ranks
    size = omega (arith, length-append head counts, length-packed (head_fields T.signals T.ranks), length_counts (line T p) T.ranks)

pub same_front : (T : Table) (p q : Places) → Same T.ranks (line T p) (line T q)
    → take (2 + T.ranks) (answer_of T p) ≡ take (2 + T.ranks) (answer_of T q)
unfolding Same
same_front T p q same =
    answer_front T p ∙ rw (row_ext 8 (line T p) (line T q) T.ranks same) (sym (answer_front T q))
