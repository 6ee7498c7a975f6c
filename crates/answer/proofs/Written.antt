-- What each writer leaves: stores one behind the other (two_stored, three_stored), so a group of fields; one more count
-- (counts_more); two more places or the last (places_more, places_last); and the whole payload (payload_written). Leans on
-- proofs/Bytes and proofs/Splicing.
use Prim.Native.Nat.{ℕ, suc, ◌+◌, ◌*◌, ◌/◌, ◌%◌, ◌≤◌, ◌<◌}
use mathlib.Core.Path.{◌≡◌, refl, ◌∙◌}
use mathlib.Core.List.{List, [], ◌∷◌, ◌++◌, append_assoc}
use native.Mathlib.Numerals.{add-one}
use native.Mathlib.Omega.{arith}
use lib.ListN.{length, drop, set, length-set, length-append}
use Rattle.fields.specs.Fields.{all_bits, bits_in, gathered, packed}
use Rattle.fields.proofs.Packing.{length-packed}
use Rattle.answer.specs.Answer.{field, head_fields, row, payload_fields, answer_length}
use Rattle.answer.specs.Writing.{Spliced}
use Rattle.answer.proofs.Bytes.{head_bytes, two_bytes, last_bytes, length_counts, length-places, row_count, row_two, row_last, payload_bytes, length_payload}
use Rattle.answer.proofs.Splicing.{spliced_none, spliced_byte, spliced_next, spliced_whole}

-- Stores one behind the other

module _ {o : List ℕ} (i a b : ℕ) where
  two_stored : i + 2 ≤ length o → Spliced i (a ∷ b ∷ []) o (set (set o i a) (i + 1) b)
  two_stored l =
      spliced_next (spliced_byte i a o (omega arith)) (omega arith) (spliced_byte (i + 1) b _ (omega (arith, length-set o i a)))

  three_stored : (c : ℕ) → i + 3 ≤ length o → Spliced i (a ∷ b ∷ c ∷ []) o (set (set (set o i a) (i + 1) b) (i + 2) c)
  three_stored c l =
      let two = two_stored (omega arith) in
      spliced_next two (omega arith) (spliced_byte (i + 2) c _ (omega (arith, two.size)))

module _ {o : List ℕ} where
  pub head_written : (S R : ℕ) → S ≤ 200 → R ≤ 15 → 2 ≤ length o → Spliced 0 (packed (head_fields S R)) o (set (set o 0 S) 1 (16 * R))
  head_written S R l m room = rw (head_bytes S R (omega arith) (omega arith)) (two_stored 0 S (16 * R) room)

  module _ (i x : ℕ) (fits : x < 4096) where
    pub last_written : i + 2 ≤ length o → Spliced i (packed (field 12 x ∷ [])) o (set (set o i (x / 16)) (i + 1) (x % 16 * 16))
    last_written room = rw (last_bytes x fits) (two_stored i _ _ room)

    pub two_written : (y : ℕ) → y < 4096 → i + 3 ≤ length o
        → Spliced i (packed (field 12 x ∷ field 12 y ∷ [])) o (set (set (set o i (x / 16)) (i + 1) (x % 16 * 16 + y / 256)) (i + 2) (y % 256))
    two_written y also room = rw (two_bytes x y fits also) (three_stored i _ _ _ room)

-- Rows

pub row_none : (start width : ℕ) (f : ℕ → ℕ) (o : List ℕ) → Spliced start (packed (row width 0 f)) o o
unfolding packed gathered all_bits bits_in row
row_none start width f o = spliced_none start o

pub counts_more : (f : ℕ → ℕ) (i : ℕ) {o p : List ℕ} → Spliced 2 (packed (row 8 i f)) o p → 2 + i < length o → f i < 256
    → Spliced 2 (packed (row 8 (i + 1) f)) o (set p (2 + i) (f i))
counts_more f i {o} {p} s room l =
    rw (add-one i, row_count f i l)
    (spliced_next s (omega (arith, length_counts f i))
    (rw (length_counts f i) (spliced_byte (2 + i) (f i) p (omega (arith, s.size)))))

-- Two places are three bytes, so behind an even number of them whole bytes end, and two more come there, or the last.
module _ (g : ℕ → ℕ) (start two : ℕ) {o p : List ℕ} (s : Spliced start (packed (row 12 (2 * two) g)) o p)
    (room : start + 3 * two ≤ length o) where
  here : start + length (packed (row 12 (2 * two) g)) ≡ start + 3 * two
  here = omega (arith, length-places g (2 * two))

  pub places_more : {q : List ℕ} → Spliced (start + 3 * two) (packed (field 12 (g (2 * two)) ∷ field 12 (g (2 * two + 1)) ∷ [])) p q
      → Spliced start (packed (row 12 (2 * (two + 1)) g)) o q
  places_more more =
      let n : 2 * (two + 1) ≡ suc (suc (2 * two)) = omega arith in
      rw (n, row_two g (2 * two) (3 * two) (omega arith), ← add-one (2 * two)) (spliced_next s (omega (arith, here)) (rw here more))

  pub places_last : {q : List ℕ} (n : ℕ) → n ≡ 2 * two + 1 → Spliced (start + 3 * two) (packed (field 12 (g (2 * two)) ∷ [])) p q
      → Spliced start (packed (row 12 n g)) o q
  places_last n odd last =
      rw (odd, add-one (2 * two), row_last g (2 * two) (3 * two) (omega arith)) (spliced_next s (omega (arith, here)) (rw here last))

-- The whole payload

module _ (S R : ℕ) (f g : ℕ → ℕ) where
  abbrev head_part : List ℕ
  head_part = packed (head_fields S R)

  abbrev counts_part : List ℕ
  counts_part = packed (row 8 R f)

  abbrev places_part : List ℕ
  places_part = packed (row 12 S g)

  pub payload_written : {o p q r : List ℕ} → answer_length S R ≤ length o
      → Spliced 0 head_part o p → Spliced 2 counts_part p q → Spliced (2 + R) places_part q r
      → r ≡ packed (payload_fields S R f g) ++ drop (answer_length S R) o
  unfolding bits_in
  payload_written {o} {p} {q} {r} room head counts places = spliced_whole all ∙ rw (length_payload S R f g) refl
    where
      length_head : length head_part ≡ 2
      length_head = length-packed (head_fields S R)

      both : Spliced 0 (head_part ++ counts_part) o q
      both = spliced_next head (omega (arith, length_head)) (rw length_head counts)

      length_both : 0 + length (head_part ++ counts_part) ≡ 2 + R
      length_both = omega (arith, length-append head_part counts_part, length_head, length_counts f R)

      all : Spliced 0 (packed (payload_fields S R f g)) o r
      all =
          rw (payload_bytes S R f g, ← append_assoc head_part counts_part places_part)
          (spliced_next both (omega (arith, length_both)) (rw length_both places))
