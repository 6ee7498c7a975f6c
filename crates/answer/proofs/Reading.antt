-- Reading an answer back: no count is more than the signals (line_most), so every count of the answer reads back (count_read).
-- Leans on the laws of packing.
use Prim.Native.Nat.{ℕ, zero, suc, ◌+◌, ◌*◌, ◌^◌, ◌≤◌, ◌<◌}
use mathlib.Core.Path.{◌≡◌, ap, sym, ◌∙◌}
use mathlib.Core.List.{List, [], ◌∷◌, ◌++◌, append_assoc}
use native.Mathlib.Nat.{not-suc-le-zero, zero-mul, one-mul}
use native.Mathlib.Decide.{ℕ_discrete}
use native.Mathlib.Omega.{arith}
use Rattle.fields.specs.Fields.{Field, bits_in, field_at, packed}
use Rattle.fields.proofs.Packing.{bits_in_append, packed_reads_back}
use Rattle.plans.specs.Plan.{Table, Places, placed, line}
use Rattle.plans.proofs.Sums.{same_bit, by_under, sum_at_most}
use Rattle.answer.specs.Answer.{field, head_fields, row, payload_fields, place_for, answer_fields, answer_of}
use Rattle.answer.proofs.Bytes.{bits_in_row}

-- Field i of a row that is packed between other fields.
module _ (pre : List Field) (width : ℕ) (f : ℕ → ℕ) (i : ℕ) (fits : f i < 2 ^ width) where
  -- it reads back where the fields fs follow the first ones
  abbrev Reads : List Field → Type 0
  Reads fs = field_at (packed (pre ++ fs)) (bits_in pre + width * i) width ≡ f i

  last_reads : (post : List Field) → Reads (row width i f ++ (field width (f i) ∷ post))
  last_reads post =
      let start : bits_in (pre ++ row width i f) ≡ bits_in pre + width * i =
      bits_in_append pre (row width i f) ∙ ap (λ n. bits_in pre + n) (bits_in_row width i f) in
      rw (start, append_assoc pre (row width i f) (field width (f i) ∷ post))
      at (packed_reads_back (pre ++ row width i f) (field width (f i)) post fits)

  row_reads : (n : ℕ) (post : List Field) → i < n → Reads (row width n f ++ post)
  unfolding row
  row_reads zero post l = absurd (not-suc-le-zero l)
  row_reads (suc n) post l =
      rw (append_assoc (row width n f) (field width (f n) ∷ []) post) (pick (ℕ_discrete i n) (row_reads n (field width (f n) ∷ post)))
    where
      pick : Dec (i ≡ n) → (i < n → Reads (row width n f ++ (field width (f n) ∷ post)))
          → Reads (row width n f ++ (field width (f n) ∷ post))
      pick (yes e) before = rw (sym e) (last_reads post)
      pick (no e) before = before (omega arith)

module _ (T : Table) (p : Places) where
  pub line_most : (i : ℕ) → line T p i ≤ T.signals
  unfolding line placed
  line_most i =
      sum_at_most _ T.signals
      (λ s l.
      by_under (p s) T.channels
      (λ h one. rw (one, one-mul) (same_bit (T.rank s (p s)) (suc i)))
      (λ h nought. rw (nought, zero-mul) (omega arith)))

  pub count_read : (i : ℕ) → i < T.ranks → T.signals < 256 → field_at (answer_of T p) (16 + 8 * i) 8 ≡ line T p i
  unfolding answer_of answer_fields payload_fields bits_in
  count_read i l few =
      row_reads (head_fields T.signals T.ranks) 8 (line T p) i (omega (arith, line_most i)) T.ranks
      (row 12 T.signals (place_for T p)) l
