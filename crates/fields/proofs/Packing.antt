-- Packing fields into bytes. Main results: writing field after field holds them all (holds_more); and, at the end, how long
-- a packing is and that it is made of bytes (length-packed, packed_bytes), that every field reads back and zero bits fill the
-- last byte (packed_reads_back, packed_fill), that nothing else holds the same fields so (packed_unique), and that fields which
-- fill whole bytes are packed by themselves (packed-append).
-- Leans on proofs/Bits and proofs/Writing.
use Prim.Native.Nat.{ℕ, zero, suc, ◌+◌, ◌-◌, ◌*◌, ◌/◌, ◌%◌, ◌^◌, ◌≤◌, ◌<◌}
use mathlib.Core.Path.{◌≡◌, refl, ap, sym, ◌∙◌}
use mathlib.Core.List.{List, [], ◌∷◌, ◌++◌, append_assoc}
use native.Mathlib.Nat.{mod-eq_of_lt, not-suc-le-zero, zero-add, add-zero, add_assoc}
use native.Mathlib.Decide.{ℕ_discrete, dec_lt}
use native.Mathlib.Omega.{arith}
use lib.ListN.{length, get_or, length-append, get_or-append, get_or-eq_default}
use lib.Seq.{get_or_at, get_or-append-add}
use Rattle.fields.specs.Fields.{bit_at, number, field_at, Field, bits_of, all_bits, bits_in, gathered, packed, Puts, Holds, holds_none, holds_next, Packs}
use Rattle.fields.proofs.Numbers.{Binary, number_bound, number_bit, number_of, half_digit}
use Rattle.fields.proofs.Writing.{puts_before}
use Rattle.fields.proofs.Bits.{bit_past_end, field-bit, bits_determine}

-- ---- lists whose elements are all below c

append_below : (c : ℕ) (xs ys : List ℕ) → ((k : ℕ) → get_or xs k 0 < c) → ((k : ℕ) → get_or ys k 0 < c)
    → (k : ℕ) → get_or (xs ++ ys) k 0 < c
append_below c [] ys p q k = q k
append_below c (x ∷ xs) ys p q zero = p zero
append_below c (x ∷ xs) ys p q (suc k) = append_below c xs ys (λ i. p (suc i)) q k

one_below : (c x : ℕ) → x < c → (k : ℕ) → get_or (x ∷ []) k 0 < c
one_below c x l zero = l
one_below c x l (suc k) = omega arith

-- ---- the bits of fields

length_bits : (w v : ℕ) → length (bits_of w v) ≡ w
unfolding bits_of
length_bits zero v = refl
length_bits (suc w) v = simp (length-append, length_bits w (v / 2)) (omega arith)

bits_below : (w v k : ℕ) → get_or (bits_of w v) k 0 < 2
unfolding bits_of
bits_below zero v k = omega arith
bits_below (suc w) v k =
    append_below 2 (bits_of w (v / 2)) (v % 2 ∷ []) (bits_below w (v / 2)) (one_below 2 (v % 2) (omega arith)) k

-- the bit with j bits to its right is binary digit j
bits_digit : (w v i j : ℕ) → i + suc j ≡ w → get_or (bits_of w v) i 0 ≡ v / 2 ^ j % 2
unfolding bits_of
bits_digit zero v i j e = absurd (omega arith)
bits_digit (suc w) v i zero e =
    get_or_at (bits_of w (v / 2)) (v % 2) [] 0 i (length_bits w (v / 2) ∙ omega arith) ∙ omega arith
bits_digit (suc w) v i (suc j) e =
    get_or-append (bits_of w (v / 2)) (v % 2 ∷ []) 0 i (rw (length_bits w (v / 2)) (omega arith))
    ∙ bits_digit w (v / 2) i j (omega arith)
    ∙ half_digit v j

module _ (f : Field) (fs : List Field) where
  -- the bits of the first field, and of those after it
  first_bit : (i : ℕ) → i < f.width → get_or (all_bits (f ∷ fs)) i 0 ≡ get_or (bits_of f.width f.value) i 0
  unfolding all_bits
  first_bit i l = get_or-append (bits_of f.width f.value) (all_bits fs) 0 i (rw (length_bits f.width f.value) l)

  later_bit : (i : ℕ) → get_or (all_bits (f ∷ fs)) (f.width + i) 0 ≡ get_or (all_bits fs) i 0
  unfolding all_bits
  later_bit i =
      rw (length_bits f.width f.value) at (get_or-append-add (bits_of f.width f.value) (all_bits fs) i 0)

length_all : (fs : List Field) → length (all_bits fs) ≡ bits_in fs
unfolding all_bits bits_in
length_all [] = refl
length_all (f ∷ fs) = simp (length-append, length_bits, length_all fs)

all_binary : (fs : List Field) → Binary (λ k. get_or (all_bits fs) k 0)
unfolding all_bits
all_binary [] = record { small = λ k. omega arith }
all_binary (f ∷ fs) =
    record {
      small = append_below 2 (bits_of f.width f.value) (all_bits fs) (bits_below f.width f.value) (all_binary fs).small;
    }

-- what stands after the bits of pre
all_after : (pre fs : List Field) (k : ℕ) → get_or (all_bits (pre ++ fs)) (bits_in pre + k) 0 ≡ get_or (all_bits fs) k 0
unfolding bits_in
all_after [] fs k = ap (λ (i : ℕ). get_or (all_bits fs) i 0) (zero-add k)
all_after (f ∷ pre) fs k = rw (add_assoc f.width (bits_in pre) k) (later_bit f (pre ++ fs) (bits_in pre + k) ∙ all_after pre fs k)

-- ---- bytes gathered from bits

module _ (bits : List ℕ) where
  length-gathered : (n : ℕ) → length (gathered bits n) ≡ n
  unfolding gathered
  length-gathered zero = refl
  length-gathered (suc n) = simp (length-append, length-gathered n) (omega arith)

  gathered_at : (n i : ℕ) → i < n → get_or (gathered bits n) i 0 ≡ number (λ k. get_or bits k 0) (8 * i) 8
  unfolding gathered
  gathered_at zero i l = absurd (not-suc-le-zero l)
  gathered_at (suc n) i l = pick (ℕ_discrete i n) (gathered_at n i)
    where
      pick : Dec (i ≡ n) → (i < n → get_or (gathered bits n) i 0 ≡ number (λ k. get_or bits k 0) (8 * i) 8)
          → get_or (gathered bits (suc n)) i 0 ≡ number (λ k. get_or bits k 0) (8 * i) 8
      pick (yes e) before = rw e (get_or_at (gathered bits n) _ [] 0 n (length-gathered n))
      pick (no e) before =
          get_or-append (gathered bits n) _ 0 i (rw (length-gathered n) (omega arith)) ∙ before (omega arith)

  module _ (binary : Binary (λ k. get_or bits k 0)) where
    gathered_bytes : (n i : ℕ) → get_or (gathered bits n) i 0 < 256
    unfolding gathered
    gathered_bytes zero i = omega arith
    gathered_bytes (suc n) i =
        append_below 256 (gathered bits n) _ (gathered_bytes n) (one_below 256 _ (number_bound (λ k. get_or bits k 0) binary (8 * n) 8)) i

    gathered-bit : (n k : ℕ) → k < 8 * n → bit_at (gathered bits n) k ≡ get_or bits k 0
    unfolding bit_at
    gathered-bit n k l =
        let place : 8 * (k / 8) + k % 8 ≡ k = omega arith in
        rw (gathered_at n (k / 8) (omega arith))
        (number_bit (λ i. get_or bits i 0) binary (8 * (k / 8)) (k % 8) (7 - k % 8) 8 (omega arith) ∙ ap (λ (i : ℕ). get_or bits i 0) place)

-- ---- byte strings that hold fields

-- Fields after fields, where the first end.
pub holds_append : {s : List ℕ} {at : ℕ} {fs gs : List Field} → Holds s at fs → Holds s (at + bits_in fs) gs → Holds s at (fs ++ gs)
unfolding bits_in
holds_append {at = at} holds_none more = rw (add-zero at) at more
holds_append (holds_next {at} {f} {fs} e rest) more =
    holds_next e (holds_append rest (rw (← add_assoc at f.width (bits_in fs)) at more))

-- A write to the right of fields keeps them,
holds_kept : {s t : List ℕ} {at place w v : ℕ} {fs : List Field} → Holds s at fs → at + bits_in fs ≤ place → Puts s place w v t
    → Holds t at fs
unfolding bits_in
holds_kept holds_none l p = holds_none
holds_kept (holds_next {at} {f} e rest) l p =
    holds_next (puts_before p at f.width (omega arith) ∙ e) (holds_kept rest (omega arith) p)

-- and a write where they end adds a field.
pub holds_more : {s t : List ℕ} {at : ℕ} {fs : List Field} (f : Field) → Holds s at fs
    → Puts s (at + bits_in fs) f.width f.value t → Holds t at (fs ++ (f ∷ []))
holds_more f h p = holds_append (holds_kept h (omega arith) p) (holds_next p.field holds_none)

-- The bits of a byte string that holds these fields.
holds_bits : {s : List ℕ} {at : ℕ} {fs : List Field} → Holds s at fs
    → (k : ℕ) → k < bits_in fs → bit_at s (at + k) ≡ get_or (all_bits fs) k 0
unfolding bits_in
holds_bits holds_none k l = absurd (not-suc-le-zero l)
holds_bits {s} (holds_next {at} {f} {fs} e rest) k l = pick (dec_lt k f.width) (holds_bits rest (k - f.width))
  where
    pick : Dec (k < f.width) → (k - f.width < bits_in fs → bit_at s (at + f.width + (k - f.width)) ≡ get_or (all_bits fs) (k - f.width) 0)
        → bit_at s (at + k) ≡ get_or (all_bits (f ∷ fs)) k 0
    pick (yes h) later =
        sym (field-bit s at k (f.width - suc k) f.width (omega arith))
        ∙ rw e (sym (first_bit f fs k h ∙ bits_digit f.width f.value k (f.width - suc k) (omega arith)))
    pick (no h) later =
        let there : k ≡ f.width + (k - f.width) = omega arith in
        ap (bit_at s) (omega arith)
        ∙ later (omega arith)
        ∙ sym (later_bit f fs (k - f.width))
        ∙ ap (λ (i : ℕ). get_or (all_bits (f ∷ fs)) i 0) (sym there)

-- ---- the main results

module _ (fs : List Field) where
  pub length-packed : length (packed fs) ≡ (bits_in fs + 7) / 8
  unfolding packed
  length-packed = length-gathered (all_bits fs) ((bits_in fs + 7) / 8)

  pub packed_bytes : (i : ℕ) → get_or (packed fs) i 0 < 256
  unfolding packed
  packed_bytes = gathered_bytes (all_bits fs) (all_binary fs) ((bits_in fs + 7) / 8)

  all_fill : (k : ℕ) → bits_in fs ≤ k → get_or (all_bits fs) k 0 ≡ 0
  all_fill k h = get_or-eq_default (all_bits fs) 0 (rw (length_all fs) h)

  -- The bits of a packing are those of its fields.
  pub packed-bit : (k : ℕ) → bit_at (packed fs) k ≡ get_or (all_bits fs) k 0
  unfolding packed
  packed-bit k = pick (dec_lt k (8 * ((bits_in fs + 7) / 8)))
    where
      pick : Dec (k < 8 * ((bits_in fs + 7) / 8)) → bit_at (packed fs) k ≡ get_or (all_bits fs) k 0
      pick (yes l) = gathered-bit (all_bits fs) (all_binary fs) ((bits_in fs + 7) / 8) k l
      pick (no l) = bit_past_end (packed fs) k (omega (arith, length-packed)) ∙ sym (all_fill k (omega arith))

  pub packed_fill : (k : ℕ) → bits_in fs ≤ k → bit_at (packed fs) k ≡ 0
  packed_fill k h = packed-bit k ∙ all_fill k h

pub packed_reads_back : (pre : List Field) (f : Field) (post : List Field) → f.value < 2 ^ f.width
    → field_at (packed (pre ++ (f ∷ post))) (bits_in pre) f.width ≡ f.value
unfolding field_at
packed_reads_back pre f post fits =
    let fs : List Field = pre ++ (f ∷ post) in
    number_of (bit_at (packed fs)) (bits_in pre) f.value f.width
    (λ i j e.
    packed-bit fs (bits_in pre + i)
    ∙ all_after pre (f ∷ post) i
    ∙ first_bit f post i (omega arith)
    ∙ bits_digit f.width f.value i j e)
    ∙ mod-eq_of_lt fits

pub packed_unique : {fs : List Field} {s : List ℕ} → Packs fs s → s ≡ packed fs
packed_unique {fs} {s} p =
    bits_determine s (packed fs) (p.size ∙ sym (length-packed fs)) p.bytes (packed_bytes fs)
    (λ k l. same k (dec_lt k (bits_in fs)) ∙ sym (packed-bit fs k))
  where
    same : (k : ℕ) → Dec (k < bits_in fs) → bit_at s k ≡ get_or (all_bits fs) k 0
    same k (yes h) = rw (zero-add k) at (holds_bits p.fields k h)
    same k (no h) = p.fill k (omega arith) ∙ sym (all_fill fs k (omega arith))

-- ---- fields that fill whole bytes

pub bits_in_append : (fs gs : List Field) → bits_in (fs ++ gs) ≡ bits_in fs + bits_in gs
unfolding bits_in
bits_in_append [] gs = omega arith
bits_in_append (f ∷ fs) gs = omega (arith, bits_in_append fs gs)

all_append : (fs gs : List Field) → all_bits (fs ++ gs) ≡ all_bits fs ++ all_bits gs
unfolding all_bits
all_append [] gs = refl
all_append (f ∷ fs) gs = rw (all_append fs gs) (sym (append_assoc (bits_of f.width f.value) (all_bits fs) (all_bits gs)))

-- the bits of one string, then those of another
module _ (s t : List ℕ) where
  bit_first : (k : ℕ) → k < 8 * length s → bit_at (s ++ t) k ≡ bit_at s k
  unfolding bit_at
  bit_first k l = rw (get_or-append s t 0 (k / 8) (omega arith))

  bit_second : (k : ℕ) → bit_at (s ++ t) (8 * length s + k) ≡ bit_at t k
  unfolding bit_at
  bit_second k =
      let byte : (8 * length s + k) / 8 ≡ length s + k / 8 = omega arith in
      let place : (8 * length s + k) % 8 ≡ k % 8 = omega arith in
      rw (byte, place, get_or-append-add s t (k / 8) 0)

pub packed-append : (fs gs : List Field) (n : ℕ) → bits_in fs ≡ 8 * n → packed (fs ++ gs) ≡ packed fs ++ packed gs
packed-append fs gs n whole =
    bits_determine (packed (fs ++ gs)) (packed fs ++ packed gs)
    (omega (arith, length-packed (fs ++ gs), bits_in_append fs gs, length-append (packed fs) (packed gs), size, length-packed gs))
    (packed_bytes (fs ++ gs))
    (append_below 256 (packed fs) (packed gs) (packed_bytes fs) (packed_bytes gs))
    (λ k l. packed-bit (fs ++ gs) k ∙ sym (same k (dec_lt k (8 * n))))
  where
    size : length (packed fs) ≡ n
    size = omega (arith, length-packed fs)

    same : (k : ℕ) → Dec (k < 8 * n) → bit_at (packed fs ++ packed gs) k ≡ get_or (all_bits (fs ++ gs)) k 0
    same k (yes h) =
        bit_first (packed fs) (packed gs) k (omega (arith, size))
        ∙ packed-bit fs k
        ∙ rw (all_append fs gs) (sym (get_or-append (all_bits fs) (all_bits gs) 0 k (omega (arith, length_all fs))))
    same k (no h) =
        let there : k ≡ 8 * length (packed fs) + (k - 8 * n) = omega (arith, size) in
        let after : bits_in fs + (k - 8 * n) ≡ k = omega arith in
        ap (bit_at (packed fs ++ packed gs)) there
        ∙ bit_second (packed fs) (packed gs) (k - 8 * n)
        ∙ packed-bit gs (k - 8 * n)
        ∙ sym (all_after fs gs (k - 8 * n))
        ∙ ap (λ (i : ℕ). get_or (all_bits (fs ++ gs)) i 0) after
