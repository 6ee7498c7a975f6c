-- Every table within the limits is the table of exactly one payload. Main results, at the end: the payload made for a table is of
-- bytes, carries it and is sound (payload_for_bytes, payload_for_holds, payload_for_sound); a sound payload carries a table within
-- the limits (sound_within) and is the one made for it (payload_unique, payload_only). Leans on proofs/Entries and fields' Packing.
use Prim.Native.Nat.{ℕ, zero, suc, ◌+◌, ◌-◌, ◌*◌, ◌/◌, ◌^◌, ◌≤◌, ◌<◌}
use mathlib.Core.Path.{◌≡◌, refl, ap, sym, ◌∙◌}
use mathlib.Core.List.{List, [], ◌∷◌, ◌++◌}
use native.Mathlib.Nat.{add-zero, zero-add}
use native.Mathlib.Decide.{dec_lt}
use native.Mathlib.Omega.{arith}
use lib.ListN.{length, get_or}
use lib.Seq.{append_snoc, ext_get_or}
use Rattle.fields.specs.Fields.{Field, bit_at, number, field_at, bits_in, packed, Holds}
use Rattle.fields.specs.Fields.Holds.{holds_none, holds_next}
use Rattle.fields.proofs.Bits.{bit_past_end, fields_determine}
use Rattle.fields.proofs.Packing.{bits_in_append, length-packed, packed_bytes, packed_fill, packed_reads_back, packed_unique}
use Rattle.plans.specs.Tables.{Entry, table_of}
use Rattle.tables.specs.Payload.{signals_in, channels_in, ranks_in, pairs_in, size_in, entry_bit, entry_in, entries_in, table_in, table_fields}
use Rattle.tables.specs.Payload.{payload_length, fill_in, entry_fields, payload_for}
use Rattle.tables.specs.Sound.{Sound}
use Rattle.tables.specs.Making.{entry_at, EntriesWithin, Carries}
use Rattle.tables.proofs.Ascending.{Each, none, next, each_of}
use Rattle.tables.proofs.Entries.{length_entries, entry_at_lem}

-- ---- fields that are packed, and fields of zero bits

-- Every field has room for its value.
data Fit : List Field → Type 0 where
  fit_none : Fit []
  fit_next : {f : Field} {fs : List Field} → f.value < 2 ^ f.width → Fit fs → Fit (f ∷ fs)

packed_holds : (pre : List Field) {fs : List Field} → Fit fs → Holds (packed (pre ++ fs)) (bits_in pre) fs
unfolding bits_in
packed_holds pre fit_none = holds_none
packed_holds pre (fit_next {f} {fs} h hs) =
    holds_next (packed_reads_back pre f fs h)
    (rw (append_snoc pre f fs, bits_in_append pre (f ∷ []), add-zero f.width) at (packed_holds (pre ++ (f ∷ [])) hs))

field_zero : (s : List ℕ) (at w : ℕ) → ((k : ℕ) → at ≤ k → bit_at s k ≡ 0) → field_at s at w ≡ 0
unfolding field_at number
field_zero s at zero h = refl
field_zero s at (suc w) h = omega (arith, field_zero s at w h, h (at + w) (omega arith))

zero_bits : (s : List ℕ) (at w : ℕ) → field_at s at w ≡ 0 → (k : ℕ) → at ≤ k → k < at + w → bit_at s k ≡ 0
zero_bits s at w e k l h =
    fields_determine s [] at w (e ∙ sym (field_zero [] at w (λ i m. bit_past_end [] i (omega arith)))) k l h
    ∙ bit_past_end [] k (omega arith)

-- ---- the fields of entries

bits_entries : (es : List Entry) → bits_in (entry_fields es) ≡ 20 * length es
unfolding bits_in entry_fields
bits_entries [] = refl
bits_entries (e ∷ es) = omega (arith, bits_entries es)

fit_entries : {es : List Entry} → Each (λ e. (e.signal < 256) × (e.channel < 256) × (e.rank < 16)) es → Fit (entry_fields es)
unfolding entry_fields
fit_entries none = fit_none
fit_entries (next h hs) = fit_next h.0 (fit_next h.1 (fit_next h.2 (fit_entries hs)))

next_entry : (k : ℕ) → entry_bit k + 8 + 8 + 4 ≡ entry_bit (suc k)
unfolding entry_bit
next_entry k = omega arith

-- Where the fields of entries stand, those entries are read,
held_entries : (p : List ℕ) (es : List Entry) (k : ℕ) → Holds p (entry_bit k) (entry_fields es)
    → (i : ℕ) → i < length es → entry_in p (k + i) ≡ entry_at es i
unfolding entry_fields entry_at entry_in
held_entries p [] k h i l = absurd (omega arith)
held_entries p (e ∷ es) k (holds_next a (holds_next b (holds_next c rest))) zero l =
    let last : entry_bit k + 8 + 8 ≡ entry_bit k + 16 = omega arith in
    rw (add-zero k, a, b, rw last at c)
held_entries p (e ∷ es) k (holds_next a (holds_next b (holds_next c rest))) (suc i) l =
    let there : k + suc i ≡ suc k + i = omega arith in
    rw there (held_entries p es (suc k) (rw (next_entry k) at rest) i (omega arith))

-- and where entries are read, their fields stand.
entries_held : (p : List ℕ) (es : List Entry) (k : ℕ) → ((i : ℕ) → i < length es → entry_in p (k + i) ≡ entry_at es i)
    → Holds p (entry_bit k) (entry_fields es)
unfolding entry_fields entry_at entry_in
entries_held p [] k h = holds_none
entries_held p (e ∷ es) k h =
    let first : entry_in p k ≡ e = rw (add-zero k) at (h 0 (omega arith)) in
    let last : entry_bit k + 8 + 8 ≡ entry_bit k + 16 = omega arith in
    let rank : field_at p (entry_bit k + 8 + 8) 4 ≡ e.rank = rw last (ap (λ (x : Entry). x.rank) first) in
    let rest : Holds p (entry_bit k + 8 + 8 + 4) (entry_fields es) = rw (next_entry k) (entries_held p es (suc k) later) in
    holds_next (ap (λ (x : Entry). x.signal) first) (holds_next (ap (λ (x : Entry). x.channel) first) (holds_next rank rest))
  where
    later : (i : ℕ) → i < length es → entry_in p (suc k + i) ≡ entry_at es i
    later i l = let there : suc k + i ≡ k + suc i = omega arith in rw there (h (suc i) (omega arith))

-- ---- the fields of a table

bits_table : (S C R : ℕ) (es : List Entry) → bits_in (table_fields S C R es) ≡ entry_bit (length es)
unfolding bits_in table_fields entry_bit
bits_table S C R es = omega (arith, bits_entries es)

-- so many bits are just the bytes of a payload
bytes_table : (n : ℕ) → (entry_bit n + 7) / 8 ≡ payload_length n
unfolding entry_bit payload_length
bytes_table n = omega arith

fit_table : (S C R : ℕ) (es : List Entry) → S < 256 → C < 256 → R < 16 → length es < 4096 → Fit (entry_fields es)
    → Fit (table_fields S C R es)
unfolding table_fields
fit_table S C R es s c r n rest = fit_next s (fit_next c (fit_next r (fit_next n rest)))

-- A payload that holds the fields of a table carries it,
carries_held : (p : List ℕ) (S C R : ℕ) (es : List Entry) → Holds p 0 (table_fields S C R es) → Carries S C R es p
unfolding table_fields signals_in channels_in ranks_in pairs_in entry_bit entry_at
carries_held p S C R es (holds_next s (holds_next c (holds_next r (holds_next n rest)))) =
    record {
      signals = s;
      channels = c;
      ranks = r;
      pairs = n;
      entries =
          ext_get_or _ (entries_in p) es (length_entries p ∙ n)
          (λ i l.
          let inside : i < pairs_in p = omega (arith, length_entries p) in
          entry_at_lem p i inside ∙ rw (zero-add i) at (held_entries p es 0 rest i (omega arith)));
    }

module _ {S C R : ℕ} {es : List Entry} {p : List ℕ} (carries : Carries S C R es p) where
  entry_carried : (i : ℕ) → i < length es → entry_in p i ≡ entry_at es i
  entry_carried i l =
      sym (entry_at_lem p i (omega (arith, carries.pairs))) ∙ ap (λ (fs : List Entry). entry_at fs i) carries.entries

  -- and the other way round.
  held_carries : Holds p 0 (table_fields S C R es)
  unfolding table_fields signals_in channels_in ranks_in pairs_in entry_bit
  held_carries =
      holds_next carries.signals
      (holds_next carries.channels
      (holds_next carries.ranks
      (holds_next carries.pairs (entries_held p es 0 (λ i l. rw (zero-add i) (entry_carried i l))))))

  pub table_carried : table_in p ≡ table_of S C R es
  unfolding table_in
  table_carried = rw (carries.signals, carries.channels, carries.ranks, carries.entries)

  -- A payload of the right length that carries a table within the limits, with zero bits after it, is sound.
  carried_sound : EntriesWithin S C R es → length p ≡ payload_length (length es) → ((k : ℕ) → entry_bit (length es) ≤ k → bit_at p k ≡ 0)
      → Sound p
  unfolding size_in fill_in payload_length
  carried_sound within size fill =
      record {
        long = omega arith;
        limits = rw (carries.signals, carries.channels, carries.ranks, carries.pairs) within.limits;
        sized = rw carries.pairs size;
        filled = rw carries.pairs (field_zero p (entry_bit (length es)) (8 * length p - entry_bit (length es)) fill);
        signal = λ i l. rw (entry_carried i (inside l), carries.signals) (within.signal i (inside l));
        channel = λ i l. rw (entry_carried i (inside l), carries.channels) (within.channel i (inside l));
        some_rank = λ i l. rw (entry_carried i (inside l)) (within.some_rank i (inside l));
        rank = λ i l. rw (entry_carried i (inside l), carries.ranks) (within.rank i (inside l));
        ascend = λ i l.
            let k : suc i < length es = inside l in
            rw (entry_carried i (omega arith), entry_carried (suc i) k) (within.ascend i k);
      }
    where
      inside : {i : ℕ} → i < pairs_in p → i < length es
      inside l = omega (arith, carries.pairs)

-- ---- the main results

module _ (S C R : ℕ) (es : List Entry) where
  length_payload_for : length (payload_for S C R es) ≡ payload_length (length es)
  unfolding payload_for table_fields
  length_payload_for =
      length-packed (table_fields S C R es) ∙ ap (λ (n : ℕ). (n + 7) / 8) (bits_table S C R es) ∙ bytes_table (length es)

  payload_for_fill : (k : ℕ) → entry_bit (length es) ≤ k → bit_at (payload_for S C R es) k ≡ 0
  unfolding payload_for table_fields
  payload_for_fill k l = packed_fill (table_fields S C R es) k (rw (bits_table S C R es) l)

  -- The payload made for a table is made of bytes,
  pub payload_for_bytes : (i : ℕ) → get_or (payload_for S C R es) i 0 < 256
  unfolding payload_for table_fields
  payload_for_bytes = packed_bytes (table_fields S C R es)

module _ {S C R : ℕ} {es : List Entry} (within : EntriesWithin S C R es) where
  -- carries it,
  pub payload_for_holds : Carries S C R es (payload_for S C R es)
  unfolding payload_for table_fields bits_in
  payload_for_holds =
      carries_held (payload_for S C R es) S C R es
      (packed_holds []
      (fit_table S C R es (omega arith) (omega arith) (omega arith) (omega arith) (fit_entries (each_of es small))))
    where
      small : (i : ℕ) → i < length es → ((entry_at es i).signal < 256) × ((entry_at es i).channel < 256) × ((entry_at es i).rank < 16)
      small i l = (omega (arith, within.signal i l), omega (arith, within.channel i l), omega (arith, within.rank i l))

  -- and is sound.
  pub payload_for_sound : Sound (payload_for S C R es)
  payload_for_sound = carried_sound payload_for_holds within (length_payload_for S C R es) (payload_for_fill S C R es)

carried_in : (p : List ℕ) → Carries (signals_in p) (channels_in p) (ranks_in p) (entries_in p) p
carried_in p = record { signals = refl; channels = refl; ranks = refl; pairs = sym (length_entries p); entries = refl }

-- Every sound payload carries a table within the limits,
pub sound_within : {p : List ℕ} → Sound p → EntriesWithin (signals_in p) (channels_in p) (ranks_in p) (entries_in p)
unfolding size_in
sound_within {p} sound =
    record {
      limits = rw (length_entries p) sound.limits;
      signal = λ i l. rw (entry_at_lem p i (inside l)) (sound.signal i (inside l));
      channel = λ i l. rw (entry_at_lem p i (inside l)) (sound.channel i (inside l));
      some_rank = λ i l. rw (entry_at_lem p i (inside l)) (sound.some_rank i (inside l));
      rank = λ i l. rw (entry_at_lem p i (inside l)) (sound.rank i (inside l));
      ascend = λ i l.
          let k : suc i < pairs_in p = inside l in
          rw (entry_at_lem p i (omega arith), entry_at_lem p (suc i) k) (sound.ascend i k);
    }
  where
    inside : {i : ℕ} → i < length (entries_in p) → i < pairs_in p
    inside l = omega (arith, length_entries p)

sound_fill : {p : List ℕ} → Sound p → (k : ℕ) → entry_bit (pairs_in p) ≤ k → bit_at p k ≡ 0
unfolding fill_in
sound_fill {p} sound k l = go (dec_lt k (8 * length p))
  where
    go : Dec (k < 8 * length p) → bit_at p k ≡ 0
    go (yes h) = zero_bits p (entry_bit (pairs_in p)) (8 * length p - entry_bit (pairs_in p)) sound.filled k l (omega arith)
    go (no h) = bit_past_end p k (omega arith)

-- and, made of bytes, is the one made for that table:
pub payload_unique : (p : List ℕ) → ((i : ℕ) → get_or p i 0 < 256) → Sound p
    → p ≡ payload_for (signals_in p) (channels_in p) (ranks_in p) (entries_in p)
unfolding payload_for table_fields
payload_unique p bytes sound =
    packed_unique {fs = table_fields (signals_in p) (channels_in p) (ranks_in p) (entries_in p)}
    (record { size = size; bytes = bytes; fields = held_carries (carried_in p); fill = fill })
  where
    bits : bits_in (table_fields (signals_in p) (channels_in p) (ranks_in p) (entries_in p)) ≡ entry_bit (pairs_in p)
    bits = bits_table (signals_in p) (channels_in p) (ranks_in p) (entries_in p) ∙ ap entry_bit (length_entries p)

    size : length p ≡ (bits_in (table_fields (signals_in p) (channels_in p) (ranks_in p) (entries_in p)) + 7) / 8
    size = rw bits (sound.sized ∙ sym (bytes_table (pairs_in p)))

    fill : (k : ℕ) → bits_in (table_fields (signals_in p) (channels_in p) (ranks_in p) (entries_in p)) ≤ k → bit_at p k ≡ 0
    fill k l = sound_fill sound k (omega (arith, bits))

-- whatever sound payload of bytes carries a table is the one made for it.
pub payload_only : {S C R : ℕ} {es : List Entry} {p : List ℕ} → ((i : ℕ) → get_or p i 0 < 256) → Sound p → Carries S C R es p
    → p ≡ payload_for S C R es
payload_only {p = p} bytes sound carries =
    payload_unique p bytes sound ∙ rw (carries.signals, carries.channels, carries.ranks, carries.entries)
