-- Every table within the limits is the table of exactly one payload; two tables are the same where they rank all pairs alike.
-- Main results, at the end: sound payloads of bytes with the same table are the same (one_payload); a table within the limits has
-- a sound payload (table_has_payload) and no other of bytes (table_payload_only); a sound payload's table is within the limits
-- (held_within). Leans on proofs/OnePayload, which says it for lists of entries, and proofs/Listing.
use Prim.Native.Nat.{ℕ, ◌≤◌, ◌<◌}
use mathlib.Core.Path.{◌≡◌, refl, ap, sym, ◌∙◌}
use mathlib.Core.List.{List, [], ◌∷◌}
use native.Mathlib.Decide.{dec_lt, dec_le}
use native.Mathlib.Omega.{arith}
use lib.ListN.{length, get_or}
use Rattle.plans.specs.Plan.{Table}
use Rattle.plans.specs.Tables.{Entry, rank_in, table_of}
use Rattle.plans.specs.Rows.{SameTable}
use Rattle.plans.proofs.SameTables.{same_sym}
use Rattle.tables.specs.Payload.{signals_in, channels_in, ranks_in, entries_in, table_in}
use Rattle.tables.specs.Sound.{Above, Sound}
use Rattle.tables.specs.Sound.Above.{by_signal, by_channel}
use Rattle.tables.specs.Making.{EntriesWithin}
use Rattle.tables.specs.Listing.{entries_of, table_payload, TableWithin}
use Rattle.tables.proofs.Ascending.{above_apart, above_trans, Each, none, next, each_so, Rising, flat, step}
use Rattle.tables.proofs.Ascending.{Other, by_entry, rank_here, rank_later, rank_unlisted}
use Rattle.tables.proofs.Ascending.{InTable, each_within, rising_within}
use Rattle.tables.proofs.Entries.{length_entries, rank_listed}
use Rattle.tables.proofs.OnePayload.{payload_for_bytes, payload_for_holds, payload_for_sound, table_carried}
use Rattle.tables.proofs.OnePayload.{sound_within, payload_unique, payload_only}
use Rattle.tables.proofs.Listing.{each_entries, rising_entries, rank_entries, entries_within}

-- ---- ascending lists that rank all pairs alike are the same

-- Entry e stands below entry f, above it, or is of the same pair.
by_order {ℓ} : {X : Type ℓ} (e f : Entry) → (Above e f → X) → (Above f e → X)
    → (e.signal ≡ f.signal → e.channel ≡ f.channel → X) → X
by_order {X = X} e f below above level =
    go (dec_lt e.signal f.signal) (dec_lt f.signal e.signal) (dec_lt e.channel f.channel) (dec_lt f.channel e.channel)
  where
    go : Dec (e.signal < f.signal) → Dec (f.signal < e.signal) → Dec (e.channel < f.channel) → Dec (f.channel < e.channel) → X
    go (yes h) k l m = below (by_signal h)
    go (no h) (yes k) l m = above (by_signal k)
    go (no h) (no k) (yes l) m = below (by_channel (omega arith) l)
    go (no h) (no k) (no l) (yes m) = above (by_channel (omega arith) m)
    go (no h) (no k) (no l) (no m) = level (omega arith) (omega arith)

-- a list does not rank a pair that stands below all of it
rank_below : {e : Entry} {es : List Entry} → Each (Above e) es → (s c : ℕ) → e.signal ≡ s → e.channel ≡ c → rank_in es s c ≡ 0
unfolding Other
rank_below later s c h k = rank_unlisted s c (each_so (λ f a x y. above_apart a (h ∙ sym x) (k ∙ sym y)) later)

module _ (S C R : ℕ) where
  -- both lists rank every pair of the table alike
  abbrev SameRanks : List Entry → List Entry → Type 0
  SameRanks es fs = (s c : ℕ) → s < S → c < C → rank_in es s c ≡ rank_in fs s c

  -- then a first entry is not below all of the other list,
  not_below : (e : Entry) (es fs : List Entry) → InTable S C R e → Each (Above e) fs → SameRanks (e ∷ es) fs → ⊥
  not_below e es fs inside later same =
      omega (
        arith,
        inside.some_rank,
        rank_here e es e.signal e.channel refl refl,
        same e.signal e.channel inside.signal inside.channel,
        rank_below later e.signal e.channel refl refl,
      )

  -- and the lists without their first entries, where these are of the same pair, rank every pair alike.
  same_later : (e f : Entry) (es fs : List Entry) → Each (Above e) es → Each (Above f) fs → e.signal ≡ f.signal
      → e.channel ≡ f.channel → SameRanks (e ∷ es) (f ∷ fs) → SameRanks es fs
  unfolding Other
  same_later e f es fs later later' h k same s c l m =
      by_entry e es s c
      (λ x y _. rank_below later s c x y ∙ sym (rank_below later' s c (sym h ∙ x) (sym k ∙ y)))
      (λ o there. sym there ∙ same s c l m ∙ rank_later f fs s c (λ x y. o (h ∙ x) (k ∙ y)))

  same_entries : {es fs : List Entry} → Each (InTable S C R) es → Rising es → Each (InTable S C R) fs → Rising fs → SameRanks es fs
      → es ≡ fs
  same_entries none flat none flat same = refl
  same_entries none flat (next {e = f} {es = fs} j js) (step later r) same =
      absurd (not_below f fs [] j none (λ s c l m. sym (same s c l m)))
  same_entries (next {e} {es} i is) (step later r) none flat same = absurd (not_below e es [] i none same)
  same_entries (next {e} {es} i is) (step later r) (next {e = f} {es = fs} j js) (step later' r') same =
      by_order e f
      (λ a. absurd (not_below e es (f ∷ fs) i (next a (each_so (λ g b. above_trans a b) later')) same))
      (λ a. absurd (not_below f fs (e ∷ es) j (next a (each_so (λ g b. above_trans a b) later)) (λ s c l m. sym (same s c l m))))
      (λ h k. both (entry h k) (same_entries is r js r' (same_later e f es fs later later' h k same)))
    where
      rank : e.signal ≡ f.signal → e.channel ≡ f.channel → e.rank ≡ f.rank
      rank h k =
          sym (rank_here e es e.signal e.channel refl refl)
          ∙ same e.signal e.channel i.signal i.channel
          ∙ rank_here f fs e.signal e.channel (sym h) (sym k)

      entry : e.signal ≡ f.signal → e.channel ≡ f.channel → e ≡ f
      entry h k = λ t. record { signal = h t; channel = k t; rank = rank h k t }

      both : e ≡ f → es ≡ fs → e ∷ es ≡ f ∷ fs
      both x y = rw (x, y)

-- tables that are the same as a third one are the same
same_table_trans : {T U W : Table} → SameTable T U → SameTable U W → SameTable T W
same_table_trans A B =
    record {
      signals = A.signals ∙ B.signals;
      channels = A.channels ∙ B.channels;
      ranks = A.ranks ∙ B.ranks;
      rank = λ s c l m. A.rank s c l m ∙ B.rank s c (omega arith) (omega arith);
      slots = λ c l. A.slots c l ∙ B.slots c (omega arith);
    }

-- ---- the main results

-- Sound payloads of bytes that hold the same table are the same.
pub one_payload : {p q : List ℕ} → Sound p → Sound q → ((i : ℕ) → get_or p i 0 < 256) → ((i : ℕ) → get_or q i 0 < 256)
    → SameTable (table_in p) (table_in q) → p ≡ q
unfolding table_in table_of
one_payload {p} {q} sound sound' bytes bytes' same =
    payload_only bytes sound
    (record {
      signals = same.signals;
      channels = same.channels;
      ranks = same.ranks;
      pairs = sym (length_entries p) ∙ ap length entries;
      entries = entries;
    })
    ∙ sym (payload_unique q bytes' sound')
  where
    within : EntriesWithin (signals_in p) (channels_in p) (ranks_in p) (entries_in p)
    within = sound_within sound

    within' : EntriesWithin (signals_in p) (channels_in p) (ranks_in p) (entries_in q)
    within' = rw (same.signals, same.channels, same.ranks) (sound_within sound')

    entries : entries_in p ≡ entries_in q
    entries =
        same_entries (signals_in p) (channels_in p) (ranks_in p)
        (each_within within) (rising_within within) (each_within within') (rising_within within') same.rank

-- Every table within the limits has a payload that holds it,
pub table_has_payload : {T : Table} → TableWithin T → Sound (table_payload T) × SameTable (table_in (table_payload T)) T
unfolding table_payload table_of
table_has_payload {T} within = (payload_for_sound (entries_within within), rw (table_carried (payload_for_holds (entries_within within))) same)
  where
    same : SameTable (table_of T.signals T.channels T.ranks (entries_of T)) T
    same =
        record {
          signals = refl;
          channels = refl;
          ranks = refl;
          rank = λ s c l m. rank_entries T s c l m (within.rank s c l m);
          slots = λ c l. sym (within.slots c l);
        }

-- and no other one of bytes.
pub table_payload_only : {T : Table} {p : List ℕ} → TableWithin T → Sound p → ((i : ℕ) → get_or p i 0 < 256) → SameTable (table_in p) T
    → p ≡ table_payload T
unfolding table_payload
table_payload_only {T} within sound bytes same =
    let made = table_has_payload within in
    one_payload sound made.0 bytes (payload_for_bytes T.signals T.channels T.ranks (entries_of T))
    (same_table_trans same (same_sym made.1))

-- Every sound payload holds a table within the limits.
pub held_within : {p : List ℕ} → Sound p → TableWithin (table_in p)
unfolding table_in table_of
held_within {p} sound =
    record {
      limits = rw entries within.limits;
      rank = λ s c _ _. bound s c;
      slots = λ c _. refl;
    }
  where
    within : EntriesWithin (signals_in p) (channels_in p) (ranks_in p) (entries_in p)
    within = sound_within sound

    bound : (s c : ℕ) → rank_in (entries_in p) s c ≤ ranks_in p
    bound s c = go (dec_le 1 (rank_in (entries_in p) s c))
      where
        go : Dec (1 ≤ rank_in (entries_in p) s c) → rank_in (entries_in p) s c ≤ ranks_in p
        go (yes h) = let found = rank_listed p s c h in omega (arith, found.4, sound.rank found.0 found.1)
        go (no h) = omega arith

    entries : entries_of (table_in p) ≡ entries_in p
    entries =
        same_entries (signals_in p) (channels_in p) (ranks_in p) (each_entries (table_in p)) (rising_entries (table_in p))
        (each_within within) (rising_within within) (λ s c l m. rank_entries (table_in p) s c l m (bound s c))
