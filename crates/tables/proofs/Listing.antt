-- The entries of a table (entries_of) are within the limits where the table is (entries_within), and give every pair of the table
-- its rank (rank_entries). Leans on specs/Listing and proofs/Ascending.
use Prim.Native.Nat.{ℕ, zero, suc, ◌≤◌, ◌<◌}
use mathlib.Core.Path.{◌≡◌, refl, sym, ◌∙◌}
use mathlib.Core.List.{List, [], ◌∷◌}
use native.Mathlib.Nat.{not-suc-le-zero}
use native.Mathlib.Decide.{ℕ_discrete, dec_lt, dec_le}
use native.Mathlib.Omega.{arith}
use borrow.Author.Tests.{lt-ltb, le-ltb, le-leb, lt-leb}
use Rattle.plans.specs.Plan.{Table}
use Rattle.plans.specs.Tables.{Entry, rank_in}
use Rattle.plans.proofs.Pick.{pick_yes, pick_no}
use Rattle.tables.specs.Sound.{Above}
use Rattle.tables.specs.Sound.Above.{by_signal, by_channel}
use Rattle.tables.specs.Making.{EntriesWithin}
use Rattle.tables.specs.Listing.{pair_of, in_turn, row_of, entries_of, TableWithin}
use Rattle.tables.proofs.Ascending.{Each, none, next, each_so, each_append, Rising, flat, step, rising_append}
use Rattle.tables.proofs.Ascending.{Other, rank_here, rank_append_first, rank_append_second}
use Rattle.tables.proofs.Ascending.{InTable, within_of}

-- ---- lists in turn, where P i is so for every entry of list i

module _ (f : ℕ → List Entry) (P : ℕ → Entry → Type 0) (each : (i : ℕ) → Each (P i) (f i)) where
  each_in_turn : (n : ℕ) → Each (λ e. (i : ℕ) × (i < n) × P i e) (in_turn f n)
  unfolding in_turn
  each_in_turn zero = none
  each_in_turn (suc n) =
      each_append
      (each_so (λ e h. (h.0, omega (arith, h.1), h.2)) (each_in_turn n))
      (each_so (λ e h. (n, omega arith, h)) (each n))

  rising_in_turn : ((i : ℕ) → Rising (f i)) → ((i j : ℕ) (e g : Entry) → i < j → P i e → P j g → Above e g) → (n : ℕ) → Rising (in_turn f n)
  unfolding in_turn
  rising_in_turn rising above zero = flat
  rising_in_turn rising above (suc n) =
      rising_append (rising_in_turn rising above n) (rising n)
      (each_so (λ e h. each_so (λ g k. above h.0 n e g h.1 h.2 k) (each n)) (each_in_turn n))

  -- a pair that no list but one names has the rank that this one gives it
  rank_in_turn : (s c i : ℕ) → ((j : ℕ) (e : Entry) → P j e → e.signal ≡ s → e.channel ≡ c → j ≡ i) → (n : ℕ) → i < n
      → rank_in (in_turn f n) s c ≡ rank_in (f i) s c
  unfolding in_turn Other
  rank_in_turn s c i only zero l = absurd (not-suc-le-zero l)
  rank_in_turn s c i only (suc n) l = go (ℕ_discrete n i) (rank_in_turn s c i only n)
    where
      go : Dec (n ≡ i) → (i < n → rank_in (in_turn f n) s c ≡ rank_in (f i) s c) → rank_in (in_turn f (suc n)) s c ≡ rank_in (f i) s c
      go (yes e) before =
          rank_append_second s c (f n) (each_so (λ g h x y. omega (arith, h.1, only h.0 g h.2 x y)) (each_in_turn n)) ∙ rw e
      go (no e) before =
          rank_append_first s c (in_turn f n) (each_so (λ g h x y. e (only n g h x y)) (each n)) ∙ before (omega arith)

module _ (T : Table) where
  -- ---- one pair

  -- The entry is of this pair, and its rank is one of the table's.
  record OfPair (s c : ℕ) (e : Entry) : Type 0 where
    signal : e.signal ≡ s
    channel : e.channel ≡ c
    some_rank : 1 ≤ e.rank
    rank : e.rank ≤ T.ranks

  -- the pair is ranked or not
  by_ranked {ℓ} : {X : Type ℓ} (s c : ℕ)
      → (1 ≤ T.rank s c → T.rank s c ≤ T.ranks → pair_of T s c ≡ record { signal = s; channel = c; rank = T.rank s c } ∷ [] → X)
      → ((T.rank s c ≤ T.ranks → T.rank s c ≡ 0) → pair_of T s c ≡ [] → X) → X
  unfolding pair_of
  by_ranked {X = X} s c ranked unranked = go (dec_lt 0 (T.rank s c)) (dec_le (T.rank s c) T.ranks)
    where
      go : Dec (0 < T.rank s c) → Dec (T.rank s c ≤ T.ranks) → X
      go (yes h) (yes k) = ranked h k (pick_yes _ _ (lt-ltb 0 (T.rank s c) h) ∙ pick_yes _ _ (le-leb (T.rank s c) T.ranks k))
      go (yes h) (no k) =
          unranked (λ m. absurd (k m))
          (pick_yes _ _ (lt-ltb 0 (T.rank s c) h) ∙ pick_no _ _ (lt-leb (T.rank s c) T.ranks (omega arith)))
      go (no h) k = unranked (λ m. omega arith) (pick_no _ _ (le-ltb 0 (T.rank s c) (omega arith)))

  each_pair : (s c : ℕ) → Each (OfPair s c) (pair_of T s c)
  each_pair s c =
      by_ranked s c
      (λ h k e. rw e (next (record { signal = refl; channel = refl; some_rank = h; rank = k }) none))
      (λ z e. rw e none)

  rising_pair : (s c : ℕ) → Rising (pair_of T s c)
  rising_pair s c = by_ranked s c (λ h k e. rw e (step none flat)) (λ z e. rw e flat)

  rank_pair : (s c : ℕ) → T.rank s c ≤ T.ranks → rank_in (pair_of T s c) s c ≡ T.rank s c
  unfolding rank_in
  rank_pair s c l = by_ranked s c (λ h k e. rw e (rank_here _ [] s c refl refl)) (λ z e. rw e (sym (z l)))

  -- ---- one signal, and all of them

  abbrev OfRow : ℕ → Entry → Type 0
  OfRow s e = (c : ℕ) × (c < T.channels) × OfPair s c e

  each_row : (s : ℕ) → Each (OfRow s) (row_of T s)
  unfolding row_of
  each_row s = each_in_turn (pair_of T s) (OfPair s) (each_pair s) T.channels

  rising_row : (s : ℕ) → Rising (row_of T s)
  unfolding row_of
  rising_row s =
      rising_in_turn (pair_of T s) (OfPair s) (each_pair s) (rising_pair s)
      (λ i j e g l h k. by_channel (h.signal ∙ sym k.signal) (omega (arith, h.channel, k.channel)))
      T.channels

  pub each_entries : Each (InTable T.signals T.channels T.ranks) (entries_of T)
  unfolding entries_of
  each_entries =
      each_so
      (λ e h.
      let row = h.2 in
      let pair = row.2 in
      record {
        signal = omega (arith, h.1, pair.signal);
        channel = omega (arith, row.1, pair.channel);
        some_rank = pair.some_rank;
        rank = pair.rank;
      })
      (each_in_turn (row_of T) OfRow each_row T.signals)

  pub rising_entries : Rising (entries_of T)
  unfolding entries_of
  rising_entries =
      rising_in_turn (row_of T) OfRow each_row rising_row
      (λ i j e g l h k. by_signal (omega (arith, h.2.signal, k.2.signal)))
      T.signals

  -- ---- the main results

  -- The entries give a pair its rank,
  pub rank_entries : (s c : ℕ) → s < T.signals → c < T.channels → T.rank s c ≤ T.ranks → rank_in (entries_of T) s c ≡ T.rank s c
  unfolding entries_of row_of
  rank_entries s c l m h =
      rank_in_turn (row_of T) OfRow each_row s c s (λ j e k x y. sym k.2.signal ∙ x) T.signals l
      ∙ rank_in_turn (pair_of T s) (OfPair s) (each_pair s) s c c (λ j e k x y. sym k.channel ∙ y) T.channels m
      ∙ rank_pair s c h

-- and are within the limits where the table is.
pub entries_within : {T : Table} → TableWithin T → EntriesWithin T.signals T.channels T.ranks (entries_of T)
entries_within {T} within =
    within_of within.limits (each_entries T) (rising_entries T)
