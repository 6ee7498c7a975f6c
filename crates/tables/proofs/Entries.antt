-- The entries that a payload holds, one by one: the i-th of entries_in p is entry_in p i (entry_at_lem). Main results, for a sound
-- payload: no pair stands twice (pair_once), an entry's rank is that of its pair in the table (rank_in_lem), and for any payload
-- a pair that the table ranks is an entry's (rank_listed). Leans on proofs/Ascending.
use Prim.Native.Nat.{ℕ, zero, suc, ◌≤◌, ◌<◌}
use mathlib.Core.Path.{◌≡◌, refl, sym, ◌∙◌}
use mathlib.Core.List.{List, []}
use native.Mathlib.Nat.{not-suc-le-zero}
use native.Mathlib.Decide.{ℕ_discrete, dec_lt}
use native.Mathlib.Omega.{arith}
use lib.ListN.{length, length-append, get_or-append}
use lib.Seq.{get_or_at}
use Rattle.plans.specs.Tables.{rank_in}
use Rattle.tables.specs.Payload.{pairs_in, entry_in, entries_to, entries_in}
use Rattle.tables.specs.Sound.{Above, Sound}
use Rattle.tables.specs.Making.{entry_at}
use Rattle.tables.proofs.Ascending.{Rising, rising_of, rising_at, rising_rank, above_apart, rank_listed_at}

module _ (p : List ℕ) where
  length_to : (n : ℕ) → length (entries_to p n) ≡ n
  unfolding entries_to
  length_to zero = refl
  length_to (suc n) = simp (length-append, length_to n) (omega arith)

  entry_to : (n i : ℕ) → i < n → entry_at (entries_to p n) i ≡ entry_in p i
  unfolding entries_to entry_at
  entry_to zero i l = absurd (not-suc-le-zero l)
  entry_to (suc n) i l = go (ℕ_discrete i n) (entry_to n i)
    where
      go : Dec (i ≡ n) → (i < n → entry_at (entries_to p n) i ≡ entry_in p i) → entry_at (entries_to p (suc n)) i ≡ entry_in p i
      go (yes e) before = rw e (get_or_at (entries_to p n) _ [] _ n (length_to n))
      go (no e) before = get_or-append (entries_to p n) _ _ i (rw (length_to n) (omega arith)) ∙ before (omega arith)

  -- The entries of a payload: how many, and which.
  pub length_entries : length (entries_in p) ≡ pairs_in p
  unfolding entries_in
  length_entries = length_to (pairs_in p)

  pub entry_at_lem : (i : ℕ) → i < pairs_in p → entry_at (entries_in p) i ≡ entry_in p i
  unfolding entries_in
  entry_at_lem = entry_to (pairs_in p)

  -- A pair that the table ranks is an entry's, and has its rank.
  pub rank_listed : (s c : ℕ) → 1 ≤ rank_in (entries_in p) s c
      → (i : ℕ) × (i < pairs_in p) × ((entry_in p i).signal ≡ s) × ((entry_in p i).channel ≡ c)
      × ((entry_in p i).rank ≡ rank_in (entries_in p) s c)
  rank_listed s c h =
      let found = rank_listed_at s c (entries_in p) h in
      let inside : found.0 < pairs_in p = omega (arith, found.1, length_entries) in
      let there = sym (entry_at_lem found.0 inside) in
      (found.0, inside, rw there found.2, rw there found.3, rw there found.4)

  module _ (sound : Sound p) where
    pub rising_in : Rising (entries_in p)
    rising_in =
        rising_of (entries_in p)
        (λ i l.
        let k : suc i < pairs_in p = omega (arith, length_entries) in
        rw (entry_at_lem i (omega arith), entry_at_lem (suc i) k) (sound.ascend i k))

    -- Of two entries the later one stands above,
    pub above_in : (i j : ℕ) → i < j → j < pairs_in p → Above (entry_in p i) (entry_in p j)
    above_in i j l h =
        rw (← entry_at_lem i (omega arith), ← entry_at_lem j h) (rising_at rising_in i j l (omega (arith, length_entries)))

    -- so that no pair stands twice,
    pub pair_once : (i j : ℕ) → i < pairs_in p → j < pairs_in p → (entry_in p i).signal ≡ (entry_in p j).signal
        → (entry_in p i).channel ≡ (entry_in p j).channel → i ≡ j
    pair_once i j l h s c = go (dec_lt i j) (dec_lt j i)
      where
        go : Dec (i < j) → Dec (j < i) → i ≡ j
        go (yes k) m = absurd (above_apart (above_in i j k h) s c)
        go (no k) (yes m) = absurd (above_apart (above_in j i m l) (sym s) (sym c))
        go (no k) (no m) = omega arith

    -- and the table gives each entry's pair its rank.
    pub rank_in_lem : (i : ℕ) → i < pairs_in p → rank_in (entries_in p) (entry_in p i).signal (entry_in p i).channel ≡ (entry_in p i).rank
    rank_in_lem i l = rw (← entry_at_lem i l) (rising_rank rising_in i (omega (arith, length_entries)))
