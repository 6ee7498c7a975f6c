-- Lists of entries, taken one by one: a property of every entry (Each), every entry above all before it (Rising), and the rank
-- that a list gives a pair. Main results: rising_of, rising_at, rising_append; rank_unlisted, rank_append_first,
-- rank_append_second, rank_listed_at, rising_rank; each_within, rising_within, within_of. Leans on specs/Making.
use Prim.Native.Nat.{ℕ, zero, suc, ◌≤◌, ◌<◌}
use mathlib.Core.Path.{◌≡◌, refl, sym, ◌∙◌}
use mathlib.Core.List.{List, [], ◌∷◌, ◌++◌, map}
use native.Mathlib.Nat.{not-suc-le-zero}
use native.Mathlib.Decide.{ℕ_discrete}
use native.Mathlib.Omega.{arith}
use borrow.Author.Tests.{eq-eqb, ne_eqb}
use lib.ListN.{length}
use Rattle.units.specs.Limits.{Limits, size_with}
use Rattle.plans.specs.Tables.{Entry, rank_in}
use Rattle.plans.proofs.Pick.{pick_yes, pick_no}
use Rattle.tables.specs.Sound.{Above}
use Rattle.tables.specs.Sound.Above.{by_signal, by_channel}
use Rattle.tables.specs.Making.{entry_at, EntriesWithin}

-- ---- one entry above another

pub above_trans : {e f g : Entry} → Above e f → Above f g → Above e g
above_trans (by_signal h) (by_signal k) = by_signal (omega arith)
above_trans (by_signal h) (by_channel k l) = by_signal (omega arith)
above_trans (by_channel e h) (by_signal k) = by_signal (omega arith)
above_trans (by_channel e h) (by_channel k l) = by_channel (e ∙ k) (omega arith)

pub above_apart : {e f : Entry} → Above e f → e.signal ≡ f.signal → e.channel ≡ f.channel → ⊥
above_apart (by_signal h) s c = omega arith
above_apart (by_channel e h) s c = omega arith

-- ---- every entry

-- Every entry of a list has the property P. std's `All` says it as a function: this is data, so that proofs match on it, and P and
-- the list are inferred wherever it is used.
pub data Each (P : Entry → Type 0) : List Entry → Type 0 where
  none : Each P []
  next : {e : Entry} {es : List Entry} → P e → Each P es → Each P (e ∷ es)

module _ {P : Entry → Type 0} where
  pub each_of : (es : List Entry) → ((i : ℕ) → i < length es → P (entry_at es i)) → Each P es
  unfolding entry_at
  each_of [] h = none
  each_of (e ∷ es) h = next (h 0 (omega arith)) (each_of es (λ i l. h (suc i) (omega arith)))

  pub each_at : {es : List Entry} → Each P es → (i : ℕ) → i < length es → P (entry_at es i)
  unfolding entry_at
  each_at none i l = absurd (not-suc-le-zero l)
  each_at (next p ps) zero l = p
  each_at (next p ps) (suc i) l = each_at ps i (omega arith)

  pub each_append : {es fs : List Entry} → Each P es → Each P fs → Each P (es ++ fs)
  each_append none q = q
  each_append (next p ps) q = next p (each_append ps q)

  pub each_so : {Q : Entry → Type 0} {es : List Entry} → ((e : Entry) → P e → Q e) → Each P es → Each Q es
  each_so f none = none
  each_so f (next {e} p ps) = next (f e p) (each_so f ps)

  pub each_map : {Q : Entry → Type 0} {es : List Entry} (f : Entry → Entry) → ((e : Entry) → P e → Q (f e)) → Each P es
      → Each Q (map f es)
  each_map f h none = none
  each_map f h (next {e} p ps) = next (h e p) (each_map f h ps)

-- ---- ascending lists

-- Every entry of a list stands above all before it.
pub data Rising : List Entry → Type 0 where
  flat : Rising []
  step : {e : Entry} {es : List Entry} → Each (Above e) es → Rising es → Rising (e ∷ es)

-- an entry below the first of an ascending list is below all of it
each_above : (e : Entry) (es : List Entry) → Rising es → (0 < length es → Above e (entry_at es 0)) → Each (Above e) es
unfolding entry_at
each_above e [] r h = none
each_above e (f ∷ es) (step later r) h = next (h (omega arith)) (each_so (λ g k. above_trans (h (omega arith)) k) later)

pub rising_of : (es : List Entry) → ((i : ℕ) → suc i < length es → Above (entry_at es i) (entry_at es (suc i))) → Rising es
unfolding entry_at
rising_of [] h = flat
rising_of (e ∷ es) h =
    let r : Rising es = rising_of es (λ i l. h (suc i) (omega arith)) in
    step (each_above e es r (λ l. h 0 (omega arith))) r

pub rising_at : {es : List Entry} → Rising es → (i j : ℕ) → i < j → j < length es → Above (entry_at es i) (entry_at es j)
unfolding entry_at
rising_at flat i j l h = absurd (not-suc-le-zero h)
rising_at (step later r) i zero l h = absurd (not-suc-le-zero l)
rising_at (step later r) zero (suc j) l h = each_at later j (omega arith)
rising_at (step later r) (suc i) (suc j) l h = rising_at r i j (omega arith) (omega arith)

pub rising_append : {es fs : List Entry} → Rising es → Rising fs → Each (λ e. Each (Above e) fs) es → Rising (es ++ fs)
rising_append flat q h = q
rising_append (step later r) q (next h hs) = step (each_append later h) (rising_append r q hs)

pub rising_map : {es : List Entry} (f : Entry → Entry) → ((e g : Entry) → Above e g → Above (f e) (f g)) → Rising es
    → Rising (map f es)
rising_map f h flat = flat
rising_map f h (step {e} later r) = step (each_map f (h e) later) (rising_map f h r)

-- ---- the rank of a pair

-- The entry is not of this pair.
unfoldable pub Other : ℕ → ℕ → Entry → Type 0
Other s c e = e.signal ≡ s → e.channel ≡ c → ⊥

module _ (e : Entry) (es : List Entry) (s c : ℕ) where
  -- the first entry is of this pair, or the pair is looked up in the others
  pub by_entry {ℓ} : {X : Type ℓ} → (e.signal ≡ s → e.channel ≡ c → rank_in (e ∷ es) s c ≡ e.rank → X)
      → (Other s c e → rank_in (e ∷ es) s c ≡ rank_in es s c → X) → X
  unfolding rank_in Other
  by_entry {X = X} here later = go (ℕ_discrete e.signal s) (ℕ_discrete e.channel c)
    where
      go : Dec (e.signal ≡ s) → Dec (e.channel ≡ c) → X
      go (yes h) (yes k) = here h k (pick_yes _ _ (eq-eqb e.signal s h) ∙ pick_yes _ _ (eq-eqb e.channel c k))
      go (yes h) (no k) =
          later (λ _ m. k m) (pick_yes _ _ (eq-eqb e.signal s h) ∙ pick_no _ _ (ne_eqb e.channel c k))
      go (no h) k = later (λ m _. h m) (pick_no _ _ (ne_eqb e.signal s h))

  pub rank_here : e.signal ≡ s → e.channel ≡ c → rank_in (e ∷ es) s c ≡ e.rank
  unfolding Other
  rank_here h k = by_entry (λ _ _ r. r) (λ o r. absurd (o h k))

  pub rank_later : Other s c e → rank_in (e ∷ es) s c ≡ rank_in es s c
  unfolding Other
  rank_later o = by_entry (λ h k r. absurd (o h k)) (λ _ r. r)

module _ (s c : ℕ) where
  pub rank_unlisted : {es : List Entry} → Each (Other s c) es → rank_in es s c ≡ 0
  unfolding rank_in
  rank_unlisted none = refl
  rank_unlisted (next {e} {es} o os) = rank_later e es s c o ∙ rank_unlisted os

  -- in one list after another, where one of them does not list the pair
  pub rank_append_first : (es : List Entry) {fs : List Entry} → Each (Other s c) fs → rank_in (es ++ fs) s c ≡ rank_in es s c
  unfolding rank_in
  rank_append_first [] os = rank_unlisted os
  rank_append_first (e ∷ es) {fs} os =
      by_entry e es s c
      (λ h k r. rank_here e (es ++ fs) s c h k ∙ sym r)
      (λ o r. rank_later e (es ++ fs) s c o ∙ rank_append_first es os ∙ sym r)

  pub rank_append_second : {es : List Entry} (fs : List Entry) → Each (Other s c) es → rank_in (es ++ fs) s c ≡ rank_in fs s c
  rank_append_second fs none = refl
  rank_append_second fs (next {e} {es} o os) = rank_later e (es ++ fs) s c o ∙ rank_append_second fs os

  -- a pair that is ranked is an entry's
  pub rank_listed_at : (es : List Entry) → 1 ≤ rank_in es s c
      → (i : ℕ) × (i < length es) × ((entry_at es i).signal ≡ s) × ((entry_at es i).channel ≡ c) × ((entry_at es i).rank ≡ rank_in es s c)
  unfolding rank_in entry_at
  rank_listed_at [] h = absurd (not-suc-le-zero h)
  rank_listed_at (e ∷ es) h =
      by_entry e es s c
      (λ a b r. (0, omega arith, a, b, sym r))
      (λ o r.
      let found = rank_listed_at es (omega arith) in
      (suc found.0, omega (arith, found.1), found.2, found.3, found.4 ∙ sym r))

-- In an ascending list an entry's rank is that of its pair.
pub rising_rank : {es : List Entry} → Rising es → (i : ℕ) → i < length es
    → rank_in es (entry_at es i).signal (entry_at es i).channel ≡ (entry_at es i).rank
unfolding entry_at Other
rising_rank flat i l = absurd (not-suc-le-zero l)
rising_rank (step {e} {es} later r) zero l = rank_here e es e.signal e.channel refl refl
rising_rank (step {e} {es} later r) (suc i) l =
    rank_later e es _ _ (above_apart (each_at later i (omega arith))) ∙ rising_rank r i (omega arith)

-- ---- tables within the limits

-- An entry of a table of S signals, C channels and R ranks.
pub record InTable (S C R : ℕ) (e : Entry) : Type 0 where
  pub signal : e.signal < S
  pub channel : e.channel < C
  pub some_rank : 1 ≤ e.rank
  pub rank : e.rank ≤ R

module _ {S C R : ℕ} {es : List Entry} where
  pub each_within : EntriesWithin S C R es → Each (InTable S C R) es
  each_within w =
      each_of es
      (λ i l. record { signal = w.signal i l; channel = w.channel i l; some_rank = w.some_rank i l; rank = w.rank i l })

  pub rising_within : EntriesWithin S C R es → Rising es
  rising_within w = rising_of es w.ascend

  pub within_of : Limits (size_with S C R (length es)) → Each (InTable S C R) es → Rising es → EntriesWithin S C R es
  within_of limits each rising =
      record {
        limits = limits;
        signal = λ i l. (each_at each i l).signal;
        channel = λ i l. (each_at each i l).channel;
        some_rank = λ i l. (each_at each i l).some_rank;
        rank = λ i l. (each_at each i l).rank;
        ascend = λ i l. rising_at rising i (suc i) (omega arith) l;
      }
