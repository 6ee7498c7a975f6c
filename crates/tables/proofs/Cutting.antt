-- A list of entries cut at rank k: it is within the limits (cut_within), and its table is the table cut at rank k (cut_same).
-- Leans on proofs/Ascending.
use Prim.Native.Nat.{ℕ, ◌≤◌, ◌<◌}
use mathlib.Core.Path.{◌≡◌, refl, ap, sym, ◌∙◌}
use mathlib.Core.List.{List, [], ◌∷◌}
use native.Mathlib.Decide.{dec_le}
use native.Mathlib.Omega.{arith}
use borrow.Author.Tests.{le-leb, lt-leb}
use lib.ListN.{length}
use lib.Dec.{leb}
use Rattle.plans.specs.Tables.{Entry, pick, rank_in, table_of, cut}
use Rattle.plans.specs.Rows.{SameTable}
use Rattle.plans.proofs.Pick.{pick_yes, pick_no, by_most}
use Rattle.tables.specs.Making.{EntriesWithin, cut_entries}
use Rattle.tables.proofs.Ascending.{Each, none, next, above_apart, Rising, flat, step}
use Rattle.tables.proofs.Ascending.{Other, by_entry, rank_here, rank_later, rank_unlisted}
use Rattle.tables.proofs.Ascending.{each_within, rising_within, within_of}

module _ (k : ℕ) where
  -- an entry is kept or left out
  by_kept {ℓ} : {X : Type ℓ} (e : Entry) (es : List Entry) → (e.rank ≤ k → cut_entries k (e ∷ es) ≡ e ∷ cut_entries k es → X)
      → (k < e.rank → cut_entries k (e ∷ es) ≡ cut_entries k es → X) → X
  unfolding cut_entries
  by_kept {X = X} e es kept left_out = go (dec_le e.rank k)
    where
      go : Dec (e.rank ≤ k) → X
      go (yes h) = kept h (pick_yes _ _ (le-leb e.rank k h))
      go (no h) = let l : k < e.rank = omega arith in left_out l (pick_no _ _ (lt-leb e.rank k l))

  length_cut : (es : List Entry) → length (cut_entries k es) ≤ length es
  unfolding cut_entries
  length_cut [] = omega arith
  length_cut (e ∷ es) =
      by_kept e es (λ h c. omega (arith, ap length c, length_cut es)) (λ h c. omega (arith, ap length c, length_cut es))

  each_cut : {P Q : Entry → Type 0} {es : List Entry} → ((e : Entry) → e.rank ≤ k → P e → Q e) → Each P es
      → Each Q (cut_entries k es)
  unfolding cut_entries
  each_cut f none = none
  each_cut f (next {e} {es} p ps) =
      by_kept e es (λ h c. rw c (next (f e h p) (each_cut f ps))) (λ h c. rw c (each_cut f ps))

  rising_cut : {es : List Entry} → Rising es → Rising (cut_entries k es)
  unfolding cut_entries
  rising_cut flat = flat
  rising_cut (step {e} {es} later r) =
      by_kept e es
      (λ h c. rw c (step (each_cut (λ f _ above. above) later) (rising_cut r)))
      (λ h c. rw c (rising_cut r))

  -- The pair of an entry that is left out stands nowhere else in an ascending list.
  rank_cut : {es : List Entry} → Rising es → (s c : ℕ) → rank_in (cut_entries k es) s c ≡ pick (leb (rank_in es s c) k) (rank_in es s c) 0
  unfolding cut_entries rank_in Other
  rank_cut flat s c = by_most 0 k (λ h e. sym (e 0 0)) (λ h e. sym (e 0 0))
  rank_cut (step {e} {es} later r) s c =
      by_entry e es s c
      (λ a b here. rw here (by_kept e es (λ h kept. rw kept (kept_here a b h)) (λ h out. rw out (left_out a b h))))
      (λ o there.
      rw there
      (by_kept e es
      (λ h kept. rw kept (rank_later e (cut_entries k es) s c o ∙ rank_cut r s c))
      (λ h out. rw out (rank_cut r s c))))
    where
      kept_here : e.signal ≡ s → e.channel ≡ c → e.rank ≤ k → rank_in (e ∷ cut_entries k es) s c ≡ pick (leb e.rank k) e.rank 0
      kept_here a b h = rank_here e (cut_entries k es) s c a b ∙ sym (pick_yes _ _ (le-leb e.rank k h))

      left_out : e.signal ≡ s → e.channel ≡ c → k < e.rank → rank_in (cut_entries k es) s c ≡ pick (leb e.rank k) e.rank 0
      left_out a b h =
          rank_unlisted s c (each_cut (λ f _ above x y. above_apart above (a ∙ sym x) (b ∙ sym y)) later)
          ∙ sym (pick_no _ _ (lt-leb e.rank k h))

-- ---- the main results

module _ (k : ℕ) {S C R : ℕ} {es : List Entry} (within : EntriesWithin S C R es) where
  pub cut_within : k ≤ R → EntriesWithin S C k (cut_entries k es)
  cut_within below =
      within_of
      (record {
        few_signals = within.limits.few_signals;
        few_channels = within.limits.few_channels;
        few_ranks = omega (arith, within.limits.few_ranks);
        few_pairs = omega (arith, within.limits.few_pairs, length_cut k es);
      })
      (each_cut k
      (λ e h i. record { signal = i.signal; channel = i.channel; some_rank = i.some_rank; rank = h })
      (each_within within))
      (rising_cut k (rising_within within))

  pub cut_same : SameTable (table_of S C k (cut_entries k es)) (cut k (table_of S C R es))
  unfolding table_of cut
  cut_same =
      record {
        signals = refl;
        channels = refl;
        ranks = refl;
        rank = λ s c _ _. rank_cut k (rising_within within) s c;
        slots = λ c _. refl;
      }
