-- Entries after entries: two tables side by side, and one more signal. The list made is within the limits where the sums are
-- (beside_within, more_within), and its table is the two tables side by side, the table with one more signal (beside_same,
-- more_same). Leans on proofs/Ascending.
use Prim.Native.Nat.{ℕ, suc, ◌+◌, ◌-◌, ◌≤◌, ◌<◌}
use mathlib.Core.Path.{◌≡◌, refl, ap, sym, ◌∙◌}
use mathlib.Core.List.{List, [], ◌∷◌, ◌++◌, map}
use native.Mathlib.Omega.{arith}
use lib.ListN.{length, length-append, length-map}
use lib.Dec.{ltb}
use Rattle.units.specs.Limits.{most_signals, most_channels, most_pairs}
use Rattle.plans.specs.Tables.{Entry, pick, rank_in, table_of, then_from, beside, one_more}
use Rattle.plans.specs.Rows.{SameTable}
use Rattle.plans.proofs.Pick.{by_below}
use Rattle.tables.specs.Sound.{Above}
use Rattle.tables.specs.Sound.Above.{by_signal, by_channel}
use Rattle.tables.specs.Making.{EntriesWithin, moved, beside_entries, more_entries, NewList}
use Rattle.tables.proofs.Ascending.{Each, each_of, each_so, each_append, each_map}
use Rattle.tables.proofs.Ascending.{Rising, rising_of, rising_append, rising_map}
use Rattle.tables.proofs.Ascending.{Other, by_entry, rank_here, rank_later, rank_unlisted, rank_append_first, rank_append_second}
use Rattle.tables.proofs.Ascending.{InTable, each_within, rising_within, within_of}

-- Entries with smaller signals stand below all with larger ones.
rising_joined : (S : ℕ) {es fs : List Entry} → Rising es → Rising fs → Each (λ e. e.signal < S) es → Each (λ f. S ≤ f.signal) fs
    → Rising (es ++ fs)
rising_joined S r q low high =
    rising_append r q (each_so (λ e l. each_so (λ f h. by_signal (omega arith)) high) low)

-- ---- side by side

module _ (S C : ℕ) where
  above-moved : (e f : Entry) → Above e f → Above (moved S C e) (moved S C f)
  unfolding moved
  above-moved e f (by_signal h) = by_signal (omega arith)
  above-moved e f (by_channel h l) = by_channel (ap (λ (n : ℕ). S + n) h) (omega arith)

  rank_moved : (es : List Entry) (s c : ℕ) → rank_in (map (moved S C) es) (S + s) (C + c) ≡ rank_in es s c
  unfolding moved rank_in Other
  rank_moved [] s c = refl
  rank_moved (e ∷ es) s c =
      by_entry e es s c
      (λ h k r. rank_here (moved S C e) (map (moved S C) es) (S + s) (C + c) (omega arith) (omega arith) ∙ sym r)
      (λ o r.
      rank_later (moved S C e) (map (moved S C) es) (S + s) (C + c) (λ h k. o (omega arith) (omega arith))
      ∙ rank_moved es s c
      ∙ sym r)

module _ {S C S' C' R : ℕ} {es fs : List Entry} (within : EntriesWithin S C R es) (within' : EntriesWithin S' C' R fs) where
  -- the second table's entries, moved up
  record Moved (e : Entry) : Type 0 where
    past_signals : S ≤ e.signal
    past_channels : C ≤ e.channel
    inside : InTable (S + S') (C + C') R e

  each_moved : Each Moved (map (moved S C) fs)
  unfolding moved
  each_moved =
      each_map (moved S C)
      (λ e i.
      record {
        past_signals = omega arith;
        past_channels = omega arith;
        inside =
            record {
              signal = omega (arith, i.signal);
              channel = omega (arith, i.channel);
              some_rank = i.some_rank;
              rank = i.rank;
            };
      })
      (each_within within')

  pub beside_within : S + S' ≤ most_signals → C + C' ≤ most_channels → length es + length fs ≤ most_pairs
      → EntriesWithin (S + S') (C + C') R (beside_entries S C es fs)
  unfolding beside_entries
  beside_within s c n =
      within_of
      (record {
        few_signals = s;
        few_channels = c;
        few_ranks = within.limits.few_ranks;
        few_pairs = simp (length-append, length-map) n;
      })
      (each_append
      (each_so
      (λ e i. record { signal = omega (arith, i.signal); channel = omega (arith, i.channel); some_rank = i.some_rank; rank = i.rank })
      (each_within within))
      (each_so (λ e m. m.inside) each_moved))
      (rising_joined S (rising_within within) (rising_map (moved S C) (above-moved S C) (rising_within within'))
      (each_so (λ e i. i.signal) (each_within within))
      (each_so (λ e m. m.past_signals) each_moved))

  -- the rank of a pair: of the first table where the signal is one of its,
  rank_beside_first : (s c : ℕ) → s < S → rank_in (es ++ map (moved S C) fs) s c ≡ rank_in es s c
  unfolding Other
  rank_beside_first s c l = rank_append_first s c es (each_so (λ e m h k. omega (arith, m.past_signals)) each_moved)

  -- otherwise of the second;
  rank_beside_second : (s c : ℕ) → S ≤ s → rank_in (es ++ map (moved S C) fs) s c ≡ rank_in (map (moved S C) fs) s c
  unfolding Other
  rank_beside_second s c l = rank_append_second s c (map (moved S C) fs) (each_so (λ e i h k. omega (arith, i.signal)) (each_within within))

  -- with an end in each table, 0
  rank_across : (s c : ℕ) → C ≤ c → rank_in es s c ≡ 0
  unfolding Other
  rank_across s c l = rank_unlisted s c (each_so (λ e i h k. omega (arith, i.channel)) (each_within within))

  rank_across_back : (s c : ℕ) → c < C → rank_in (map (moved S C) fs) s c ≡ 0
  unfolding Other
  rank_across_back s c l = rank_unlisted s c (each_so (λ e m h k. omega (arith, m.past_channels)) each_moved)

  pub beside_same : SameTable (table_of (S + S') (C + C') R (beside_entries S C es fs)) (beside (table_of S C R es) (table_of S' C' R fs))
  unfolding table_of beside then_from beside_entries
  beside_same =
      record {
        signals = refl;
        channels = refl;
        ranks = refl;
        rank = λ s c _ _.
            by_below s S
            (λ l e. rw e (rank_beside_first s c l ∙ first s c))
            (λ l e. rw e (rank_beside_second s c l ∙ second s c l));
        slots = λ c _. by_below c C (λ l e. sym (e 1 1)) (λ l e. sym (e 1 1));
      }
    where
      first : (s c : ℕ) → rank_in es s c ≡ pick (ltb c C) (rank_in es s c) 0
      first s c = by_below c C (λ l e. sym (e (rank_in es s c) 0)) (λ l e. rank_across s c l ∙ sym (e (rank_in es s c) 0))

      second : (s c : ℕ) → S ≤ s → rank_in (map (moved S C) fs) s c ≡ pick (ltb c C) 0 (rank_in fs (s - S) (c - C))
      second s c l =
          by_below c C
          (λ h e. rank_across_back s c h ∙ sym (e 0 (rank_in fs (s - S) (c - C))))
          (λ h e.
          let s-up : s ≡ S + (s - S) = omega arith in
          let c-up : c ≡ C + (c - C) = omega arith in
          ap (λ (t : ℕ). rank_in (map (moved S C) fs) t c) s-up
          ∙ ap (rank_in (map (moved S C) fs) (S + (s - S))) c-up
          ∙ rank_moved S C fs (s - S) (c - C)
          ∙ sym (e 0 (rank_in fs (s - S) (c - C))))

-- ---- one more signal

module _ {S C R : ℕ} {es list : List Entry} (within : EntriesWithin S C R es) (new : NewList S C R list) where
  each_new : Each (λ e. (e.signal ≡ S) × InTable (suc S) C R e) list
  each_new =
      each_of list
      (λ i l. (
        new.signal i l,
        record {
          signal = omega (arith, new.signal i l);
          channel = new.channel i l;
          some_rank = new.some_rank i l;
          rank = new.rank i l;
        },
      ))

  rising_new : Rising list
  rising_new =
      rising_of list
      (λ i l. by_channel (new.signal i (omega arith) ∙ sym (new.signal (suc i) l)) (new.ascend i l))

  pub more_within : S < most_signals → length es + length list ≤ most_pairs → EntriesWithin (suc S) C R (more_entries list es)
  unfolding more_entries
  more_within s n =
      within_of
      (record {
        few_signals = s;
        few_channels = within.limits.few_channels;
        few_ranks = within.limits.few_ranks;
        few_pairs = simp length-append n;
      })
      (each_append
      (each_so
      (λ e i. record { signal = omega (arith, i.signal); channel = i.channel; some_rank = i.some_rank; rank = i.rank })
      (each_within within))
      (each_so (λ e m. m.1) each_new))
      (rising_joined S (rising_within within) rising_new
      (each_so (λ e i. i.signal) (each_within within))
      (each_so (λ e m. omega (arith, m.0)) each_new))

  pub more_same : SameTable (table_of (suc S) C R (more_entries list es)) (one_more (table_of S C R es) (rank_in list S))
  unfolding table_of one_more more_entries Other
  more_same =
      record {
        signals = refl;
        channels = refl;
        ranks = refl;
        rank = λ s c inside _.
            by_below s S
            (λ l e. rw e (old s c l))
            (λ l e. let last : s ≡ S = omega arith in rw (e, last) (newest c));
        slots = λ c _. refl;
      }
    where
      old : (s c : ℕ) → s < S → rank_in (es ++ list) s c ≡ rank_in es s c
      old s c l = rank_append_first s c es (each_so (λ e m h k. omega (arith, m.0)) each_new)

      newest : (c : ℕ) → rank_in (es ++ list) S c ≡ rank_in list S c
      newest c = rank_append_second S c list (each_so (λ e i h k. omega (arith, i.signal)) (each_within within))
