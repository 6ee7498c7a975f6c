-- The three ways to make one table from others, where every table named is accepted. Main results: there is a sound payload of
-- the table made (cut_made, beside_made, more_made), and whatever payload carries it, its best counts follow from the others'
-- (cut_accepted, beside_accepted, more_accepted). Leans on proofs/Cutting, Joining, OnePayload and the laws of plans.
use Prim.Native.Nat.{ℕ, ◌+◌, ◌≤◌, ◌<◌}
use mathlib.Core.Path.{◌≡◌}
use mathlib.Core.List.{List}
use lib.ListN.{length}
use Rattle.units.specs.Limits.{most_signals, most_channels, most_pairs}
use Rattle.plans.specs.Order.{Same}
use Rattle.plans.specs.Plan.{Best}
use Rattle.plans.specs.Tables.{Entry, rank_in, table_of, beside}
use Rattle.plans.proofs.Laws.{OneMoreCounts, cut_counts, beside_counts, one_more_counts}
use Rattle.plans.proofs.SameTables.{best_same}
use Rattle.tables.specs.Payload.{signals_in, channels_in, ranks_in, pairs_in, entries_in, table_in}
use Rattle.tables.specs.Sound.{Sound}
use Rattle.tables.specs.Making.{EntriesWithin, NewList}
use Rattle.tables.specs.Making.{CutOf, BesideOf, MoreOf, cut_payload, beside_payload, more_payload}
use Rattle.tables.proofs.Entries.{length_entries}
use Rattle.tables.proofs.OnePayload.{payload_for_holds, payload_for_sound, table_carried, sound_within}
use Rattle.tables.proofs.Cutting.{cut_within, cut_same}
use Rattle.tables.proofs.Joining.{beside_within, beside_same, more_within, more_same}

module _ (k : ℕ) {p : List ℕ} (sound : Sound p) (below : k ≤ ranks_in p) where
  pub cut_made : Sound (cut_payload k p) × CutOf k p (cut_payload k p)
  unfolding cut_payload CutOf
  cut_made =
      let within = cut_within k (sound_within sound) below in
      (payload_for_sound within, payload_for_holds within)

  -- The best counts of a table cut at rank k are the first k best counts of the table.
  pub cut_accepted : (q : List ℕ) (a b : ℕ → ℕ) → CutOf k p q → Best (table_in p) a → Best (table_in q) b → Same k a b
  unfolding CutOf table_in table_of
  cut_accepted q a b is_cut A B =
      cut_counts k (table_in p) a b below A (best_same (cut_same k (sound_within sound)) (rw (table_carried is_cut) at B))

module _ {p q : List ℕ} (sound : Sound p) (sound' : Sound q) (ranks : ranks_in q ≡ ranks_in p) where
  second_within : EntriesWithin (signals_in q) (channels_in q) (ranks_in p) (entries_in q)
  second_within = rw ranks at (sound_within sound')

  pub beside_made : signals_in p + signals_in q ≤ most_signals → channels_in p + channels_in q ≤ most_channels → pairs_in p + pairs_in q ≤ most_pairs
      → Sound (beside_payload p q) × BesideOf p q (beside_payload p q)
  unfolding beside_payload BesideOf
  beside_made s c n =
      let pairs : length (entries_in p) + length (entries_in q) ≤ most_pairs = rw (length_entries p, length_entries q) n in
      let within = beside_within (sound_within sound) second_within s c pairs in
      (payload_for_sound within, payload_for_holds within)

  -- The best counts of two tables side by side are the sums of their best counts.
  pub beside_accepted : (r : List ℕ) (a b d : ℕ → ℕ) → BesideOf p q r → Best (table_in p) a → Best (table_in q) b → Best (table_in r) d
      → Same (ranks_in p) d (λ i. a i + b i)
  unfolding BesideOf table_in table_of beside
  beside_accepted r a b d is-beside A B D =
      beside_counts (table_in p) (table_in q) a b d ranks A B
      (best_same (beside_same (sound_within sound) second_within) (rw (table_carried is-beside) at D))

module _ (list : List Entry) {p : List ℕ} (sound : Sound p) (new : NewList (signals_in p) (channels_in p) (ranks_in p) list) where
  pub more_made : signals_in p < most_signals → pairs_in p + length list ≤ most_pairs → Sound (more_payload list p) × MoreOf list p (more_payload list p)
  unfolding more_payload MoreOf
  more_made s n =
      let pairs : length (entries_in p) + length list ≤ most_pairs = rw (length_entries p) n in
      let within = more_within (sound_within sound) new s pairs in
      (payload_for_sound within, payload_for_holds within)

  -- One more signal does not make the best counts lower, and its best total is the same or one more.
  pub more_accepted : (q : List ℕ) (a b : ℕ → ℕ) → MoreOf list p q → Best (table_in p) a → Best (table_in q) b
      → OneMoreCounts (ranks_in p) a b
  unfolding MoreOf table_in table_of
  more_accepted q a b is-more A B =
      one_more_counts (table_in p) (rank_in list (signals_in p)) a b A
      (best_same (more_same (sound_within sound) new) (rw (table_carried is-more) at B))
