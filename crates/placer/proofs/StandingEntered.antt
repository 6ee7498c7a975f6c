-- What entering gives the rank loop: with the pairs of the next rank in the lists, Standing holds of that rank (standing_entered).
-- Leans on Standing.
use Prim.Native.Nat.{ℕ, suc, ◌≤◌, ◌<◌}
use mathlib.Core.Path.{◌≡◌, ap, sym, ◌∙◌}
use mathlib.Core.Logic.{⊎_elim}
use mathlib.Core.List.{List}
use native.Mathlib.Nat.{lt_of_not-le}
use native.Mathlib.Decide.{dec_le}
use native.Mathlib.Omega.{arith}
use Rattle.plans.specs.Numbers.{under}
use Rattle.plans.specs.Covers.{Covers, Stands}
use Rattle.plans.proofs.Sums.{under_no}
use Rattle.units.specs.declared.Size.{Size}
use Rattle.work.specs.Work.{at, CHANNEL, SHUT_SIGNAL, SCRATCH, signal_at, channel_at, rank_at, Unchanged}
use Rattle.work.specs.Input.{Input, Listed}
use Rattle.work.specs.State.{InList}
use Rattle.work.specs.Ranks.{table_with, Ranks}
use Rattle.work.proofs.Area.{unchanged_part}
use Rattle.work.proofs.State.{same_sits, same_holds, same_mates}
use Rattle.enter.specs.Entering.{Entered}
use Rattle.placer.proofs.Standing.{Standing, same_shut_signal, same_shut_channel}

-- Entering changes no mates.
pub entered_mates_region : {z : Size} {r : ℕ} {v w : List ℕ} → Entered z r v w → Unchanged CHANNEL SHUT_SIGNAL w v
entered_mates_region E = unchanged_part CHANNEL SHUT_SIGNAL (omega arith) (omega arith) E.rest

module _ (z : Size) (rank : ℕ → ℕ → ℕ) (K : Covers) (i : ℕ) (v w : List ℕ) (n : Input z v) (r : Ranks z rank v) (inside : i < z.ranks)
    (S : Standing z rank K i i v) (E : Entered z (suc i) v w) where
  -- a pair of the next rank stands just when neither end was ever covered
  uncovered_stands : (s c : ℕ) → ((j : ℕ) → j < i → K.on_signal j s ≡ 0) → ((j : ℕ) → j < i → K.on_channel j c ≡ 0)
      → Stands (table_with z rank) K i s c
  uncovered_stands s c hs hc = record { allows = λ j l. omega (arith, hs j l, hc j l) }

  stands_uncovered : (s c : ℕ) → rank s c ≡ suc i → Stands (table_with z rank) K i s c
      → ((j : ℕ) → j < i → (K.on_signal j s ≡ 0) × (K.on_channel j c ≡ 0))
  stands_uncovered s c e st j l =
      let zero-there : under (rank s c) (suc (suc j)) ≡ 0 = under_no (rank s c) (suc (suc j)) (omega arith) in
      (omega (arith, st.allows j l), omega (arith, st.allows j l))

  shut_region : Unchanged SHUT_SIGNAL SCRATCH w v
  shut_region = unchanged_part SHUT_SIGNAL SCRATCH (omega arith) (omega arith) E.rest

  new_rank : (s c e : ℕ) → e < z.pairs.0 → rank_at v e ≡ suc i → signal_at v e ≡ s → channel_at v e ≡ c → rank s c ≡ suc i
  new_rank s c e l q es ec = sym (ap (λ (x : ℕ). rank x c) es) ∙ sym (ap (rank (signal_at v e)) ec) ∙ r.given e l ∙ q

  enters : (s c : ℕ) → s < z.signals → c < z.channels → rank s c ≡ suc i → Stands (table_with z rank) K i s c → InList w s c
  enters s c l m e st =
      let b : Listed z v s c = r.listed s c l m (omega arith) (omega arith) in
      let q : rank_at v b.entry ≡ suc i = sym (r.given b.entry b.inside) ∙ rw (b.signal, b.channel) e in
      rw (b.signal, b.channel) at
      (E.adds b.entry b.inside q
      (rw b.signal (S.never_signal s l (λ j k. (stands_uncovered s c e st j k).0)))
      (rw b.channel (S.never_channel c m (λ j k. (stands_uncovered s c e st j k).1))))

  pub standing_entered : Standing z rank K (suc i) i w
  standing_entered =
      record {
        certificate = S.certificate;
        mates = same_mates n (entered_mates_region E) S.mates;
        along = record {
          live = λ s l k.
              let e : at w CHANNEL s ≡ at v CHANNEL s = same_sits n (entered_mates_region E) s l in
              rw e (E.keeps s (at v CHANNEL s) l (S.along.live s l (omega arith)));
        };
        lists = E.lists;
        entered = λ s c l h.
            ⊎_elim (λ old. omega (arith, S.entered s c l old))
            (λ (e, q, k, es, ec, os, oc). omega (arith, new_rank s c e q k es ec)) (E.only s c l h);
        stands = λ s c l h.
            ⊎_elim (λ old. S.stands s c l old)
            (λ (e, q, k, es, ec, os, oc).
            uncovered_stands s c (S.open_signal s l os) (S.open_channel c (omega (arith, n.channel e q)) oc)) (E.only s c l h);
        all = λ s c l m k h st.
            pick s c l m k h st (dec_le (rank s c) i);
        open_signal = λ s l e. S.open_signal s l (sym (same_shut_signal n shut_region s l) ∙ e);
        open_channel = λ c l e. S.open_channel c l (sym (same_shut_channel n shut_region c l) ∙ e);
        never_signal = λ s l k. same_shut_signal n shut_region s l ∙ S.never_signal s l k;
        never_channel = λ c l k. same_shut_channel n shut_region c l ∙ S.never_channel c l k;
        placed = λ j s k l m. rw (same_sits n (entered_mates_region E) s l) (S.placed j s k l m);
        taken = λ j c k l m. rw (same_holds n (entered_mates_region E) c l) (S.taken j c k l m);
      }
    where
      pick : (s c : ℕ) → s < z.signals → c < z.channels → 1 ≤ rank s c → rank s c ≤ suc i → Stands (table_with z rank) K i s c
          → Dec (rank s c ≤ i) → InList w s c
      pick s c l m k h st (yes q) = E.keeps s c l (S.all s c l m k q st)
      pick s c l m k h st (no q) = enters s c l m (omega (arith, lt_of_not-le q)) st
