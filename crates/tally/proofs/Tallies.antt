-- All signals are tallied: one after the other (Tallying, tally_asks, tallying_more), and after the last the tally is what is
-- promised (tallying_done). Leans on proofs/PlaceRank.
use Prim.Native.Nat.{ℕ, suc, ◌+◌, ◌*◌, ◌%◌, ◌≤◌, ◌<◌}
use mathlib.Core.Path.{◌≡◌, refl, sym, ◌∙◌}
use mathlib.Core.List.{List}
use native.Mathlib.Nat.{zero-mul, one-mul, not-suc-le-zero}
use native.Mathlib.Numerals.{add-one}
use native.Mathlib.Decide.{ℕ_discrete}
use native.Mathlib.Omega.{arith}
use borrow.Author.Count.{below_more}
use Rattle.plans.specs.Numbers.{same, sum}
use Rattle.plans.specs.Plan.{placed, line}
use Rattle.plans.proofs.Sums.{same_no, same_bit, by_under, sum_ext, sum_at_most}
use Rattle.units.specs.declared.Size.{Size}
use Rattle.work.specs.Work.{at, none, CHANNEL, SHUT_SIGNAL, PLACE, COUNT, MIDDLE, WHOLE, Unchanged, Fills}
use Rattle.work.specs.Input.{Input}
use Rattle.work.specs.State.{Mates}
use Rattle.work.specs.Ranks.{table_with, places, Ranks}
use Rattle.work.proofs.Area.{fill_below, unchanged_trans, unchanged_part, unchanged_sym}
use Rattle.work.proofs.Input.{same_input, same_listed}
use Rattle.work.proofs.State.{same_sits, same_mates}
use Rattle.tally.specs.Inside.{PlaceOf, SignalOf, SignalTallied, Tallyable, TalliedOne}
use Rattle.tally.specs.Tallying.{Placeable, Tallied}
use Rattle.tally.proofs.PlaceRank.{place_rank, same_place, rank_is}

-- The first n signals of the table and plan in v are tallied: each count is that of the ranks in the places recorded for them.
pub record Tallying (z : Size) (n : ℕ) (v w : List ℕ) : Type 0 where
  pub input : Input z v
  pub mates : Mates z v
  pub placeable : Placeable z v
  pub below : Unchanged 0 WHOLE w v
  pub placed : (t : ℕ) → t < n → at v CHANNEL t < z.channels → PlaceOf z v t (at v CHANNEL t) (at w PLACE t)
  pub unplaced : (t : ℕ) → t < n → at v CHANNEL t ≡ none → at w PLACE t ≡ 16 * none
  pub counts : (i : ℕ) → i < z.ranks → at w COUNT i ≡ sum n (λ t. same (at w PLACE t % 16) (suc i))

pub tallying_none : {z : Size} {v w : List ℕ} → Input z v → Mates z v → Placeable z v → Fills COUNT z.ranks 0 v w → Tallying z 0 v w
unfolding sum
tallying_none n m P h =
    record {
      input = n;
      mates = m;
      placeable = P;
      below = fill_below h 0 WHOLE (omega arith);
      placed = λ t l. absurd (not-suc-le-zero l);
      unplaced = λ t l. absurd (not-suc-le-zero l);
      counts = h.here;
    }

module _ {z : Size} {s : ℕ} {v w : List ℕ} (T : Tallying z s v w) (l : s < z.signals) where
  few_signals : z.signals ≤ 200
  few_signals = T.input.limits.few_signals

  few_pairs : z.pairs.0 ≤ 3000
  few_pairs = T.input.limits.few_pairs

  table : Unchanged 0 MIDDLE w v
  table = unchanged_part 0 MIDDLE (omega arith) (omega arith) T.below

  mates_region : Unchanged CHANNEL SHUT_SIGNAL w v
  mates_region = unchanged_part CHANNEL SHUT_SIGNAL (omega arith) (omega arith) T.below

  sits : (t : ℕ) → t < z.signals → at w CHANNEL t ≡ at v CHANNEL t
  sits = same_sits T.input mates_region

  -- What one more signal asks of the area.
  next_signal : SignalOf z s w
  next_signal =
      record {
        input = same_input table T.input;
        mates = same_mates T.input mates_region T.mates;
        placeable =
            record {
              listed = λ t k h. rw (sits t k) (same_listed table few_pairs (T.placeable.listed t k (omega (arith, sits t k))));
            };
        signal = l;
      }

  pub tally_asks : Tallyable s w
  tally_asks =
      record {
        size = z;
        is = next_signal;
        few = λ i k.
            omega (arith, few_signals, T.counts i k, sum_at_most (λ t. same (at w PLACE t % 16) (suc i)) s (λ t h. same_bit (at w PLACE t % 16) (suc i)));
      }

  module _ {x : List ℕ} (one : SignalTallied s w x) where
    O : TalliedOne z s w x
    O = one.each z next_signal

    kept : (t : ℕ) → t < s → at x PLACE t ≡ at w PLACE t
    kept t k = O.others t (omega (arith, few_signals)) (λ e. omega arith)

    pub tallying_more : Tallying z (s + 1) v x
    unfolding sum
    tallying_more =
        record {
          input = T.input;
          mates = T.mates;
          placeable = T.placeable;
          below = unchanged_trans O.below T.below;
          placed =
              below_more (λ t. at v CHANNEL t < z.channels → PlaceOf z v t (at v CHANNEL t) (at x PLACE t)) s
              (λ t k h. rw (kept t k) (T.placed t k h))
              (λ h. same_place few_pairs (unchanged_sym table) (rw (sits s l) at (O.placed (omega (arith, sits s l)))));
          unplaced =
              below_more (λ t. at v CHANNEL t ≡ none → at x PLACE t ≡ 16 * none) s
              (λ t k h. kept t k ∙ T.unplaced t k h)
              (λ h. O.unplaced (sits s l ∙ h));
          counts = λ i k.
              rw (add-one s)
              (omega (
                arith,
                O.counts i k,
                T.counts i k,
                sum_ext (λ t. same (at x PLACE t % 16) (suc i)) (λ t. same (at w PLACE t % 16) (suc i)) s (λ t h. rw (kept t h) refl),
              ));
        }

pub tallying_done : {z : Size} {v w : List ℕ} → Tallying z z.signals v w → Tallied z v w
unfolding line placed
tallying_done {z} {v} {w} T =
    record {
      below = T.below;
      placed = λ rank R s l h. let p = T.placed s l h in omega (arith, p.is, rank_is R p);
      unplaced = T.unplaced;
      counts = λ rank R i l. T.counts i l ∙ sum_ext _ _ z.signals (λ s k. term rank R i s k);
    }
  where
    term : (rank : ℕ → ℕ → ℕ) → Ranks z rank v → (i s : ℕ) → s < z.signals
        → same (at w PLACE s % 16) (suc i) ≡ placed (table_with z rank) (places v) s * same (rank s (at v CHANNEL s)) (suc i)
    term rank R i s l =
        by_under (at v CHANNEL s) z.channels
        (λ h one. let p = T.placed s l h in
        rw (one, place_rank p, rank_is R p) (sym (one-mul (same (rank s (at v CHANNEL s)) (suc i)))))
        (λ h nought. rw nought (free h (ℕ_discrete (at v CHANNEL s) none) ∙ sym (zero-mul (same (rank s (at v CHANNEL s)) (suc i)))))
      where
        free : z.channels ≤ at v CHANNEL s → Dec (at v CHANNEL s ≡ none) → same (at w PLACE s % 16) (suc i) ≡ 0
        free h (yes e) = same_no (at w PLACE s % 16) (suc i) (λ q. omega (arith, T.unplaced s l e))
        free h (no e) = absurd (omega (arith, T.mates.placed s l e))
