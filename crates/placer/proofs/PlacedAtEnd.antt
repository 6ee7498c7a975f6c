-- The certificate of a finished plan: after the last rank (placed_of_standing), and early, where every signal is placed
-- (placed_of_all). Leans on PlanOfMates.
use Prim.Native.Nat.{ℕ, suc, ◌+◌, ◌≤◌, ◌<◌}
use mathlib.Core.Path.{◌≡◌}
use mathlib.Core.List.{List}
use native.Mathlib.Nat.{lt_of_not-le}
use native.Mathlib.Decide.{dec_lt}
use native.Mathlib.Omega.{arith}
use Rattle.plans.specs.Numbers.{under}
use Rattle.plans.specs.Plan.{Table, load}
use Rattle.plans.specs.Covers.{Covers, Live}
use Rattle.plans.proofs.Sums.{under_yes}
use Rattle.plans.proofs.Pick.{pick_yes, pick_no}
use Rattle.plans.specs.Tables.{pick}
use borrow.Author.Tests.{lt-ltb, le-ltb}
use lib.Dec.{ltb}
use Rattle.units.specs.declared.Size.{Size}
use Rattle.work.specs.Work.{at, CHANNEL}
use Rattle.work.specs.Input.{Input}
use Rattle.work.specs.Ranks.{table_with, Ranks, places}
use Rattle.placer.specs.Placing.{Placed}
use Rattle.placer.proofs.Standing.{Standing}
use Rattle.placer.proofs.PlanOfMates.{load_taken, plan_of_standing}

-- After the last rank

pub placed_of_standing : (z : Size) (rank : ℕ → ℕ → ℕ) (K : Covers) (w : List ℕ) → Input z w → Ranks z rank w
    → Standing z rank K z.ranks z.ranks w → Placed z rank w
placed_of_standing z rank K w n r S =
    record {
      plan = plan_of_standing z rank K z.ranks z.ranks w n r (omega arith) S;
      covers = K;
      certificate = S.certificate;
      tight =
          record {
            stands = λ s l k. S.stands s (at w CHANNEL s) l (S.along.live s l k);
            placed = S.placed;
            full = λ j c k l m. load_taken z rank w n S.mates c l (S.taken j c k l m);
          };
    }

-- Every signal is placed: covers of all signals serve for all further ranks

-- K for the first i ranks, then every signal and no channel
unfoldable all_signals : Covers → ℕ → Covers
all_signals K i =
    record {
      on_signal = λ j s. pick (ltb j i) (K.on_signal j s) 1;
      on_channel = λ j c. pick (ltb j i) (K.on_channel j c) 0;
    }

module _ (K : Covers) (i : ℕ) where
  early_cover : (j s c : ℕ) → j < i → ((all_signals K i).on_signal j s ≡ K.on_signal j s) × ((all_signals K i).on_channel j c ≡ K.on_channel j c)
  unfolding all_signals
  early_cover j s c l = (pick_yes _ _ (lt-ltb j i l), pick_yes _ _ (lt-ltb j i l))

  late_cover : (j s c : ℕ) → i ≤ j → ((all_signals K i).on_signal j s ≡ 1) × ((all_signals K i).on_channel j c ≡ 0)
  unfolding all_signals
  late_cover j s c l = (pick_no _ _ (le-ltb j i l), pick_no _ _ (le-ltb j i l))

pub placed_of_all : (z : Size) (rank : ℕ → ℕ → ℕ) (K : Covers) (i : ℕ) (w : List ℕ) → Input z w → Ranks z rank w → i < z.ranks
    → Standing z rank K (suc i) i w → ((s : ℕ) → s < z.signals → at w CHANNEL s < z.channels) → Placed z rank w
placed_of_all z rank K i w n r inside S everyone =
    record {
      plan = plan_of_standing z rank K (suc i) i w n r inside S;
      covers = all_signals K i;
      certificate = record { covered = λ j s c l v. covered j s c v (dec_lt j i) };
      tight =
          record {
            stands = λ s l k. record { allows = λ j m. allows s l k j (dec_lt j i) };
            placed = λ j s l m k. everyone s m;
            full = λ j c l m k. full j c m k (dec_lt j i);
          };
    }
  where
    T : Table
    T = table_with z rank

    covered : (j s c : ℕ) → Live T (all_signals K i) j s c → Dec (j < i) → 1 ≤ (all_signals K i).on_signal j s + (all_signals K i).on_channel j c
    covered j s c v (no l) = let (es, ec) = late_cover K i j s c (omega (arith, lt_of_not-le l)) in omega arith
    covered j s c v (yes l) =
        let (es, ec) = early_cover K i j s c l in
        omega (
          arith,
          S.certificate.covered j s c l
              (record {
                signal = v.signal;
                channel = v.channel;
                listed = v.listed;
                ranked = v.ranked;
                stands = record { allows = λ h m. let (fs, fc) = early_cover K i h s c (omega arith) in omega (arith, v.stands.allows h m) };
              }),
        )

    allows : (s : ℕ) → s < z.signals → at w CHANNEL s < z.channels → (j : ℕ) → Dec (j < i)
        → (all_signals K i).on_signal j s + (all_signals K i).on_channel j (at w CHANNEL s) ≤ under (rank s (at w CHANNEL s)) (suc (suc j))
    allows s l k j (yes m) =
        let (es, ec) = early_cover K i j s (at w CHANNEL s) m in
        omega (arith, (S.stands s (at w CHANNEL s) l (S.along.live s l k)).allows j m)
    allows s l k j (no m) =
        let (es, ec) = late_cover K i j s (at w CHANNEL s) (omega (arith, lt_of_not-le m)) in
        omega (
          arith,
          under_yes (rank s (at w CHANNEL s)) (suc (suc j))
              (omega (arith, S.entered s (at w CHANNEL s) l (S.along.live s l k), lt_of_not-le m)),
        )

    full : (j c : ℕ) → c < z.channels → 1 ≤ (all_signals K i).on_channel j c → Dec (j < i) → 1 ≤ load T (places w) c
    full j c m k (yes l) = load_taken z rank w n S.mates c m (S.taken j c l m (omega (arith, (early_cover K i j 0 c l).1)))
    full j c m k (no l) = absurd (omega (arith, (late_cover K i j 0 c (omega (arith, lt_of_not-le l))).1))
