-- The mates are a plan: a taken channel has a signal on it (load_taken), none has two (load_one), and where Standing holds the
-- plan is one of the table (plan_of_standing). Leans on Standing.
use Prim.Native.Nat.{ℕ, ◌≤◌, ◌<◌}
use mathlib.Core.List.{List}
use native.Mathlib.Omega.{arith}
use Rattle.plans.specs.Numbers.{same}
use Rattle.plans.specs.Plan.{Plan, load}
use Rattle.plans.specs.Covers.{Covers}
use Rattle.plans.proofs.Sums.{under-bit, same_yes, same_bit, by_same, sum_le, sum_term, sum_same}
use Rattle.units.specs.declared.Size.{Size}
use Rattle.work.specs.Work.{at, CHANNEL, SIGNAL}
use Rattle.work.specs.Input.{Input}
use Rattle.work.specs.State.{Mates}
use Rattle.work.specs.Ranks.{table_with, Ranks, places}
use Rattle.placer.proofs.Standing.{Standing, list_rank}

-- Signals on a channel, counted by the mates.
module _ (z : Size) (rank : ℕ → ℕ → ℕ) (w : List ℕ) (n : Input z w) (m : Mates z w) (c : ℕ) (l : c < z.channels) where
  pub load_taken : at w SIGNAL c < z.signals → 1 ≤ load (table_with z rank) (places w) c
  unfolding load
  load_taken k =
      omega (
        arith,
        sum_term (λ s. same (at w CHANNEL s) c) z.signals (at w SIGNAL c) k,
        same_yes (at w CHANNEL (at w SIGNAL c)) c (m.forth c l k),
      )

  pub load_one : load (table_with z rank) (places w) c ≤ 1
  unfolding load
  load_one =
      omega (
        arith,
        sum_le (λ s. same (at w CHANNEL s) c) (λ s. same (at w SIGNAL c) s) z.signals each,
        sum_same (at w SIGNAL c) z.signals,
        under-bit (at w SIGNAL c) z.signals,
      )
    where
      each : (s : ℕ) → s < z.signals → same (at w CHANNEL s) c ≤ same (at w SIGNAL c) s
      each s k =
          by_same (at w CHANNEL s) c
          (λ e h. omega (arith, same_bit (at w CHANNEL s) c, same_yes (at w SIGNAL c) s (rw e at (m.back s k (omega arith)))))
          (λ e h. omega arith)

pub plan_of_standing : (z : Size) (rank : ℕ → ℕ → ℕ) (K : Covers) (m i : ℕ) (w : List ℕ) → Input z w → Ranks z rank w → m ≤ z.ranks
    → Standing z rank K m i w → Plan (table_with z rank) (places w)
plan_of_standing z rank K m i w n r most S =
    record {
      listed = λ s l k. list_rank n r S.lists s (at w CHANNEL s) l (S.along.live s l k);
      ranked = λ s l k. omega (arith, S.entered s (at w CHANNEL s) l (S.along.live s l k));
      room = λ c l. load_one z rank w n S.mates c l;
    }
