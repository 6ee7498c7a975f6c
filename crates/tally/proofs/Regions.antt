-- What a caller reads of a tally: the counts and the places, cut out of the area as two lists, are those of the table's plan
-- (recorded). Leans on specs/Tallying.
use Prim.Native.Nat.{ℕ, ◌+◌, ◌*◌, ◌≤◌, ◌<◌}
use mathlib.Core.Path.{◌≡◌, ◌∙◌}
use mathlib.Core.List.{List}
use native.Mathlib.Decide.{ℕ_discrete}
use native.Mathlib.Omega.{arith}
use lib.ListN.{length, take, drop, get_or}
use Rattle.plans.specs.Plan.{Table, Places, line}
use Rattle.units.specs.declared.Size.{Size}
use Rattle.work.specs.Work.{at, none, CHANNEL, PLACE, COUNT}
use Rattle.work.specs.Input.{Input}
use Rattle.work.specs.State.{Mates}
use Rattle.work.specs.Ranks.{table_with, places, Ranks}
use Rattle.work.proofs.Area.{region_length, region_at}
use Rattle.tally.specs.Tallying.{Tallied}

-- One count for each rank of the table and one place for each signal: 16 times its channel plus the rank of their pair, or 16 times
-- what stands for none.
pub record Recorded (T : Table) (p : Places) (counts places : List ℕ) : Type 0 where
  pub ranks : length counts ≡ T.ranks
  pub signals : length places ≡ T.signals
  pub count : (i : ℕ) → i < T.ranks → get_or counts i 0 ≡ line T p i
  pub placed : (s : ℕ) → s < T.signals → p s < T.channels → get_or places s 0 ≡ 16 * p s + T.rank s (p s)
  pub unplaced : (s : ℕ) → s < T.signals → T.channels ≤ p s → get_or places s 0 ≡ 16 * none

-- The counts and places of a tally are those of every table whose ranks the area lists.
pub recorded : {z : Size} {rank : ℕ → ℕ → ℕ} {v w : List ℕ} → Input z v → Mates z v → Ranks z rank v → Tallied z v w
    → Recorded (table_with z rank) (places v) (take z.ranks (drop COUNT w)) (take z.signals (drop PLACE w))
recorded {z} {rank} {v} {w} n m R T =
    record {
      ranks = region_length w COUNT z.ranks (omega (arith, n.room, n.limits.few_ranks, T.below.size));
      signals = region_length w PLACE z.signals (omega (arith, n.room, n.limits.few_signals, T.below.size));
      count = λ i l. region_at w COUNT z.ranks i l ∙ T.counts rank R i l;
      placed = λ s l h. region_at w PLACE z.signals s l ∙ T.placed rank R s l h;
      unplaced = λ s l h. region_at w PLACE z.signals s l ∙ T.unplaced s l (free s l h (ℕ_discrete (at v CHANNEL s) none));
    }
  where
    free : (s : ℕ) → s < z.signals → z.channels ≤ at v CHANNEL s → Dec (at v CHANNEL s ≡ none) → at v CHANNEL s ≡ none
    free s l h (yes e) = e
    free s l h (no e) = absurd (omega (arith, m.placed s l e))
