-- What tallying needs of a plan and promises: the place of each signal, and the plan's counts.
use Rattle.std.specs.Prelude.{ℕ, ◌+◌, ◌*◌, ◌<◌, ◌≡◌, List}
use Rattle.plans.specs.Plan.{line}
use Rattle.units.specs.declared.Size.{Size}
use Rattle.work.specs.Work.{at, none, CHANNEL, WHOLE, PLACE, COUNT, Unchanged}
use Rattle.work.specs.Input.{Listed}
use Rattle.work.specs.Ranks.{table_with, Ranks, places}

-- What tallying needs of a plan: every placed signal's pair has an entry. By Input it stands among the entries of its signal.
pub record Placeable (z : Size) (w : List ℕ) : Type 0 where
  pub listed : (s : ℕ) → s < z.signals → at w CHANNEL s < z.channels → Listed z w s (at w CHANNEL s)

-- What tallying leaves of the area v, for every table whose ranks it lists and whose plan lies in it: the place of each
-- signal, 16 times its channel, or what stands for none, plus the rank of their pair, 0 where it has none; and the plan's counts.
pub record Tallied (z : Size) (v w : List ℕ) : Type 0 where
  pub below : Unchanged 0 WHOLE w v
  pub placed : (rank : ℕ → ℕ → ℕ) → Ranks z rank v → (s : ℕ) → s < z.signals → at v CHANNEL s < z.channels
      → at w PLACE s ≡ 16 * at v CHANNEL s + rank s (at v CHANNEL s)
  pub unplaced : (s : ℕ) → s < z.signals → at v CHANNEL s ≡ none → at w PLACE s ≡ 16 * none
  pub counts : (rank : ℕ → ℕ → ℕ) → Ranks z rank v → (i : ℕ) → i < z.ranks → at w COUNT i ≡ line (table_with z rank) (places v) i
