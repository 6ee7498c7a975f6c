-- Which table the area holds, and where it puts the signals.
use Rattle.std.specs.Prelude.{ℕ, ◌≤◌, ◌<◌, ◌≡◌, List}
use Rattle.plans.specs.Plan.{Table, Places}
use Rattle.units.specs.declared.Size.{Size}
use Rattle.work.specs.Work.{at, CHANNEL, signal_at, channel_at, rank_at}
use Rattle.work.specs.Input.{Listed}

-- The table with these numbers and these ranks, and one slot for every channel.
abbrev pub table_with : Size → (ℕ → ℕ → ℕ) → Table
table_with z rank = record { signals = z.signals; channels = z.channels; ranks = z.ranks; rank = rank; slots = λ c. 1 }

-- The area lists these ranks: each entry's rank is that of its pair, and each pair with a rank from 1 to R has an entry.
pub record Ranks (z : Size) (rank : ℕ → ℕ → ℕ) (w : List ℕ) : Type 0 where
  pub given : (e : ℕ) → e < z.pairs.0 → rank (signal_at w e) (channel_at w e) ≡ rank_at w e
  pub listed : (s c : ℕ) → s < z.signals → c < z.channels → 1 ≤ rank s c → rank s c ≤ z.ranks → Listed z w s c

-- where the area puts the signals
abbrev pub places : List ℕ → Places
places w s = at w CHANNEL s
