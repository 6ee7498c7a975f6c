-- How large a table may be (document 01, "The table, bit-packed").
use Rattle.std.specs.Prelude.{ℕ, ◌≤◌}
use Rattle.units.specs.declared.Size.{Size}

abbrev pub most_signals : ℕ
most_signals = 200

abbrev pub most_channels : ℕ
most_channels = 200

abbrev pub most_ranks : ℕ
most_ranks = 15

abbrev pub most_pairs : ℕ
most_pairs = 3000

-- A size with these numbers.
abbrev pub size_with : (signals channels ranks pairs : ℕ) → Size
size_with S C R P = record { signals = S; channels = C; ranks = R; pairs = record { 0 = P } }

-- The limits of a table: S and C are 0 to 200, R is 0 to 15, P is 0 to 3,000.
pub record Limits (z : Size) : Type 0 where
  pub few_signals : z.signals ≤ most_signals
  pub few_channels : z.channels ≤ most_channels
  pub few_ranks : z.ranks ≤ most_ranks
  pub few_pairs : z.pairs.0 ≤ most_pairs
