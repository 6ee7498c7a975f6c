-- What the table gives: its entries in the area, and which pairs they list.
use Rattle.std.specs.Prelude.{ℕ, suc, ◌≤◌, ◌<◌, ◌≡◌, List, length}
use Rattle.units.specs.declared.Size.{Size}
use Rattle.units.specs.Limits.{Limits}
use Rattle.work.specs.Work.{at, FIRST, START, signal_at, channel_at, next_at, rank_at, NUMBERS}

-- The entries of a table in the area: they are in range, those of a signal lie together, and those of a rank form a chain
-- from the first one on.
pub record Input (z : Size) (w : List ℕ) : Type 0 where
  pub room : NUMBERS ≤ length w
  pub limits : Limits z
  pub signal : (e : ℕ) → e < z.pairs.0 → signal_at w e < z.signals
  pub channel : (e : ℕ) → e < z.pairs.0 → channel_at w e < z.channels
  pub ranked : (e : ℕ) → e < z.pairs.0 → 1 ≤ rank_at w e
  pub within : (e : ℕ) → e < z.pairs.0 → rank_at w e ≤ z.ranks
  pub ascend : (s : ℕ) → s < z.signals → at w START s ≤ at w START (suc s)
  pub last : at w START z.signals ≡ z.pairs.0
  pub after_start : (e : ℕ) → e < z.pairs.0 → at w START (signal_at w e) ≤ e
  pub before_end : (e : ℕ) → e < z.pairs.0 → e < at w START (suc (signal_at w e))
  pub first_is : (r : ℕ) → 1 ≤ r → r ≤ z.ranks → at w FIRST r < z.pairs.0 → rank_at w (at w FIRST r) ≡ r
  pub first_skips : (r e : ℕ) → 1 ≤ r → r ≤ z.ranks → e < z.pairs.0 → e < at w FIRST r → rank_at w e ≡ r → ⊥
  pub next_later : (e : ℕ) → e < z.pairs.0 → e < next_at w e
  pub next_is : (e : ℕ) → e < z.pairs.0 → next_at w e < z.pairs.0 → rank_at w (next_at w e) ≡ rank_at w e
  pub next_skips : (e j : ℕ) → e < z.pairs.0 → e < j → j < next_at w e → j < z.pairs.0 → rank_at w j ≡ rank_at w e → ⊥

-- Some entry is the pair of signal s and channel c.
pub record Listed (z : Size) (w : List ℕ) (s c : ℕ) : Type 0 where
  pub entry : ℕ
  pub inside : entry < z.pairs.0
  pub signal : signal_at w entry ≡ s
  pub channel : channel_at w entry ≡ c
