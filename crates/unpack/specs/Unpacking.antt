-- What unpacking promises: the area lists the entries of a payload, in range and chained by rank, and holds elsewhere what it held.
use Rattle.std.specs.Prelude.{ℕ, ◌+◌, ◌<◌, ◌≡◌, List}
use Rattle.tables.specs.Payload.{entry_in}
use Rattle.units.specs.declared.Size.{Size}
use Rattle.work.specs.Work.{PAIR, LINK, FIRST, START, signal_at, channel_at, rank_at, UnchangedBut}
use Rattle.work.specs.Input.{Input}

-- The indices that unpacking writes: of each entry the pair and the link, of each rank the first entry, and so many starts.
pub data Filled (pairs starts : ℕ) : ℕ → Type 0 where
  pair_of : (e : ℕ) → e < pairs → Filled pairs starts (PAIR + e)
  link_of : (e : ℕ) → e < pairs → Filled pairs starts (LINK + e)
  first_of : (r : ℕ) → r < 16 → Filled pairs starts (FIRST + r)
  start_of : (s : ℕ) → s < starts → Filled pairs starts (START + s)

-- The area w holds the entries of payload p, and at every other index what v held.
pub record Unpacked (p : List ℕ) (z : Size) (v w : List ℕ) : Type 0 where
  pub input : Input z w
  pub signal : (e : ℕ) → e < z.pairs.0 → signal_at w e ≡ (entry_in p e).signal
  pub channel : (e : ℕ) → e < z.pairs.0 → channel_at w e ≡ (entry_in p e).channel
  pub rank : (e : ℕ) → e < z.pairs.0 → rank_at w e ≡ (entry_in p e).rank
  pub others : UnchangedBut (Filled z.pairs.0 (z.signals + 1)) w v
