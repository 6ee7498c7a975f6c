-- Tallying, part by part. What a part needs holds for some size, which its code does not know; what it promises holds for every
-- size.
use Rattle.std.specs.Prelude.{ℕ, suc, ◌+◌, ◌*◌, ◌%◌, ◌≤◌, ◌<◌, ◌≡◌, List}
use Rattle.plans.specs.Numbers.{same}
use Rattle.units.specs.declared.Size.{Size}
use Rattle.units.specs.Limits.{most_signals}
use Rattle.work.specs.Work.{at, none, CHANNEL, WHOLE, PLACE, COUNT, rank_at, Unchanged}
use Rattle.work.specs.Input.{Input, Listed}
use Rattle.work.specs.State.{Mates}
use Rattle.tally.specs.Tallying.{Placeable}

-- The rank of a pair

-- The area holds a table, of some size, that lists signal s with channel c.
pub record Findable (w : List ℕ) (s c : ℕ) : Type 0 where
  pub size : Size
  pub input : Input size w
  pub listed : Listed size w s c

-- r is the rank of an entry that is the pair of signal s and channel c.
pub record RankOf (z : Size) (w : List ℕ) (s c r : ℕ) : Type 0 where
  pub listed : Listed z w s c
  pub is : r ≡ rank_at w listed.entry

-- r is the rank of signal s and channel c in every table that the area holds and that lists them.
pub record RankFound (w : List ℕ) (s c r : ℕ) : Type 0 where
  pub each : (z : Size) → Input z w → Listed z w s c → RankOf z w s c r

-- One signal

-- The area holds a table and a plan of it that can be tallied, and s is one of its signals.
pub record SignalOf (z : Size) (s : ℕ) (w : List ℕ) : Type 0 where
  pub input : Input z w
  pub mates : Mates z w
  pub placeable : Placeable z w
  pub signal : s < z.signals

-- So it is for some size, and each count is small enough to go up by one.
pub record Tallyable (s : ℕ) (w : List ℕ) : Type 0 where
  pub size : Size
  pub is : SignalOf size s w
  pub few : (i : ℕ) → i < size.ranks → at w COUNT i ≤ most_signals

-- x is the place of signal s on channel c: 16 times the channel plus the rank of their pair.
pub record PlaceOf (z : Size) (w : List ℕ) (s c x : ℕ) : Type 0 where
  pub rank : ℕ
  pub of : RankOf z w s c rank
  pub is : x ≡ 16 * c + rank

-- The place of signal s is recorded; the count of its rank, if it has one, went up by one.
pub record TalliedOne (z : Size) (s : ℕ) (v w : List ℕ) : Type 0 where
  pub below : Unchanged 0 WHOLE w v
  pub placed : at v CHANNEL s < z.channels → PlaceOf z v s (at v CHANNEL s) (at w PLACE s)
  pub unplaced : at v CHANNEL s ≡ none → at w PLACE s ≡ 16 * none
  pub others : (t : ℕ) → t < most_signals → (t ≡ s → ⊥) → at w PLACE t ≡ at v PLACE t
  pub counts : (i : ℕ) → i < z.ranks → at w COUNT i ≡ at v COUNT i + same (at w PLACE s % 16) (suc i)

-- It is so for every table and plan that the area holds.
pub record SignalTallied (s : ℕ) (v w : List ℕ) : Type 0 where
  pub each : (z : Size) → SignalOf z s v → TalliedOne z s v w
