-- Unpacking, part by part.
use Rattle.std.specs.Prelude.{ℕ, ◌+◌, ◌%◌, ◌≤◌, ◌<◌, ◌≡◌, List, length}
use Rattle.tables.specs.Payload.{entry_bits, entry_in}
use Rattle.units.specs.Limits.{most_signals, most_pairs}
use Rattle.work.specs.Work.{at, NUMBERS, FIRST, START, signal_at, channel_at, next_at, rank_at, Unchanged, UnchangedBut}
use Rattle.unpack.specs.Unpacking.{Filled}

-- So many entries fit: a table may have them, and the area has room.
pub record EntriesFit (pairs : ℕ) (w : List ℕ) : Type 0 where
  pub room : NUMBERS ≤ length w
  pub few : pairs ≤ most_pairs

-- No rank has an entry yet.
pub record Unchained (pairs : ℕ) (w : List ℕ) : Type 0 where
  pub fits : EntriesFit pairs w
  pub first : (r : ℕ) → r < 16 → at w FIRST r ≡ pairs

-- The entries from n on are those of payload p, and those of a rank form a chain from the first one on; `pairs` ends a chain.
pub record Chained (p : List ℕ) (pairs n : ℕ) (w : List ℕ) : Type 0 where
  pub fits : EntriesFit pairs w
  pub signal : (e : ℕ) → n ≤ e → e < pairs → signal_at w e ≡ (entry_in p e).signal
  pub channel : (e : ℕ) → n ≤ e → e < pairs → channel_at w e ≡ (entry_in p e).channel
  pub rank : (e : ℕ) → n ≤ e → e < pairs → rank_at w e ≡ (entry_in p e).rank
  pub first_from : (r : ℕ) → r < 16 → n ≤ at w FIRST r
  pub first_most : (r : ℕ) → r < 16 → at w FIRST r ≤ pairs
  pub first_is : (r : ℕ) → r < 16 → at w FIRST r < pairs → rank_at w (at w FIRST r) ≡ r
  pub first_skips : (r e : ℕ) → r < 16 → n ≤ e → e < at w FIRST r → rank_at w e ≡ r → ⊥
  pub next_later : (e : ℕ) → n ≤ e → e < pairs → e < next_at w e
  pub next_is : (e : ℕ) → n ≤ e → e < pairs → next_at w e < pairs → rank_at w (next_at w e) ≡ rank_at w e
  pub next_skips : (e j : ℕ) → n ≤ e → e < pairs → e < j → j < next_at w e → j < pairs → rank_at w j ≡ rank_at w e → ⊥

-- Entry e, whose 20 bits are `entry`, can be put before the chain of its rank: the area has room for it, and its numbers fit.
pub record Linkable (e entry : ℕ) (w : List ℕ) : Type 0 where
  pub room : NUMBERS ≤ length w
  pub few : e < most_pairs
  pub bits : entry < 1048576
  pub first : at w FIRST (entry % 16) ≤ most_pairs

-- Entry e is put before the chain of its rank: of whatever payload these are the 20 bits, its chains from e + 1 on are now those
-- from e on. Elsewhere w holds what v held.
pub record Linked (e entry : ℕ) (v w : List ℕ) : Type 0 where
  pub chained : (p : List ℕ) (pairs : ℕ) → e < pairs → entry ≡ entry_bits p e → Chained p pairs (e + 1) v → Chained p pairs e w
  pub others : (pairs : ℕ) → e < pairs → UnchangedBut (Filled pairs 0) w v

-- The signals of the entries are in range and never fall.
pub record SignalsRise (signals pairs : ℕ) (w : List ℕ) : Type 0 where
  pub fits : EntriesFit pairs w
  pub few_signals : signals ≤ most_signals
  pub signal : (e : ℕ) → e < pairs → signal_at w e < signals
  pub rising : (i j : ℕ) → i ≤ j → j < pairs → signal_at w i ≤ signal_at w j

-- The entries before x have a signal below s, and those from x on have not.
pub record Splits (pairs : ℕ) (w : List ℕ) (s x : ℕ) : Type 0 where
  pub most : x ≤ pairs
  pub before : (e : ℕ) → e < x → signal_at w e < s
  pub behind : (e : ℕ) → x ≤ e → e < pairs → s ≤ signal_at w e

-- The entries from a up to b have signal s, and the one at b, if there is one, has not.
pub record RunOf (pairs : ℕ) (w : List ℕ) (s a b : ℕ) : Type 0 where
  pub from : a ≤ b
  pub most : b ≤ pairs
  pub each : (e : ℕ) → a ≤ e → e < b → signal_at w e ≡ s
  pub stop : b < pairs → signal_at w b ≡ s → ⊥

-- Each signal's start splits the entries at that signal, and so does the one start more, behind the last signal; at every
-- other index w holds what v held.
pub record Started (signals pairs : ℕ) (v w : List ℕ) : Type 0 where
  pub below : Unchanged 0 START w v
  pub others : UnchangedBut (Filled pairs (signals + 1)) w v
  pub starts : (s : ℕ) → s ≤ signals → Splits pairs v s (at w START s)
