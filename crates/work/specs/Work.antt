-- The work area: one lent slice of 16 bit numbers, in regions at constant offsets. What the table gives lies lowest, what placing
-- changes in the middle, scratch on top.
use Rattle.std.specs.Prelude.{ℕ, ◌+◌, ◌/◌, ◌%◌, ◌≤◌, ◌<◌, ◌≡◌, List, length, get_or}

-- Number i of the region that starts at `off`.
unfoldable pub at : List ℕ → ℕ → ℕ → ℕ
at w off i = get_or w (off + i) 0

-- What stands for no signal and for no channel; both are below 200.
abbrev pub none : ℕ
none = 255

-- The table's entries, 3,000 at most: of entry e the pair, 256 times its signal plus its channel; and the link, 16 times the next
-- entry of the same rank plus the rank.
abbrev pub PAIR : ℕ
PAIR = 0

abbrev pub LINK : ℕ
LINK = 3000

-- the first entry of rank r, and the first entry of signal s (one more than there are signals)
abbrev pub FIRST : ℕ
FIRST = 6000

abbrev pub START : ℕ
START = 6016

-- where placing begins to write
abbrev pub MIDDLE : ℕ
MIDDLE = 6217

-- the lists of live channels: signal s's lie from START s up to END s
abbrev pub LIVE : ℕ
LIVE = 6217

abbrev pub END : ℕ
END = 9217

-- the channel of a signal and the signal of a channel, or none
abbrev pub CHANNEL : ℕ
CHANNEL = 9417

abbrev pub SIGNAL : ℕ
SIGNAL = 9617

-- 1 where a signal or a channel was covered at an earlier rank, else 0
abbrev pub SHUT_SIGNAL : ℕ
SHUT_SIGNAL = 9817

abbrev pub SHUT_CHANNEL : ℕ
SHUT_CHANNEL = 10017

-- scratch: the signal that a search reached a channel from, or none; and the channels it reached, in the order of reaching
abbrev pub SCRATCH : ℕ
SCRATCH = 10217

abbrev pub FROM : ℕ
FROM = 10217

abbrev pub QUEUE : ℕ
QUEUE = 10417

-- the end of the regions that placing uses
abbrev pub WHOLE : ℕ
WHOLE = 10617

-- the tally of a finished plan: the place of each signal, 16 times its channel, or what stands for none, plus the rank of their
-- pair, 0 where it has none; and the counts, rank 1 first
abbrev pub PLACE : ℕ
PLACE = 10617

abbrev pub COUNT : ℕ
COUNT = 10817

-- so many numbers the area has at least
abbrev pub NUMBERS : ℕ
NUMBERS = 16384

-- Of entry e: its signal, its channel, the next entry of the same rank, and its rank.
unfoldable pub signal_at : List ℕ → ℕ → ℕ
signal_at w e = at w PAIR e / 256

unfoldable pub channel_at : List ℕ → ℕ → ℕ
channel_at w e = at w PAIR e % 256

unfoldable pub next_at : List ℕ → ℕ → ℕ
next_at w e = at w LINK e / 16

unfoldable pub rank_at : List ℕ → ℕ → ℕ
rank_at w e = at w LINK e % 16

-- Two areas of the same length that hold the same numbers from index a up to index b.
pub record Unchanged (a b : ℕ) (w v : List ℕ) : Type 0 where
  pub size : length w ≡ length v
  pub each : (i : ℕ) → a ≤ i → i < b → get_or w i 0 ≡ get_or v i 0

-- Two areas of the same length that hold the same numbers everywhere but at the indices P.
pub record UnchangedBut (P : ℕ → Type 0) (w v : List ℕ) : Type 0 where
  pub size : length w ≡ length v
  pub each : (i : ℕ) → (P i → ⊥) → get_or w i 0 ≡ get_or v i 0

-- v is w with x put at number i of the region that starts at `off`.
pub record Put (w : List ℕ) (off i x : ℕ) (v : List ℕ) : Type 0 where
  pub size : length v ≡ length w
  pub here : at v off i ≡ x
  pub others : (k : ℕ) → (k ≡ off + i → ⊥) → get_or v k 0 ≡ get_or w k 0

-- w is v with x put at the first n numbers of the region that starts at `off`.
pub record Fills (off n x : ℕ) (v w : List ℕ) : Type 0 where
  pub size : length w ≡ length v
  pub here : (i : ℕ) → i < n → at w off i ≡ x
  pub below : (k : ℕ) → k < off → get_or w k 0 ≡ get_or v k 0
  pub behind : (k : ℕ) → off + n ≤ k → get_or w k 0 ≡ get_or v k 0

-- w is v with the first n numbers of the region that starts at `from` put at those of the region that starts at `to`.
pub record Copies (from to n : ℕ) (v w : List ℕ) : Type 0 where
  pub size : length w ≡ length v
  pub here : (i : ℕ) → i < n → at w to i ≡ at v from i
  pub below : (k : ℕ) → k < to → get_or w k 0 ≡ get_or v k 0
  pub behind : (k : ℕ) → to + n ≤ k → get_or w k 0 ≡ get_or v k 0
