-- Striking, part by part. What the code needs to be safe speaks of some size of the table (HasList, Strikable); what it promises
-- speaks of every size.
use Rattle.std.specs.Prelude.{ℕ, suc, ◌≤◌, ◌<◌, ◌≡◌, Bool, true, List}
use Rattle.units.specs.declared.Size.{Size}
use Rattle.units.specs.Limits.{most_channels}
use Rattle.work.specs.Input.{Input}
use Rattle.work.specs.Work.{at, none, START, MIDDLE, LIVE, END, CHANNEL, SHUT_SIGNAL, SHUT_CHANNEL, FROM, WHOLE, Unchanged}
use Rattle.work.specs.State.{InList, Lists, Mates, Unmarked}
use Rattle.strike.specs.Striking.{Covered}

-- The signals' part of striking leaves the table, the mates, the channels' flags and the marks alone.
pub record Spared (v w : List ℕ) : Type 0 where
  pub input : Unchanged 0 MIDDLE w v
  pub mates : Unchanged CHANNEL SHUT_SIGNAL w v
  pub marks : Unchanged SHUT_CHANNEL WHOLE w v

-- Signal s keeps its flag, the end of its list and all that lies in the list's room.
pub record Untouched (s : ℕ) (v w : List ℕ) : Type 0 where
  pub flag : at w SHUT_SIGNAL s ≡ at v SHUT_SIGNAL s
  pub end : at w END s ≡ at v END s
  pub room : (k : ℕ) → at v START s ≤ k → k < at v START (suc s) → at w LIVE k ≡ at v LIVE k

-- The list of signal s is a part of what it was.
pub record Lessened (s : ℕ) (v w : List ℕ) : Type 0 where
  pub shorter : at w END s ≤ at v END s
  pub order : at w START s ≤ at w END s
  pub only : (c : ℕ) → InList w s c → InList v s c

-- The list of signal s holds exactly the unmarked channels that it held, and no other signal is touched.
pub record Thinned (z : Size) (s : ℕ) (v w : List ℕ) : Type 0 where
  pub spared : Spared v w
  pub others : (t : ℕ) → t < z.signals → (t ≡ s → ⊥) → Untouched t v w
  pub less : Lessened s v w
  pub unmarked : (c : ℕ) → InList w s c → at v FROM c ≡ none
  pub kept : (c : ℕ) → InList v s c → at v FROM c ≡ none → InList w s c
  pub flag : at w SHUT_SIGNAL s ≡ at v SHUT_SIGNAL s

-- Signal s has a list, in a table of some size with its mates.
pub record HasList (s : ℕ) (w : List ℕ) : Type 0 where
  pub size : Size
  pub input : Input size w
  pub lists : Lists size w
  pub mates : Mates size w
  pub inside : s < size.signals

-- The list of signal s is thinned, whatever the table's size is.
pub record ThinnedList (s : ℕ) (v w : List ℕ) : Type 0 where
  pub each : (z : Size) → Input z v → Lists z v → s < z.signals → Thinned z s v w

-- Where r is true none of the first n channels is marked.
pub record ClearOf (n : ℕ) (r : Bool) (w : List ℕ) : Type 0 where
  pub each : r ≡ true → (c : ℕ) → c < n → at w FROM c ≡ none

-- Signal s is as striking leaves it.
pub record StruckAt (z : Size) (s : ℕ) (v w : List ℕ) : Type 0 where
  pub shut : Covered z v s → at w SHUT_SIGNAL s ≡ 1
  pub as_it_was : (Covered z v s → ⊥) → at w SHUT_SIGNAL s ≡ at v SHUT_SIGNAL s
  pub less : Lessened s v w
  pub struck : (c : ℕ) → InList w s c → Covered z v s → at v FROM c ≡ none
  pub kept : (c : ℕ) → InList v s c → (Covered z v s → at v FROM c ≡ none) → InList w s c

-- Signal s is struck, and no other is touched.
pub record StruckOne (z : Size) (s : ℕ) (v w : List ℕ) : Type 0 where
  pub spared : Spared v w
  pub here : StruckAt z s v w
  pub others : (t : ℕ) → t < z.signals → (t ≡ s → ⊥) → Untouched t v w

-- What striking meets: a table of this size, with its lists and mates, and `clear` is true only where no channel is marked.
pub record Met (z : Size) (clear : Bool) (w : List ℕ) : Type 0 where
  pub input : Input z w
  pub lists : Lists z w
  pub mates : Mates z w
  pub unmarked : clear ≡ true → Unmarked z w

-- Signal s is struck, whatever the table's size is.
pub record StruckSignal (s : ℕ) (clear : Bool) (v w : List ℕ) : Type 0 where
  pub each : (z : Size) → Met z clear v → s < z.signals → StruckOne z s v w

-- The first n signals are struck, and no other is touched.
pub record StruckSignals (z : Size) (n : ℕ) (v w : List ℕ) : Type 0 where
  pub spared : Spared v w
  pub done : (s : ℕ) → s < n → StruckAt z s v w
  pub ahead : (s : ℕ) → n ≤ s → s < z.signals → Untouched s v w

-- The first n signals can be struck, in a table of some size;
pub record Strikable (n : ℕ) (clear : Bool) (w : List ℕ) : Type 0 where
  pub size : Size
  pub met : Met size clear w
  pub most : n ≤ size.signals

-- and they are struck, whatever the table's size is.
pub record StruckTo (n : ℕ) (clear : Bool) (v w : List ℕ) : Type 0 where
  pub each : (z : Size) → Met z clear v → n ≤ z.signals → StruckSignals z n v w

-- Of the first n channels the marked ones are shut and the marks gone, and nothing else is changed.
pub record StruckChannels (n : ℕ) (v w : List ℕ) : Type 0 where
  pub below : Unchanged 0 SHUT_CHANNEL w v
  pub cleared : (c : ℕ) → c < n → at w FROM c ≡ none
  pub shut : (c : ℕ) → c < n → at v FROM c < none → at w SHUT_CHANNEL c ≡ 1
  pub as_it_was : (c : ℕ) → c < n → at v FROM c ≡ none → at w SHUT_CHANNEL c ≡ at v SHUT_CHANNEL c
  pub ahead_mark : (c : ℕ) → n ≤ c → at w FROM c ≡ at v FROM c
  pub ahead_flag : (c : ℕ) → n ≤ c → c < most_channels → at w SHUT_CHANNEL c ≡ at v SHUT_CHANNEL c
