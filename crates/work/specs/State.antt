-- What holds of the work area while a table is placed: the lists of live channels, who sits where, and the marks. Every step
-- of the rank loop speaks in these words. Nothing here speaks of best plans.
use Rattle.std.specs.Prelude.{ℕ, suc, ◌≤◌, ◌<◌, ◌≡◌, List}
use Rattle.units.specs.declared.Size.{Size}
use Rattle.work.specs.Work.{at, none, START, LIVE, END, CHANNEL, SIGNAL, FROM}
use Rattle.work.specs.Input.{Listed}

-- Live lists

-- Channel c stands in the list of signal s.
pub record InList (w : List ℕ) (s c : ℕ) : Type 0 where
  pub position : ℕ
  pub from : at w START s ≤ position
  pub below : position < at w END s
  pub is : at w LIVE position ≡ c

-- Each list lies in the room of its signal's entries, and holds channels of those entries.
pub record Lists (z : Size) (w : List ℕ) : Type 0 where
  pub order : (s : ℕ) → s < z.signals → at w START s ≤ at w END s
  pub inside : (s : ℕ) → s < z.signals → at w END s ≤ at w START (suc s)
  pub backed : (s c : ℕ) → s < z.signals → InList w s c → Listed z w s c

-- Mates

-- The channels of the signals and the signals of the channels are inverse to each other.
pub record Mates (z : Size) (w : List ℕ) : Type 0 where
  pub placed : (s : ℕ) → s < z.signals → (at w CHANNEL s ≡ none → ⊥) → at w CHANNEL s < z.channels
  pub back : (s : ℕ) → s < z.signals → at w CHANNEL s < z.channels → at w SIGNAL (at w CHANNEL s) ≡ s
  pub taken : (c : ℕ) → c < z.channels → (at w SIGNAL c ≡ none → ⊥) → at w SIGNAL c < z.signals
  pub forth : (c : ℕ) → c < z.channels → at w SIGNAL c < z.signals → at w CHANNEL (at w SIGNAL c) ≡ c

-- Every placed signal sits on a channel of its list.
pub record Along (z : Size) (w : List ℕ) : Type 0 where
  pub live : (s : ℕ) → s < z.signals → at w CHANNEL s < z.channels → InList w s (at w CHANNEL s)

-- Who is placed stays placed, and who is taken stays taken.
pub record Keeps (z : Size) (v w : List ℕ) : Type 0 where
  pub placed : (s : ℕ) → s < z.signals → at v CHANNEL s < z.channels → at w CHANNEL s < z.channels
  pub taken : (c : ℕ) → c < z.channels → at v SIGNAL c < z.signals → at w SIGNAL c < z.signals

-- Marks: a channel is marked where a search has reached it and recorded from which signal.

-- No channel is marked.
pub record Unmarked (z : Size) (w : List ℕ) : Type 0 where
  pub each : (c : ℕ) → c < z.channels → at w FROM c ≡ none

-- A signal is done: every channel of its list is marked.
pub record Done (w : List ℕ) (s : ℕ) : Type 0 where
  pub each : (c : ℕ) → InList w s c → at w FROM c < none

-- What failed searches from the first r signals leave: the free ones among these are done; a marked channel is taken, and
-- its signal is done.
pub record Sealed (z : Size) (r : ℕ) (w : List ℕ) : Type 0 where
  pub marks : (c : ℕ) → c < z.channels → at w FROM c ≤ none
  pub free : (s : ℕ) → s < z.signals → s < r → at w CHANNEL s ≡ none → Done w s
  pub taken : (c : ℕ) → c < z.channels → at w FROM c < none → at w SIGNAL c < z.signals
  pub onward : (c : ℕ) → c < z.channels → at w FROM c < none → Done w (at w SIGNAL c)
