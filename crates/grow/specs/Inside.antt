-- Growing, part by part: what a search leaves, the path that it found, what flipping and clearing do, and what comes of one root.
-- The code reads no size: what it asks (SearchReady, FlipReady, RootReady) holds for some size, and what it promises (SearchesFor,
-- FlipsFor, GrowsFor) for every size that fits.
use Rattle.std.specs.Prelude.{ℕ, suc, ◌+◌, ◌≤◌, ◌<◌, ◌≡◌, Bool, true, ◌⊎◌, List, length, Option, Some, None}
use Rattle.units.specs.declared.Size.{Size}
use Rattle.units.specs.Limits.{most_channels}
use Rattle.work.specs.Work.{at, none, CHANNEL, SIGNAL, SHUT_SIGNAL, SCRATCH, FROM, QUEUE, WHOLE, NUMBERS, Unchanged}
use Rattle.work.specs.Input.{Input}
use Rattle.work.specs.State.{InList, Lists, Mates, Along, Keeps, Sealed}
use Rattle.grow.specs.Growing.{Grown}

-- Searching from one signal, the root

-- What a search begins with: a table with its lists and mates, and the roots before this one are done.
pub record Begun (z : Size) (root : ℕ) (v : List ℕ) : Type 0 where
  pub input : Input z v
  pub lists : Lists z v
  pub mates : Mates z v
  pub sealed : Sealed z root v
  pub root_signal : root < z.signals

-- A search may begin: the area fits some size.
pub record SearchReady (root : ℕ) (w : List ℕ) : Type 0 where
  pub size : Size
  pub begun : Begun size root w

-- The first n channels of the queue branch off the root: each stands in the list of the signal it was reached from, and that
-- is the root or the signal of an earlier one.
pub record Branch (z : Size) (root n : ℕ) (w : List ℕ) : Type 0 where
  pub channel : (j : ℕ) → j < n → at w QUEUE j < z.channels
  pub distinct : (i j : ℕ) → i < j → j < n → at w QUEUE i ≡ at w QUEUE j → ⊥
  pub from : (j : ℕ) → j < n → at w FROM (at w QUEUE j) < z.signals
  pub live : (j : ℕ) → j < n → InList w (at w FROM (at w QUEUE j)) (at w QUEUE j)
  pub parent : (j : ℕ) → j < n → (at w FROM (at w QUEUE j) ≡ root)
      ⊎ ((i : ℕ) × (i < j) × (at w CHANNEL (at w FROM (at w QUEUE j)) ≡ at w QUEUE i))

-- They are all that a search has marked: none of them was marked before, and every other mark is as it was.
pub record Tree (z : Size) (root n : ℕ) (v w : List ℕ) : Type 0 where
  pub branch : Branch z root n w
  pub fresh : (j : ℕ) → j < n → at v FROM (at w QUEUE j) ≡ none
  pub others : (c : ℕ) → c < z.channels → ((j : ℕ) → j < n → at w QUEUE j ≡ c → ⊥) → at w FROM c ≡ at v FROM c

-- What a search leaves: scratch alone is changed; either a tree whose last channel is free, or the root is done too.
unfoldable pub Searched : Size → ℕ → List ℕ → List ℕ → Option ℕ → Type 0
Searched z root v w (Some n) = Unchanged 0 SCRATCH w v × Tree z root n v w × (1 ≤ n) × (n ≤ most_channels) × ((j : ℕ) → suc j ≡ n → at w SIGNAL (at w QUEUE j) ≡ none)
Searched z root v w None = Unchanged 0 SCRATCH w v × Sealed z (suc root) w

-- It is left so for every size that fits the beginning.
pub record SearchesFor (root : ℕ) (v w : List ℕ) (found : Option ℕ) : Type 0 where
  pub each : (z : Size) → Begun z root v → Searched z root v w found

-- Flipping the path from a channel of the queue back to the root

-- Apart from channel c the mates are inverse to each other, and along the lists.
pub record Apart (z : Size) (c : ℕ) (w : List ℕ) : Type 0 where
  pub placed : (s : ℕ) → s < z.signals → (at w CHANNEL s ≡ none → ⊥) → at w CHANNEL s < z.channels
  pub back : (s : ℕ) → s < z.signals → at w CHANNEL s < z.channels → at w SIGNAL (at w CHANNEL s) ≡ s
  pub taken : (d : ℕ) → d < z.channels → (d ≡ c → ⊥) → (at w SIGNAL d ≡ none → ⊥) → at w SIGNAL d < z.signals
  pub forth : (d : ℕ) → d < z.channels → (d ≡ c → ⊥) → at w SIGNAL d < z.signals → at w CHANNEL (at w SIGNAL d) ≡ d
  pub along : Along z w

-- Channel c, one of the first n of the queue, has no signal on it; and the queue up to c is what is left of the path.
pub record Path (z : Size) (root c n : ℕ) (w : List ℕ) : Type 0 where
  pub root_signal : root < z.signals
  pub root_free : at w CHANNEL root ≡ none
  pub position : ℕ
  pub inside : position < n
  pub is : at w QUEUE position ≡ c
  pub empty : (s : ℕ) → s < z.signals → at w CHANNEL s ≡ c → ⊥
  pub apart : Apart z c w
  pub branch : Branch z root (suc position) w

-- A path may be flipped: the area fits some size, and the path has no more steps than there can be channels.
pub record FlipReady (root c steps : ℕ) (w : List ℕ) : Type 0 where
  pub size : Size
  pub input : Input size w
  pub lists : Lists size w
  pub path : Path size root c steps w
  pub short : steps ≤ most_channels

-- What flipping does: only mates change; they are inverse to each other again and along the lists; the root is placed, whoever
-- was placed or taken stays so, no other free signal is placed, and only channels of the queue change their signal.
pub record Flipped (z : Size) (root n : ℕ) (v w : List ℕ) : Type 0 where
  pub below : Unchanged 0 CHANNEL w v
  pub above : Unchanged SHUT_SIGNAL WHOLE w v
  pub mates : Mates z w
  pub along : Along z w
  pub keeps : Keeps z v w
  pub root_placed : at w CHANNEL root < z.channels
  pub free_stays : (s : ℕ) → s < z.signals → (s ≡ root → ⊥) → at v CHANNEL s ≡ none → at w CHANNEL s ≡ none
  pub untouched : (d : ℕ) → d < z.channels → ((j : ℕ) → j < n → at v QUEUE j ≡ d → ⊥) → at w SIGNAL d ≡ at v SIGNAL d

-- It does so for every size that fits the path.
pub record FlipsFor (root c steps : ℕ) (v w : List ℕ) : Type 0 where
  pub each : (z : Size) → Input z v → Lists z v → Path z root c steps v → Flipped z root steps v w

-- Clearing

-- Marks may be taken away: the area is long enough, and the first n of the queue are channels.
pub record ClearReady (n : ℕ) (w : List ℕ) : Type 0 where
  pub room : NUMBERS ≤ length w
  pub few : n ≤ most_channels
  pub channel : (j : ℕ) → j < n → at w QUEUE j < most_channels

-- Taking the marks of the first n of the queue away again: nothing but marks changes.
pub record Cleared (n : ℕ) (v w : List ℕ) : Type 0 where
  pub below : Unchanged 0 FROM w v
  pub above : Unchanged QUEUE WHOLE w v
  pub gone : (j : ℕ) → j < n → at w FROM (at v QUEUE j) ≡ none
  pub others : (c : ℕ) → c < most_channels → ((j : ℕ) → j < n → at v QUEUE j ≡ c → ⊥) → at w FROM c ≡ at v FROM c

-- One root

-- What growing from a root begins with: a search's beginning, placed signals on channels of their lists, and the root free.
pub record Rooted (z : Size) (root : ℕ) (v : List ℕ) : Type 0 where
  pub begun : Begun z root v
  pub along : Along z v
  pub free : at v CHANNEL root ≡ none

-- The plan may grow from a root: the area fits some size.
pub record RootReady (root : ℕ) (w : List ℕ) : Type 0 where
  pub size : Size
  pub rooted : Rooted size root w

-- What comes of one root: the plan is grown from it too; and where the answer is yes, it is placed.
pub record GrownFrom (z : Size) (root : ℕ) (v w : List ℕ) (r : Bool) : Type 0 where
  pub grown : Grown z (root + 1) v w
  pub placed : r ≡ true → at w CHANNEL root < z.channels

-- It comes so for every size that fits the beginning.
pub record GrowsFor (root : ℕ) (v w : List ℕ) (r : Bool) : Type 0 where
  pub each : (z : Size) → Rooted z root v → GrownFrom z root v w r
