-- How a plan is shown to be best without comparing it with every other: a cover for each rank, and a plan that uses it fully.
-- The index of a cover is that of a line: index i, from 0, speaks of rank i + 1.
use Rattle.std.specs.Prelude.{ℕ, suc, ◌+◌, ◌-◌, ◌*◌, ◌≤◌, ◌<◌, eqb}
use Rattle.plans.specs.Numbers.{under, sum}
use Rattle.plans.specs.Plan.{Table, Places, placed, load}
use Rattle.plans.specs.Tables.{pick}

-- Covers: for each rank which signals and which channels are covered, 1 for covered and 0 for not.
pub record Covers : Type 0 where
  pub on_signal : ℕ → ℕ → ℕ
  pub on_channel : ℕ → ℕ → ℕ

-- How many signals a cover allows: each covered signal counts 1, each covered channel its slots.
unfoldable pub weight : Table → (ℕ → ℕ) → (ℕ → ℕ) → ℕ
weight T ks kc = sum T.signals ks + sum T.channels (λ c. kc c * T.slots c)

-- How many signals the cover at index i allows.
abbrev pub weight_at : Table → Covers → ℕ → ℕ
weight_at T K i = weight T (K.on_signal i) (K.on_channel i)

-- A pair stands after n ranks: by each of their covers it is covered at most once, and not at all where its rank is higher.
pub record Stands (T : Table) (K : Covers) (n s c : ℕ) : Type 0 where
  pub allows : (j : ℕ) → j < n → K.on_signal j s + K.on_channel j c ≤ under (T.rank s c) (suc (suc j))

-- A pair is live at rank i + 1: the table lists it, at this rank or a lower one, and it stands after the i ranks before.
pub record Live (T : Table) (K : Covers) (i s c : ℕ) : Type 0 where
  pub signal : s < T.signals
  pub channel : c < T.channels
  pub listed : 1 ≤ T.rank s c
  pub ranked : T.rank s c ≤ suc i
  pub stands : Stands T K i s c

-- The covers of the first n ranks are a certificate: each covers every pair that is live at its rank.
pub record Certificate (T : Table) (K : Covers) (n : ℕ) : Type 0 where
  pub covered : (i s c : ℕ) → i < n → Live T K i s c → 1 ≤ K.on_signal i s + K.on_channel i c

-- A plan is tight for the covers of the first n ranks: its pairs stand after them, each covered signal is placed,
-- and each covered channel is full.
pub record Tight (T : Table) (K : Covers) (n : ℕ) (p : Places) : Type 0 where
  pub stands : (s : ℕ) → s < T.signals → p s < T.channels → Stands T K n s (p s)
  pub placed : (i s : ℕ) → i < n → s < T.signals → 1 ≤ K.on_signal i s → p s < T.channels
  pub full : (i c : ℕ) → i < n → c < T.channels → 1 ≤ K.on_channel i c → T.slots c ≤ load T p c

-- What a search for room at rank i + 1 leaves when it fails: the channels it reached, 1 for reached. A live pair of a signal
-- without a channel, or of one that sits on a reached channel, leads to a reached channel; and every reached channel is full.
pub record Closed (T : Table) (K : Covers) (i : ℕ) (p : Places) (reached : ℕ → ℕ) : Type 0 where
  pub bit : (c : ℕ) → reached c ≤ 1
  pub onward_free : (s c : ℕ) → Live T K i s c → T.channels ≤ p s → 1 ≤ reached c
  pub onward : (s c : ℕ) → Live T K i s c → p s < T.channels → 1 ≤ reached (p s) → 1 ≤ reached c
  pub full : (c : ℕ) → c < T.channels → 1 ≤ reached c → T.slots c ≤ load T p c

-- The cover that a failed search gives: of the channels those reached; of the signals those that sit on a channel not reached,
-- which this counts 1.
unfoldable pub cover_on : Table → Places → (ℕ → ℕ) → ℕ → ℕ
cover_on T p reached s = placed T p s - placed T p s * reached (p s)

-- The functions f with the one at index i replaced by a.
unfoldable pub replaced : (ℕ → ℕ → ℕ) → ℕ → (ℕ → ℕ) → ℕ → ℕ → ℕ
replaced f i a j = pick (eqb j i) a (f j)

-- The covers K with the one at index i replaced by the signals a and the channels b.
unfoldable pub extend : Covers → ℕ → (ℕ → ℕ) → (ℕ → ℕ) → Covers
extend K i a b = record { on_signal = replaced K.on_signal i a; on_channel = replaced K.on_channel i b }

-- The covers after a search that failed at rank i + 1: at index i the one that the search gives.
abbrev pub after_search : Table → Covers → ℕ → Places → (ℕ → ℕ) → Covers
after_search T K i p reached = extend K i (cover_on T p reached) reached
