-- The ten starred rows of document 01, "Small tables and their best counts", one under the other as the document has them.
-- RowHolds says what a row claims; the whole claim is All RowHolds rows.
use Rattle.std.specs.Prelude.{ℕ, ◌+◌, ◌<◌, ◌≡◌, List, [], ◌∷◌, length, get_or}
use Rattle.plans.specs.Numbers.{sum}
use Rattle.plans.specs.Order.{Same, filled}
use Rattle.plans.specs.Plan.{Table, Places, BestPlan, Best}
use Rattle.plans.specs.Tables.{Entry, table_of, cut, one_more}

-- A small table and the counts that are claimed to be its best.
pub record Small : Type 0 where
  pub signals : ℕ
  pub channels : ℕ
  pub ranks : ℕ
  pub entries : List Entry
  pub counts : List ℕ

-- What a row may say besides its best counts.
pub data Besides : Type 0 where
  nothing : Besides
  -- the best plans are these and no others; each is written as the channels of its signals
  only : List (List ℕ) → Besides
  -- it is that table without its last signal, which adds so many placed signals to the best
  without_last : Small → ℕ → Besides
  -- it is that table cut at this rank
  cut_at : ℕ → Small → Besides

-- A row of the list.
pub record Row : Type 0 where
  pub small : Small
  pub besides : Besides

-- the document's "s0: c1@2" is `option 0 1 2`
unfoldable pub option : ℕ → ℕ → ℕ → Entry
option s c r = record { signal = s; channel = c; rank = r }

-- a signal without a channel, in a plan that is written out
unfoldable pub unplaced : ℕ
unplaced = 255

-- s0: c0@1, c1@2; s1: c0@1
unfoldable pub row_a : Small
row_a = record { signals = 2; channels = 2; ranks = 2; entries = option 0 0 1 ∷ option 0 1 2 ∷ option 1 0 1 ∷ []; counts = 1 ∷ 1 ∷ [] }

-- s0: c0@1, c1@2; s1: c0@2
unfoldable pub row_b : Small
row_b = record { signals = 2; channels = 2; ranks = 3; entries = option 0 0 1 ∷ option 0 1 2 ∷ option 1 0 2 ∷ []; counts = 1 ∷ 0 ∷ 0 ∷ [] }

-- s0: c0@1, c1@1; s1: c0@2; s2: c1@2
unfoldable pub row_d : Small
row_d = record { signals = 3; channels = 2; ranks = 2; entries = option 0 0 1 ∷ option 0 1 1 ∷ option 1 0 2 ∷ option 2 1 2 ∷ []; counts = 1 ∷ 1 ∷ [] }

-- s0: c0@1, c1@1; s1: c0@1; s2: c1@2
unfoldable pub row_e : Small
row_e = record { signals = 3; channels = 2; ranks = 2; entries = option 0 0 1 ∷ option 0 1 1 ∷ option 1 0 1 ∷ option 2 1 2 ∷ []; counts = 2 ∷ 0 ∷ [] }

-- s0: c0@3
unfoldable pub row_f : Small
row_f = record { signals = 1; channels = 1; ranks = 3; entries = option 0 0 3 ∷ []; counts = 0 ∷ 0 ∷ 1 ∷ [] }

-- no signals
unfoldable pub row_g : Small
row_g = record { signals = 0; channels = 0; ranks = 2; entries = []; counts = 0 ∷ 0 ∷ [] }

-- one signal, one channel, no pairs
unfoldable pub row_h : Small
row_h = record { signals = 1; channels = 1; ranks = 0; entries = []; counts = [] }

-- A without s1; it keeps A's channels
unfoldable pub row_i : Small
row_i = record { signals = 1; channels = 2; ranks = 2; entries = option 0 0 1 ∷ option 0 1 2 ∷ []; counts = 1 ∷ 0 ∷ [] }

-- B without s1; it keeps B's channels
unfoldable pub row_j : Small
row_j = record { signals = 1; channels = 2; ranks = 3; entries = option 0 0 1 ∷ option 0 1 2 ∷ []; counts = 1 ∷ 0 ∷ 0 ∷ [] }

-- A cut at rank 1; it keeps A's signals and channels
unfoldable pub row_k : Small
row_k = record { signals = 2; channels = 2; ranks = 1; entries = option 0 0 1 ∷ option 1 0 1 ∷ []; counts = 1 ∷ [] }

-- The list. A: only s0 on c1 and s1 on c0. D: two plans. I: A without s1, A adds one. J: B without s1, B adds none. K: A cut at rank 1.
unfoldable pub rows : List Row
rows =
    record { small = row_a; besides = only ((1 ∷ 0 ∷ []) ∷ []) }
    ∷ record { small = row_b; besides = nothing }
    ∷ record { small = row_d; besides = only ((1 ∷ 0 ∷ unplaced ∷ []) ∷ (0 ∷ unplaced ∷ 1 ∷ []) ∷ []) }
    ∷ record { small = row_e; besides = nothing }
    ∷ record { small = row_f; besides = nothing }
    ∷ record { small = row_g; besides = nothing }
    ∷ record { small = row_h; besides = nothing }
    ∷ record { small = row_i; besides = without_last row_a 1 }
    ∷ record { small = row_j; besides = without_last row_b 0 }
    ∷ record { small = row_k; besides = cut_at 1 row_a }
    ∷ []

-- What a row claims

-- the table of a row, with one slot for every channel
unfoldable pub table : Small → Table
table r = table_of r.signals r.channels r.ranks r.entries

-- the plan that a list of channels writes out, signal 0 first
unfoldable pub places_of : List ℕ → Places
places_of l s = get_or l s unplaced

-- plan i of a list of such plans
unfoldable pub plan_at : List (List ℕ) → ℕ → Places
plan_at plans i = places_of (get_or plans i [])

-- Two plans agree: wherever one of them places a signal, the other has it on the same channel.
pub record Agree (T : Table) (p q : Places) : Type 0 where
  pub there : (s : ℕ) → s < T.signals → p s < T.channels → q s ≡ p s
  pub back : (s : ℕ) → s < T.signals → q s < T.channels → q s ≡ p s

-- The best plans of a table are these, all different, and no others.
pub record OnlyBest (T : Table) (plans : List (List ℕ)) : Type 0 where
  pub each : (i : ℕ) → i < length plans → BestPlan T (plan_at plans i)
  pub different : (i j : ℕ) → i < j → j < length plans → Agree T (plan_at plans i) (plan_at plans j) → ⊥
  pub no_other : (p : Places) → BestPlan T p → (i : ℕ) × (i < length plans) × Agree T p (plan_at plans i)

-- Two tables are the same for their signals and channels.
pub record SameTable (T U : Table) : Type 0 where
  pub signals : T.signals ≡ U.signals
  pub channels : T.channels ≡ U.channels
  pub ranks : T.ranks ≡ U.ranks
  pub rank : (s c : ℕ) → s < T.signals → c < T.channels → T.rank s c ≡ U.rank s c
  pub slots : (c : ℕ) → c < T.channels → T.slots c ≡ U.slots c

-- how many signals the claimed counts place
unfoldable pub placed_by : Small → ℕ
placed_by r = sum r.ranks (filled r.counts)

-- With the last signal of whole put back, as one more signal, part is whole; and the best places so many more.
pub record WithoutLast (whole part : Small) (more : ℕ) : Type 0 where
  pub made : SameTable (table whole) (one_more (table part) ((table whole).rank part.signals))
  pub adds : placed_by whole ≡ placed_by part + more

-- part is whole cut at rank k, and its counts are the first k of whole's.
pub record CutAt (k : ℕ) (whole part : Small) : Type 0 where
  pub made : SameTable (table part) (cut k (table whole))
  pub first : Same k (filled part.counts) (filled whole.counts)

-- What a row says besides is so.
unfoldable pub HoldsBesides : Small → Besides → Type 0
HoldsBesides r nothing = Unit
HoldsBesides r (only plans) = OnlyBest (table r) plans
HoldsBesides r (without_last whole more) = WithoutLast whole r more
HoldsBesides r (cut_at k whole) = CutAt k whole r

-- A row holds: it has a count for each rank, they are the best counts of its table, and what it says besides is so.
pub record RowHolds (r : Row) : Type 0 where
  pub long : length r.small.counts ≡ r.small.ranks
  pub best : Best (table r.small) (filled r.small.counts)
  pub besides : HoldsBesides r.small r.besides

-- Every row of a list is so.
unfoldable pub All : (Row → Type 0) → List Row → Type 0
All P [] = Unit
All P (r ∷ rs) = P r × All P rs
