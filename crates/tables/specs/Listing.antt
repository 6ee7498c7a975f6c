-- The entries of a table: its ranked pairs in order (entries_of), and the payload that they make (table_payload); which tables are
-- within document 01's limits (TableWithin).
use Rattle.std.specs.Prelude.{ℕ, zero, suc, ◌≤◌, ◌<◌, ◌≡◌, List, [], ◌∷◌, ◌++◌, length, ltb, leb}
use Rattle.units.specs.Limits.{Limits, size_with}
use Rattle.plans.specs.Plan.{Table}
use Rattle.plans.specs.Tables.{Entry, pick}
use Rattle.tables.specs.Payload.{payload_for}

-- A pair of a table as a list: its entry where the rank is from 1 to R, nothing where not.
unfoldable pub pair_of : Table → ℕ → ℕ → List Entry
pair_of T s c =
    pick (ltb 0 (T.rank s c))
    (pick (leb (T.rank s c) T.ranks) (record { signal = s; channel = c; rank = T.rank s c } ∷ []) [])
    []

-- the first n of the lists f 0, f 1 and so on, in turn
unfoldable pub in_turn : (ℕ → List Entry) → ℕ → List Entry
in_turn f zero = []
in_turn f (suc n) = in_turn f n ++ f n

-- the entries of signal s, channel by channel
unfoldable pub row_of : Table → ℕ → List Entry
row_of T s = in_turn (pair_of T s) T.channels

-- The entries of a table, signal by signal.
unfoldable pub entries_of : Table → List Entry
entries_of T = in_turn (row_of T) T.signals

-- The payload made for a table.
unfoldable pub table_payload : Table → List ℕ
table_payload T = payload_for T.signals T.channels T.ranks (entries_of T)

-- A table within document 01's limits: no rank is above R, and every channel has one slot.
pub record TableWithin (T : Table) : Type 0 where
  pub limits : Limits (size_with T.signals T.channels T.ranks (length (entries_of T)))
  pub rank : (s c : ℕ) → s < T.signals → c < T.channels → T.rank s c ≤ T.ranks
  pub slots : (c : ℕ) → c < T.channels → T.slots c ≡ 1
