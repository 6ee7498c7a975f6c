-- Which table a payload holds (document 01, "The table, bit-packed, most significant bit first"): where each field stands, for
-- reading, and the fields in order, for packing.
use Rattle.std.specs.Prelude.{ℕ, zero, suc, ◌+◌, ◌-◌, ◌*◌, List, [], ◌∷◌, ◌++◌, length}
use Rattle.units.specs.Units.{bytes_of}
use Rattle.units.specs.Limits.{size_with}
use Rattle.units.specs.declared.Size.{Size}
use Rattle.fields.specs.Fields.{Field, field_at, packed}
use Rattle.plans.specs.Plan.{Table}
use Rattle.plans.specs.Tables.{Entry, table_of}

-- The head, 32 bits: signals (8), channels (8), ranks (4), pairs (12).
unfoldable pub signals_in : List ℕ → ℕ
signals_in p = field_at p 0 8

unfoldable pub channels_in : List ℕ → ℕ
channels_in p = field_at p 8 8

unfoldable pub ranks_in : List ℕ → ℕ
ranks_in p = field_at p 16 4

unfoldable pub pairs_in : List ℕ → ℕ
pairs_in p = field_at p 20 12

-- How large the table is: the four numbers of the head.
unfoldable pub size_in : List ℕ → Size
size_in p = size_with (signals_in p) (channels_in p) (ranks_in p) (pairs_in p)

-- the first bit of entry i
unfoldable pub entry_bit : ℕ → ℕ
entry_bit i = 32 + 20 * i

-- Entry i, 20 bits: signal (8), channel (8), rank (4); and all of them as one number.
unfoldable pub entry_in : List ℕ → ℕ → Entry
entry_in p i =
    record {
      signal = field_at p (entry_bit i) 8;
      channel = field_at p (entry_bit i + 8) 8;
      rank = field_at p (entry_bit i + 16) 4;
    }

unfoldable pub entry_bits : List ℕ → ℕ → ℕ
entry_bits p i = field_at p (entry_bit i) 20

-- the first n entries
unfoldable pub entries_to : List ℕ → ℕ → List Entry
entries_to p zero = []
entries_to p (suc n) = entries_to p n ++ (entry_in p n ∷ [])

unfoldable pub entries_in : List ℕ → List Entry
entries_in p = entries_to p (pairs_in p)

-- The length of a table's payload, in bytes: 4 for the head, and what its pairs take.
unfoldable pub payload_length : ℕ → ℕ
payload_length pairs = 4 + bytes_of pairs

-- The bits between the last entry and the end, as a number.
unfoldable pub fill_in : List ℕ → ℕ
fill_in p = field_at p (entry_bit (pairs_in p)) (8 * length p - entry_bit (pairs_in p))

-- The table that a payload holds.
unfoldable pub table_in : List ℕ → Table
table_in p = table_of (signals_in p) (channels_in p) (ranks_in p) (entries_in p)

-- The other way round: the payload of a table of S signals, C channels, R ranks and these entries.
unfoldable pub entry_fields : List Entry → List Field
entry_fields [] = []
entry_fields (e ∷ es) =
    record { width = 8; value = e.signal } ∷ record { width = 8; value = e.channel } ∷ record { width = 4; value = e.rank } ∷ entry_fields es

-- all fields of a table, one after the other
unfoldable pub table_fields : ℕ → ℕ → ℕ → List Entry → List Field
table_fields S C R es =
    record { width = 8; value = S } ∷ record { width = 8; value = C } ∷ record { width = 4; value = R }
    ∷ record { width = 12; value = length es } ∷ entry_fields es

unfoldable pub payload_for : ℕ → ℕ → ℕ → List Entry → List ℕ
payload_for S C R es = packed (table_fields S C R es)
