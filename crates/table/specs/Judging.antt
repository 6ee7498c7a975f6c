-- Inside checking: what judging one entry answers, said of its 20 bits, the table's size, and the least key that may stand there.
-- proofs/Judging shows that this is judged_alone.
use Rattle.std.specs.Prelude.{ℕ, zero, suc, ◌+◌, ◌*◌, ◌/◌, ◌%◌, cond, List, ltb, Result, Ok, Err}
use Rattle.units.specs.declared.Size.{Size}
use Rattle.units.specs.declared.refusals.Refusal.{Refusal}
use Rattle.units.specs.declared.refusals.Refusal.TheVariants.{NotInTable, NotAbove}
use Rattle.plans.specs.Tables.{Entry}
use Rattle.tables.specs.Payload.{entry_in}
use Rattle.table.specs.Checking.{strays}

-- The entry of these bits: signal, channel (8), rank (4).
abbrev pub entry_of : ℕ → Entry
entry_of bits = record { signal = bits / 16 / 256; channel = bits / 16 % 256; rank = bits % 16 }

-- Signal and channel as one number of 16 bits: entries ascend where their keys do.
abbrev pub key_of : Entry → ℕ
key_of e = 256 * e.signal + e.channel

-- the least key that may stand in entry i: one more than the key before
unfoldable pub floor_at : List ℕ → ℕ → ℕ
floor_at p zero = 0
floor_at p (suc i) = key_of (entry_in p i) + 1

-- Entry i by its bits: row 8 first, then row 9 by keys.
unfoldable pub judged_bits : Size → (floor i bits : ℕ) → Result Size Refusal
judged_bits z floor i bits =
    cond (strays z (entry_of bits)) (Err (NotInTable i)) (cond (ltb (bits / 16) floor) (Err (NotAbove i)) (Ok z))
