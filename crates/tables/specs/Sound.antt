-- Which payloads are a table's (document 01, "The table, bit-packed"): what every byte of a sound payload says.
use Rattle.std.specs.Prelude.{ℕ, suc, ◌≤◌, ◌<◌, ◌≡◌, List, length}
use Rattle.units.specs.Limits.{Limits}
use Rattle.plans.specs.Tables.{Entry}
use Rattle.tables.specs.Payload.{signals_in, channels_in, ranks_in, pairs_in, size_in, entry_in, payload_length, fill_in}

-- Entry f stands strictly above entry e: by signal, then by channel.
pub data Above (e f : Entry) : Type 0 where
  by_signal : e.signal < f.signal → Above e f
  by_channel : e.signal ≡ f.signal → e.channel < f.channel → Above e f

-- A payload is a table's when none of rows 4 to 9 applies to it.
pub record Sound (p : List ℕ) : Type 0 where
  pub long : 4 ≤ length p
  pub limits : Limits (size_in p)
  pub sized : length p ≡ payload_length (pairs_in p)
  pub filled : fill_in p ≡ 0
  pub signal : (i : ℕ) → i < pairs_in p → (entry_in p i).signal < signals_in p
  pub channel : (i : ℕ) → i < pairs_in p → (entry_in p i).channel < channels_in p
  pub some_rank : (i : ℕ) → i < pairs_in p → 1 ≤ (entry_in p i).rank
  pub rank : (i : ℕ) → i < pairs_in p → (entry_in p i).rank ≤ ranks_in p
  pub ascend : (i : ℕ) → suc i < pairs_in p → Above (entry_in p i) (entry_in p (suc i))
