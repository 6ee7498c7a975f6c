-- What checking a bare payload answers, for every byte string (rows 4 to 9 of document 01's table of refusals).
use Rattle.std.specs.Prelude.{ℕ, zero, suc, Bool, false, not, cond, ◌&&◌, ◌||◌, List, length, eqb, ltb, leb, Result, Ok, Err}
use Rattle.std.specs.Result.{result_and}
use Rattle.units.specs.declared.Size.{Size}
use Rattle.units.specs.Limits.{most_signals, most_channels, most_pairs}
use Rattle.units.specs.declared.refusals.Refusal.{Refusal}
use Rattle.units.specs.declared.refusals.Refusal.TheVariants.{Short, TooLarge, WrongLength, DirtyFill, NotInTable, NotAbove}
use Rattle.plans.specs.Tables.{Entry}
use Rattle.tables.specs.Payload.{pairs_in, size_in, entry_in, payload_length, fill_in}

-- Row 5 applies to a table of this size: S or C is above 200, or P above 3,000.
unfoldable pub outsized : Size → Bool
outsized z = ltb most_signals z.signals || (ltb most_channels z.channels || ltb most_pairs z.pairs.0)

-- Row 8 applies to an entry of a table of this size: its signal or channel is not in the table, or its rank is 0 or above R.
unfoldable pub strays : Size → Entry → Bool
strays z e = not (ltb e.signal z.signals && (ltb e.channel z.channels && (ltb 0 e.rank && leb e.rank z.ranks)))

-- entry f stands strictly above entry e: by signal, then by channel
unfoldable pub above : Entry → Entry → Bool
above e f = ltb e.signal f.signal || (eqb e.signal f.signal && ltb e.channel f.channel)

-- Row 9 applies to entry i: it does not stand strictly above the one before.
unfoldable pub sinks : List ℕ → ℕ → Bool
sinks p zero = false
sinks p (suc i) = not (above (entry_in p i) (entry_in p (suc i)))

-- Entry i alone: row 8 first, then row 9.
unfoldable pub judged_alone : List ℕ → ℕ → Result Size Refusal
judged_alone p i =
    cond (strays (size_in p) (entry_in p i)) (Err (NotInTable i)) (cond (sinks p i) (Err (NotAbove i)) (Ok (size_in p)))

-- The first n entries, judged one by one from entry 0: a refusal stands, and only what was accepted so far is judged on, so the first
-- faulty one decides.
unfoldable pub judged : List ℕ → ℕ → Result Size Refusal
judged p zero = Ok (size_in p)
judged p (suc n) = result_and (judged p n) (judged_alone p n)

-- What checking p answers: rows 4 to 7 in order, then the entries.
unfoldable pub checked_of : List ℕ → Result Size Refusal
checked_of p =
    cond (ltb (length p) 4) (Err Short)
    (cond (outsized (size_in p)) (Err TooLarge)
    (cond (eqb (length p) (payload_length (pairs_in p)))
    (cond (eqb (fill_in p) 0) (judged p (pairs_in p)) (Err DirtyFill))
    (Err WrongLength)))
