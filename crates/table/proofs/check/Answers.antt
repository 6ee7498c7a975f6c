-- `table::check` meets its contract: each return is one law of proofs/Rows.
use Rattle.std.proofs.Common.{◌≤◌, ◌≡◌, length, arith, refl}
use Rattle.std.specs.Prelude.{cond, eqb, Err}
use Rattle.units.specs.declared.refusals.Refusal.TheVariants.{DirtyFill}
use Rattle.tables.specs.Payload.{pairs_in}
use Rattle.std.proofs.lemmas.Result.{err_from_is_err_and}
use Rattle.table.specs.Checking.{judged, checked_of}
use borrow.Author.Tests.{eq-eqb, ne_eqb}
use Rattle.table.proofs.Rows.{checked_short, many_signals, many_channels, many_pairs, wrong_length_lem, past_row_6}
use Rattle.table.proofs.check.Goals.{then-size-gt-MOST_SIGNALS-via-then-size-gt-MOST_SIGNALS, then-size-gt-MOST_SIGNALS-via-else-size-gt-MOST_SIGNALS+then-size-gt-MOST_CHANNELS, then-size-gt-MOST_SIGNALS-via-else-size-gt-MOST_SIGNALS+else-size-gt-MOST_CHANNELS+then-pairs-gt-MOST_PAIRS}
use Rattle.table.proofs.check.Goals as goal
use Rattle.table.proofs.check.Goals.{After-read}

pub returns-then-payload-lt4 : goal.returns-then-payload-lt4
returns-then-payload-lt4 c = checked_short _ (omega arith)

pub returns-then-size-gt-MOST_SIGNALS : goal.returns-then-size-gt-MOST_SIGNALS
returns-then-size-gt-MOST_SIGNALS c =
    let long : 4 ≤ length c.args.payload.now = omega arith in
    let is_size = c.size_of-size.ensures in
    elim c.then-size-gt-MOST_SIGNALS.branch [
      | then-size-gt-MOST_SIGNALS-via-then-size-gt-MOST_SIGNALS w ↦ many_signals _ long is_size (omega arith)
      | then-size-gt-MOST_SIGNALS-via-else-size-gt-MOST_SIGNALS+then-size-gt-MOST_CHANNELS w ↦ many_channels _ long is_size (omega arith)
      | then-size-gt-MOST_SIGNALS-via-else-size-gt-MOST_SIGNALS+else-size-gt-MOST_CHANNELS+then-pairs-gt-MOST_PAIRS w ↦ many_pairs _ long is_size (omega arith)
    ]

pub returns-then-payload-from : goal.returns-then-payload-from
returns-then-payload-from c =
    wrong_length_lem _ (omega arith) c.size_of-size.ensures (omega arith) (omega arith) (omega arith) (λ e. omega arith)

-- Once the fill is read, it decides, and then the entries.
fill_next : (c : After-read)
    → checked_of c.args.payload.now ≡ cond (eqb c.read.result 0) (judged c.args.payload.now (pairs_in c.args.payload.now)) (Err DirtyFill)
fill_next c =
    past_row_6 _ (omega arith) c.size_of-size.ensures (omega arith) (omega arith) (omega arith) (omega arith) _ _ _
    c.read.ensures (omega arith) (omega arith)

pub returns-then-read-ne0 : goal.returns-then-read-ne0
returns-then-read-ne0 c = rw (fill_next (goal.at.returns-then-read-ne0 c).After-read, ne_eqb c.read.result 0 (λ e. omega arith)) refl

pub returns-in_err-check_entries : goal.returns-in_err-check_entries
returns-in_err-check_entries c =
    let exit = err_from_is_err_and c.from_residual.result c.from_residual.ensures.1 in
    rw (exit.1, exit.2, fill_next (goal.at.returns-in_err-check_entries c).After-read, eq-eqb c.read.result 0 (omega arith))
    (rw c.in_err-check_entries.was at c.check_entries.ensures)

pub returns : goal.returns
returns c =
    rw (fill_next (goal.at.returns c).After-read, eq-eqb c.read.result 0 (omega arith)) (rw c.in_ok-check_entries.was at c.check_entries.ensures)
