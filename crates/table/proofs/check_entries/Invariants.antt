-- The loop of `table::check_entries` keeps Judging, after two entries more at each turn.
use Rattle.std.proofs.Common.{◌*◌}
use Rattle.table.proofs.Judging.{Judging}
use Rattle.table.proofs.check_entries.Given as goal

abbrev pub invariant-loop-two : goal.invariant-loop-two
invariant-loop-two l = Judging l.payload l.size l.floor (2 * l.two)
