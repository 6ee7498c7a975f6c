-- `tally::rank_of`: the pair stands where the search is or behind, and the search stays among the entries.
use Rattle.std.proofs.Common.{◌-◌}
use Rattle.tally.proofs.Finding.{Ahead}
use Rattle.tally.proofs.rank_of.Given as goal

abbrev pub invariant-loop-e : goal.invariant-loop-e
invariant-loop-e l = Ahead l.w l.pair l.initial.e l.e

abbrev pub decreases-loop-e : goal.decreases-loop-e
decreases-loop-e l = 3000 - l.e
