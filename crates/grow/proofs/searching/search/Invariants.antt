-- `grow::searching::search`: what the loops keep while signals are taken from the queue and while the list of one is scanned.
use Rattle.std.proofs.Common.{◌-◌}
use Rattle.units.specs.Limits.{most_channels}
use Rattle.grow.proofs.Reaching.{ReachingFor, ScanningFor}
use Rattle.grow.proofs.searching.search.Given as goal

abbrev pub invariant-loop-k : goal.invariant-loop-k
invariant-loop-k l = ScanningFor l.fn.root l.fn.w l.w l.signal l.head l.tail l.k l.end

abbrev pub invariant-reached : goal.invariant-reached
invariant-reached l = ReachingFor l.fn.root l.fn.w l.w l.signal l.head l.tail

abbrev pub decreases-reached : goal.decreases-reached
decreases-reached l = most_channels - l.head
