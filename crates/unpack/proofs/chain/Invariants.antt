-- `unpack::chain`: the entries from 2 · two on are chained.
use Rattle.std.proofs.Common.{◌*◌, ◌≤◌}
use Rattle.work.specs.Work.{UnchangedBut}
use Rattle.unpack.specs.Unpacking.{Filled}
use Rattle.unpack.specs.Inside.{Chained}
use Rattle.unpack.proofs.chain.Given as goal

abbrev pub invariant-loop-two : goal.invariant-loop-two
invariant-loop-two l = UnchangedBut (Filled l.pairs 0) l.w l.initial.w × (2 * l.two ≤ l.pairs) × Chained l.payload l.pairs (2 * l.two) l.w
