-- `work::copy` puts each number of the one part at its index of the other, and nothing elsewhere.
use Rattle.std.proofs.Common.{◌+◌, arith}
use Rattle.work.specs.Work.{at}
use Rattle.work.proofs.copy.Goals as goal

pub returns : goal.returns
unfolding at
returns c =
    let copied = c.copy_within.ensures in
    record {
      size = copied.len;
      here = λ i l. grind (arith, copied.by_index.0 (c.args.to + i) 0);
      below = λ k l. copied.by_index.1 k 0 l;
      behind = λ k l. copied.by_index.2 k 0 (omega arith);
    }
