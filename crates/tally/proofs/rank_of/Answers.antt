-- `tally::rank_of` meets its contract: the loop keeps Ahead, by the laws of proofs/Finding; it ends because the pair is listed.
use Rattle.std.proofs.Common.{refl, sym, ◌∙◌}
use Rattle.tally.proofs.Finding.{rank_found}
use Rattle.tally.proofs.rank_of.Goals as goal

pub returns : goal.returns
returns c =
    record {
      each = λ z n l.
          rank_found n l c.get-e.ensures.0 c.loop-e.invariant (sym c.get.ensures.0 ∙ c.loop-e-test.false)
          (rw c.get-2.ensures.0 refl);
    }
