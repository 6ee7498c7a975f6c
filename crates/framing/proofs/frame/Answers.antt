-- `framing::frame`: header and payload are the block (framed_at).
use Rattle.std.proofs.Common.{arith, refl}
use Rattle.framing.specs.Framing.{block_length}
use Rattle.framing.proofs.Framed.{framed_at}
use Rattle.framing.proofs.frame.Goals as goal

pub returns : goal.returns
unfolding block_length
returns c =
    rw c.copy_from_slice.ensures.after
    (framed_at _ _ c.put_header-header.ensures refl (omega arith) _ c.framed_length-whole.ensures (omega arith) _ _
    (omega arith) (omega (arith, c.put_header-header.ensures.answer, c.framed_length-whole.ensures)))
