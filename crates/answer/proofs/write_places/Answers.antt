-- `answer::write_places` meets its contract, by the laws of proofs/Written: two more places, and the end with a last one.
use Rattle.std.proofs.Common.{◌≡◌, ◌/◌, length, arith}
use Rattle.answer.proofs.Twos.{two_of, left_of}
use Rattle.answer.proofs.Written.{row_none, places_more, places_last}
use Rattle.answer.proofs.write_places.Goals as goal

pub loop-two-init : goal.loop-two-init
loop-two-init c = row_none _ 12 _ _

pub put_two-requires : goal.put_two-requires
put_two-requires c =
    let both = two_of c.args.places.now c.loop-two.two c.as_chunks.ensures.front (omega arith) in (
      omega (arith, c.requires.1),
      rw both.0 (c.requires.0.each _ (omega arith)),
      rw both.1 (c.requires.0.each _ (omega arith)),
    )

pub loop-two-preserved : goal.loop-two-preserved
loop-two-preserved c =
    let both = two_of c.args.places.now c.loop-two.two c.as_chunks.ensures.front (omega arith) in
    places_more _ _ _ c.loop-two.invariant (omega (arith, c.requires.1)) (rw (both.0, both.1) at c.put_two.ensures)

pub returns-in-len1 : goal.returns-in-len1
returns-in-len1 c =
    let all : c.loop-two.two ≡ length c.args.places.now / 2 = omega arith in
    let end : c.loop-two.two ≡ length c.as_chunks.result.0.now = omega arith in
    places_last _ _ _ c.loop-two.invariant (omega (arith, c.requires.1)) _ (omega arith)
    (rw (left_of c.args.places.now c.loop-two.two c.as_chunks.ensures.back all, ← end) at c.put_last.ensures)
