-- `enter::enter_pair` meets its contract: each return is one law of proofs/Joined.
use Rattle.std.proofs.Common.{arith}
use Rattle.work.proofs.Area.{put_is}
use Rattle.enter.proofs.Joined.{pair_end, pair_left_out, pair_joined}
use Rattle.enter.proofs.enter_pair.Goals as goal

pub put-requires : goal.put-requires
put-requires c = omega (arith, pair_end _ _ c.get-pair.ensures.0 c.get-end.ensures.0 c.requires.3)

pub put-requires-then-shut-eq0 : goal.put-requires-then-shut-eq0
put-requires-then-shut-eq0 c = omega (arith, pair_end _ _ c.get-pair.ensures.0 c.get-end.ensures.0 c.requires.3)

pub returns-then-shut-eq0 : goal.returns-then-shut-eq0
returns-then-shut-eq0 c =
    pair_joined _ _
    c.get-pair.ensures.0
    c.requires.2
    c.requires.3
    c.get.ensures.0
    c.get-2.ensures.0
    c.if-shut-eq0.true
    c.get-end.ensures.0
    (put_is c.put.ensures (omega arith) (omega arith) (omega arith))
    (put_is c.put-then-shut-eq0.ensures (omega arith) (omega arith) (omega arith))

pub returns : goal.returns
returns c = pair_left_out _ _ c.get-pair.ensures.0 c.get.ensures.0 c.get-2.ensures.0 c.if-shut-eq0.false
