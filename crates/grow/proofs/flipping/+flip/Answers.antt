-- `grow::flipping::flip` meets its contract: each turn of the recursion is a law of proofs/Flips.
use Rattle.std.proofs.Common.{◌≡◌, ℕ, List, arith}
use Rattle.work.specs.Work.{at, CHANNEL, SIGNAL, FROM, Put}
use Rattle.grow.proofs.Flips.{Turn, turn_asks, flipped_more, flipped_last}
use Rattle.grow.proofs.flipping.+flip.Goals as goal

-- what the two reads and the two stores are
turned : {c s before : ℕ} {u v w : List ℕ} → s ≡ at u FROM c → before ≡ at u CHANNEL s → Put u CHANNEL s c v → Put v SIGNAL c s w → Turn c s before u w
turned {v = v} e f p q = record { halfway = v; reached = e; leaves = f; sits = p; holds = q }

pub flip-requires : goal.flip-requires
flip-requires t c =
    let pre = c.requires in (
      omega (arith, pre.path.inside),
      turn_asks pre.input pre.lists pre.path pre.short (turned c.get-s.ensures.0 c.get-before.ensures.0 c.put.ensures c.put-2.ensures) c.if-s-root.true,
    )

pub returns-then-s-root : goal.returns-then-s-root
returns-then-s-root t c =
    let turn : Turn c.args.c c.get-s.result c.get-before.result c.args.w.now c.put-2.new.w = turned c.get-s.ensures.0 c.get-before.ensures.0 c.put.ensures c.put-2.ensures in
    record { each = λ z n l path. flipped_more n l path c.requires.short turn c.if-s-root.true c.flip.ensures }

pub returns-else-s-root : goal.returns-else-s-root
returns-else-s-root t c =
    let turn : Turn c.args.c c.get-s.result c.get-before.result c.args.w.now c.put-2.new.w = turned c.get-s.ensures.0 c.get-before.ensures.0 c.put.ensures c.put-2.ensures in
    record { each = λ z n l path. flipped_last n l path c.requires.short turn c.if-s-root.false }
