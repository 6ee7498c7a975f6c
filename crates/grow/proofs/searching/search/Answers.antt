-- `grow::searching::search` meets its contract: each way through its loops is one law of proofs/Reaching.
use Rattle.std.proofs.Common.{arith, sym, ◌∙◌}
use Rattle.grow.proofs.Reaching.{reaching_begins, scanning_begins, scanning_seen, scanning_new, search_found, search_exhausted, reaching_next}
use Rattle.grow.proofs.searching.search.Goals as goal
use Rattle.grow.proofs.searching.search.Goals.{then-get-eq-NONE+else-get-eq-NONE-2, else-get-eq-NONE}

pub reached-init : goal.reached-init
reached-init c = record { each = λ z b. reaching_begins b }

pub loop-k-init : goal.loop-k-init
loop-k-init c = record { each = λ z b. scanning_begins b (c.reached.invariant.each z b) c.get-start.ensures.0 c.get-end.ensures.0 }

pub loop-k-preserved : goal.loop-k-preserved
loop-k-preserved c =
    record {
      each = λ z b.
          let x = c.loop-k.invariant.each z b in
          let e = c.get-c.ensures.0 in
          let f = c.get.ensures.0 in
          elim c.if-get-eq-NONE.branch [
            | then-get-eq-NONE+else-get-eq-NONE-2 w ↦
                rw (w.w-is, w.tail-is) (scanning_new b x (omega arith) e (sym f ∙ w.if-get-eq-NONE.true) w.put.ensures w.put-then-get-eq-NONE.ensures w.get-then-get-eq-NONE.ensures.0 w.if-get-eq-NONE-2.false)
            | else-get-eq-NONE w ↦ rw (w.w-is, w.tail-is) (scanning_seen b x (omega arith) e f w.if-get-eq-NONE.false)
          ];
    }

pub returns-then-head-tail : goal.returns-then-head-tail
returns-then-head-tail c = record { each = λ z b. search_exhausted b (c.loop-k.invariant.each z b) (omega arith) c.if-head-tail.true }

pub reached-preserved : goal.reached-preserved
reached-preserved c =
    record {
      each = λ z b.
          reaching_next b (c.loop-k.invariant.each z b) (omega arith) c.if-head-tail.false c.get-next.ensures.0 c.get-signal.ensures.0;
    }

pub returns : goal.returns
returns c =
    record {
      each = λ z b.
          search_found b (c.loop-k.invariant.each z b) (omega arith) c.get-c.ensures.0 (sym c.get.ensures.0 ∙ c.if-get-eq-NONE.true)
          c.put.ensures c.put-then-get-eq-NONE.ensures c.get-then-get-eq-NONE.ensures.0 c.if-get-eq-NONE-2.true;
    }
