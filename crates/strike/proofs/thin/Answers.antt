-- `strike::thin`: the loop keeps Thinning, by the laws of proofs/Thinning.
use Rattle.std.proofs.Common.{arith, sym, ◌∙◌}
use Rattle.strike.proofs.Thinning.{slot_bounds, mark_bounds, thinning_drop, thinning_keep, thinning_done}
use Rattle.strike.proofs.thin.Goals as goal
use Rattle.strike.proofs.thin.Goals.{then-get-eq-NONE, else-get-eq-NONE}

pub get-c-requires : goal.get-c-requires
get-c-requires c = omega (arith, slot_bounds c.requires c.get-end.ensures.0 c.loop-k.invariant (omega arith))

pub get-requires : goal.get-requires
get-requires c = omega (arith, mark_bounds c.requires c.get-end.ensures.0 c.loop-k.invariant (omega arith) c.get-c.ensures.0)

pub put-requires : goal.put-requires
put-requires c = (omega (arith, slot_bounds c.requires c.get-end.ensures.0 c.loop-k.invariant (omega arith)), c.get-c.ensures.1)

pub loop-k-preserved : goal.loop-k-preserved
loop-k-preserved c =
    let n = c.requires in
    let t = c.loop-k.invariant in
    elim c.if-get-eq-NONE.branch [
      | then-get-eq-NONE w ↦
          rw (w.w-is, w.kept-is)
          (thinning_keep n.input n.lists n.inside c.get-end.ensures.0 t (omega arith) c.get-c.ensures.0
          (sym c.get.ensures.0 ∙ w.if-get-eq-NONE.true) w.put.ensures)
      | else-get-eq-NONE w ↦
          rw (w.w-is, w.kept-is)
          (thinning_drop n.input n.lists n.inside c.get-end.ensures.0 t (omega arith) c.get-c.ensures.0
          (λ e. w.if-get-eq-NONE.false (c.get.ensures.0 ∙ e)))
    ]

pub returns : goal.returns
returns c =
    record {
      each = λ z n l h. thinning_done n l h c.get-end.ensures.0 c.loop-k.invariant (omega arith) c.put-2.ensures;
    }
