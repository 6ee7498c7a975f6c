-- `strike::strike_signal`: a covered signal is struck, by one_covered of proofs/Strikes.
use Rattle.strike.specs.Inside.{Thinned}
use Rattle.strike.proofs.Strikes.{one_covered, thinned_clear}
use Rattle.strike.proofs.strike_signal.Goals as goal
use Rattle.strike.proofs.strike_signal.Goals.{then-not-clear, else-not-clear}

pub returns-after-not-clear : goal.returns-after-not-clear
returns-after-not-clear c =
    record {
      each = λ z m h.
          let thinned : Thinned z c.args.s c.args.w.now c.if-not-clear.w =
          elim c.if-not-clear.branch [
            | then-not-clear w ↦ rw w.w-is (w.thin.ensures.each z m.input m.lists h)
            | else-not-clear w ↦ rw w.w-is (thinned_clear m.input m.lists h (m.unmarked w.if-not-clear.false))
          ] in
          one_covered m.input m.lists h m.mates c.get-c.ensures.0 c.if-c-ne-NONE.true c.get.ensures.0 c.if-get-eq-NONE.true thinned c.put.ensures;
    }
