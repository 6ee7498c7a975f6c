-- Making the work area ready: the copy of the starts and the five fills prepare it (ready). Each leaves the regions before and behind
-- its own as they were. Leans on work's Area.
use Prim.Native.Nat.{ℕ}
use mathlib.Core.Path.{sym, ◌∙◌}
use mathlib.Core.List.{List}
use native.Mathlib.Omega.{arith}
use Rattle.units.specs.declared.Size.{Size}
use Rattle.work.specs.Work.{none, START, END, CHANNEL, SIGNAL, SHUT_SIGNAL, SHUT_CHANNEL, FROM, MIDDLE, Unchanged, Fills, Copies}
use Rattle.work.specs.Input.{Input}
use Rattle.work.proofs.Area.{fill_below, copy_below, unchanged_trans, unchanged_part, unchanged_at}
use Rattle.enter.specs.Entering.{Prepared}

module _ {z : Size} {v w₁ w₂ w₃ w₄ w₅ w₆ : List ℕ} (n : Input z v)
    (ends : Copies START END z.signals v w₁) (channel : Fills CHANNEL z.signals none w₁ w₂)
    (signal : Fills SIGNAL z.channels none w₂ w₃) (shut_signal : Fills SHUT_SIGNAL z.signals 0 w₃ w₄)
    (shut_channel : Fills SHUT_CHANNEL z.channels 0 w₄ w₅) (mark : Fills FROM z.channels none w₅ w₆) where
  -- what lies below a region stays from its fill on
  below_mark : Unchanged 0 FROM w₆ w₅
  below_mark = fill_below mark 0 FROM (omega arith)

  below_shut_channel : Unchanged 0 SHUT_CHANNEL w₆ w₄
  below_shut_channel =
      unchanged_trans (unchanged_part 0 SHUT_CHANNEL (omega arith) (omega arith) below_mark) (fill_below shut_channel 0 SHUT_CHANNEL (omega arith))

  below_shut_signal : Unchanged 0 SHUT_SIGNAL w₆ w₃
  below_shut_signal =
      unchanged_trans (unchanged_part 0 SHUT_SIGNAL (omega arith) (omega arith) below_shut_channel) (fill_below shut_signal 0 SHUT_SIGNAL (omega arith))

  below_signal : Unchanged 0 SIGNAL w₆ w₂
  below_signal = unchanged_trans (unchanged_part 0 SIGNAL (omega arith) (omega arith) below_shut_signal) (fill_below signal 0 SIGNAL (omega arith))

  below_channel : Unchanged 0 CHANNEL w₆ w₁
  below_channel = unchanged_trans (unchanged_part 0 CHANNEL (omega arith) (omega arith) below_signal) (fill_below channel 0 CHANNEL (omega arith))

  below_end : Unchanged 0 END w₆ v
  below_end = unchanged_trans (unchanged_part 0 END (omega arith) (omega arith) below_channel) (copy_below ends 0 END (omega arith))

  pub ready : Prepared z v w₆
  ready =
      record {
        input = unchanged_part 0 MIDDLE (omega arith) (omega arith) below_end;
        ends = λ s l.
            unchanged_at below_channel END s (omega arith) (omega (arith, n.limits.few_signals))
            ∙ ends.here s l
            ∙ sym (unchanged_at below_end START s (omega arith) (omega (arith, n.limits.few_signals)));
        free = λ s l. unchanged_at below_signal CHANNEL s (omega arith) (omega (arith, n.limits.few_signals)) ∙ channel.here s l;
        empty = λ c l. unchanged_at below_shut_signal SIGNAL c (omega arith) (omega (arith, n.limits.few_channels)) ∙ signal.here c l;
        open_signal = λ s l. unchanged_at below_shut_channel SHUT_SIGNAL s (omega arith) (omega (arith, n.limits.few_signals)) ∙ shut_signal.here s l;
        open_channel = λ c l. unchanged_at below_mark SHUT_CHANNEL c (omega arith) (omega (arith, n.limits.few_channels)) ∙ shut_channel.here c l;
        unmarked = mark.here;
      }
