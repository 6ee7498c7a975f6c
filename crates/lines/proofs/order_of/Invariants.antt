-- `lines::order_of`: the two lines agree on the ranks passed.
use Rattle.std.proofs.Common.{◌≡◌, ℕ, ◌<◌}
use Rattle.plans.specs.Order.{filled}
use Rattle.lines.proofs.order_of.Given as goal

abbrev pub invariant-loop-i : goal.invariant-loop-i
invariant-loop-i l = (j : ℕ) → j < l.i → filled l.a j ≡ filled l.b j
