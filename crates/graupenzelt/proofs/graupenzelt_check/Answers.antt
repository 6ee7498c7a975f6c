-- The fields of what checking finds; the numbers fit.
use Rattle.std.proofs.Common.{arith, ap, ◌∙◌}
use Rattle.graupenzelt.specs.Exports.{check_reply}
use Rattle.graupenzelt.proofs.Replies.{checked, checked_limits}
use Rattle.graupenzelt.proofs.graupenzelt_check.Goals as goal

pub overflow_cast-result : goal.overflow_cast-result
overflow_cast-result c = omega (arith, (checked_limits _ _ c.check-checked.ensures c.unwrap_or-size.ensures).few_signals)

pub overflow_cast-result-2 : goal.overflow_cast-result-2
overflow_cast-result-2 c = omega (arith, (checked_limits _ _ c.check-checked.ensures c.unwrap_or-size.ensures).few_channels)

pub overflow_cast-result-3 : goal.overflow_cast-result-3
overflow_cast-result-3 c = omega (arith, (checked_limits _ _ c.check-checked.ensures c.unwrap_or-size.ensures).few_ranks)

pub returns : goal.returns
returns c = checked c.check-checked.result c.of.ensures c.unwrap_or-size.ensures c.from.ensures ∙ ap check_reply c.check-checked.ensures
