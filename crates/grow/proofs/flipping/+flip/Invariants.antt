-- `grow::flipping::flip`: each turn leaves one step less.
use Rattle.grow.proofs.flipping.+flip.Given as goal

abbrev pub decreases-flip : goal.decreases-flip
decreases-flip l = l.steps
