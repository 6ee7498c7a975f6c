-- `answer::put_two` meets its contract: three stores make the two places, by a law of proofs/Written.
use Rattle.answer.proofs.Written.{two_written}
use Rattle.answer.proofs.put_two.Goals as goal

pub returns : goal.returns
returns c = two_written _ _ c.requires.1 _ c.requires.2 c.requires.0
