-- `answer::put_last` meets its contract: two stores make the last place, by a law of proofs/Written.
use Rattle.answer.proofs.Written.{last_written}
use Rattle.answer.proofs.put_last.Goals as goal

pub returns : goal.returns
returns c = last_written _ _ c.requires.1 c.requires.0
