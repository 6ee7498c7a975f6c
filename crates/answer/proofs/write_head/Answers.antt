-- `answer::write_head` meets its contract: two stores make the head, by a law of proofs/Written.
use Rattle.answer.proofs.Written.{head_written}
use Rattle.answer.proofs.write_head.Goals as goal

pub returns : goal.returns
returns c = head_written _ _ c.requires.0 c.requires.1 c.requires.2
