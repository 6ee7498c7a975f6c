-- `answer::write` meets its contract: head, counts and places one behind the other are the payload, by the last law of proofs/Written.
use Rattle.answer.specs.Writing.{fields_of}
use Rattle.answer.proofs.Written.{payload_written}
use Rattle.answer.proofs.write.Goals as goal

pub returns : goal.returns
unfolding fields_of
returns c = payload_written _ _ _ _ c.requires.1 c.write_head.ensures c.write_counts.ensures c.write_places.ensures
