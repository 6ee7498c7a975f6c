-- The fields of what a step that writes a block comes to.
use Rattle.graupenzelt.proofs.Replies.{written}
use Rattle.graupenzelt.proofs.ReplyFromResultBytesRefusal.from.Goals as goal

pub returns : goal.returns
returns c = written c.args.written c.of.ensures c.unwrap_or.ensures
