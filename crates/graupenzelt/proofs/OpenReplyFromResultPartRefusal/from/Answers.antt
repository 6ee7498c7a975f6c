-- The fields of what opening finds.
use Rattle.graupenzelt.proofs.Replies.{opened}
use Rattle.graupenzelt.proofs.OpenReplyFromResultPartRefusal.from.Goals as goal

pub returns : goal.returns
returns c = opened c.args.opening c.of.ensures c.unwrap_or-part.ensures
