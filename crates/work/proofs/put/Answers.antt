-- `work::put` puts the number there alone.
use Rattle.work.proofs.Area.{put_set}
use Rattle.work.proofs.put.Goals as goal

pub returns : goal.returns
returns c = put_set _ _ _ _ c.requires.0
