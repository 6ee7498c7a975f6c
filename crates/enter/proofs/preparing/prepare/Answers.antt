-- `enter::preparing::prepare` meets its contract: the copy and the fills prepare the area, by proofs/Ready.
use Rattle.enter.proofs.Ready.{ready}
use Rattle.enter.proofs.preparing.prepare.Goals as goal

pub returns : goal.returns
returns c = ready c.requires c.copy.ensures c.fill.ensures c.fill-2.ensures c.fill-3.ensures c.fill-4.ensures c.fill-5.ensures
