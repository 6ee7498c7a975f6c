-- `command::solve` leaves the work area solved: what is unpacked and placed can be tallied, by the laws of proofs/Solving.
use Rattle.command.proofs.Solving.{tallyable, solved}
use Rattle.command.proofs.answering.solve.Goals as goal

pub tally-requires : goal.tally-requires
tally-requires c = tallyable c.requires.0 c.requires.1 c.unpack.ensures c.place.ensures

pub returns : goal.returns
returns c = solved c.requires.0 c.requires.1 c.unpack.ensures c.place.ensures c.tally.ensures
