-- `unpack::find_starts` meets its contract: the loop keeps Starting, by the laws of proofs/Starts.
use Rattle.std.proofs.Common.{arith}
use Rattle.unpack.proofs.Starts.{starting_more, starting_done}
use Rattle.unpack.proofs.find_starts.Goals as goal

pub loop-s-preserved : goal.loop-s-preserved
loop-s-preserved c = starting_more c.loop-s.invariant c.put.ensures c.requires.fits.few c.requires.rising c.pass-e.ensures

pub returns : goal.returns
returns c = starting_done (omega arith) c.loop-s.invariant c.put-2.ensures
