-- The parts of a line, one after the other.
use Rattle.chord_io.proofs.Pens.{Writes-join}
use Rattle.chord_gen.proofs.listing.put_number.Goals as goal

pub returns : goal.returns
returns g c = Writes-join c.put.ensures c.put_number.ensures
