-- The parts of a header, one after the other.
use Rattle.chord_io.proofs.Pens.{Writes-join}
use Rattle.chord_journal.proofs.write.put_header.Goals as goal

pub returns : goal.returns
returns g c = Writes-join c.put.ensures (Writes-join c.put_number.ensures c.put-2.ensures)
