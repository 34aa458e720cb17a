-- The parts of an object, one after the other.
use Rattle.chord_io.proofs.Pens.{Writes-join}
use Rattle.chord_journal.proofs.write.put_object.Goals as goal

pub returns : goal.returns
returns g c = Writes-join c.put.ensures (Writes-join c.put_number.ensures (Writes-join c.put-2.ensures (rw c.from.ensures at c.put_number-2.ensures)))
