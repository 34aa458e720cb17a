-- The parts of a message, one after the other.
use Rattle.chord_io.proofs.Pens.{Writes-join}
use Rattle.chord_journal.proofs.write.put_message.Goals as goal

pub returns-clause-written : goal.returns-clause-written
returns-clause-written g c = Writes-join c.put_object.ensures (Writes-join c.put.ensures (Writes-join (rw c.from.ensures at c.put_number.ensures) c.put_values.ensures.written))
