-- The parts of a line, one after the other.
use Rattle.chord_io.proofs.Pens.{Writes-join}
use Rattle.chord_journal.proofs.write.put_entry.Goals as goal

pub returns-clause-written : goal.returns-clause-written
returns-clause-written g c = Writes-join c.put_number.ensures (Writes-join c.put.ensures (Writes-join c.put_number-2.ensures (Writes-join c.put-2.ensures (Writes-join c.put_what.ensures.written c.put-3.ensures))))
