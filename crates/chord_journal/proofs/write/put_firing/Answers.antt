-- The parts of a firing, one after the other.
use Rattle.chord_io.proofs.Pens.{Writes-join}
use Rattle.chord_journal.proofs.write.put_firing.Goals as goal

pub returns-clause-written : goal.returns-clause-written
returns-clause-written g c = Writes-join (rw c.from.ensures at c.put_number.ensures) (Writes-join c.put.ensures (Writes-join c.put_object.ensures (Writes-join c.put-2.ensures (Writes-join (rw c.items.ensures.numbers at c.put_number-2.ensures) (Writes-join c.put_members.ensures c.put_values.ensures.written)))))
