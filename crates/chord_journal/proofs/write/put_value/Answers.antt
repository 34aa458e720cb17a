-- An i, and then the number.
use Rattle.chord_io.proofs.Pens.{Writes-join}
use Rattle.chord_journal.proofs.write.put_value.Goals as goal

pub returns-in-Int-clause-written : goal.returns-in-Int-clause-written
returns-in-Int-clause-written g c = rw c.in-Int.is (Writes-join c.put-in-Int.ensures c.put_signed.ensures.written)
