-- An x, and then the digits of the bytes.
use Rattle.chord_io.proofs.Pens.{Writes-join}
use Rattle.chord_journal.proofs.write.put_text.Goals as goal

pub returns-clause-written : goal.returns-clause-written
returns-clause-written g c = rw (← c.items.ensures.bytes) (Writes-join c.put.ensures c.put_hexadecimal.ensures.written)

pub returns-clause-typed : goal.returns-clause-typed
returns-clause-typed g c = record {
  few = c.items.ensures.few;
  bytes = rw (← c.items.ensures.bytes) c.put_hexadecimal.ensures.typed;
}
