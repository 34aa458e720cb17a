-- A word, and what belongs to it.
use Rattle.chord_io.proofs.Pens.{Writes-join}
use Rattle.chord_journal.proofs.write.put_what.Goals as goal

pub returns-in-Sent-clause-written : goal.returns-in-Sent-clause-written
returns-in-Sent-clause-written g c = rw c.in-Sent.is (Writes-join c.put-in-Sent.ensures c.put_message.ensures.written)

pub returns-in-Called-clause-written : goal.returns-in-Called-clause-written
returns-in-Called-clause-written g c = rw c.in-Called.is (Writes-join c.put-in-Called.ensures c.put_message-in-Called.ensures.written)

pub returns-in-Printed-clause-written : goal.returns-in-Printed-clause-written
returns-in-Printed-clause-written g c = rw c.in-Printed.is (Writes-join c.put-in-Printed.ensures c.put_text.ensures.written)

pub returns-in-Fired-clause-written : goal.returns-in-Fired-clause-written
returns-in-Fired-clause-written g c = rw c.in-Fired.is (Writes-join c.put-in-Fired.ensures c.put_firing.ensures.written)

pub returns-in-Ended-clause-written : goal.returns-in-Ended-clause-written
returns-in-Ended-clause-written g c = rw c.in-Ended.is (Writes-join c.put-in-Ended.ensures c.put_end.ensures.written)

pub returns-in-Made-clause-written : goal.returns-in-Made-clause-written
returns-in-Made-clause-written g c = rw c.in-Made.is (Writes-join c.put-in-Made.ensures (rw c.from.ensures at c.put_number.ensures))
