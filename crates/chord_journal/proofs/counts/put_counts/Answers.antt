-- The words with their counts, one after the other.
use Rattle.chord_io.proofs.Pens.{Writes-join}
use Rattle.chord_journal.proofs.counts.put_counts.Goals as goal

pub returns : goal.returns
returns g c = Writes-join (rw c.begun.ensures at c.put_count.ensures) (Writes-join (rw c.made.ensures at c.put_count-2.ensures) (Writes-join (rw c.sent.ensures at c.put_count-3.ensures) (Writes-join (rw c.called.ensures at c.put_count-4.ensures) (Writes-join (rw c.fired.ensures at c.put_count-5.ensures) (Writes-join (rw c.printed.ensures at c.put_count-6.ensures) (Writes-join (rw c.ended.ensures at c.put_count-7.ensures) c.put.ensures))))))
