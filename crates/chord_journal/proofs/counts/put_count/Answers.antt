-- The word, and then the count.
use Rattle.chord_io.proofs.Pens.{Writes-join}
use Rattle.chord_journal.proofs.counts.put_count.Goals as goal

pub returns : goal.returns
returns g c = Writes-join c.put.ensures c.put_number.ensures
