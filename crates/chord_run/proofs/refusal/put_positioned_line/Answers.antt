-- The parts of the line, one after the other.
use Rattle.chord_io.proofs.Pens.{Writes-join}
use Rattle.chord_run.proofs.refusal.put_positioned_line.Goals as goal

pub returns : goal.returns
returns g c = Writes-join (Writes-join (Writes-join (Writes-join c.put.ensures c.put_number.ensures) c.put-2.ensures) c.put_number-2.ensures) c.put-3.ensures
