-- The parts of a line, one after the other.
use Rattle.chord_io.proofs.Pens.{Writes-join}
use Rattle.chord_gen.proofs.listing.put_instruction.Goals as goal

pub returns : goal.returns
returns g c = Writes-join c.put_number.ensures (Writes-join c.put.ensures (Writes-join c.put_name.ensures (Writes-join c.put_operands.ensures c.put-2.ensures)))
