-- The parts of a line, one after the other.
use Rattle.chord_io.proofs.Pens.{Writes-join}
use Rattle.chord_gen.proofs.listing.put_block.Goals as goal

pub returns : goal.returns
returns g c = Writes-join c.put.ensures (Writes-join c.put_number.ensures (Writes-join c.put_number-2.ensures (Writes-join c.put-2.ensures (rw c.items.ensures at c.put_instructions.ensures))))
