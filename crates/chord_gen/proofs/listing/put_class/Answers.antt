-- The parts of a line, one after the other.
use Rattle.chord_io.proofs.Pens.{Writes-join}
use Rattle.chord_gen.proofs.listing.put_class.Goals as goal

pub returns : goal.returns
returns g c = Writes-join c.put.ensures (Writes-join c.put_number.ensures (Writes-join c.put-2.ensures (Writes-join (rw c.items.ensures.bytes at c.put-3.ensures) (Writes-join c.put_builder.ensures (Writes-join c.put-4.ensures (Writes-join (rw c.items-2.ensures at c.put_methods.ensures) (rw c.items-3.ensures at c.put_chords.ensures)))))))
