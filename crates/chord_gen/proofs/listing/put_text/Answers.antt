-- A blank and an x, and then the digits of the bytes.
use Rattle.chord_io.proofs.Pens.{Writes-join}
use Rattle.chord_gen.proofs.listing.put_text.Goals as goal

pub returns : goal.returns
returns g c = rw (← c.items.ensures.bytes) (Writes-join c.put.ensures c.put_hexadecimal.ensures.written)
