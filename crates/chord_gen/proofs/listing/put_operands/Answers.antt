-- Operands, one after the other.
use Rattle.std.proofs.Common.{inl, inr}
use Rattle.chord_io.proofs.Pens.{Writes-join}
use Rattle.chord_gen.proofs.listing.put_operands.Goals as goal

pub returns-in-Int : goal.returns-in-Int
returns-in-Int g c = rw c.in-Int.is (Writes-join c.put.ensures c.put_signed.ensures.written)

pub returns-in-Flag : goal.returns-in-Flag
returns-in-Flag g c = rw c.in-Flag.is (Writes-join c.put-in-Flag.ensures c.put_flag.ensures)

pub returns-in-New : goal.returns-in-New
returns-in-New g c = rw c.in-New.is (Writes-join c.put_number.ensures c.put_number-in-New.ensures)

pub returns-in-Send : goal.returns-in-Send
returns-in-Send g c = elim c.in-Send.is [ inl y ↦ rw y (Writes-join c.put_number-in-Send.ensures c.put_number-in-Send-2.ensures) | inr y ↦ rw y (Writes-join c.put_number-in-Send.ensures c.put_number-in-Send-2.ensures) ]
