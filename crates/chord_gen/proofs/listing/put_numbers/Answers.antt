-- The numbers before a number, and then this one.
use Rattle.std.proofs.Common.{refl}
use Rattle.chord_io.proofs.Pens.{Writes-next}
use Rattle.chord_gen.specs.Listing.{number_listed}
use Rattle.chord_gen.proofs.listing.put_numbers.Goals as goal

pub loop-number-preserved : goal.loop-number-preserved
loop-number-preserved g c = Writes-next number_listed c.args.numbers.now c.loop-number.number-index _ _ c.loop-number-test.true refl c.loop-number.invariant c.put_number.ensures
