-- The lines before an item, and then its own.
use Rattle.chord_gen.specs.Listing.{chord_listed}
use Rattle.chord_gen.proofs.Listed.{writes_numbered}
use Rattle.chord_gen.proofs.listing.put_chords.Goals as goal

pub loop-number-preserved : goal.loop-number-preserved
loop-number-preserved g c = writes_numbered chord_listed c.args.chords.now c.loop-number.number c.index-chords-number.result _ c.loop-number-test.true c.index-chords-number.is c.loop-number.invariant c.put_chord.ensures
