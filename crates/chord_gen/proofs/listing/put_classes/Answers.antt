-- The lines before an item, and then its own.
use Rattle.chord_gen.specs.Listing.{class_listed}
use Rattle.chord_gen.proofs.Listed.{writes_numbered}
use Rattle.chord_gen.proofs.listing.put_classes.Goals as goal

pub loop-number-preserved : goal.loop-number-preserved
loop-number-preserved g c = writes_numbered class_listed c.args.classes.now c.loop-number.number c.index-classes-number.result _ c.loop-number-test.true c.index-classes-number.is c.loop-number.invariant c.put_class.ensures
