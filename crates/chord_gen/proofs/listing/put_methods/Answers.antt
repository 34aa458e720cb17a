-- The lines before an item, and then its own.
use Rattle.chord_gen.specs.Listing.{method_listed}
use Rattle.chord_gen.proofs.Listed.{writes_numbered}
use Rattle.chord_gen.proofs.listing.put_methods.Goals as goal

pub loop-number-preserved : goal.loop-number-preserved
loop-number-preserved g c = writes_numbered method_listed c.args.methods.now c.loop-number.number c.index-methods-number.result _ c.loop-number-test.true c.index-methods-number.is c.loop-number.invariant c.put_method.ensures
