-- The lines before an item, and then its own.
use Rattle.chord_gen.specs.Listing.{instruction_listed}
use Rattle.chord_gen.proofs.Listed.{writes_numbered}
use Rattle.chord_gen.proofs.listing.put_instructions.Goals as goal

pub loop-place-preserved : goal.loop-place-preserved
loop-place-preserved g c = writes_numbered instruction_listed c.args.instructions.now c.loop-place.place c.index-instructions-place.result _ c.loop-place-test.true c.index-instructions-place.is c.loop-place.invariant c.put_instruction.ensures
