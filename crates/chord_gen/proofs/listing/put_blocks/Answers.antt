-- The lines before an item, and then its own.
use Rattle.chord_gen.specs.Listing.{block_listed}
use Rattle.chord_gen.proofs.Listed.{writes_numbered}
use Rattle.chord_gen.proofs.listing.put_blocks.Goals as goal

pub loop-number-preserved : goal.loop-number-preserved
loop-number-preserved g c = writes_numbered block_listed c.args.blocks.now c.loop-number.number c.index-blocks-number.result _ c.loop-number-test.true c.index-blocks-number.is c.loop-number.invariant c.put_block.ensures
