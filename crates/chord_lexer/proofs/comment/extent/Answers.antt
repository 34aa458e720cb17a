use Rattle.chord_lexer.proofs.Commenting.{line_extent, block_extent, never_closed}
use Rattle.chord_lexer.proofs.comment.extent.Goals as goal

pub returns-then-text-eq47-clause-some : goal.returns-then-text-eq47-clause-some
returns-then-text-eq47-clause-some c = line_extent _ _ _ c.requires c.if-text-eq47.true c.after-body.ensures c.run.ensures.within c.run.ensures.is

pub returns-in-Some-clause-some : goal.returns-in-Some-clause-some
returns-in-Some-clause-some c = block_extent _ _ _ c.requires c.if-text-eq47.false c.after-body.ensures c.in-Some.ensures.within c.in-Some.ensures.some

pub returns-in-None-clause-none : goal.returns-in-None-clause-none
returns-in-None-clause-none c = never_closed _ c.requires c.if-text-eq47.false _ c.after-body.ensures c.in-None.ensures.none
