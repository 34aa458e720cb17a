use Rattle.std.proofs.Common.{get_or}
use Rattle.std.proofs.lemmas.Option.{slice_get-get_or}
use Rattle.chord_lists.proofs.BagStacks.{lacks_next}
use Rattle.chord_lists.proofs.bag.place_of.Goals as goal

pub returns-then-classes-i-clause-some : goal.returns-then-classes-i-clause-some
returns-then-classes-i-clause-some c = record {
  stacks = get_or c.args.classes.now c.loop-i.i c.index-classes-i.result;
  is = slice_get-get_or c.args.classes.now c.loop-i.i c.index-classes-i.result c.loop-i-test.true;
  of_class = c.if-classes-i.true;
  lacks = c.loop-i.invariant;
}

pub loop-i-preserved : goal.loop-i-preserved
loop-i-preserved c =
    lacks_next c.args.class c.args.classes.now c.loop-i.i (get_or c.args.classes.now c.loop-i.i c.index-classes-i.result) c.loop-i.invariant
    (slice_get-get_or c.args.classes.now c.loop-i.i c.index-classes-i.result c.loop-i-test.true) c.if-classes-i.false
