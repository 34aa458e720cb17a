use Rattle.std.proofs.lemmas.Result.{on_ok_weaker}
use Rattle.chord_lists.proofs.BagStacks.{noted_first, noted_new}
use Rattle.chord_lists.proofs.bag.note_in.Goals as goal

pub returns-in-Some-clause-pushed : goal.returns-in-Some-clause-pushed
returns-in-Some-clause-pushed c =
    on_ok_weaker c.push_on.result
    (noted_first c.args.class c.args.classes.now.items c.in-Some.i (rw c.deref.ensures.value at c.in-Some.ensures.some) c.index_mut.result.now c.push_on.new.stacks c.args.method c.args.number c.index_mut.ensures.value)
    c.push_on.ensures.pushed

pub returns-in_ok-push-in-None-clause-pushed : goal.returns-in_ok-push-in-None-clause-pushed
returns-in_ok-push-in-None-clause-pushed c = λ d j.
    rw c.in_ok-push-in-None.ensures.items
    (noted_new c.args.class c.args.classes.now.items c.new-stacks.result c.push_on-in-None.new.stacks c.args.method c.args.number c.new-stacks.ensures.items (rw c.deref.ensures.value at c.in-None.ensures.none) c.in_ok-push_on-in-None.ensures.pushed d j)
