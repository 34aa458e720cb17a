use Rattle.std.proofs.Common.{ap, sym, ◌∙◌}
use Rattle.chord_lists.specs.Bag.{numbers_in}
use Rattle.chord_lists.proofs.Bags.{stack_has, stack_lacks}
use Rattle.chord_lists.proofs.BagStacks.{items_of, items_past}
use Rattle.chord_lists.proofs.bag.has_on.Goals as goal

pub returns-in-None-clause-no : goal.returns-in-None-clause-no
returns-in-None-clause-no c = λ _.
    let look = c.in-None.ensures.lookup.3 in
    ap (λ z. numbers_in z c.args.object.class c.args.method) (items_past c.args.objects.now c.args.object.number look)

pub returns-in-Some-clause-yes : goal.returns-in-Some-clause-yes
returns-in-Some-clause-yes c = λ some.
    let look = c.in-Some.ensures.lookup in
    let there = c.deref.ensures.value ∙ items_of c.args.objects.now c.in-Some.classes.now c.args.object.number look.3.0 look.1 in
    let x = stack_has c.stack_in.result.now (rw c.is_empty.ensures at some) in
    (x.0, x.1, sym (ap (λ z. numbers_in z c.args.object.class c.args.method) there) ∙ sym c.stack_in.ensures ∙ x.2)

pub returns-in-Some-clause-no : goal.returns-in-Some-clause-no
returns-in-Some-clause-no c = λ none.
    let look = c.in-Some.ensures.lookup in
    let there = c.deref.ensures.value ∙ items_of c.args.objects.now c.in-Some.classes.now c.args.object.number look.3.0 look.1 in
    sym (ap (λ z. numbers_in z c.args.object.class c.args.method) there) ∙ sym c.stack_in.ensures ∙ stack_lacks c.stack_in.result.now (rw c.is_empty.ensures at none)
