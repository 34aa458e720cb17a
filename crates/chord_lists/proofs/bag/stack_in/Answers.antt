use Rattle.std.proofs.Common.{reverse, ap, sym, ◌∙◌}
use Rattle.std.proofs.lemmas.Option.{get_or_from_slice_get}
use Rattle.chord_lists.specs.Bag.{stacked_at}
use Rattle.chord_lists.proofs.BagStacks.{first_numbers, items_of, items_past, none_numbers}
use Rattle.chord_lists.proofs.bag.stack_in.Goals as goal

pub returns-in-None : goal.returns-in-None
returns-in-None c = sym (none_numbers c.args.class c.args.classes.now c.in-None.ensures.none c.args.method)

pub returns-in-None-get : goal.returns-in-None-get
returns-in-None-get c =
    let f = c.in-Some.ensures.some in
    let same = get_or_from_slice_get c.args.classes.now c.in-Some.i f.stacks c.index-classes-i.result f.is in
    let items = c.deref.ensures.value ∙ ap (λ z. z.stacks.items) same in
    let none = ap reverse (items_past c.deref.result.now c.args.method c.in-None-get.ensures.lookup.3) in
    sym (first_numbers c.args.class c.args.classes.now c.in-Some.i f.stacks f.is f.of_class f.lacks c.args.method ∙ ap (λ z. stacked_at z c.args.method) (sym items) ∙ none)

pub returns-in-Some-get : goal.returns-in-Some-get
returns-in-Some-get c =
    let f = c.in-Some.ensures.some in
    let same = get_or_from_slice_get c.args.classes.now c.in-Some.i f.stacks c.index-classes-i.result f.is in
    let items = c.deref.ensures.value ∙ ap (λ z. z.stacks.items) same in
    let look = c.in-Some-get.ensures.lookup in
    ap reverse (c.as_slice.ensures.value ∙ items_of c.deref.result.now c.in-Some-get.stack.now c.args.method look.3.0 look.1)
    ∙ sym (first_numbers c.args.class c.args.classes.now c.in-Some.i f.stacks f.is f.of_class f.lacks c.args.method ∙ ap (λ z. stacked_at z c.args.method) (sym items))
