use Rattle.std.proofs.Common.{◌≡◌, ◌∷◌, [], sym, ◌∙◌, arith}
use Rattle.std.proofs.lemmas.Option.{slice_get_within}
use Rattle.chord_lists.proofs.BagStacks.{none_numbers, numbers_first, taken_here, taken_others}
use Rattle.chord_lists.proofs.bag.take_in.Goals as goal

pub unreachable-requires : goal.unreachable-requires
unreachable-requires c =
    let r = c.requires in
    let z : [] ≡ r.0 ∷ r.1 = sym (none_numbers c.args.class c.args.classes.now.items (rw c.deref.ensures.value at c.in-None.ensures.none) c.args.method) ∙ r.2 in
    cc

pub index_mut-requires : goal.index_mut-requires
index_mut-requires c =
    let f = rw c.deref.ensures.value at c.in-Some.ensures.some in
    let l = slice_get_within c.args.classes.now.items c.in-Some.i f.stacks f.is in
    omega (arith, l, c.args.classes.now.ok.0)

pub pop_from-requires : goal.pop_from-requires
pop_from-requires c =
    let r = c.requires in
    let f = rw c.deref.ensures.value at c.in-Some.ensures.some in
    (r.0, r.1, sym (numbers_first c.args.class c.args.classes.now.items c.in-Some.i f c.index_mut.result.now c.index_mut.ensures.value c.args.method) ∙ r.2)

pub returns-clause-here : goal.returns-clause-here
returns-clause-here c =
    let f = rw c.deref.ensures.value at c.in-Some.ensures.some in
    taken_here c.args.class c.args.classes.now.items c.in-Some.i f c.index_mut.result.now c.pop_from.new.stacks c.args.method c.pop_from.result c.index_mut.ensures.value c.pop_from.ensures.here

pub returns-clause-others : goal.returns-clause-others
returns-clause-others c =
    let f = rw c.deref.ensures.value at c.in-Some.ensures.some in
    taken_others c.args.class c.args.classes.now.items c.in-Some.i f c.index_mut.result.now c.pop_from.new.stacks c.args.method c.index_mut.ensures.value c.pop_from.ensures.others
