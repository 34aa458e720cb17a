use Rattle.std.proofs.Common.{arith}
use Rattle.chord_lists.proofs.BagStacks.{not_empty, numbers_within, popped_here, popped_others}
use Rattle.chord_lists.proofs.bag.pop_from.Goals as goal

pub index_mut-requires : goal.index_mut-requires
index_mut-requires c =
    let r = c.requires in
    let l = numbers_within c.args.stacks.now.items c.args.method r.0 r.1 r.2 in
    omega (arith, l, c.args.stacks.now.ok.0)

pub unreachable-requires : goal.unreachable-requires
unreachable-requires c =
    let r = c.requires in
    not_empty c.args.stacks.now.items c.index_mut.result.now c.args.method r.0 r.1 c.index_mut.ensures.value r.2 (omega (arith, c.in-None.ensures.cases.0, c.index_mut.result.now.ok.0))

pub returns-clause-here : goal.returns-clause-here
returns-clause-here c =
    let r = c.requires in
    popped_here c.args.stacks.now.items c.index_mut.result.now c.pop.new.self c.args.method c.in-Some.number (numbers_within c.args.stacks.now.items c.args.method r.0 r.1 r.2) c.index_mut.ensures.value c.in-Some.ensures.items

pub returns-clause-others : goal.returns-clause-others
returns-clause-others c = λ j q.
    let r = c.requires in
    popped_others c.args.stacks.now.items c.pop.new.self c.args.method j (numbers_within c.args.stacks.now.items c.args.method r.0 r.1 r.2) q
