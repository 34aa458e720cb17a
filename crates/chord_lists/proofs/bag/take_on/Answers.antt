use Rattle.std.proofs.Common.{ap, ◌∙◌, arith}
use Rattle.chord_lists.specs.Bag.{numbers_in}
use Rattle.chord_lists.proofs.BagStacks.{items_of, stacks_within, went_here, went_others}
use Rattle.chord_lists.proofs.bag.take_on.Goals as goal

pub index_mut-requires : goal.index_mut-requires
index_mut-requires c =
    let r = c.requires in
    let l = stacks_within c.args.objects.now.items c.args.object.number c.args.object.class c.args.method r.0 r.1 r.2 in
    omega (arith, l, c.args.objects.now.ok.0)

pub take_in-requires : goal.take_in-requires
take_in-requires c =
    let r = c.requires in
    let l = stacks_within c.args.objects.now.items c.args.object.number c.args.object.class c.args.method r.0 r.1 r.2 in
    (r.0, r.1, ap (λ z. numbers_in z c.args.object.class c.args.method) (items_of c.args.objects.now.items c.index_mut.result.now c.args.object.number l c.index_mut.ensures.value) ∙ r.2)

pub returns : goal.returns
returns c =
    let r = c.requires in
    let l = stacks_within c.args.objects.now.items c.args.object.number c.args.object.class c.args.method r.0 r.1 r.2 in
    record {
      here = went_here c.args.objects.now.items c.index_mut.result.now c.take_in.new.classes c.args.object.number c.args.object.class c.args.method c.take_in.result l c.index_mut.ensures.value c.take_in.ensures.here;
      others = λ i q. went_others c.args.objects.now.items c.index_mut.result.now c.take_in.new.classes c.args.object.number c.args.object.class c.args.method l c.index_mut.ensures.value c.take_in.ensures.others i.object i.class i.method q;
    }
