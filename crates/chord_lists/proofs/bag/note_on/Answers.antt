use Rattle.std.proofs.Common.{arith}
use Rattle.std.proofs.lemmas.Result.{on_ok_weaker}
use Rattle.chord_lists.proofs.BagStacks.{object_noted, object_classes}
use Rattle.chord_lists.proofs.bag.note_on.Goals as goal

pub returns-clause-pushed : goal.returns-clause-pushed
returns-clause-pushed c =
    on_ok_weaker c.note_in.result
    (λ p i. object_noted c.args.objects.now.items c.lengthen.new.lists.items c.index_mut.result.now c.note_in.new.classes c.args.noted.now.object.number c.args.noted.now.object.class c.args.noted.now.method c.args.noted.now.number
    (omega (arith, c.in_ok-lengthen.ensures.long, c.lengthen.new.lists.ok.0)) c.in_ok-lengthen.ensures.same c.index_mut.ensures.value p i.object i.class i.method)
    c.note_in.ensures.pushed

pub returns-clause-class : goal.returns-clause-class
returns-clause-class c =
    on_ok_weaker c.note_in.result
    (object_classes c.args.objects.now.items c.lengthen.new.lists.items c.index_mut.result.now c.note_in.new.classes c.args.noted.now.object.number c.args.noted.now.object.class
    (omega (arith, c.in_ok-lengthen.ensures.long, c.lengthen.new.lists.ok.0)) c.in_ok-lengthen.ensures.same c.index_mut.ensures.value)
    c.note_in.ensures.long
