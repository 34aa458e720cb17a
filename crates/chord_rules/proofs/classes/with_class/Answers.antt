use Rattle.std.proofs.Common.{map}
use Rattle.std.proofs.lemmas.Result.{IfOk-weaker}
use Rattle.chord_tree.specs.View.{see_class}
use Rattle.chord_bodies.specs.View.{view_method_plan, view_chord_plan}
use Rattle.chord_rules.proofs.NextClasses.{next_is}
use Rattle.chord_rules.proofs.classes.with_class.Goals as goal

pub returns : goal.returns
returns c =
    let parts = c.in_ok-parts.parts in
    IfOk-weaker c.with_plan.result _ _ (λ next h. next_is c.args.progress c.in_ok-shaped.shaped next (see_class c.args.class.now) c.base_of-base.result parts.number (map view_method_plan parts.methods.items) (map view_chord_plan parts.inherited.items) c.args.looked.own.all.items c.args.looked.taken.items
    c.base_of-base.ensures c.in_ok-parts.ensures.number c.in_ok-parts.ensures.methods c.in_ok-parts.ensures.inherited c.requires.own c.requires.taken c.requires.alike c.in_ok-shaped.ensures h)
    c.with_plan.ensures
