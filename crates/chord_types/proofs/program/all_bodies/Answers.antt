use Rattle.std.proofs.Common.{◌≡◌, ◌+◌, map, drop, ap, subst, ◌∙◌}
use Rattle.chord_tree.specs.View.{see_class, see_member}
use Rattle.chord_tree.proofs.Words.{dropped}
use Rattle.chord_bodies.specs.BodyView.{view_body}
use Rattle.chord_types.specs.Answer.{AreMembersChecked}
use Rattle.chord_types.proofs.Classes.{ClassesLeft, class_less}
use Rattle.chord_types.proofs.program.all_bodies.Goals as goal

pub each-preserved : goal.each-preserved
each-preserved c =
    let xs = c.args.classes.now in
    let i = c.each.class-index in
    let own : c.in_ok-own.own ≡ c.each.number = c.in_ok-own.ensures.same in (
      ap (λ z. z + 1) c.each.invariant.0,
      class_less c.args.table.now c.each.number (map see_class xs) (map see_class (drop (i + 1) xs)) (see_class c.class-item.result) c.args.breaks.now.found c.each.breaks.found c.class_bodies.new.breaks.found c.each.bodies.items c.class_bodies.new.bodies.items
          (subst (λ z. ClassesLeft c.args.table.now c.each.number (map see_class c.args.classes.now) (map see_class z) c.args.breaks.now.found c.each.breaks.found (map view_body c.each.bodies.items)) (dropped xs i c.class-item.result c.each-test.true c.class-item.is) c.each.invariant.1)
          (subst (λ z. AreMembersChecked c.args.table.now z (map see_member c.class-item.result.members.items) c.each.breaks.found c.class_bodies.new.breaks.found c.each.bodies.items c.class_bodies.new.bodies.items) own
          (subst (λ z. AreMembersChecked c.args.table.now c.in_ok-own.own (map see_member z) c.each.breaks.found c.class_bodies.new.breaks.found c.each.bodies.items c.class_bodies.new.bodies.items) c.deref.ensures.value c.in_ok-class_bodies.ensures)),
      c.in_ok-class_bodies.ensures.flat ∙ c.each.invariant.2,
    )
