use Rattle.std.proofs.Common.{◌+◌, map, drop, sym, ap, subst, ◌∙◌}
use Rattle.std.specs.Prelude.{sum_by}
use Rattle.chord_tree.specs.View.{see_member}
use Rattle.chord_tree.proofs.Words.{dropped}
use Rattle.chord_bodies.specs.BodyView.{view_body}
use Rattle.chord_types.specs.Flat.{doubled_body}
use Rattle.chord_types.proofs.Lists.{map_last}
use Rattle.chord_types.proofs.Doubled.{same_sum}
use Rattle.chord_types.proofs.Classes.{MembersLeft, member_less}
use Rattle.chord_types.proofs.program.class_bodies.Goals as goal

pub each-preserved : goal.each-preserved
each-preserved c =
    let ms = c.args.members.now in
    let i = c.each.one-index in (
      subst (λ z. MembersLeft c.args.table.now c.args.number (map see_member c.args.members.now) (map see_member (drop (c.each.one-index + 1) c.args.members.now)) c.args.breaks.now.found c.member.new.breaks.found (map view_body c.args.bodies.now.items) z) (sym (ap (map view_body) c.in_ok-push.ensures.items ∙ map_last view_body c.each.bodies.items c.in_ok-body.body))
          (member_less c.args.table.now c.args.number (map see_member ms) (map see_member (drop (i + 1) ms)) (see_member c.one-item.result) c.args.breaks.now.found c.each.breaks.found c.member.new.breaks.found (map view_body c.args.bodies.now.items) (map view_body c.each.bodies.items) c.in_ok-body.body
          (subst (λ z. MembersLeft c.args.table.now c.args.number (map see_member c.args.members.now) (map see_member z) c.args.breaks.now.found c.each.breaks.found (map view_body c.args.bodies.now.items) (map view_body c.each.bodies.items)) (dropped ms i c.one-item.result c.each-test.true c.one-item.is) c.each.invariant.0)
          c.in_ok-body.ensures),
      same_sum doubled_body (sum_by doubled_body c.args.bodies.now.items) c.each.bodies.items c.push.new.self.items c.in_ok-body.body c.in_ok-push.ensures.items c.each.invariant.1 c.in_ok-body.ensures.flat,
    )
