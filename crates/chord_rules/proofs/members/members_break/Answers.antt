use Rattle.std.proofs.Common.{◌+◌, map, drop, flat_map}
use Rattle.chord_tree.specs.View.{see_member}
use Rattle.chord_classes.specs.Least.{least}
use Rattle.chord_rules.specs.ClassKeys.{keys_of_member}
use Rattle.chord_rules.proofs.Noted.{then_all}
use Rattle.chord_classes.proofs.Search.{item_by_item}
use Rattle.chord_rules.proofs.members.members_break.Goals as goal

pub loop-member-preserved : goal.loop-member-preserved
loop-member-preserved c =
    item_by_item (λ ms. least c.loop-member.breaks.found (flat_map keys_of_member (map see_member ms))) c.args.members.now c.loop-member.member-index c.member-item.result _ _ c.loop-member-test.true c.member-item.is
    (then_all c.loop-member.breaks.found _ (keys_of_member (see_member c.member-item.result)) (flat_map keys_of_member (map see_member (drop (c.loop-member.member-index + 1) c.args.members.now))) c.in_ok-member_breaks.ensures) c.loop-member.invariant
