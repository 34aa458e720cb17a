use Rattle.std.proofs.Common.{◌+◌, map, drop, flat_map, ap, ◌∙◌}
use Rattle.std.specs.Prelude.{◌||◌}
use Rattle.chord_tree.specs.View.{see_header, see_member}
use Rattle.chord_classes.specs.ChordRules.{member_mains}
use Rattle.chord_rules.proofs.MainHeaders.{mains_in}
use Rattle.chord_classes.specs.Least.{least, keys}
use Rattle.chord_rules.specs.Mains.{wrong_from, some_main}
use Rattle.chord_rules.proofs.MainHeaders.{next_mains, next_seen}
use Rattle.chord_classes.proofs.Search.{item_by_item}
use Rattle.chord_rules.proofs.mains.members_mains.Goals as goal

pub loop-member-preserved : goal.loop-member-preserved
loop-member-preserved c =
    let seen = c.loop-member.seen in
    let here = member_mains (see_member c.member-item.result) in
    let rest = flat_map member_mains (map see_member (drop (c.loop-member.member-index + 1) c.args.members.now)) in
    let after = c.headers_mains-seen.ensures.seen ∙ ap (λ z. seen || some_main z) (mains_in (see_member c.member-item.result) (map see_header c.headers_of.result.now) c.headers_of.ensures) in
    let noted = c.headers_mains-seen.ensures.noted ∙ ap (λ z. least c.loop-member.breaks.found (keys 13 (wrong_from seen z))) (mains_in (see_member c.member-item.result) (map see_header c.headers_of.result.now) c.headers_of.ensures) in
    record {
      noted = item_by_item (λ xs. least c.loop-member.breaks.found (keys 13 (wrong_from seen (flat_map member_mains (map see_member xs))))) c.args.members.now c.loop-member.member-index c.member-item.result _ _ c.loop-member-test.true c.member-item.is
          (next_mains seen c.headers_mains-seen.result here rest c.loop-member.breaks.found _ after noted) c.loop-member.invariant.noted;
      some = item_by_item (λ xs. seen || some_main (flat_map member_mains (map see_member xs))) c.args.members.now c.loop-member.member-index c.member-item.result _ _ c.loop-member-test.true c.member-item.is
          (next_seen seen c.headers_mains-seen.result here rest after) c.loop-member.invariant.some;
    }
