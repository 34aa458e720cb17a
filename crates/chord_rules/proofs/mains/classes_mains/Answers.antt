use Rattle.std.proofs.Common.{◌+◌, map, drop, flat_map, ap, ◌∙◌}
use Rattle.std.specs.Prelude.{◌||◌}
use Rattle.chord_tree.specs.View.{see_class, see_member}
use Rattle.chord_classes.specs.ChordRules.{member_mains, mains_of}
use Rattle.chord_classes.specs.Least.{least, keys}
use Rattle.chord_rules.specs.Mains.{wrong_from, some_main}
use Rattle.chord_rules.proofs.MainHeaders.{next_mains, next_seen}
use Rattle.chord_classes.proofs.Search.{item_by_item}
use Rattle.chord_rules.proofs.mains.classes_mains.Goals as goal

pub loop-class-preserved : goal.loop-class-preserved
loop-class-preserved c =
    let seen = c.loop-class.seen in
    let here = flat_map member_mains (see_class c.class-item.result).members in
    let rest = mains_of (map see_class (drop (c.loop-class.class-index + 1) c.args.classes.now)) in
    let after = c.members_mains-seen.ensures.seen ∙ ap (λ z. seen || some_main z) (ap (λ z. flat_map member_mains (map see_member z)) c.deref.ensures.value) in
    let noted = c.members_mains-seen.ensures.noted ∙ ap (λ z. least c.loop-class.breaks.found (keys 13 (wrong_from seen z))) (ap (λ z. flat_map member_mains (map see_member z)) c.deref.ensures.value) in
    record {
      noted = item_by_item (λ xs. least c.loop-class.breaks.found (keys 13 (wrong_from seen (mains_of (map see_class xs))))) c.args.classes.now c.loop-class.class-index c.class-item.result _ _ c.loop-class-test.true c.class-item.is
          (next_mains seen c.members_mains-seen.result here rest c.loop-class.breaks.found _ after noted) c.loop-class.invariant.noted;
      some = item_by_item (λ xs. seen || some_main (mains_of (map see_class xs))) c.args.classes.now c.loop-class.class-index c.class-item.result _ _ c.loop-class-test.true c.class-item.is
          (next_seen seen c.members_mains-seen.result here rest after) c.loop-class.invariant.some;
    }
