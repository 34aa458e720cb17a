use Rattle.std.proofs.Common.{◌≡◌, map, drop, flat_map}
use Rattle.std.specs.Prelude.{◌||◌}
use Rattle.chord_tree.specs.View.{see_member}
use Rattle.chord_classes.specs.ChordRules.{member_mains}
use Rattle.chord_classes.specs.Least.{least, keys}
use Rattle.chord_rules.specs.Mains.{wrong_from, some_main}
use Rattle.chord_rules.proofs.mains.members_mains.Given as goal

abbrev pub invariant-loop-member : goal.invariant-loop-member
invariant-loop-member l = record {
  noted : least l.breaks.found (keys 13 (wrong_from l.seen (flat_map member_mains (map see_member (drop l.member-index l.members))))) ≡ least l.initial.breaks.found (keys 13 (wrong_from l.initial.seen (flat_map member_mains (map see_member l.members))));
  some : (l.seen || some_main (flat_map member_mains (map see_member (drop l.member-index l.members)))) ≡ (l.initial.seen || some_main (flat_map member_mains (map see_member l.members)));
}
