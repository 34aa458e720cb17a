use Rattle.std.proofs.Common.{◌≡◌, map, drop, flat_map}
use Rattle.chord_tree.specs.View.{see_member}
use Rattle.chord_classes.specs.Least.{least}
use Rattle.chord_rules.specs.ClassKeys.{keys_of_member}
use Rattle.chord_rules.proofs.members.members_break.Given as goal

abbrev pub invariant-loop-member : goal.invariant-loop-member
invariant-loop-member l = least l.breaks.found (flat_map keys_of_member (map see_member (drop l.member-index l.members))) ≡ least l.initial.breaks.found (flat_map keys_of_member (map see_member l.members))
