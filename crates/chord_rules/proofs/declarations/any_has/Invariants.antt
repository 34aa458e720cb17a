use Rattle.std.proofs.Common.{◌≡◌, map, drop}
use Rattle.chord_tree.specs.View.{see_member}
use Rattle.chord_classes.specs.ChordRules.{any_has}
use Rattle.chord_rules.proofs.declarations.any_has.Given as goal

abbrev pub invariant-loop-member : goal.invariant-loop-member
invariant-loop-member l = any_has (map see_member (drop l.member-index l.members)) ≡ any_has (map see_member l.members)
