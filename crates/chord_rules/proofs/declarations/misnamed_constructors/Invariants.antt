use Rattle.std.proofs.Common.{◌≡◌, false, map, drop}
use Rattle.chord_tree.specs.View.{see_member}
use Rattle.chord_classes.specs.Least.{least, keys}
use Rattle.chord_rules.specs.Constructors.{misnamed_from}
use Rattle.chord_rules.proofs.declarations.misnamed_constructors.Given as goal

abbrev pub invariant-loop-member : goal.invariant-loop-member
invariant-loop-member l = least l.breaks.found (keys 12 (misnamed_from l.class.name.text l.seen (map see_member (drop l.member-index l.member-items)))) ≡ least l.initial.breaks.found (keys 12 (misnamed_from l.class.name.text false (map see_member l.member-items)))
