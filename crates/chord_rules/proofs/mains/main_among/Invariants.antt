use Rattle.std.proofs.Common.{◌≡◌, ◌+◌, map, drop}
use Rattle.chord_tree.specs.View.{see_member}
use Rattle.chord_classes.specs.Plan.{main_among}
use Rattle.chord_rules.proofs.mains.main_among.Given as goal

abbrev pub invariant-loop-member : goal.invariant-loop-member
invariant-loop-member l = record {
  found : main_among l.number (map see_member (drop l.member-index l.members)) ≡ main_among l.first (map see_member l.members);
  number : l.number ≡ l.first + l.member-index;
}
