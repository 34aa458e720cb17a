use Rattle.std.proofs.Common.{◌≡◌, ◌+◌, map, drop}
use Rattle.chord_tree.specs.View.{see_member}
use Rattle.chord_classes.specs.Plan.{own_builder}
use Rattle.chord_rules.proofs.class_plan.own_builder.Given as goal

abbrev pub invariant-loop-member : goal.invariant-loop-member
invariant-loop-member l = record {
  builder : own_builder l.number (map see_member (drop l.member-index l.members)) ≡ own_builder l.first (map see_member l.members);
  number : l.number ≡ l.first + l.member-index;
}
