use Rattle.std.proofs.Common.{◌≡◌, ◌+◌, map, drop}
use Rattle.chord_tree.specs.View.{see_class}
use Rattle.chord_classes.specs.Plan.{main_in}
use Rattle.chord_rules.specs.Mains.{member_sum}
use Rattle.chord_rules.proofs.mains.main_in.Given as goal

abbrev pub invariant-loop-class : goal.invariant-loop-class
invariant-loop-class l = record {
  found : main_in l.number (map see_class (drop l.class-index l.classes)) ≡ main_in 0 (map see_class l.classes);
  number : l.number + member_sum (map see_class (drop l.class-index l.classes)) ≡ member_sum (map see_class l.classes);
}
