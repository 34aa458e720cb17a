use Rattle.std.proofs.Common.{◌≡◌, None, map, take, drop}
use Rattle.chord_tree.specs.View.{see_class}
use Rattle.chord_bodies.specs.View.{view_class_plan}
use Rattle.chord_rules.specs.ClassKeys.{class_keys}
use Rattle.chord_rules.specs.Planning.{AreAlike}
use Rattle.chord_rules.specs.Passing.{ClassesNumbered}
use Rattle.chord_rules.proofs.Stopping.{WereUnbroken}
use Rattle.chord_rules.proofs.classes.look.Given as goal

abbrev pub invariant-loop-class : goal.invariant-loop-class
invariant-loop-class l = record {
  alike : AreAlike l.progress.table (map view_class_plan l.progress.plans.items) l.progress.depths.items;
  none : l.breaks.found ≡ None;
  numbered : ClassesNumbered (map see_class (drop l.class-index l.classes));
  unbroken : WereUnbroken (class_keys (map see_class l.classes)) (map see_class (take l.class-index l.classes)) l.progress.table (map view_class_plan l.progress.plans.items) l.progress.number;
}
