use Rattle.std.proofs.Common.{◌≡◌, map, drop}
use Rattle.std.specs.Prelude.{◌||◌}
use Rattle.chord_tree.specs.View.{see_class}
use Rattle.chord_classes.specs.ChordRules.{mains_of}
use Rattle.chord_classes.specs.Least.{least, keys}
use Rattle.chord_rules.specs.Mains.{wrong_from, some_main}
use Rattle.chord_rules.proofs.mains.classes_mains.Given as goal

abbrev pub invariant-loop-class : goal.invariant-loop-class
invariant-loop-class l = record {
  noted : least l.breaks.found (keys 13 (wrong_from l.seen (mains_of (map see_class (drop l.class-index l.classes))))) ≡ least l.initial.breaks.found (keys 13 (wrong_from l.initial.seen (mains_of (map see_class l.classes))));
  some : (l.seen || some_main (mains_of (map see_class (drop l.class-index l.classes)))) ≡ (l.initial.seen || some_main (mains_of (map see_class l.classes)));
}
