use Rattle.std.proofs.Common.{◌≡◌, map, drop}
use Rattle.std.specs.Prelude.{◌||◌}
use Rattle.chord_tree.specs.View.{see_header}
use Rattle.chord_classes.specs.ChordRules.{mains_among}
use Rattle.chord_classes.specs.Least.{least, keys}
use Rattle.chord_rules.specs.Mains.{wrong_from, some_main}
use Rattle.chord_rules.proofs.mains.headers_mains.Given as goal

abbrev pub invariant-loop-header : goal.invariant-loop-header
invariant-loop-header l = record {
  noted : least l.breaks.found (keys 13 (wrong_from l.seen (mains_among (map see_header l.headers) (map see_header (drop l.header-index l.headers))))) ≡ least l.initial.breaks.found (keys 13 (wrong_from l.initial.seen (mains_among (map see_header l.headers) (map see_header l.headers))));
  some : (l.seen || some_main (mains_among (map see_header l.headers) (map see_header (drop l.header-index l.headers)))) ≡ (l.initial.seen || some_main (mains_among (map see_header l.headers) (map see_header l.headers)));
}
