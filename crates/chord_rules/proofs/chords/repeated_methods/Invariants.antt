use Rattle.std.proofs.Common.{◌≡◌, [], map, drop}
use Rattle.std.specs.Prelude.{reverse}
use Rattle.chord_tree.specs.View.{see_header}
use Rattle.chord_classes.specs.ChordRules.{repeated}
use Rattle.chord_classes.specs.Least.{least, keys}
use Rattle.chord_rules.proofs.chords.repeated_methods.Given as goal

abbrev pub invariant-loop-header : goal.invariant-loop-header
invariant-loop-header l = least l.breaks.found (keys 7 (repeated (reverse l.names) (map see_header (drop l.header-index l.headers)))) ≡ least l.initial.breaks.found (keys 7 (repeated [] (map see_header l.headers)))
