use Rattle.std.proofs.Common.{◌≡◌, false, map, drop}
use Rattle.chord_tree.specs.View.{see_header}
use Rattle.chord_classes.specs.ChordRules.{second_sync}
use Rattle.chord_classes.specs.Least.{least, keys}
use Rattle.chord_rules.proofs.chords.second_synchronous.Given as goal

abbrev pub invariant-loop-header : goal.invariant-loop-header
invariant-loop-header l = least l.breaks.found (keys 6 (second_sync l.seen (map see_header (drop l.header-index l.headers)))) ≡ least l.initial.breaks.found (keys 6 (second_sync false (map see_header l.headers)))
