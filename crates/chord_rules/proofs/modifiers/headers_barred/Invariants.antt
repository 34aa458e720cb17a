use Rattle.std.proofs.Common.{◌≡◌, map, drop, length, flat_map}
use Rattle.chord_tree.specs.View.{see_header}
use Rattle.chord_classes.specs.Least.{least, keys}
use Rattle.chord_rules.specs.Bearers.{header_barred}
use Rattle.chord_rules.proofs.modifiers.headers_barred.Given as goal

abbrev pub invariant-loop-header : goal.invariant-loop-header
invariant-loop-header l = least l.breaks.found (keys 21 (flat_map (header_barred (length l.headers)) (map see_header (drop l.header-index l.headers)))) ≡ least l.initial.breaks.found (keys 21 (flat_map (header_barred (length l.headers)) (map see_header l.headers)))
