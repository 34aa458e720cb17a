use Rattle.std.proofs.Common.{◌≡◌, map, drop, flat_map}
use Rattle.chord_tree.specs.View.{see_header}
use Rattle.chord_classes.specs.Least.{least, keys}
use Rattle.chord_rules.specs.Limits.{crowded_formals}
use Rattle.chord_rules.proofs.limits.header_formals_past.Given as goal

abbrev pub invariant-loop-header : goal.invariant-loop-header
invariant-loop-header l = least l.breaks.found (keys 4 (flat_map crowded_formals (map see_header (drop l.header-index l.headers)))) ≡ least l.initial.breaks.found (keys 4 (flat_map crowded_formals (map see_header l.headers)))
