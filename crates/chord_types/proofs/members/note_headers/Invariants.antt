use Rattle.std.proofs.Common.{◌≡◌, drop, map}
use Rattle.std.specs.Prelude.{flat_map}
use Rattle.chord_tree.specs.View.{see_header}
use Rattle.chord_classes.specs.ItemRules.{undeclared_header}
use Rattle.chord_classes.specs.Least.{keys, least}
use Rattle.chord_types.proofs.members.note_headers.Given as goal

abbrev pub invariant-loop-header : goal.invariant-loop-header
invariant-loop-header l = least l.breaks.found (keys 2 (flat_map (undeclared_header l.table) (map see_header (drop l.header-index l.headers)))) ≡ least l.initial.breaks.found (keys 2 (flat_map (undeclared_header l.table) (map see_header l.headers)))
