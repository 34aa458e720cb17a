use Rattle.std.proofs.Common.{◌≡◌, map, drop}
use Rattle.chord_tree.specs.View.{see_class}
use Rattle.chord_bodies.specs.BodyView.{view_body}
use Rattle.chord_types.specs.Flat.{AreFlat}
use Rattle.chord_types.proofs.Classes.{ClassesLeft}
use Rattle.chord_types.proofs.program.all_bodies.Given as goal

abbrev pub invariant-each : goal.invariant-each
invariant-each l = (l.number ≡ l.class-index) × ClassesLeft l.table l.number (map see_class l.classes) (map see_class (drop l.class-index l.classes)) l.initial.breaks.found l.breaks.found (map view_body l.bodies.items) × AreFlat l.bodies.items
