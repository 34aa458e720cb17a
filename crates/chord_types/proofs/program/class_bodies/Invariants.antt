use Rattle.std.proofs.Common.{◌≡◌, map, drop}
use Rattle.std.specs.Prelude.{sum_by}
use Rattle.chord_tree.specs.View.{see_member}
use Rattle.chord_bodies.specs.BodyView.{view_body}
use Rattle.chord_types.specs.Flat.{doubled_body}
use Rattle.chord_types.proofs.Classes.{MembersLeft}
use Rattle.chord_types.proofs.program.class_bodies.Given as goal

abbrev pub invariant-each : goal.invariant-each
invariant-each l = MembersLeft l.table l.number (map see_member l.members) (map see_member (drop l.one-index l.members)) l.initial.breaks.found l.breaks.found (map view_body l.initial.bodies.items) (map view_body l.bodies.items) × (sum_by doubled_body l.bodies.items ≡ sum_by doubled_body l.initial.bodies.items)
