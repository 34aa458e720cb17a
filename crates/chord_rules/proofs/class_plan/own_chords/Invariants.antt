use Rattle.std.proofs.Common.{◌≡◌, ◌++◌, map, drop}
use Rattle.chord_tree.specs.View.{see_member}
use Rattle.chord_classes.specs.Plan.{own_chords}
use Rattle.chord_classes.specs.Table.{methods_at}
use Rattle.chord_bodies.specs.View.{view_chord_plan}
use Rattle.chord_rules.proofs.class_plan.own_chords.Given as goal

abbrev pub invariant-loop-member : goal.invariant-loop-member
invariant-loop-member l = map view_chord_plan l.chords.items ++ own_chords (methods_at l.table l.class) l.number (map see_member (drop l.member-index l.members)) ≡ own_chords (methods_at l.table l.class) l.initial.number (map see_member l.members)
