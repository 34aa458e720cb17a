use Rattle.std.proofs.Common.{◌≡◌, ◌++◌, map, drop}
use Rattle.chord_bodies.specs.View.{view_chord_plan}
use Rattle.chord_rules.specs.Planning.{chord_bodies}
use Rattle.chord_rules.proofs.class_plan.chord_bodies.Given as goal

abbrev pub invariant-loop-chord : goal.invariant-loop-chord
invariant-loop-chord l = l.bodies.items ++ chord_bodies (map view_chord_plan (drop l.chord-index l.chords)) ≡ chord_bodies (map view_chord_plan l.chords)
