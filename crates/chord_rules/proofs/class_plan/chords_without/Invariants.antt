use Rattle.std.proofs.Common.{◌≡◌, ◌++◌, map, drop}
use Rattle.chord_classes.specs.Plan.{chords_without}
use Rattle.chord_bodies.specs.View.{view_chord_plan}
use Rattle.chord_rules.proofs.class_plan.chords_without.Given as goal

abbrev pub invariant-loop-chord : goal.invariant-loop-chord
invariant-loop-chord l = map view_chord_plan l.left.items ++ chords_without l.others (map view_chord_plan (drop l.chord-index l.chords)) ≡ chords_without l.others (map view_chord_plan l.chords)
