use Rattle.std.proofs.Common.{◌≡◌, map, drop}
use Rattle.chord_bodies.specs.View.{view_chord_plan}
use Rattle.chord_rules.specs.Labels.{above_chords}
use Rattle.chord_rules.proofs.groups.above_chords.Given as goal

abbrev pub invariant-loop-chord : goal.invariant-loop-chord
invariant-loop-chord l = above_chords l.bound (map view_chord_plan (drop l.chord-index l.chords)) ≡ above_chords l.least (map view_chord_plan l.chords)
