use Rattle.std.proofs.Common.{map, ◌≡◌, ◌≤◌, length, drop}
use Rattle.chord_rules.specs.Labels.{labels_of}
use Rattle.chord_bodies.specs.View.{view_chord_plan}
use Rattle.chord_rules.proofs.groups.labels.Given as goal

abbrev pub invariant-loop-left : goal.invariant-loop-left
invariant-loop-left l = record { within : l.left ≤ length l.chords; so_far : l.found.items ≡ labels_of l.count (map view_chord_plan (drop l.left l.chords)) }

abbrev pub decreases-loop-left : goal.decreases-loop-left
decreases-loop-left l = l.left
