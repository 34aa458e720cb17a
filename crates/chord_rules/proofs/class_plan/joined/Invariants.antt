use Rattle.std.proofs.Common.{◌≡◌, ◌++◌, map}
use Rattle.std.specs.Vec.Iter.{into_iter_items}
use Rattle.chord_bodies.specs.View.{view_chord_plan}
use Rattle.chord_rules.proofs.class_plan.joined.Given as goal

abbrev pub invariant-loop-chord : goal.invariant-loop-chord
invariant-loop-chord l = map view_chord_plan l.chords.items ++ map view_chord_plan (into_iter_items l.chord-iterator) ≡ map view_chord_plan l.fn.chords.items ++ map view_chord_plan l.fn.more.items
