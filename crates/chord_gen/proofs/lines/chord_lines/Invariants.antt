use Rattle.std.proofs.Common.{◌≡◌, map, take}
use Rattle.chord_gen.specs.Building.{told_line}
use Rattle.chord_bodies.specs.View.{view_chord_plan}
use Rattle.chord_gen.proofs.lines.chord_lines.Given as goal

abbrev pub invariant-loop-chord : goal.invariant-loop-chord
invariant-loop-chord l = l.lines.items ≡ map (told_line l.members) (map view_chord_plan (take l.chord-index l.chords))
