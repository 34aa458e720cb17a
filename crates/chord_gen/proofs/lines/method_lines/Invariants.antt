use Rattle.std.proofs.Common.{◌≡◌, map, take}
use Rattle.chord_gen.specs.Translation.{method_line}
use Rattle.chord_bodies.specs.View.{view_method_plan}
use Rattle.chord_gen.proofs.lines.method_lines.Given as goal

abbrev pub invariant-loop-method : goal.invariant-loop-method
invariant-loop-method l = l.lines.items ≡ map method_line (map view_method_plan (take l.method-index l.methods))
