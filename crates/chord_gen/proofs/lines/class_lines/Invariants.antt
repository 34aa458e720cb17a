use Rattle.std.proofs.Common.{◌≡◌, ◌++◌, drop}
use Rattle.chord_gen.specs.Translation.{lines_from}
use Rattle.chord_gen.specs.TypedSource.{source_of}
use Rattle.chord_gen.proofs.lines.class_lines.Given as goal

abbrev pub invariant-loop-number : goal.invariant-loop-number
invariant-loop-number l = l.lines.items ++ lines_from (source_of l.plan l.bodies) l.number (drop l.number l.plan.classes) ≡ lines_from (source_of l.plan l.bodies) 0 l.plan.classes
