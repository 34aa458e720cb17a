use Rattle.std.proofs.Common.{take, reverse}
use Rattle.chord_lists.specs.CodeGoes.{MarksTaken}
use Rattle.chord_lists.proofs.code_run.taken_of.Given as goal

abbrev pub invariant-loop-entry : goal.invariant-loop-entry
invariant-loop-entry l = MarksTaken l.taken.items l.entries (reverse (take l.entry-index l.entries))
