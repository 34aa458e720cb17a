use Rattle.std.proofs.Common.{take}
use Rattle.chord_lists.specs.CodeGoes.{HasTaken}
use Rattle.chord_lists.proofs.code_run.take_numbers.Given as goal

abbrev pub invariant-loop-number : goal.invariant-loop-number
invariant-loop-number l = HasTaken (take l.number-index l.numbers) l.fn.taken.items l.taken.items
