use Rattle.std.proofs.Common.{◌≡◌, take}
use Rattle.chord_lists.specs.CodeStands.{sent_values}
use Rattle.chord_lists.proofs.code_bodies.add_all_arguments.Given as goal

abbrev pub invariant-loop-number : goal.invariant-loop-number
invariant-loop-number l = l.values ≡ sent_values l.entries (take l.number-index l.members)
