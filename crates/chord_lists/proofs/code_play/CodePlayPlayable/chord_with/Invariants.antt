use Rattle.std.proofs.Common.{◌≤◌, map}
use Rattle.chord_code.specs.Headers.{LackHeader}
use Rattle.chord_code.specs.Meaning.{methods_of}
use Rattle.chord_lists.proofs.code_play.CodePlayPlayable.chord_with.Given as goal

abbrev pub invariant-loop-at : goal.invariant-loop-at
invariant-loop-at l = (l.from ≤ l.at) × LackHeader l.method (map methods_of l.lines) l.from l.at
