use Rattle.std.proofs.Common.{◌-◌, ◌≤◌, length, take, drop}
use Rattle.chord_lexer.specs.Scanning.{Bytewise, IsBody}
use Rattle.chord_lexer.proofs.literal.meaning.Given as goal

abbrev pub invariant-loop-at : goal.invariant-loop-at
invariant-loop-at l = (l.at ≤ length l.body) × Bytewise (take l.at l.body) l.bytes.items × IsBody (drop l.at l.body)

abbrev pub decreases-loop-at : goal.decreases-loop-at
decreases-loop-at l = length l.body - l.at
