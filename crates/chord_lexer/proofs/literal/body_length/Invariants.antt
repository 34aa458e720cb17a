use Rattle.std.proofs.Common.{◌-◌, ◌≤◌, length, take}
use Rattle.chord_lexer.specs.Scanning.{IsBody}
use Rattle.chord_lexer.proofs.literal.body_length.Given as goal

abbrev pub invariant-loop-at : goal.invariant-loop-at
invariant-loop-at l = (l.at ≤ length l.text) × IsBody (take l.at l.text)

abbrev pub decreases-loop-at : goal.decreases-loop-at
decreases-loop-at l = length l.text - l.at
