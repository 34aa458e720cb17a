use Rattle.std.proofs.Common.{◌-◌, ◌≤◌, length, drop}
use Rattle.chord_lexer.specs.Reading.{Chain}
use Rattle.chord_lexer.proofs.lexer.read.Given as goal

-- the text up to the place is a chain with the tokens so far
abbrev pub invariant-loop-at : goal.invariant-loop-at
invariant-loop-at l = (l.at ≤ length l.text) × Chain 0 l.text l.tokens.items (drop l.at l.text)

abbrev pub decreases-loop-at : goal.decreases-loop-at
decreases-loop-at l = length l.text - l.at
