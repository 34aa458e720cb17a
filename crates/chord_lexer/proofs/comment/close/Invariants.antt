use Rattle.chord_lexer.proofs.Commenting.{IsPassed}
use Rattle.chord_lexer.proofs.comment.close.Given as goal

-- no `*/` ends before the place
abbrev pub invariant-loop-at : goal.invariant-loop-at
invariant-loop-at l = IsPassed l.text l.at
