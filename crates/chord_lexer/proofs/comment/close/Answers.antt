use Rattle.std.proofs.Common.{arith}
use Rattle.chord_lexer.proofs.Commenting.{passed_all, closed_here}
use Rattle.chord_lexer.proofs.comment.close.Goals as goal

pub returns-then-is_close-clause-some : goal.returns-then-is_close-clause-some
returns-then-is_close-clause-some c =
    let both = c.is_close.ensures.0 c.if-is_close.true in
    closed_here _ _ (omega arith) (omega arith) both.0 both.1 c.loop-at.invariant

pub returns-clause-none : goal.returns-clause-none
returns-clause-none c = passed_all _ _ (omega arith) c.loop-at.invariant
