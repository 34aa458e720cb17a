use Rattle.chord_lexer.proofs.Reserved.{other_length}
use Rattle.chord_lexer.proofs.identifier.same.Goals as goal

pub returns-else-these-those : goal.returns-else-these-those
returns-else-these-those c = other_length _ _ c.if-these-those.false
