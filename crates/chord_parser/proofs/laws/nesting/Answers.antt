use Rattle.chord_parser.proofs.NestedStmts.{nesting_is_tied}
use Rattle.chord_parser.proofs.laws.nesting.Goals as goal

pub returns : goal.returns
returns c = nesting_is_tied
