use Rattle.std.proofs.Common.{rules}
use Rattle.chord_parser.proofs.stmts.if_form.Goals as goal

pub returns-in-Some-clause-node : goal.returns-in-Some-clause-node
returns-in-Some-clause-node c = search rules
