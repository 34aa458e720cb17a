use Rattle.std.proofs.Common.{sym, subst}
use Rattle.chord_tree.specs.Symbol.{Terminal}
use Rattle.chord_tree.specs.Program.{token_kinds}
use Rattle.chord_parser.specs.Reading.{StopsAs}
use Rattle.chord_parser.proofs.Reading.{step, ends}
use Rattle.chord_parser.proofs.Chains.{stops, exits, as_node}
use Rattle.chord_parser.proofs.ClassLists.{plain_begun, plain_read}
use Rattle.chord_parser.proofs.words.plain.Goals as goal

pub returns-in_err-at-clause-err : goal.returns-in_err-at-clause-err
returns-in_err-at-clause-err c = exits _ _ _ _ _ c.from_residual.ensures.1 (stops {count = c.args.count} (plain_begun c.args.word c.requires.first) _ (subst (λ z. StopsAs (Terminal z) 0 (token_kinds c.args.tokens.now) c.in_err-at.field-0.0) c.terminal_of_plain.ensures c.in_err-at.ensures.err))

pub returns-clause-ok : goal.returns-clause-ok
returns-clause-ok c = as_node (ends (step (plain_begun c.args.word c.requires.first) (plain_read _ c.args.word c.terminal_of_plain.ensures c.in_ok-at.ensures.ok))) (sym c.plain_type.ensures.node)
