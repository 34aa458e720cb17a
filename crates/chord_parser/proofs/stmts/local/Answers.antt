use Rattle.std.proofs.Common.{◌+◌, sym, ap, subst, ◌∙◌}
use Rattle.chord_tree.specs.Symbol.{Terminal}
use Rattle.chord_tree.specs.Program.{token_kinds}
use Rattle.chord_parser.specs.Reading.{StopsAs}
use Rattle.chord_parser.proofs.Reading.{step}
use Rattle.chord_parser.proofs.Chains.{stops, stops_parts, reads_parts, exits, as_node}
use Rattle.chord_tree.specs.StmtNodes.{node_item}
use Rattle.chord_parser.proofs.StmtLists.{basic_read, basic_begun}
use Rattle.chord_parser.proofs.stmts.local.Goals as goal

pub returns-in_err-at-clause-err : goal.returns-in_err-at-clause-err
returns-in_err-at-clause-err c = exits _ _ _ _ _ c.from_residual.ensures.1 (stops {count = c.args.count} (basic_begun c.args.basic (c.requires.first ∙ c.requires.basic)) _ (subst (λ z. StopsAs (Terminal z) (c.args.depth + 1) (token_kinds c.args.tokens.now) c.in_err-at.field-0.0) c.requires.basic c.in_err-at.ensures.err))

pub returns-in_err-name-clause-err : goal.returns-in_err-name-clause-err
returns-in_err-name-clause-err c = exits _ _ _ _ _ c.from_residual-in_err-name.ensures.1 (stops (step (basic_begun c.args.basic (c.requires.first ∙ c.requires.basic)) (basic_read c.args.wanted c.args.basic c.requires.basic c.in_ok-at.ensures.ok)) _ c.in_err-name.ensures.err)

pub returns-in_err-assign-clause-err : goal.returns-in_err-assign-clause-err
returns-in_err-assign-clause-err c = exits _ _ _ _ _ c.from_residual-in_err-assign.ensures.1 (stops_parts (step (step (basic_begun c.args.basic (c.requires.first ∙ c.requires.basic)) (basic_read c.args.wanted c.args.basic c.requires.basic c.in_ok-at.ensures.ok)) c.in_ok-name.ensures.ok) c.in_err-assign.ensures.err)

pub returns-clause-ok : goal.returns-clause-ok
returns-clause-ok c = as_node (reads_parts (step (step (basic_begun c.args.basic (c.requires.first ∙ c.requires.basic)) (basic_read c.args.wanted c.args.basic c.requires.basic c.in_ok-at.ensures.ok)) c.in_ok-name.ensures.ok) c.in_ok-assign.ensures.ok) (sym (ap node_item c.local.ensures))
