use Rattle.std.proofs.Common.{sym, ap, ◌∙◌}
use Rattle.chord_tree.specs.Program.{token_kinds}
use Rattle.chord_tree.proofs.Ahead.{next_small}
use Rattle.chord_parser.proofs.Reading.{step, ends}
use Rattle.chord_parser.proofs.Chains.{stops, stops_parts, stops_folded, folded_one, reads_parts, exits, as_node}
use Rattle.chord_parser.proofs.made.StmtSteps.{optional_expr_expr, optional_expr_expr_at, optional_expr_none, optional_expr_none_at, other_return, other_return_at}
use Rattle.chord_tree.specs.StmtNodes.{node_other}
use Rattle.chord_parser.proofs.stmts.return_stmt.Goals as goal

pub returns-in_err-at-clause-err : goal.returns-in_err-at-clause-err
returns-in_err-at-clause-err c = exits _ _ _ _ _ c.from_residual.ensures.1 (stops {count = c.args.count} (other_return (other_return_at _ c.requires.first)) _ c.in_err-at.ensures.err)

pub returns-in_err-rest-clause-err : goal.returns-in_err-rest-clause-err
returns-in_err-rest-clause-err c = exits _ _ _ _ _ c.from_residual-in_err-rest.ensures.1 (stops (step (step (other_return (other_return_at _ c.requires.first)) c.in_ok-at.ensures.ok) (ends (optional_expr_none (optional_expr_none_at _ (sym c.next.ensures ∙ c.if-next-eq-SEMICOLON.true))))) _ c.in_err-rest.ensures.err)

pub returns-then-next-eq-SEMICOLON-clause-ok : goal.returns-then-next-eq-SEMICOLON-clause-ok
returns-then-next-eq-SEMICOLON-clause-ok c = as_node (ends (step (step (step (other_return (other_return_at _ c.requires.first)) c.in_ok-at.ensures.ok) (ends (optional_expr_none (optional_expr_none_at _ (sym c.next.ensures ∙ c.if-next-eq-SEMICOLON.true))))) c.in_ok-rest.ensures.ok)) (sym (ap node_other c.return_nothing.ensures))

pub returns-in_err-value-clause-err : goal.returns-in_err-value-clause-err
returns-in_err-value-clause-err c = exits _ _ _ _ _ c.from_residual-in_err-value.ensures.1 (stops_parts (step (other_return (other_return_at _ c.requires.first)) c.in_ok-at.ensures.ok) (stops_folded {count = c.args.count} (optional_expr_expr (optional_expr_expr_at _ (next_small (token_kinds c.in_ok-at.rest.now)) (λ q. c.if-next-eq-SEMICOLON.false (c.next.ensures ∙ q)))) c.in_err-value.ensures.err))

pub returns-clause-ok : goal.returns-clause-ok
returns-clause-ok c = as_node (reads_parts (step (other_return (other_return_at _ c.requires.first)) c.in_ok-at.ensures.ok) (folded_one (optional_expr_expr (optional_expr_expr_at _ (next_small (token_kinds c.in_ok-at.rest.now)) (λ q. c.if-next-eq-SEMICOLON.false (c.next.ensures ∙ q)))) c.in_ok-value.ensures.ok)) (sym (ap node_other c.return_value.ensures))
