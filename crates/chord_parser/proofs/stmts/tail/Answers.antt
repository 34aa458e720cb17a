use Rattle.std.proofs.Common.{refl, sym, ap, ◌∙◌}
use Rattle.chord_tree.specs.Node.{End, ◌▸◌}
use Rattle.chord_tree.specs.Program.{token_kinds}
use Rattle.chord_tree.proofs.Ahead.{next_small}
use Rattle.chord_parser.proofs.Chains.{stops_first, stops_folded, folded_two, leaves, as_nodes, stuck_at}
use Rattle.chord_parser.proofs.made.StmtSteps.{tail_actuals, tail_actuals_at, tail_assign, tail_assign_at, tail_dot, tail_dot_at, tail_stuck}
use Rattle.chord_tree.specs.StmtNodes.{node_tail, semicolon}
use Rattle.chord_parser.proofs.stmts.tail.Goals as goal

pub returns-in_err-at-clause-err : goal.returns-in_err-at-clause-err
returns-in_err-at-clause-err c = leaves _ _ _ c.from_residual.ensures.1 (stops_folded {count = c.args.count} (tail_assign (tail_assign_at _ (sym c.next-ahead.ensures ∙ c.if-ahead-eq-ASSIGN.true))) c.in_err-at.ensures.err)

pub returns-then-ahead-eq-ASSIGN-clause-ok : goal.returns-then-ahead-eq-ASSIGN-clause-ok
returns-then-ahead-eq-ASSIGN-clause-ok c = as_nodes (folded_two (tail_assign (tail_assign_at _ (sym c.next-ahead.ensures ∙ c.if-ahead-eq-ASSIGN.true))) c.in_ok-at.ensures.ok) (sym (ap (λ z. node_tail z ▸ semicolon ▸ End) c.assign.ensures))

pub returns-in_err-passed-clause-err : goal.returns-in_err-passed-clause-err
returns-in_err-passed-clause-err c = leaves _ _ _ c.from_residual-in_err-passed.ensures.1 (stops_folded {count = c.args.count} (tail_actuals (tail_actuals_at _ (sym c.next-ahead.ensures ∙ c.if-ahead-eq-OPEN.true))) c.in_err-passed.ensures.err)

pub returns-then-ahead-eq-OPEN-clause-ok : goal.returns-then-ahead-eq-OPEN-clause-ok
returns-then-ahead-eq-OPEN-clause-ok c = as_nodes (folded_two (tail_actuals (tail_actuals_at _ (sym c.next-ahead.ensures ∙ c.if-ahead-eq-OPEN.true))) c.in_ok-passed.ensures.ok) (sym (ap (λ z. node_tail z ▸ semicolon ▸ End) c.call.ensures))

pub returns-in_err-first-clause-err : goal.returns-in_err-first-clause-err
returns-in_err-first-clause-err c = leaves _ _ _ c.from_residual-in_err-first.ensures.1 (stops_folded {count = c.args.count} (tail_dot (tail_dot_at _ (sym c.next-ahead.ensures ∙ c.if-ahead-eq-DOT.true))) c.in_err-first.ensures.err)

pub returns-then-ahead-eq-DOT-clause-ok : goal.returns-then-ahead-eq-DOT-clause-ok
returns-then-ahead-eq-DOT-clause-ok c = as_nodes (folded_two (tail_dot (tail_dot_at _ (sym c.next-ahead.ensures ∙ c.if-ahead-eq-DOT.true))) c.in_ok-first.ensures.ok) (sym (ap (λ z. node_tail z ▸ semicolon ▸ End) c.method_call.ensures))

pub returns-clause-err : goal.returns-clause-err
returns-clause-err c = stops_first (stuck_at _ _ (tail_stuck _ (next_small (token_kinds c.args.tokens.now)) (λ q. c.if-ahead-eq-DOT.false (c.next-ahead.ensures ∙ q)) (λ q. c.if-ahead-eq-OPEN.false (c.next-ahead.ensures ∙ q)) (λ q. c.if-ahead-eq-ASSIGN.false (c.next-ahead.ensures ∙ q))) refl)
