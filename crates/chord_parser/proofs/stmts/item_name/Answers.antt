use Rattle.std.proofs.Common.{sym, ap, ◌∙◌}
use Rattle.chord_tree.specs.Program.{token_kinds}
use Rattle.chord_tree.proofs.Ahead.{next_small}
use Rattle.chord_parser.proofs.Reading.{step}
use Rattle.chord_parser.proofs.Chains.{stops, stops_parts, stops_folded, folded_one, folded_three, reads_parts, exits, as_node}
use Rattle.chord_parser.proofs.made.StmtSteps.{after_name_name, after_name_name_at, after_name_tail, after_name_tail_at, item_name, item_name_at}
use Rattle.chord_tree.specs.StmtNodes.{node_item}
use Rattle.chord_parser.proofs.StmtLists.{named_item}
use Rattle.chord_parser.proofs.stmts.item_name.Goals as goal

pub returns-in_err-first-clause-err : goal.returns-in_err-first-clause-err
returns-in_err-first-clause-err c = exits _ _ _ _ _ c.from_residual.ensures.1 (stops {count = c.args.count} (item_name (item_name_at _ c.requires.first)) _ c.in_err-first.ensures.err)

pub returns-in_err-second-clause-err : goal.returns-in_err-second-clause-err
returns-in_err-second-clause-err c = exits _ _ _ _ _ c.from_residual-in_err-second.ensures.1 (stops_parts (step (item_name (item_name_at _ c.requires.first)) c.in_ok-first.ensures.ok) (stops_folded {count = c.args.count} (after_name_name (after_name_name_at _ (sym c.next.ensures ∙ c.if-next-eq-NAME.true))) c.in_err-second.ensures.err))

pub returns-then-next-eq-NAME-clause-ok : goal.returns-then-next-eq-NAME-clause-ok
returns-then-next-eq-NAME-clause-ok c = as_node (reads_parts (step (item_name (item_name_at _ c.requires.first)) c.in_ok-first.ensures.ok) (folded_three (after_name_name (after_name_name_at _ (sym c.next.ensures ∙ c.if-next-eq-NAME.true))) c.in_ok-second.ensures.ok)) (sym (ap node_item c.local.ensures))

pub returns-in_err-form-clause-err : goal.returns-in_err-form-clause-err
returns-in_err-form-clause-err c = exits _ _ _ _ _ c.from_residual-in_err-form.ensures.1 (stops_parts (step (item_name (item_name_at _ c.requires.first)) c.in_ok-first.ensures.ok) (stops_folded {count = c.args.count} (after_name_tail (after_name_tail_at _ (next_small (token_kinds c.in_ok-first.rest.now)) (λ q. c.if-next-eq-NAME.false (c.next.ensures ∙ q)))) c.in_err-form.ensures.err))

pub returns-clause-ok : goal.returns-clause-ok
returns-clause-ok c = as_node (reads_parts (step (item_name (item_name_at _ c.requires.first)) c.in_ok-first.ensures.ok) (folded_one (after_name_tail (after_name_tail_at _ (next_small (token_kinds c.in_ok-first.rest.now)) (λ q. c.if-next-eq-NAME.false (c.next.ensures ∙ q)))) c.in_ok-form.ensures.ok)) (named_item _ _ c.in_ok-form.ensures.named ∙ sym (ap node_item c.stmt.ensures))
