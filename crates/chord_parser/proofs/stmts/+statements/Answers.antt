use Rattle.std.proofs.Common.{[], ◌∷◌, map, refl, sym, ap, ◌∙◌}
use Rattle.chord_tree.specs.Symbols as grammar
use Rattle.chord_parser.specs.Runs.{none, more}
use Rattle.chord_tree.specs.Program.{token_kinds}
use Rattle.chord_tree.proofs.Ahead.{next_small}
use Rattle.chord_parser.proofs.Reading.{step, ends}
use Rattle.chord_parser.proofs.Chains.{stops, stops_in, stops_first, stops_later, stops_sooner, stops_parts, reads_parts, step_three, ok_both, err_map, leaves, exits, enters, then, renamed, as_node, stuck_at}
use Rattle.chord_parser.proofs.made.StmtSteps.{block_open_brace, block_open_brace_at, item_other, item_other_at, items_item, items_item_at, items_none, items_none_at, optional_else_else, optional_else_else_at, optional_else_none, optional_else_none_at, other_block, other_block_at, other_if, other_if_at, other_semicolon, other_semicolon_at, other_stuck, other_while, other_while_at, stmt_name, stmt_name_at, stmt_other, stmt_other_at}
use Rattle.chord_tree.specs.StmtNodes.{node_other, node_block, node_item}
use Rattle.chord_tree.specs.ViewStmts.{see_item}
use Rattle.chord_parser.proofs.StmtLists.{items_push, items_all, named_stmt, unnamed_stmt, unnamed_item, shorter_item}
use Rattle.chord_parser.proofs.stmts.+statements.Goals as goal

pub block-returns-in_err-rest-clause-err : goal.block-returns-in_err-rest-clause-err
block-returns-in_err-rest-clause-err t c = exits _ _ _ _ _ c.from_residual.ensures.1 (stops {count = c.args.count} (block_open_brace (block_open_brace_at _ (next_small (token_kinds c.args.tokens.now)))) _ c.in_err-rest.ensures.err)

pub block-returns-in_err-inside-clause-err : goal.block-returns-in_err-inside-clause-err
block-returns-in_err-inside-clause-err t c = exits _ _ _ _ _ c.from_residual-in_err-inside.ensures.1 (stops {count = c.args.count} (step (block_open_brace (block_open_brace_at _ (next_small (token_kinds c.args.tokens.now)))) c.in_ok-rest.ensures.ok) _ c.in_err-inside.ensures.err)

pub block-returns-in_err-end-clause-err : goal.block-returns-in_err-end-clause-err
block-returns-in_err-end-clause-err t c = exits _ _ _ _ _ c.from_residual-in_err-end.ensures.1 (stops {count = c.args.count} (step (step (block_open_brace (block_open_brace_at _ (next_small (token_kinds c.args.tokens.now)))) c.in_ok-rest.ensures.ok) c.in_ok-inside.ensures.ok) _ c.in_err-end.ensures.err)

pub block-returns-clause-ok : goal.block-returns-clause-ok
block-returns-clause-ok t c = as_node (ends (step (step (step (block_open_brace (block_open_brace_at _ (next_small (token_kinds c.args.tokens.now)))) c.in_ok-rest.ensures.ok) c.in_ok-inside.ensures.ok) c.in_ok-end.ensures.ok)) (sym (ap node_block c.new.ensures))

pub items_of-returns-in_err-one-clause-err : goal.items_of-returns-in_err-one-clause-err
items_of-returns-in_err-one-clause-err t c = exits _ _ _ _ _ c.from_residual.ensures.1 (stops_in c.each.invariant _ (stops {count = c.args.count} (items_item (items_item_at _ (next_small (token_kinds c.each.left.now)) (λ q. c.each-test.true (c.next.ensures ∙ q)))) _ c.in_err-one.ensures.err))

pub items_of-each-smaller : goal.items_of-each-smaller
items_of-each-smaller t c = shorter_item _ _ _ c.in_ok-one.ensures.ok

pub items_of-each-preserved : goal.items_of-each-preserved
items_of-each-preserved t c = renamed (then c.each.invariant (enters (step (items_item (items_item_at _ (next_small (token_kinds c.each.left.now)) (λ q. c.each-test.true (c.next.ensures ∙ q)))) c.in_ok-one.ensures.ok))) (λ n. items_push _ _ _ n c.in_ok-push.ensures.items)

pub items_of-returns-clause-ok : goal.items_of-returns-clause-ok
items_of-returns-clause-ok t c = as_node (c.each.invariant.reads _ _ (ends (items_none (items_none_at _ (sym c.next.ensures ∙ c.each-test.false))))) (items_all (map see_item c.each.inside.items))

pub item-returns-in_err-form-clause-err : goal.item-returns-in_err-form-clause-err
item-returns-in_err-form-clause-err t c = exits _ _ _ _ _ c.from_residual.ensures.1 (stops {count = c.args.count} (item_other (item_other_at _ (next_small (token_kinds c.args.tokens.now)) (λ q. c.if-ahead-eq-NAME.false (c.next-ahead.ensures ∙ q)) (λ q. c.if-ahead-eq-INT.false (c.next-ahead.ensures ∙ q)) (λ q. c.if-ahead-eq-BOOL.false (c.next-ahead.ensures ∙ q)) (λ q. c.if-ahead-eq-STRING.false (c.next-ahead.ensures ∙ q)))) _ c.in_err-form.ensures.err)

pub item-returns-clause-ok : goal.item-returns-clause-ok
item-returns-clause-ok t c = as_node (ends (step (item_other (item_other_at _ (next_small (token_kinds c.args.tokens.now)) (λ q. c.if-ahead-eq-NAME.false (c.next-ahead.ensures ∙ q)) (λ q. c.if-ahead-eq-INT.false (c.next-ahead.ensures ∙ q)) (λ q. c.if-ahead-eq-BOOL.false (c.next-ahead.ensures ∙ q)) (λ q. c.if-ahead-eq-STRING.false (c.next-ahead.ensures ∙ q)))) c.in_ok-form.ensures.ok)) (unnamed_item _ _ c.in_ok-form.ensures.unnamed ∙ sym (ap node_item c.stmt.ensures))

pub stmt-returns-in_err-name-clause-err : goal.stmt-returns-in_err-name-clause-err
stmt-returns-in_err-name-clause-err t c = exits _ _ _ _ _ c.from_residual.ensures.1 (stops {count = c.args.count} (stmt_name (stmt_name_at _ (sym c.next.ensures ∙ c.if-next-eq-NAME.true))) _ c.in_err-name.ensures.err)

pub other-returns-in_err-inside-clause-err : goal.other-returns-in_err-inside-clause-err
other-returns-in_err-inside-clause-err t c = exits _ _ _ _ _ c.from_residual.ensures.1 (stops {count = c.args.count} (other_block (other_block_at _ (sym c.next-ahead.ensures ∙ c.if-ahead-eq-OPEN_BRACE.true))) _ c.in_err-inside.ensures.err)

pub other-returns-then-ahead-eq-OPEN_BRACE-clause-ok : goal.other-returns-then-ahead-eq-OPEN_BRACE-clause-ok
other-returns-then-ahead-eq-OPEN_BRACE-clause-ok t c = as_node (ends (step (other_block (other_block_at _ (sym c.next-ahead.ensures ∙ c.if-ahead-eq-OPEN_BRACE.true))) c.in_ok-inside.ensures.ok)) (sym (ap node_other c.block-then-ahead-eq-OPEN_BRACE.ensures))

pub other-returns-in_err-rest-clause-err : goal.other-returns-in_err-rest-clause-err
other-returns-in_err-rest-clause-err t c = exits _ _ _ _ _ c.from_residual-in_err-rest.ensures.1 (stops {count = c.args.count} (other_semicolon (other_semicolon_at _ (sym c.next-ahead.ensures ∙ c.if-ahead-eq-SEMICOLON.true))) _ c.in_err-rest.ensures.err)

pub other-returns-then-ahead-eq-SEMICOLON-clause-ok : goal.other-returns-then-ahead-eq-SEMICOLON-clause-ok
other-returns-then-ahead-eq-SEMICOLON-clause-ok t c = as_node (ends (step (other_semicolon (other_semicolon_at _ (sym c.next-ahead.ensures ∙ c.if-ahead-eq-SEMICOLON.true))) c.in_ok-rest.ensures.ok)) (sym (ap node_other c.empty.ensures))

pub other-returns-clause-err : goal.other-returns-clause-err
other-returns-clause-err t c = stuck_at _ _ (other_stuck _ (next_small (token_kinds c.args.tokens.now)) (λ q. c.if-ahead-eq-SEMICOLON.false (c.next-ahead.ensures ∙ q)) (λ q. c.if-ahead-eq-OPEN_BRACE.false (c.next-ahead.ensures ∙ q)) (λ q. c.if-ahead-eq-IF.false (c.next-ahead.ensures ∙ q)) (λ q. c.if-ahead-eq-WHILE.false (c.next-ahead.ensures ∙ q)) (λ q. c.if-ahead-eq-RETURN.false (c.next-ahead.ensures ∙ q)) (λ q. c.if-ahead-eq-THIS.false (c.next-ahead.ensures ∙ q)) (λ q. c.if-ahead-eq-NEW.false (c.next-ahead.ensures ∙ q))) refl

pub boxed_stmt-returns-in_err-form-clause-err : goal.boxed_stmt-returns-in_err-form-clause-err
boxed_stmt-returns-in_err-form-clause-err t c = exits _ _ _ _ _ c.from_residual.ensures.1 c.in_err-form.ensures.err

pub else_of-returns-in_err-rest-clause-err : goal.else_of-returns-in_err-rest-clause-err
else_of-returns-in_err-rest-clause-err t c = exits _ _ _ _ _ c.from_residual.ensures.1 (stops {count = c.args.count} (optional_else_else (optional_else_else_at _ (sym c.next.ensures ∙ c.if-next-eq-ELSE.true))) _ c.in_err-rest.ensures.err)

pub else_of-returns-in_err-second-clause-err : goal.else_of-returns-in_err-second-clause-err
else_of-returns-in_err-second-clause-err t c = exits _ _ _ _ _ c.from_residual-in_err-second.ensures.1 (stops {count = c.args.count} (step (optional_else_else (optional_else_else_at _ (sym c.next.ensures ∙ c.if-next-eq-ELSE.true))) c.in_ok-rest.ensures.ok) _ c.in_err-second.ensures.err)

pub else_of-returns-then-next-eq-ELSE-clause-ok : goal.else_of-returns-then-next-eq-ELSE-clause-ok
else_of-returns-then-next-eq-ELSE-clause-ok t c = ends (step (step (optional_else_else (optional_else_else_at _ (sym c.next.ensures ∙ c.if-next-eq-ELSE.true))) c.in_ok-rest.ensures.ok) c.in_ok-second.ensures.ok)

pub else_of-returns-clause-ok : goal.else_of-returns-clause-ok
else_of-returns-clause-ok t c = ends (optional_else_none (optional_else_none_at _ (next_small (token_kinds c.args.tokens.now)) (λ q. c.if-next-eq-ELSE.false (c.next.ensures ∙ q))))

pub while_stmt-returns-in_err-at-clause-err : goal.while_stmt-returns-in_err-at-clause-err
while_stmt-returns-in_err-at-clause-err t c = exits _ _ _ _ _ c.from_residual.ensures.1 (stops {count = c.args.count} (other_while (other_while_at _ c.requires.first)) _ c.in_err-at.ensures.err)

pub while_stmt-returns-in_err-bracket-clause-err : goal.while_stmt-returns-in_err-bracket-clause-err
while_stmt-returns-in_err-bracket-clause-err t c = exits _ _ _ _ _ c.from_residual-in_err-bracket.ensures.1 (stops_parts {count = c.args.count} (step (other_while (other_while_at _ c.requires.first)) c.in_ok-at.ensures.ok) (stops_sooner (grammar.Stmt ∷ []) c.in_err-bracket.ensures.err))

pub while_stmt-returns-in_err-body-clause-err : goal.while_stmt-returns-in_err-body-clause-err
while_stmt-returns-in_err-body-clause-err t c = exits _ _ _ _ _ c.from_residual-in_err-body.ensures.1 (stops {count = c.args.count} (step_three (step (other_while (other_while_at _ c.requires.first)) c.in_ok-at.ensures.ok) c.in_ok-bracket.ensures.ok) _ c.in_err-body.ensures.err)

pub while_stmt-returns-clause-ok : goal.while_stmt-returns-clause-ok
while_stmt-returns-clause-ok t c = as_node (ends (step (step_three (step (other_while (other_while_at _ c.requires.first)) c.in_ok-at.ensures.ok) c.in_ok-bracket.ensures.ok) c.in_ok-body.ensures.ok)) (sym (ap node_other c.while_loop.ensures))

pub branches-returns-in_err-first-clause-err : goal.branches-returns-in_err-first-clause-err
branches-returns-in_err-first-clause-err t c = leaves _ _ _ c.from_residual.ensures.1 (stops_first c.in_err-first.ensures.err)

pub branches-returns-in_err-second-clause-err : goal.branches-returns-in_err-second-clause-err
branches-returns-in_err-second-clause-err t c = leaves _ _ _ c.from_residual-in_err-second.ensures.1 (stops_later c.in_ok-first.ensures.ok (stops_first c.in_err-second.ensures.err))

pub branches-returns-clause-ok : goal.branches-returns-clause-ok
branches-returns-clause-ok t c = more c.in_ok-first.ensures.ok (more c.in_ok-second.ensures.ok none)

pub if_stmt-returns-in_err-at-clause-err : goal.if_stmt-returns-in_err-at-clause-err
if_stmt-returns-in_err-at-clause-err t c = exits _ _ _ _ _ c.from_residual.ensures.1 (stops {count = c.args.count} (other_if (other_if_at _ c.requires.first)) _ c.in_err-at.ensures.err)

pub if_stmt-returns-in_err-bracket-clause-err : goal.if_stmt-returns-in_err-bracket-clause-err
if_stmt-returns-in_err-bracket-clause-err t c = exits _ _ _ _ _ c.from_residual-in_err-bracket.ensures.1 (stops_parts {count = c.args.count} (step (other_if (other_if_at _ c.requires.first)) c.in_ok-at.ensures.ok) (stops_sooner (grammar.Stmt ∷ grammar.Optional_else ∷ []) c.in_err-bracket.ensures.err))

pub if_stmt-returns-in_err-first-clause-err : goal.if_stmt-returns-in_err-first-clause-err
if_stmt-returns-in_err-first-clause-err t c = exits _ _ _ _ _ c.from_residual-in_err-first.ensures.1 (stops_parts {count = c.args.count} (step_three (step (other_if (other_if_at _ c.requires.first)) c.in_ok-at.ensures.ok) c.in_ok-bracket.ensures.ok) c.in_err-first.ensures.err)

pub if_stmt-returns-clause-ok : goal.if_stmt-returns-clause-ok
if_stmt-returns-clause-ok t c = as_node (reads_parts (step_three (step (other_if (other_if_at _ c.requires.first)) c.in_ok-at.ensures.ok) c.in_ok-bracket.ensures.ok) c.in_ok-first.ensures.ok) (sym c.if_form.ensures.node)

pub stmt-returns-then-next-eq-NAME-clause-ok : goal.stmt-returns-then-next-eq-NAME-clause-ok
stmt-returns-then-next-eq-NAME-clause-ok t c = ok_both _ _ _ _ (λ r h k. as_node (reads_parts (step (stmt_name (stmt_name_at _ (sym c.next.ensures ∙ c.if-next-eq-NAME.true))) c.in_ok-name.ensures.ok) h) (named_stmt _ _ k)) c.tail.ensures.ok c.tail.ensures.named

pub stmt-returns-then-next-eq-NAME-clause-err : goal.stmt-returns-then-next-eq-NAME-clause-err
stmt-returns-then-next-eq-NAME-clause-err t c = err_map _ _ _ (λ fault h. stops_parts {count = c.args.count} (step (stmt_name (stmt_name_at _ (sym c.next.ensures ∙ c.if-next-eq-NAME.true))) c.in_ok-name.ensures.ok) h) c.tail.ensures.err

pub stmt-returns-in_err-form-clause-err : goal.stmt-returns-in_err-form-clause-err
stmt-returns-in_err-form-clause-err t c = exits _ _ _ _ _ c.from_residual-in_err-form.ensures.1 (stops {count = c.args.count} (stmt_other (stmt_other_at _ (next_small (token_kinds c.args.tokens.now)) (λ q. c.if-next-eq-NAME.false (c.next.ensures ∙ q)))) _ c.in_err-form.ensures.err)

pub stmt-returns-clause-ok : goal.stmt-returns-clause-ok
stmt-returns-clause-ok t c = as_node (ends (step (stmt_other (stmt_other_at _ (next_small (token_kinds c.args.tokens.now)) (λ q. c.if-next-eq-NAME.false (c.next.ensures ∙ q)))) c.in_ok-form.ensures.ok)) (unnamed_stmt _ _ c.in_ok-form.ensures.unnamed)
