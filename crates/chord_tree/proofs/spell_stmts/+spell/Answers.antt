use Rattle.std.proofs.Common.{map, sym, ap, ◌∙◌, arith, refl}
use Rattle.chord_tree.specs.StmtNodes.{node_block, node_stmt, node_item, node_items}
use Rattle.chord_tree.specs.Tree.{dots, items, CallStmt, MethodCallStmt, ThisCallStmt, NewStmt, IfStmt, IfElseStmt, WhileStmt}
use Rattle.chord_tree.specs.ViewExprs.{see_expr, see_actuals, see_dot}
use Rattle.chord_tree.specs.ViewStmts.{see_item, see_stmt}
use Rattle.chord_tree.proofs.SeenStmts.{seen_stmt_assign, seen_stmt_call, seen_stmt_through, seen_stmt_this, seen_stmt_new, seen_stmt_block, seen_stmt_empty, seen_stmt_if, seen_stmt_if_else, seen_stmt_while, seen_stmt_return, seen_stmt_return_value, seen_item_local, seen_item_plain, seen_block}
use Rattle.chord_tree.proofs.Words.{nil, cons, made, leaf, seen_as, on_ok, same_words, dropped, drop_end}
use Rattle.chord_tree.proofs.WordsStmts.{tested, words_item, item_added, local_same}
use Rattle.chord_tree.proofs.Weights.{total, one_of}
use Rattle.chord_tree.proofs.WeightsStmts.{weigh_item, weigh_stmt, of_block, of_if, of_if_else, of_while, of_plain, of_braces}
use Rattle.chord_tree.proofs.spell_stmts.+spell.Goals as goal

pub put_block-returns : goal.put_block-returns
put_block-returns t c = on_ok _ _ _ (λ h. seen_as node_block _ _ (seen_block c.args.block.now) (made (cons (leaf c.in_ok-put_mark.ensures) (cons (seen_as (λ z. node_items (items (map see_item z))) _ _ (sym c.deref.ensures.value) c.in_ok-put_items.ensures) (cons (leaf h) nil))))) c.put_mark-2.ensures

pub put_items-each-init : goal.put_items-each-init
put_items-each-init t c = λ end h. h

pub put_items-each-preserved : goal.put_items-each-preserved
put_items-each-preserved t c = λ end h. c.each.invariant end (seen_as (λ z. node_items (items (map see_item z))) _ _ (dropped c.args.list.now _ _ c.each-test.true c.item-item.is) (item_added _ _ c.in_ok-put_item.ensures h))

pub put_items-returns : goal.put_items-returns
put_items-returns t c = c.each.invariant _ (seen_as (λ z. node_items (items (map see_item z))) _ _ (drop_end c.args.list.now _ c.each-test.false) (made nil))

pub put_item-returns-in-Local : goal.put_item-returns-in-Local
put_item-returns-in-Local t c = on_ok _ _ _ (λ h. seen_as node_item _ _ (ap see_item c.in-Local.is ∙ seen_item_local c.in-Local.value_type c.in-Local.name c.in-Local.assign c.in-Local.value) (local_same _ _ _ _ h)) c.put_local.ensures

pub put_item-returns-in-Stmt : goal.put_item-returns-in-Stmt
put_item-returns-in-Stmt t c = on_ok _ _ _ (λ h. seen_as node_item _ _ (ap see_item c.in-Stmt.is ∙ seen_item_plain c.in-Stmt.stmt) (same_words h (words_item _))) c.put_stmt.ensures

pub put_stmt-returns-in-Assign : goal.put_stmt-returns-in-Assign
put_stmt-returns-in-Assign t c = on_ok _ _ _ (λ h. seen_as node_stmt _ _ (ap see_stmt c.in-Assign.is ∙ seen_stmt_assign c.in-Assign.name c.in-Assign.assign c.in-Assign.value) (same_words (h) refl)) c.put_assign.ensures

pub put_stmt-returns-in-Call : goal.put_stmt-returns-in-Call
put_stmt-returns-in-Call t c = on_ok _ _ _ (λ h. seen_as node_stmt _ _ (ap see_stmt c.in-Call.is ∙ seen_stmt_call c.in-Call.name c.in-Call.actuals c.in-Call.calls) (same_words (seen_as (λ z. node_stmt (CallStmt c.in-Call.name (see_actuals c.in-Call.actuals) (dots (map see_dot z)))) _ _ (sym c.deref.ensures.value) h) refl)) c.put_call.ensures

pub put_stmt-returns-in-MethodCall : goal.put_stmt-returns-in-MethodCall
put_stmt-returns-in-MethodCall t c = on_ok _ _ _ (λ h. seen_as node_stmt _ _ (ap see_stmt c.in-MethodCall.is ∙ seen_stmt_through c.in-MethodCall.name c.in-MethodCall.first c.in-MethodCall.calls) (same_words (seen_as (λ z. node_stmt (MethodCallStmt c.in-MethodCall.name (see_dot c.in-MethodCall.first) (dots (map see_dot z)))) _ _ (sym c.deref-in-MethodCall.ensures.value) h) refl)) c.put_through.ensures

pub put_stmt-returns-in-ThisCall : goal.put_stmt-returns-in-ThisCall
put_stmt-returns-in-ThisCall t c = on_ok _ _ _ (λ h. seen_as node_stmt _ _ (ap see_stmt c.in-ThisCall.is ∙ seen_stmt_this c.in-ThisCall.at c.in-ThisCall.first c.in-ThisCall.calls) (same_words (seen_as (λ z. node_stmt (ThisCallStmt 0 (see_dot c.in-ThisCall.first) (dots (map see_dot z)))) _ _ (sym c.deref-in-ThisCall.ensures.value) h) refl)) c.put_this.ensures

pub put_stmt-returns-in-New : goal.put_stmt-returns-in-New
put_stmt-returns-in-New t c = on_ok _ _ _ (λ h. seen_as node_stmt _ _ (ap see_stmt c.in-New.is ∙ seen_stmt_new c.in-New.at c.in-New.name c.in-New.actuals c.in-New.calls) (same_words (seen_as (λ z. node_stmt (NewStmt 0 c.in-New.name (see_actuals c.in-New.actuals) (dots (map see_dot z)))) _ _ (sym c.deref-in-New.ensures.value) h) refl)) c.put_new.ensures

pub put_stmt-returns-in-Block : goal.put_stmt-returns-in-Block
put_stmt-returns-in-Block t c = on_ok _ _ _ (λ h. seen_as node_stmt _ _ (ap see_stmt c.in-Block.is ∙ seen_stmt_block c.in-Block.block) (made (cons (made (cons h nil)) nil))) c.put_block.ensures

pub put_stmt-returns-in-Empty : goal.put_stmt-returns-in-Empty
put_stmt-returns-in-Empty t c = on_ok _ _ _ (λ h. seen_as node_stmt _ _ (ap see_stmt c.in-Empty.is ∙ seen_stmt_empty) (made (cons (made (cons h nil)) nil))) c.put_mark.ensures

pub put_stmt-returns-in-If : goal.put_stmt-returns-in-If
put_stmt-returns-in-If t c = on_ok _ _ _ (λ h. seen_as node_stmt _ _ (ap see_stmt c.in-If.is ∙ seen_stmt_if c.in-If.at c.in-If.bracket c.in-If.test c.in-If.first) (same_words (seen_as (λ z. node_stmt (IfStmt 0 0 (see_expr c.in-If.test) (see_stmt z))) _ _ (sym c.deref-in-If.ensures) (h)) refl)) c.put_if.ensures

pub put_stmt-returns-in-IfElse : goal.put_stmt-returns-in-IfElse
put_stmt-returns-in-IfElse t c = on_ok _ _ _ (λ h. seen_as node_stmt _ _ (ap see_stmt c.in-IfElse.is ∙ seen_stmt_if_else c.in-IfElse.at c.in-IfElse.bracket c.in-IfElse.test c.in-IfElse.first c.in-IfElse.second) (same_words (seen_as (λ z. node_stmt (IfElseStmt 0 0 (see_expr c.in-IfElse.test) (see_stmt z) (see_stmt c.in-IfElse.second.value))) _ _ (sym c.deref-in-IfElse.ensures) (seen_as (λ z. node_stmt (IfElseStmt 0 0 (see_expr c.in-IfElse.test) (see_stmt c.deref-in-IfElse.result.now) (see_stmt z))) _ _ (sym c.deref-in-IfElse-2.ensures) (h))) refl)) c.put_if_else.ensures

pub put_stmt-returns-in-While : goal.put_stmt-returns-in-While
put_stmt-returns-in-While t c = on_ok _ _ _ (λ h. seen_as node_stmt _ _ (ap see_stmt c.in-While.is ∙ seen_stmt_while c.in-While.at c.in-While.bracket c.in-While.test c.in-While.body) (same_words (seen_as (λ z. node_stmt (WhileStmt 0 0 (see_expr c.in-While.test) (see_stmt z))) _ _ (sym c.deref-in-While.ensures) (h)) refl)) c.put_while.ensures

pub put_stmt-returns-in-Return : goal.put_stmt-returns-in-Return
put_stmt-returns-in-Return t c = on_ok _ _ _ (λ h. seen_as node_stmt _ _ (ap see_stmt c.in-Return.is ∙ seen_stmt_return c.in-Return.at) (same_words (h) refl)) c.put_return.ensures

pub put_stmt-returns-in-ReturnValue : goal.put_stmt-returns-in-ReturnValue
put_stmt-returns-in-ReturnValue t c = on_ok _ _ _ (λ h. seen_as node_stmt _ _ (ap see_stmt c.in-ReturnValue.is ∙ seen_stmt_return_value c.in-ReturnValue.at c.in-ReturnValue.value) (same_words (h) refl)) c.put_return_value.ensures

pub put_if-returns : goal.put_if-returns
put_if-returns t c = on_ok _ _ _ (λ h. made (cons (made (cons (leaf c.in_ok-put_keyword.ensures) (tested 0 _ c.in_ok-put_test.ensures (cons h (cons (made nil) nil))))) nil)) c.put_stmt.ensures

pub put_while-returns : goal.put_while-returns
put_while-returns t c = on_ok _ _ _ (λ h. made (cons (made (cons (leaf c.in_ok-put_keyword.ensures) (tested 0 _ c.in_ok-put_test.ensures (cons h nil)))) nil)) c.put_stmt.ensures

pub put_if_else-returns : goal.put_if_else-returns
put_if_else-returns t c = on_ok _ _ _ (λ h. made (cons (made (cons (leaf c.in_ok-put_keyword.ensures) (tested 0 _ c.in_ok-put_test.ensures (cons c.in_ok-put_stmt.ensures (cons (made (cons (leaf c.in_ok-put_keyword-2.ensures) (cons h nil))) nil))))) nil)) c.put_stmt-2.ensures

pub put_block-put_items-requires : goal.put_block-put_items-requires
put_block-put_items-requires t c = let e = of_braces c.args.block.now in let f = ap (λ z. total (map weigh_item z)) c.deref.ensures.value in (omega arith, tt)

pub put_items-put_item-requires : goal.put_items-put_item-requires
put_items-put_item-requires t c = let e = one_of weigh_item c.args.list.now _ _ c.each-test.true c.item-item.is in (omega arith, tt)

pub put_item-put_stmt-requires : goal.put_item-put_stmt-requires
put_item-put_stmt-requires t c = let e = ap weigh_item c.in-Stmt.is ∙ of_plain c.in-Stmt.stmt in (omega arith, tt)

pub put_stmt-put_block-requires : goal.put_stmt-put_block-requires
put_stmt-put_block-requires t c = let e = ap weigh_stmt c.in-Block.is ∙ of_block c.in-Block.block in (omega arith, tt)

pub put_stmt-put_if-requires : goal.put_stmt-put_if-requires
put_stmt-put_if-requires t c = let e = ap weigh_stmt c.in-If.is ∙ of_if c.in-If.at c.in-If.bracket c.in-If.test c.in-If.first in let f = ap weigh_stmt c.deref-in-If.ensures in (omega arith, tt)

pub put_stmt-put_if_else-requires : goal.put_stmt-put_if_else-requires
put_stmt-put_if_else-requires t c = let e = ap weigh_stmt c.in-IfElse.is ∙ of_if_else c.in-IfElse.at c.in-IfElse.bracket c.in-IfElse.test c.in-IfElse.first c.in-IfElse.second in let f = ap weigh_stmt c.deref-in-IfElse.ensures in let g = ap weigh_stmt c.deref-in-IfElse-2.ensures in (omega arith, tt)

pub put_stmt-put_while-requires : goal.put_stmt-put_while-requires
put_stmt-put_while-requires t c = let e = ap weigh_stmt c.in-While.is ∙ of_while c.in-While.at c.in-While.bracket c.in-While.test c.in-While.body in let f = ap weigh_stmt c.deref-in-While.ensures in (omega arith, tt)

pub put_if-put_stmt-requires : goal.put_if-put_stmt-requires
put_if-put_stmt-requires t c = (omega arith, tt)

pub put_while-put_stmt-requires : goal.put_while-put_stmt-requires
put_while-put_stmt-requires t c = (omega arith, tt)

pub put_if_else-put_stmt-requires : goal.put_if_else-put_stmt-requires
put_if_else-put_stmt-requires t c = (omega arith, tt)

pub put_if_else-put_stmt-requires-2 : goal.put_if_else-put_stmt-requires-2
put_if_else-put_stmt-requires-2 t c = (omega arith, tt)
