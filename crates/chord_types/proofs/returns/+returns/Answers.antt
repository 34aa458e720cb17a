use Rattle.std.proofs.Common.{map, arith, sym, ap, ◌∙◌}
use Rattle.std.specs.Prelude.{◌&&◌}
use Rattle.chord_tree.specs.Tree.{items}
use Rattle.chord_tree.specs.ViewStmts.{see_stmt, see_item}
use Rattle.chord_tree.proofs.SeenStmts.{seen_stmt_assign, seen_stmt_call, seen_stmt_through, seen_stmt_this, seen_stmt_new, seen_stmt_block, seen_stmt_empty, seen_stmt_if, seen_stmt_if_else, seen_stmt_while, seen_stmt_return, seen_stmt_return_value, seen_block}
use Rattle.chord_tree.proofs.Weights.{total, one_of}
use Rattle.chord_tree.proofs.WeightsStmts.{weigh_item, weigh_stmt, of_block, of_if_else, of_plain, of_braces}
use Rattle.chord_classes.specs.ItemRules.{surely, block_surely, items_surely}
use Rattle.chord_types.proofs.returns.+returns.Goals as goal

pub surely-block_surely-requires : goal.surely-block_surely-requires
surely-block_surely-requires t c = let e = ap weigh_stmt c.in-Block.is ∙ of_block c.in-Block.block in (omega arith, tt)

pub surely-both_surely-requires : goal.surely-both_surely-requires
surely-both_surely-requires t c = let e = ap weigh_stmt c.in-IfElse.is ∙ of_if_else _ _ _ c.in-IfElse.first c.in-IfElse.second in let f = ap weigh_stmt c.deref.ensures in let g = ap weigh_stmt c.deref-in-IfElse.ensures in (omega arith, tt)

pub both_surely-surely-requires : goal.both_surely-surely-requires
both_surely-surely-requires t c = (omega arith, tt)

pub both_surely-surely-requires-2 : goal.both_surely-surely-requires-2
both_surely-surely-requires-2 t c = (omega arith, tt)

pub block_surely-items_surely-requires : goal.block_surely-items_surely-requires
block_surely-items_surely-requires t c = let e = of_braces c.args.block.now in let f = ap (λ z. total (map weigh_item z)) c.deref.ensures.value in (omega arith, tt)

pub items_surely-item_surely-requires : goal.items_surely-item_surely-requires
items_surely-item_surely-requires t c = let e = one_of weigh_item c.args.all.now _ _ c.each-test.true c.item-item.is in (omega arith, tt)

pub item_surely-surely-requires : goal.item_surely-surely-requires
item_surely-surely-requires t c = let e = ap weigh_item c.in-Stmt.is ∙ of_plain c.in-Stmt.stmt in (omega arith, tt)

pub block_surely-returns : goal.block_surely-returns
block_surely-returns t c = c.items_surely.ensures ∙ ap (λ z. items_surely (items (map see_item z))) c.deref.ensures.value ∙ ap block_surely (sym (seen_block c.args.block.now))

pub surely-returns-in-Assign : goal.surely-returns-in-Assign
surely-returns-in-Assign t c = sym (ap surely (ap see_stmt c.in-Assign.is ∙ seen_stmt_assign _ _ _))

pub surely-returns-in-Call : goal.surely-returns-in-Call
surely-returns-in-Call t c = sym (ap surely (ap see_stmt c.in-Call.is ∙ seen_stmt_call _ _ _))

pub surely-returns-in-MethodCall : goal.surely-returns-in-MethodCall
surely-returns-in-MethodCall t c = sym (ap surely (ap see_stmt c.in-MethodCall.is ∙ seen_stmt_through _ _ _))

pub surely-returns-in-ThisCall : goal.surely-returns-in-ThisCall
surely-returns-in-ThisCall t c = sym (ap surely (ap see_stmt c.in-ThisCall.is ∙ seen_stmt_this _ _ _))

pub surely-returns-in-New : goal.surely-returns-in-New
surely-returns-in-New t c = sym (ap surely (ap see_stmt c.in-New.is ∙ seen_stmt_new _ _ _ _))

pub surely-returns-in-If : goal.surely-returns-in-If
surely-returns-in-If t c = sym (ap surely (ap see_stmt c.in-If.is ∙ seen_stmt_if _ _ _ _))

pub surely-returns-in-Return : goal.surely-returns-in-Return
surely-returns-in-Return t c = sym (ap surely (ap see_stmt c.in-Return.is ∙ seen_stmt_return _))

pub surely-returns-in-ReturnValue : goal.surely-returns-in-ReturnValue
surely-returns-in-ReturnValue t c = sym (ap surely (ap see_stmt c.in-ReturnValue.is ∙ seen_stmt_return_value _ _))

pub surely-returns-in-Empty : goal.surely-returns-in-Empty
surely-returns-in-Empty t c = sym (ap surely (ap see_stmt c.in-Empty.is ∙ seen_stmt_empty))

pub surely-returns-in-Block : goal.surely-returns-in-Block
surely-returns-in-Block t c = c.block_surely.ensures ∙ sym (ap surely (ap see_stmt c.in-Block.is ∙ seen_stmt_block c.in-Block.block))

pub surely-returns-in-IfElse : goal.surely-returns-in-IfElse
surely-returns-in-IfElse t c = c.both_surely.ensures ∙ ap (λ z. surely (see_stmt z) && surely (see_stmt c.deref-in-IfElse.result.now)) c.deref.ensures ∙ ap (λ z. surely (see_stmt c.in-IfElse.first.value) && surely (see_stmt z)) c.deref-in-IfElse.ensures
    ∙ sym (ap surely (ap see_stmt c.in-IfElse.is ∙ seen_stmt_if_else _ _ _ c.in-IfElse.first c.in-IfElse.second))

pub surely-returns-in-While : goal.surely-returns-in-While
surely-returns-in-While t c = c.is_true_word.ensures ∙ sym (ap surely (ap see_stmt c.in-While.is ∙ seen_stmt_while _ _ c.in-While.test _))
