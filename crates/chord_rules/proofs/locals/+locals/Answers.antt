use Rattle.std.proofs.Common.{map, drop, ◌++◌, ◌+◌, sym, ap, ◌∙◌, arith}
use Rattle.chord_tree.specs.Tree.{items, NoItems, MoreItems}
use Rattle.chord_tree.specs.ViewStmts.{see_item, see_stmt}
use Rattle.chord_tree.proofs.SeenStmts.{seen_stmt_assign, seen_stmt_call, seen_stmt_through, seen_stmt_this, seen_stmt_new, seen_stmt_block, seen_stmt_empty, seen_stmt_if, seen_stmt_if_else, seen_stmt_while, seen_stmt_return, seen_stmt_return_value, seen_item_local, seen_item_plain, seen_block}
use Rattle.chord_tree.proofs.Weights.{total, one_of}
use Rattle.chord_tree.proofs.WeightsStmts.{weigh_item, weigh_stmt, of_block, of_if, of_if_else, of_plain, of_braces}
use Rattle.chord_classes.specs.ChordRules.{block_names, items_names, stmt_names}
use Rattle.chord_classes.proofs.Search.{item_here, behind_end}
use Rattle.chord_rules.proofs.Rooms.{takes_none, rooms_taken, takes_one, takes_as}
use Rattle.chord_rules.proofs.NamesInBodies.{item_and_more, stmt_item}
use Rattle.chord_rules.proofs.locals.+locals.Goals as goal

pub block_past-returns : goal.block_past-returns
block_past-returns t c = takes_as (ap block_names (seen_block c.args.block.now) ∙ ap (λ z. items_names (items (map see_item z))) (sym c.deref.ensures.value)) c.items_past.ensures

pub items_past-each-init : goal.items_past-each-init
items_past-each-init t c = λ over p h. h

pub items_past-each-preserved : goal.items_past-each-preserved
items_past-each-preserved t c = λ over p h. c.each.invariant over p
    (takes_as (ap (λ z. items_names (items (map see_item z))) (item_here c.args.list.now _ _ c.each-test.true c.item-item.is) ∙ item_and_more (see_item c.item-item.result) (items (map see_item (drop (c.each.item-index + 1) c.args.list.now)))) (rooms_taken c.item_past.ensures h))

pub items_past-returns : goal.items_past-returns
items_past-returns t c = c.each.invariant _ _ (takes_as (ap (λ z. items_names (items (map see_item z))) (behind_end c.args.list.now _ c.each-test.false)) takes_none)

pub item_past-returns-in-Local : goal.item_past-returns-in-Local
item_past-returns-in-Local t c =
    takes_as (ap (λ z. items_names (MoreItems z NoItems)) (ap see_item c.in-Local.is ∙ seen_item_local c.in-Local.value_type c.in-Local.name c.in-Local.assign c.in-Local.value)) (takes_one c.take_room.ensures.room c.take_room.ensures.noted)

pub item_past-returns-in-Stmt : goal.item_past-returns-in-Stmt
item_past-returns-in-Stmt t c =
    takes_as (ap (λ z. items_names (MoreItems z NoItems)) (ap see_item c.in-Stmt.is ∙ seen_item_plain c.in-Stmt.stmt) ∙ stmt_item (see_stmt c.in-Stmt.stmt)) c.stmt_past.ensures

pub stmt_past-returns-in-Block : goal.stmt_past-returns-in-Block
stmt_past-returns-in-Block t c = takes_as (ap stmt_names (ap see_stmt c.in-Block.is ∙ seen_stmt_block c.in-Block.block)) c.block_past.ensures

pub stmt_past-returns-in-If : goal.stmt_past-returns-in-If
stmt_past-returns-in-If t c = takes_as (ap stmt_names (ap see_stmt c.in-If.is ∙ seen_stmt_if c.in-If.at c.in-If.bracket c.in-If.test c.in-If.first) ∙ ap (λ z. stmt_names (see_stmt z)) (sym c.deref.ensures)) c.stmt_past.ensures

pub stmt_past-returns-in-IfElse : goal.stmt_past-returns-in-IfElse
stmt_past-returns-in-IfElse t c =
    takes_as (ap stmt_names (ap see_stmt c.in-IfElse.is ∙ seen_stmt_if_else c.in-IfElse.at c.in-IfElse.bracket c.in-IfElse.test c.in-IfElse.first c.in-IfElse.second)
    ∙ ap (λ z. stmt_names (see_stmt z) ++ stmt_names (see_stmt c.in-IfElse.second.value)) (sym c.deref-in-IfElse.ensures) ∙ ap (λ z. stmt_names (see_stmt c.deref-in-IfElse.result.now) ++ stmt_names (see_stmt z)) (sym c.deref-in-IfElse-2.ensures)) c.both_past.ensures

pub stmt_past-returns-in-While : goal.stmt_past-returns-in-While
stmt_past-returns-in-While t c = takes_as (ap stmt_names (ap see_stmt c.in-While.is ∙ seen_stmt_while c.in-While.at c.in-While.bracket c.in-While.test c.in-While.body) ∙ ap (λ z. stmt_names (see_stmt z)) (sym c.deref-in-While.ensures)) c.stmt_past-in-While.ensures

pub stmt_past-returns-in-Assign : goal.stmt_past-returns-in-Assign
stmt_past-returns-in-Assign t c = takes_as (ap stmt_names (ap see_stmt c.in-Assign.is ∙ seen_stmt_assign c.in-Assign.name c.in-Assign.assign c.in-Assign.value)) takes_none

pub stmt_past-returns-in-Call : goal.stmt_past-returns-in-Call
stmt_past-returns-in-Call t c = takes_as (ap stmt_names (ap see_stmt c.in-Call.is ∙ seen_stmt_call c.in-Call.name c.in-Call.actuals c.in-Call.calls)) takes_none

pub stmt_past-returns-in-MethodCall : goal.stmt_past-returns-in-MethodCall
stmt_past-returns-in-MethodCall t c = takes_as (ap stmt_names (ap see_stmt c.in-MethodCall.is ∙ seen_stmt_through c.in-MethodCall.name c.in-MethodCall.first c.in-MethodCall.calls)) takes_none

pub stmt_past-returns-in-ThisCall : goal.stmt_past-returns-in-ThisCall
stmt_past-returns-in-ThisCall t c = takes_as (ap stmt_names (ap see_stmt c.in-ThisCall.is ∙ seen_stmt_this c.in-ThisCall.at c.in-ThisCall.first c.in-ThisCall.calls)) takes_none

pub stmt_past-returns-in-New : goal.stmt_past-returns-in-New
stmt_past-returns-in-New t c = takes_as (ap stmt_names (ap see_stmt c.in-New.is ∙ seen_stmt_new c.in-New.at c.in-New.name c.in-New.actuals c.in-New.calls)) takes_none

pub stmt_past-returns-in-Empty : goal.stmt_past-returns-in-Empty
stmt_past-returns-in-Empty t c = takes_as (ap stmt_names (ap see_stmt c.in-Empty.is ∙ seen_stmt_empty)) takes_none

pub stmt_past-returns-in-Return : goal.stmt_past-returns-in-Return
stmt_past-returns-in-Return t c = takes_as (ap stmt_names (ap see_stmt c.in-Return.is ∙ seen_stmt_return c.in-Return.at)) takes_none

pub stmt_past-returns-in-ReturnValue : goal.stmt_past-returns-in-ReturnValue
stmt_past-returns-in-ReturnValue t c = takes_as (ap stmt_names (ap see_stmt c.in-ReturnValue.is ∙ seen_stmt_return_value c.in-ReturnValue.at c.in-ReturnValue.value)) takes_none

pub both_past-returns : goal.both_past-returns
both_past-returns t c = rooms_taken c.stmt_past.ensures c.stmt_past-2.ensures

pub block_past-items_past-requires : goal.block_past-items_past-requires
block_past-items_past-requires t c = let e = of_braces c.args.block.now in let f = ap (λ z. total (map weigh_item z)) c.deref.ensures.value in (omega arith, tt)

pub items_past-item_past-requires : goal.items_past-item_past-requires
items_past-item_past-requires t c = let e = one_of weigh_item c.args.list.now _ _ c.each-test.true c.item-item.is in (omega arith, tt)

pub item_past-stmt_past-requires : goal.item_past-stmt_past-requires
item_past-stmt_past-requires t c = let e = ap weigh_item c.in-Stmt.is ∙ of_plain c.in-Stmt.stmt in (omega arith, tt)

pub stmt_past-block_past-requires : goal.stmt_past-block_past-requires
stmt_past-block_past-requires t c = let e = ap weigh_stmt c.in-Block.is ∙ of_block c.in-Block.block in (omega arith, tt)

pub stmt_past-stmt_past-requires : goal.stmt_past-stmt_past-requires
stmt_past-stmt_past-requires t c = let e = ap weigh_stmt c.in-If.is ∙ of_if c.in-If.at c.in-If.bracket c.in-If.test c.in-If.first in let f = ap weigh_stmt c.deref.ensures in (omega arith, tt)

pub stmt_past-both_past-requires : goal.stmt_past-both_past-requires
stmt_past-both_past-requires t c = let e = ap weigh_stmt c.in-IfElse.is ∙ of_if_else c.in-IfElse.at c.in-IfElse.bracket c.in-IfElse.test c.in-IfElse.first c.in-IfElse.second in let f = ap weigh_stmt c.deref-in-IfElse.ensures in let g = ap weigh_stmt c.deref-in-IfElse-2.ensures in (omega arith, tt)

pub both_past-stmt_past-requires : goal.both_past-stmt_past-requires
both_past-stmt_past-requires t c = (omega arith, tt)

pub both_past-stmt_past-requires-2 : goal.both_past-stmt_past-requires-2
both_past-stmt_past-requires-2 t c = (omega arith, tt)
