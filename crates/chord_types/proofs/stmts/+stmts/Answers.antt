use Rattle.std.proofs.Common.{◌+◌, map, drop, arith, refl, sym, ap, subst, ◌∙◌}
use Rattle.std.specs.Prelude.{sum_by}
use Rattle.chord_tree.specs.declared.stmts.Block.{out-Block}
use Rattle.chord_tree.specs.Tree.{IfStmt, IfElseStmt, WhileStmt, StmtItem}
use Rattle.chord_tree.specs.ViewExprs.{see_expr}
use Rattle.chord_tree.specs.ViewStmts.{see_stmt, see_item, see_block}
use Rattle.chord_tree.proofs.SeenStmts.{seen_stmt_block, seen_stmt_if, seen_stmt_if_else, seen_stmt_while, seen_item_local, seen_item_plain, seen_block}
use Rattle.chord_tree.proofs.Weights.{total, one_of}
use Rattle.chord_tree.proofs.WeightsStmts.{weigh_item, weigh_stmt, of_block, of_if, of_if_else, of_while, of_plain, of_braces}
use Rattle.chord_tree.proofs.Words.{dropped, drop_end}
use Rattle.chord_bodies.specs.declared.stmt.Stmt.TheVariants as stmt
use Rattle.chord_bodies.specs.View.{view_stmt}
use Rattle.chord_bodies.proofs.Viewed.{viewed_block, viewed_if, viewed_if_else, viewed_while}
use Rattle.chord_types.specs.StmtChecked.{IsItemChecked, IsBlockChecked, AreItemsChecked}
use Rattle.chord_types.specs.Flat.{doubled_stmt}
use Rattle.chord_types.proofs.Oks.{if_ok}
use Rattle.chord_types.proofs.Lists.{map_last}
use Rattle.chord_types.proofs.Items.{AreLeft, block_item, if_item, if_else_item, while_item, all_left, one_less, no_items_left, block_checked, scope_grows}
use Rattle.chord_types.proofs.Doubled.{doubled_if, doubled_if_else, doubled_while, doubled_block, same_sum}
use Rattle.chord_types.proofs.stmts.+stmts.Goals as goal

pub block_stmt-block-requires : goal.block_stmt-block-requires
block_stmt-block-requires t c = (omega arith, tt)

pub stmt-block_stmt-requires : goal.stmt-block_stmt-requires
stmt-block_stmt-requires t c = let e = ap weigh_stmt c.in-Block.is ∙ of_block c.in-Block.inner in (omega arith, tt)

pub stmt-if_then-requires : goal.stmt-if_then-requires
stmt-if_then-requires t c = let e = ap weigh_stmt c.in-If.is ∙ of_if c.in-If.at c.in-If.bracket c.in-If.test c.in-If.first in let f = ap weigh_stmt c.deref.ensures in (omega arith, tt)

pub stmt-if_else-requires : goal.stmt-if_else-requires
stmt-if_else-requires t c = let e = ap weigh_stmt c.in-IfElse.is ∙ of_if_else c.in-IfElse.at c.in-IfElse.bracket c.in-IfElse.test c.in-IfElse.first c.in-IfElse.second in let f = ap weigh_stmt c.deref-in-IfElse.ensures in let g = ap weigh_stmt c.deref-in-IfElse-2.ensures in (omega arith, tt)

pub stmt-while_loop-requires : goal.stmt-while_loop-requires
stmt-while_loop-requires t c = let e = ap weigh_stmt c.in-While.is ∙ of_while c.in-While.at c.in-While.bracket c.in-While.test c.in-While.body in let f = ap weigh_stmt c.deref-in-While.ensures in (omega arith, tt)

pub boxed_stmt-stmt-requires : goal.boxed_stmt-stmt-requires
boxed_stmt-stmt-requires t c = (omega arith, tt)

pub if_then-boxed_stmt-requires : goal.if_then-boxed_stmt-requires
if_then-boxed_stmt-requires t c = (omega arith, tt)

pub while_loop-boxed_stmt-requires : goal.while_loop-boxed_stmt-requires
while_loop-boxed_stmt-requires t c = (omega arith, tt)

pub if_else-boxed_stmt-requires : goal.if_else-boxed_stmt-requires
if_else-boxed_stmt-requires t c = (omega arith, tt)

pub if_else-boxed_stmt-requires-2 : goal.if_else-boxed_stmt-requires-2
if_else-boxed_stmt-requires-2 t c = (omega arith, tt)

pub block-items-requires : goal.block-items-requires
block-items-requires t c = let e = of_braces c.args.block.now in let f = ap (λ z. total (map weigh_item z)) c.deref.ensures.value in (omega arith, tt)

pub items-item-requires : goal.items-item-requires
items-item-requires t c = let e = one_of weigh_item c.args.items.now _ _ c.each-test.true c.one-item.is in (omega arith, tt)

pub item-stmt-requires : goal.item-stmt-requires
item-stmt-requires t c = let e = ap weigh_item c.in-Stmt.is ∙ of_plain c.in-Stmt.inner in (omega arith, tt)

pub stmt-returns-in-Block : goal.stmt-returns-in-Block
stmt-returns-in-Block t c =
    if_ok c.block_stmt.result _ _ (λ r h. subst (λ z. IsItemChecked c.args.site.now c.block_stmt.new.site (StmtItem z) c.args.breaks.now.found c.block_stmt.new.breaks.found r) (sym (ap see_stmt c.in-Block.is ∙ seen_stmt_block c.in-Block.inner)) h) c.block_stmt.ensures

pub block_stmt-returns : goal.block_stmt-returns
block_stmt-returns t c = block_item c.args.site.now c.block.new.site (see_block c.args.inner.now) c.args.breaks.now.found c.block.new.breaks.found c.in_ok-stmts.stmts.items (stmt.Block c.in_ok-stmts.stmts) c.in_ok-stmts.ensures (viewed_block c.in_ok-stmts.stmts) (doubled_block c.in_ok-stmts.stmts)

pub stmt-returns-in-If : goal.stmt-returns-in-If
stmt-returns-in-If t c =
    let same = ap see_stmt c.in-If.is ∙ seen_stmt_if c.in-If.at c.in-If.bracket c.in-If.test c.in-If.first ∙ ap (λ z. IfStmt c.in-If.at c.in-If.bracket (see_expr c.in-If.test) (see_stmt z)) (sym c.deref.ensures) in
    if_ok c.if_then.result _ _ (λ r h. subst (λ z. IsItemChecked c.args.site.now c.if_then.new.site (StmtItem z) c.args.breaks.now.found c.if_then.new.breaks.found r) (sym same) (h c.in-If.bracket)) c.if_then.ensures

pub stmt-returns-in-IfElse : goal.stmt-returns-in-IfElse
stmt-returns-in-IfElse t c =
    let same = ap see_stmt c.in-IfElse.is ∙ seen_stmt_if_else c.in-IfElse.at c.in-IfElse.bracket c.in-IfElse.test c.in-IfElse.first c.in-IfElse.second
    ∙ ap (λ z. IfElseStmt c.in-IfElse.at c.in-IfElse.bracket (see_expr c.in-IfElse.test) (see_stmt z) (see_stmt c.in-IfElse.second.value)) (sym c.deref-in-IfElse.ensures)
    ∙ ap (λ z. IfElseStmt c.in-IfElse.at c.in-IfElse.bracket (see_expr c.in-IfElse.test) (see_stmt c.deref-in-IfElse.result.now) (see_stmt z)) (sym c.deref-in-IfElse-2.ensures) in
    if_ok c.if_else.result _ _ (λ r h. subst (λ z. IsItemChecked c.args.site.now c.if_else.new.site (StmtItem z) c.args.breaks.now.found c.if_else.new.breaks.found r) (sym same) (h c.in-IfElse.bracket)) c.if_else.ensures

pub stmt-returns-in-While : goal.stmt-returns-in-While
stmt-returns-in-While t c =
    let same = ap see_stmt c.in-While.is ∙ seen_stmt_while c.in-While.at c.in-While.bracket c.in-While.test c.in-While.body ∙ ap (λ z. WhileStmt c.in-While.at c.in-While.bracket (see_expr c.in-While.test) (see_stmt z)) (sym c.deref-in-While.ensures) in
    if_ok c.while_loop.result _ _ (λ r h. subst (λ z. IsItemChecked c.args.site.now c.while_loop.new.site (StmtItem z) c.args.breaks.now.found c.while_loop.new.breaks.found r) (sym same) (h c.in-While.bracket)) c.while_loop.ensures

pub boxed_stmt-returns : goal.boxed_stmt-returns
boxed_stmt-returns t c = subst (λ z. IsItemChecked c.args.site.now c.stmt.new.site (StmtItem (see_stmt c.args.inner.now)) c.args.breaks.now.found c.stmt.new.breaks.found z) (sym c.in_ok-new.ensures.ok) c.in_ok-made.ensures

pub if_then-returns : goal.if_then-returns
if_then-returns t c = λ bracket.
    if_item c.args.site.now c.args.at bracket (see_expr c.args.test.now) c.args.breaks.now.found c.condition.new.breaks.found c.in_ok-test.test c.boxed_stmt.new.site (see_stmt c.args.first.now) c.boxed_stmt.new.breaks.found c.in_ok-first.first.value (stmt.If c.in_ok-test.test c.in_ok-first.first)
    c.in_ok-test.ensures c.in_ok-first.ensures (viewed_if c.in_ok-test.test c.in_ok-first.first) (doubled_if c.in_ok-test.test c.in_ok-first.first)

pub while_loop-returns : goal.while_loop-returns
while_loop-returns t c = λ bracket.
    while_item c.args.site.now c.args.at bracket (see_expr c.args.test.now) c.args.breaks.now.found c.condition.new.breaks.found c.in_ok-test.test c.boxed_stmt.new.site (see_stmt c.args.body.now) c.boxed_stmt.new.breaks.found c.in_ok-body.body.value (stmt.While c.in_ok-test.test c.in_ok-body.body)
    c.in_ok-test.ensures c.in_ok-body.ensures (viewed_while c.in_ok-test.test c.in_ok-body.body) (doubled_while c.in_ok-test.test c.in_ok-body.body)

pub if_else-returns : goal.if_else-returns
if_else-returns t c = λ bracket.
    if_else_item c.args.site.now c.args.at bracket (see_expr c.args.test.now) c.args.breaks.now.found c.condition.new.breaks.found c.in_ok-test.test c.boxed_stmt.new.site c.boxed_stmt-2.new.site (see_stmt c.args.first.now) (see_stmt c.args.second.now) c.boxed_stmt.new.breaks.found c.boxed_stmt-2.new.breaks.found
    c.in_ok-first.first.value c.in_ok-second.second.value (stmt.IfElse c.in_ok-test.test c.in_ok-first.first c.in_ok-second.second) c.in_ok-test.ensures c.in_ok-first.ensures c.in_ok-second.ensures
    (viewed_if_else c.in_ok-test.test c.in_ok-first.first c.in_ok-second.second) (doubled_if_else c.in_ok-test.test c.in_ok-first.first c.in_ok-second.second)

pub block-truncate-requires : goal.block-truncate-requires
block-truncate-requires t c =
    let g = scope_grows c.args.site.now c.items.new.site _ c.args.breaks.now.found c.items.new.breaks.found c.in_ok-stmts.stmts.items c.in_ok-stmts.ensures in
    let e = c.len-count.ensures in omega arith

pub block-returns : goal.block-returns
block-returns t c =
    let old = c.args.site.now in
    let mid = c.items.new.site in
    let b = out-Block c.args.block.now in
    subst (λ z. IsBlockChecked old (record { table = c.items.new.site.table; own = c.items.new.site.own; in_main = c.items.new.site.in_main; due = c.items.new.site.due; scope = c.truncate.new.self; next = c.items.new.site.next; types = c.items.new.site.types }) z c.args.breaks.now.found c.items.new.breaks.found c.in_ok-stmts.stmts.items) (sym (seen_block c.args.block.now))
    (block_checked c.args.site.now c.items.new.site _ (map see_item b.items.items) b.end c.args.breaks.now.found c.items.new.breaks.found c.in_ok-stmts.stmts.items c.len-count.result
    (subst (λ z. AreItemsChecked c.args.site.now c.items.new.site (map see_item z) c.args.breaks.now.found c.items.new.breaks.found c.in_ok-stmts.stmts.items) c.deref.ensures.value c.in_ok-stmts.ensures)
    c.len-count.ensures refl refl refl refl refl refl c.truncate.ensures)

pub items-each-init : goal.items-each-init
items-each-init t c = (
  subst (λ z. AreLeft c.args.site.now c.args.site.now (map see_item c.args.items.now) (map see_item c.args.items.now) c.args.breaks.now.found c.args.breaks.now.found (map view_stmt z)) (sym c.new-stmts.ensures.items) (all_left c.args.site.now (map see_item c.args.items.now) c.args.breaks.now.found),
  ap (sum_by doubled_stmt) c.new-stmts.ensures.items,
)

pub items-each-preserved : goal.items-each-preserved
items-each-preserved t c =
    let xs = c.args.items.now in
    let i = c.each.one-index in (
      subst (λ z. AreLeft c.args.site.now c.item.new.site (map see_item c.args.items.now) (map see_item (drop (c.each.one-index + 1) c.args.items.now)) c.args.breaks.now.found c.item.new.breaks.found z) (sym (ap (map view_stmt) c.in_ok-push.ensures.items ∙ map_last view_stmt c.each.stmts.items c.in_ok-made.made))
          (one_less c.args.site.now c.each.site c.item.new.site (map see_item xs) (map see_item (drop (i + 1) xs)) (see_item c.one-item.result) c.args.breaks.now.found c.each.breaks.found c.item.new.breaks.found (map view_stmt c.each.stmts.items) c.in_ok-made.made
          (subst (λ z. AreLeft c.args.site.now c.each.site (map see_item c.args.items.now) (map see_item z) c.args.breaks.now.found c.each.breaks.found (map view_stmt c.each.stmts.items)) (dropped xs i c.one-item.result c.each-test.true c.one-item.is) c.each.invariant.0)
          c.in_ok-made.ensures),
      same_sum doubled_stmt 0 c.each.stmts.items c.push.new.self.items c.in_ok-made.made c.in_ok-push.ensures.items c.each.invariant.1 c.in_ok-made.ensures.flat,
    )

pub items-returns : goal.items-returns
items-returns t c = no_items_left c.args.site.now c.each.site (map see_item c.args.items.now) _ c.args.breaks.now.found c.each.breaks.found c.each.stmts.items (ap (map see_item) (drop_end c.args.items.now c.each.one-index c.each-test.false)) c.each.invariant.0 c.each.invariant.1

pub item-returns-in-Local : goal.item-returns-in-Local
item-returns-in-Local t c =
    let same = ap see_item c.in-Local.is ∙ seen_item_local c.in-Local.value_type c.in-Local.name c.in-Local.at c.in-Local.value in
    if_ok c.local.result _ _ (λ r h. subst (λ z. IsItemChecked c.args.site.now c.local.new.site z c.args.breaks.now.found c.local.new.breaks.found r) (sym same) h) c.local.ensures

pub item-returns-in-Stmt : goal.item-returns-in-Stmt
item-returns-in-Stmt t c =
    let same = ap see_item c.in-Stmt.is ∙ seen_item_plain c.in-Stmt.inner in
    if_ok c.stmt.result _ _ (λ r h. subst (λ z. IsItemChecked c.args.site.now c.stmt.new.site z c.args.breaks.now.found c.stmt.new.breaks.found r) (sym same) h) c.stmt.ensures
