use Rattle.std.proofs.Common.{◌≡◌, [], map, sym, ap, ◌∙◌, arith, ◌+◌}
use Rattle.chord_tree.specs.ExprNodes.{bare, mark_leaf, node_links, node_dots, node_dot, node_start, node_actuals, node_exprs, node_more}
use Rattle.chord_tree.specs.Tree.{links, dots, exprs}
use Rattle.chord_tree.specs.ViewExprs.{see_expr, see_chain, see_calls, see_link, see_dot, see_start, see_own_call, see_creation}
use Rattle.chord_tree.proofs.SeenExprs.{seen_chain, seen_chained, seen_minus, seen_not, seen_alone, seen_calls, seen_called, seen_actuals, seen_dot, seen_start_variable, seen_start_call, seen_own_call, seen_start_this, seen_start_new, seen_creation, seen_start_number, seen_start_literal, seen_start_true, seen_start_false, seen_start_chain_group, seen_start_group}
use Rattle.chord_tree.proofs.Words.{nil, cons, made, leaf, as_level, links_added, more_links_added, chain_added, dots_added, seen_as, on_ok, dropped, drop_end, length_zero}
use Rattle.chord_tree.proofs.Weights.{total, weigh_expr, weigh_link, weigh_start, weigh_dot, weigh_parts, of_chain, weigh_chain, weigh_minus, weigh_not, weigh_alone, weigh_calls, weigh_called, of_calls, weigh_start_call, weigh_start_new, weigh_start_chain_group, weigh_start_group, weigh_own_call, weigh_creation, of_own_call, of_creation, of_link, of_actuals, of_dot, one_of}
use Rattle.chord_tree.proofs.spell_exprs.+spell.Goals as goal

pub put_actuals-returns : goal.put_actuals-returns
put_actuals-returns t c = on_ok _ _ _ (λ h. seen_as node_actuals _ _ (seen_actuals c.args.actuals.now) (made (cons (leaf c.in_ok-put_mark.ensures) (cons (seen_as (λ z. node_exprs (exprs (map see_expr z))) _ _ (sym c.deref.ensures.value) c.in_ok-put_exprs.ensures) (cons (leaf h) nil))))) c.put_mark-2.ensures

pub put_dot-returns : goal.put_dot-returns
put_dot-returns t c = on_ok _ _ _ (λ h. seen_as node_dot _ _ (seen_dot c.args.dot.now) (made (cons (leaf c.in_ok-put_mark.ensures) (cons c.in_ok-put_name.ensures (cons h nil))))) c.put_actuals.ensures

pub put_dots-each-init : goal.put_dots-each-init
put_dots-each-init t c = λ end h. h

pub put_dots-each-preserved : goal.put_dots-each-preserved
put_dots-each-preserved t c = λ end h. c.each.invariant end (seen_as (λ z. node_dots (dots (map see_dot z))) _ _ (dropped c.args.calls.now _ _ c.each-test.true c.dot-item.is) (dots_added _ _ c.in_ok-put_dot.ensures h))

pub put_dots-returns : goal.put_dots-returns
put_dots-returns t c = c.each.invariant _ (seen_as (λ z. node_dots (dots (map see_dot z))) _ _ (drop_end c.args.calls.now _ c.each-test.false) (made nil))

pub put_exprs-each-init : goal.put_exprs-each-init
put_exprs-each-init t c = λ end h. h

pub put_exprs-each-preserved : goal.put_exprs-each-preserved
put_exprs-each-preserved t c = λ end h. c.each.invariant end (seen_as (λ z. node_more (exprs (map see_expr z))) _ _ (dropped c.in-Some.more.now _ _ c.each-test.true c.expr-item.is) (made (cons c.in_ok-put_mark.ensures (cons (as_level 6 _ c.in_ok-put_expr-2.ensures) (cons h nil)))))

pub put_exprs-returns : goal.put_exprs-returns
put_exprs-returns t c = seen_as (λ z. node_exprs (exprs (map see_expr z))) _ _ c.in-Some.ensures.cases.0 (made (cons (as_level 6 _ c.in_ok-put_expr.ensures) (cons (c.each.invariant _ (seen_as (λ z. node_more (exprs (map see_expr z))) _ _ (drop_end c.in-Some.more.now _ c.each-test.false) (made nil))) nil)))

pub put_exprs-returns-in_default : goal.put_exprs-returns-in_default
put_exprs-returns-in_default t c = seen_as (λ z. node_exprs (exprs (map see_expr z))) _ [] (length_zero _ c.in_default.ensures.cases) (made nil)

pub put_links-each-init : goal.put_links-each-init
put_links-each-init t c = λ end h. h

pub put_links-each-preserved : goal.put_links-each-preserved
put_links-each-preserved t c = λ end h. c.each.invariant end (seen_as (λ z. node_links 0 (links (map see_link z))) _ _ (dropped c.args.more.now _ _ c.each-test.true c.link-item.is) (more_links_added _ _ c.in_ok-put_link.ensures h))

pub put_links-returns : goal.put_links-returns
put_links-returns t c = c.each.invariant _ (seen_as (λ z. node_links 0 (links (map see_link z))) _ _ (drop_end c.args.more.now _ c.each-test.false) (made nil))

pub put_expr-returns-in-Chain : goal.put_expr-returns-in-Chain
put_expr-returns-in-Chain t c = on_ok _ _ _ (λ h. seen_as bare _ _ (ap see_expr c.in-Chain.is ∙ seen_chained c.in-Chain.chain) (seen_as (λ z. bare (see_chain z)) _ _ (sym c.deref.ensures) h)) c.put_chain.ensures

pub put_chain-returns : goal.put_chain-returns
put_chain-returns t c = on_ok _ _ _ (λ h. seen_as bare _ _ (seen_chain c.args.chain.now) (chain_added _ _ _ c.in_ok-put_expr.ensures c.in_ok-put_link.ensures (seen_as (λ z. node_links 0 (links (map see_link z))) _ _ (sym c.deref.ensures.value) h))) c.put_links.ensures

pub put_link-returns : goal.put_link-returns
put_link-returns t c = on_ok _ _ _ (λ h. links_added c.args.link.now _ (seen_as (λ z. mark_leaf z 0) _ _ (sym c.operator_mark.ensures) c.in_ok-put_mark.ensures) h (made nil)) c.put_expr.ensures

pub put_expr-returns-in_ok-put_mark-in-Minus : goal.put_expr-returns-in_ok-put_mark-in-Minus
put_expr-returns-in_ok-put_mark-in-Minus t c = on_ok _ _ _ (λ h. seen_as bare _ _ (ap see_expr c.in-Minus.is ∙ seen_minus c.in-Minus.at c.in-Minus.operand) (made (cons (leaf c.in_ok-put_mark-in-Minus.ensures) (cons (seen_as (λ z. bare (see_expr z)) _ _ (sym c.deref-in-Minus.ensures) h) nil)))) c.put_expr.ensures

pub put_expr-returns-in_ok-put_mark-in-Not : goal.put_expr-returns-in_ok-put_mark-in-Not
put_expr-returns-in_ok-put_mark-in-Not t c = on_ok _ _ _ (λ h. seen_as bare _ _ (ap see_expr c.in-Not.is ∙ seen_not c.in-Not.at c.in-Not.operand) (made (cons (leaf c.in_ok-put_mark-in-Not.ensures) (cons (seen_as (λ z. bare (see_expr z)) _ _ (sym c.deref-in-Not.ensures) h) nil)))) c.put_expr-in-Not.ensures

pub put_expr-returns-in-Start : goal.put_expr-returns-in-Start
put_expr-returns-in-Start t c = on_ok _ _ _ (λ h. seen_as bare _ _ (ap see_expr c.in-Start.is ∙ seen_alone c.in-Start.start) (made (cons (made (cons h (cons (made nil) nil))) nil))) c.put_start.ensures

pub put_expr-returns-in-Calls : goal.put_expr-returns-in-Calls
put_expr-returns-in-Calls t c = on_ok _ _ _ (λ h. seen_as bare _ _ (ap see_expr c.in-Calls.is ∙ seen_called c.in-Calls.calls) (seen_as (λ z. bare (see_calls z)) _ _ (sym c.deref-in-Calls.ensures) h)) c.put_calls.ensures

pub put_calls-returns : goal.put_calls-returns
put_calls-returns t c = on_ok _ _ _ (λ h. seen_as bare _ _ (seen_calls c.args.calls.now) (made (cons (made (cons c.in_ok-put_start.ensures (cons (dots_added _ _ c.in_ok-put_dot.ensures (seen_as (λ z. node_dots (dots (map see_dot z))) _ _ (sym c.deref.ensures.value) h)) nil))) nil))) c.put_dots.ensures

pub put_start-returns-in-Variable : goal.put_start-returns-in-Variable
put_start-returns-in-Variable t c = on_ok _ _ _ (λ h. seen_as node_start _ _ (ap see_start c.in-Variable.is ∙ seen_start_variable c.in-Variable.name) (made (cons h (cons (made nil) nil)))) c.put_name.ensures

pub put_start-returns-in-This : goal.put_start-returns-in-This
put_start-returns-in-This t c = on_ok _ _ _ (λ h. seen_as node_start _ _ (ap see_start c.in-This.is ∙ seen_start_this c.in-This.at) (made (cons (leaf h) nil))) c.put_keyword.ensures

pub put_start-returns-in-True : goal.put_start-returns-in-True
put_start-returns-in-True t c = on_ok _ _ _ (λ h. seen_as node_start _ _ (ap see_start c.in-True.is ∙ seen_start_true c.in-True.at) (made (cons (leaf h) nil))) c.put_keyword-in-True.ensures

pub put_start-returns-in-False : goal.put_start-returns-in-False
put_start-returns-in-False t c = on_ok _ _ _ (λ h. seen_as node_start _ _ (ap see_start c.in-False.is ∙ seen_start_false c.in-False.at) (made (cons (leaf h) nil))) c.put_keyword-in-False.ensures

pub put_start-returns-in-Number : goal.put_start-returns-in-Number
put_start-returns-in-Number t c = on_ok _ _ _ (λ h. seen_as node_start _ _ (ap see_start c.in-Number.is ∙ seen_start_number c.in-Number.value c.in-Number.at) (made (cons (leaf h) nil))) c.put.ensures

pub put_start-returns-in-Literal : goal.put_start-returns-in-Literal
put_start-returns-in-Literal t c = on_ok _ _ _ (λ h. seen_as node_start _ _ (ap see_start c.in-Literal.is ∙ seen_start_literal c.in-Literal.at c.in-Literal.bytes) (made (cons (leaf h) nil))) c.put_literal.ensures

pub put_start-returns-in-Call : goal.put_start-returns-in-Call
put_start-returns-in-Call t c = on_ok _ _ _ (λ h. seen_as node_start _ _ (ap see_start c.in-Call.is ∙ seen_start_call c.in-Call.call) (seen_as (λ z. node_start (see_own_call z)) _ _ (sym c.deref.ensures) h)) c.put_own_call.ensures

pub put_own_call-returns : goal.put_own_call-returns
put_own_call-returns t c = on_ok _ _ _ (λ h. seen_as node_start _ _ (seen_own_call c.args.call.now) (made (cons c.in_ok-put_name.ensures (cons (made (cons h nil)) nil)))) c.put_actuals.ensures

pub put_start-returns-in-New : goal.put_start-returns-in-New
put_start-returns-in-New t c = on_ok _ _ _ (λ h. seen_as node_start _ _ (ap see_start c.in-New.is ∙ seen_start_new c.in-New.creation) (seen_as (λ z. node_start (see_creation z)) _ _ (sym c.deref-in-New.ensures) h)) c.put_creation.ensures

pub put_creation-returns : goal.put_creation-returns
put_creation-returns t c = on_ok _ _ _ (λ h. seen_as node_start _ _ (seen_creation c.args.creation.now) (made (cons (leaf c.in_ok-put_keyword.ensures) (cons c.in_ok-put_name.ensures (cons h nil))))) c.put_actuals.ensures

pub put_start-returns-in_ok-put_expr-in-Group : goal.put_start-returns-in_ok-put_expr-in-Group
put_start-returns-in_ok-put_expr-in-Group t c = on_ok _ _ _ (λ h. seen_as node_start _ _ (ap see_start c.in-Group.is ∙ seen_start_group c.in-Group.at c.in-Group.inner) (made (cons (leaf c.in_ok-put_mark-in-Group.ensures) (cons (as_level 6 _ (seen_as (λ z. bare (see_expr z)) _ _ (sym c.deref-in-Group.ensures) c.in_ok-put_expr-in-Group.ensures)) (cons (leaf h) nil))))) c.put_mark-in-Group.ensures

pub put_expr-put_chain-requires : goal.put_expr-put_chain-requires
put_expr-put_chain-requires t c = let e = ap weigh_expr c.in-Chain.is ∙ weigh_chain c.in-Chain.chain in let f = ap weigh_parts c.deref.ensures in (omega arith, tt)

pub put_chain-put_expr-requires : goal.put_chain-put_expr-requires
put_chain-put_expr-requires t c = let e = of_chain c.args.chain.now in (omega arith, tt)

pub put_chain-put_link-requires : goal.put_chain-put_link-requires
put_chain-put_link-requires t c = let e = of_chain c.args.chain.now in (omega arith, tt)

pub put_chain-put_links-requires : goal.put_chain-put_links-requires
put_chain-put_links-requires t c = let e = of_chain c.args.chain.now in let f = ap (λ z. total (map weigh_link z)) c.deref.ensures.value in (omega arith, tt)

pub put_link-put_expr-requires : goal.put_link-put_expr-requires
put_link-put_expr-requires t c = let e = of_link c.args.link.now in (omega arith, tt)

pub put_expr-put_expr-requires : goal.put_expr-put_expr-requires
put_expr-put_expr-requires t c = let e = ap weigh_expr c.in-Minus.is ∙ weigh_minus c.in-Minus.at c.in-Minus.operand in let f = ap weigh_expr c.deref-in-Minus.ensures in (omega arith, tt)

pub put_expr-put_expr-requires-in-Not : goal.put_expr-put_expr-requires-in-Not
put_expr-put_expr-requires-in-Not t c = let e = ap weigh_expr c.in-Not.is ∙ weigh_not c.in-Not.at c.in-Not.operand in let f = ap weigh_expr c.deref-in-Not.ensures in (omega arith, tt)

pub put_expr-put_start-requires : goal.put_expr-put_start-requires
put_expr-put_start-requires t c = let e = ap weigh_expr c.in-Start.is ∙ weigh_alone c.in-Start.start in (omega arith, tt)

pub put_expr-put_calls-requires : goal.put_expr-put_calls-requires
put_expr-put_calls-requires t c = let e = ap weigh_expr c.in-Calls.is ∙ weigh_called c.in-Calls.calls in let f = ap weigh_calls c.deref-in-Calls.ensures in (omega arith, tt)

pub put_calls-put_start-requires : goal.put_calls-put_start-requires
put_calls-put_start-requires t c = let e = of_calls c.args.calls.now in (omega arith, tt)

pub put_calls-put_dot-requires : goal.put_calls-put_dot-requires
put_calls-put_dot-requires t c = let e = of_calls c.args.calls.now in (omega arith, tt)

pub put_calls-put_dots-requires : goal.put_calls-put_dots-requires
put_calls-put_dots-requires t c = let e = of_calls c.args.calls.now in let f = ap (λ z. total (map weigh_dot z)) c.deref.ensures.value in (omega arith, tt)

pub put_links-put_link-requires : goal.put_links-put_link-requires
put_links-put_link-requires t c = let f = one_of weigh_link c.args.more.now _ _ c.each-test.true c.link-item.is in (omega arith, tt)

pub put_dots-put_dot-requires : goal.put_dots-put_dot-requires
put_dots-put_dot-requires t c = let e = one_of weigh_dot c.args.calls.now _ _ c.each-test.true c.dot-item.is in (omega arith, tt)

pub put_dot-put_actuals-requires : goal.put_dot-put_actuals-requires
put_dot-put_actuals-requires t c = let e = of_dot c.args.dot.now in (omega arith, tt)

pub put_actuals-put_exprs-requires : goal.put_actuals-put_exprs-requires
put_actuals-put_exprs-requires t c = let e = of_actuals c.args.actuals.now in let f = ap (λ z. total (map weigh_expr z)) c.deref.ensures.value in (omega arith, tt)

pub put_exprs-put_expr-requires : goal.put_exprs-put_expr-requires
put_exprs-put_expr-requires t c = let e : total (map weigh_expr c.args.arguments.now) ≡ weigh_expr c.in-Some.first.now + total (map weigh_expr c.in-Some.more.now) = ap (λ z. total (map weigh_expr z)) c.in-Some.ensures.cases.0 in (omega arith, tt)

pub put_exprs-put_expr-requires-in-each : goal.put_exprs-put_expr-requires-in-each
put_exprs-put_expr-requires-in-each t c = let e : total (map weigh_expr c.args.arguments.now) ≡ weigh_expr c.in-Some.first.now + total (map weigh_expr c.in-Some.more.now) = ap (λ z. total (map weigh_expr z)) c.in-Some.ensures.cases.0 in let f = one_of weigh_expr c.in-Some.more.now _ _ c.each-test.true c.expr-item.is in (omega arith, tt)

pub put_start-put_own_call-requires : goal.put_start-put_own_call-requires
put_start-put_own_call-requires t c = let e = ap weigh_start c.in-Call.is ∙ weigh_start_call c.in-Call.call in let f = ap weigh_own_call c.deref.ensures in (omega arith, tt)

pub put_own_call-put_actuals-requires : goal.put_own_call-put_actuals-requires
put_own_call-put_actuals-requires t c = let e = of_own_call c.args.call.now in (omega arith, tt)

pub put_start-put_creation-requires : goal.put_start-put_creation-requires
put_start-put_creation-requires t c = let e = ap weigh_start c.in-New.is ∙ weigh_start_new c.in-New.creation in let f = ap weigh_creation c.deref-in-New.ensures in (omega arith, tt)

pub put_creation-put_actuals-requires : goal.put_creation-put_actuals-requires
put_creation-put_actuals-requires t c = let e = of_creation c.args.creation.now in (omega arith, tt)

pub put_start-put_expr-requires : goal.put_start-put_expr-requires
put_start-put_expr-requires t c = let e = ap weigh_start c.in-Group.is ∙ weigh_start_group c.in-Group.at c.in-Group.inner in let f = ap weigh_expr c.deref-in-Group.ensures in (omega arith, tt)

pub put_start-returns-in_ok-put_chain-in-ChainGroup : goal.put_start-returns-in_ok-put_chain-in-ChainGroup
put_start-returns-in_ok-put_chain-in-ChainGroup t c = on_ok _ _ _ (λ h. seen_as node_start _ _ (ap see_start c.in-ChainGroup.is ∙ seen_start_chain_group c.in-ChainGroup.at c.in-ChainGroup.chain) (made (cons (leaf c.in_ok-put_mark-in-ChainGroup.ensures) (cons (as_level 6 _ (seen_as (λ z. bare (see_chain z)) _ _ (sym c.deref-in-ChainGroup.ensures) c.in_ok-put_chain-in-ChainGroup.ensures)) (cons (leaf h) nil))))) c.put_mark-in-ChainGroup-2.ensures

pub put_start-put_chain-requires : goal.put_start-put_chain-requires
put_start-put_chain-requires t c = let e = ap weigh_start c.in-ChainGroup.is ∙ weigh_start_chain_group c.in-ChainGroup.at c.in-ChainGroup.chain in let f = ap weigh_parts c.deref-in-ChainGroup.ensures in (omega arith, tt)
