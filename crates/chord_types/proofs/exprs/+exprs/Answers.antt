use Rattle.std.proofs.Common.{◌≤◌, ◌+◌, false, map, take, option_map, arith, refl, sym, ap, subst, ◌∙◌}
use Rattle.std.specs.Prelude.{sum_by, unwrap_or}
use Rattle.chord_tree.specs.declared.exprs.Calls.{out-Calls}
use Rattle.chord_tree.specs.declared.exprs.Chain.{out-Chain}
use Rattle.chord_tree.specs.declared.exprs.Link.{out-Link}
use Rattle.chord_tree.specs.declared.exprs.Dot.{out-Dot}
use Rattle.chord_tree.specs.declared.exprs.Actuals.{out-Actuals}
use Rattle.chord_tree.specs.Tree.{exprs, dots, links, MinusExpr, NotExpr, GroupStart}
use Rattle.chord_tree.specs.Terms.{term_after, term, terms, called, started, operated, LiteralTerm}
use Rattle.chord_tree.specs.Walk.{Used, Receiver}
use Rattle.chord_tree.specs.ViewExprs.{see_expr, see_dot, see_link, see_start, see_own_call, see_creation, see_chain, see_calls}
use Rattle.chord_tree.proofs.SeenExprs.{seen_chain, seen_chained, seen_minus, seen_not, seen_alone, seen_called, seen_start_variable, seen_start_call, seen_start_this, seen_start_new, seen_start_number, seen_start_literal, seen_start_true, seen_start_false, seen_start_chain_group, seen_start_group}
use Rattle.chord_tree.proofs.Weights.{total, weigh_expr, weigh_link, weigh_start, weigh_dot, weigh_calls, weigh_parts, of_chain, weigh_chain, weigh_minus, weigh_not, weigh_alone, weigh_calls, weigh_called, of_calls, weigh_start_call, weigh_start_new, weigh_start_chain_group, weigh_start_group, weigh_own_call, weigh_creation, of_own_call, of_creation, of_link, of_actuals, of_dot, one_of}
use Rattle.chord_bodies.specs.Resolved as to
use Rattle.chord_bodies.specs.View.{LinkOf, view_expr, binary, expr_list}
use Rattle.chord_bodies.proofs.Viewed.{viewed_negate, viewed_deny, viewed_this, viewed_new, viewed_link}
use Rattle.chord_classes.specs.Table.{class_named}
use Rattle.chord_classes.specs.TypedTerms.{NewTyped, typed_call, own_target, target_on}
use Rattle.chord_classes.specs.Typed.{judged}
use Rattle.chord_classes.specs.Resolve.{call_of}
use Rattle.chord_classes.specs.Least.{least}
use Rattle.chord_types.specs.Views.{see_passed, see_role, see_target}
use Rattle.chord_types.specs.Sites.{see_site}
use Rattle.chord_classes.specs.AllNotes.{typed_term_keys}
use Rattle.chord_types.specs.CallKeys.{call_keys, call_type}
use Rattle.chord_types.specs.Checked.{IsChecked, AreChecked, IsReceiver, on_link, on_dot}
use Rattle.chord_types.specs.Flat.{doubled}
use Rattle.chord_tree.proofs.Words.{length_zero}
use Rattle.chord_types.proofs.Oks.{if_ok}
use Rattle.chord_types.proofs.Terms.{chain_term, link_term, called_term, dot_term, own_call_term, creation_term}
use Rattle.chord_types.proofs.Lists.{map_last, take_step, take_all, dots_taken, dots_last, links_taken, total_ends}
use Rattle.chord_types.proofs.Nodes.{AreAll, none_yet, minus_checked, not_checked, group_checked, operation_checked, own_checked, new_checked, call_checked, are_checked, one_more_checked, moved}
use Rattle.chord_types.proofs.Doubled.{beside_this, doubled_negate, doubled_deny, doubled_new, doubled_operand, same_sum}
use Rattle.chord_types.proofs.exprs.+exprs.Goals as goal

pub expr-joined-requires : goal.expr-joined-requires
expr-joined-requires t c = let e = ap weigh_expr c.in-Chain.is ∙ weigh_chain c.in-Chain.chain in let f = ap weigh_parts c.deref.ensures in (omega arith, tt)

pub expr-minus_of-requires : goal.expr-minus_of-requires
expr-minus_of-requires t c = let e = ap weigh_expr c.in-Minus.is ∙ weigh_minus c.in-Minus.at c.in-Minus.operand in let f = ap weigh_expr c.deref-in-Minus.ensures in (omega arith, tt)

pub expr-not_of-requires : goal.expr-not_of-requires
expr-not_of-requires t c = let e = ap weigh_expr c.in-Not.is ∙ weigh_not c.in-Not.at c.in-Not.operand in let f = ap weigh_expr c.deref-in-Not.ensures in (omega arith, tt)

pub expr-start-requires : goal.expr-start-requires
expr-start-requires t c = let e = ap weigh_expr c.in-Start.is ∙ weigh_alone c.in-Start.begin in (omega arith, tt)

pub expr-with_calls-requires : goal.expr-with_calls-requires
expr-with_calls-requires t c = let e = ap weigh_expr c.in-Calls.is ∙ weigh_called c.in-Calls.calls in let f = ap weigh_calls c.deref-in-Calls.ensures in (omega arith, tt)

pub joined-expr-requires : goal.joined-expr-requires
joined-expr-requires t c = let e = of_chain c.args.chain.now in (omega arith, tt)

pub joined-link_on-requires : goal.joined-link_on-requires
joined-link_on-requires t c = let e = of_chain c.args.chain.now in (omega arith, tt)

pub joined-links_on-requires : goal.joined-links_on-requires
joined-links_on-requires t c = let e = of_chain c.args.chain.now in let f = ap (λ z. total (map weigh_link z)) c.deref.ensures.value in (omega arith, tt)

pub link_on-expr-requires : goal.link_on-expr-requires
link_on-expr-requires t c = let e = of_link c.args.link.now in (omega arith, tt)

pub minus_of-expr-requires : goal.minus_of-expr-requires
minus_of-expr-requires t c = (omega arith, tt)

pub not_of-expr-requires : goal.not_of-expr-requires
not_of-expr-requires t c = (omega arith, tt)

pub start-chain_group-requires : goal.start-chain_group-requires
start-chain_group-requires t c = let e = ap weigh_start c.in-ChainGroup.is ∙ weigh_start_chain_group c.in-ChainGroup.at c.in-ChainGroup.chain in let f = ap weigh_parts c.deref-in-ChainGroup.ensures in (omega arith, tt)

pub chain_group-joined-requires : goal.chain_group-joined-requires
chain_group-joined-requires t c = (omega arith, tt)

pub group-expr-requires : goal.group-expr-requires
group-expr-requires t c = (omega arith, tt)

pub with_calls-start-requires : goal.with_calls-start-requires
with_calls-start-requires t c = let e = of_calls c.args.calls.now in (omega arith, tt)

pub own_call-arguments-requires : goal.own_call-arguments-requires
own_call-arguments-requires t c = let e = of_actuals c.args.actuals.now in let f = ap (λ z. total (map weigh_expr z)) c.deref.ensures.value in (omega arith, tt)

pub new_object-arguments-requires : goal.new_object-arguments-requires
new_object-arguments-requires t c = let e = of_actuals c.args.actuals.now in let f = ap (λ z. total (map weigh_expr z)) c.deref.ensures.value in (omega arith, tt)

pub start-start_call-requires : goal.start-start_call-requires
start-start_call-requires t c = let e = ap weigh_start c.in-Call.is ∙ weigh_start_call c.in-Call.call in let f = ap weigh_own_call c.deref.ensures in (omega arith, tt)

pub start_call-own_call-requires : goal.start_call-own_call-requires
start_call-own_call-requires t c = let e = of_own_call c.args.call.now in (omega arith, tt)

pub start-start_new-requires : goal.start-start_new-requires
start-start_new-requires t c = let e = ap weigh_start c.in-New.is ∙ weigh_start_new c.in-New.creation in let f = ap weigh_creation c.deref-in-New.ensures in (omega arith, tt)

pub start_new-new_object-requires : goal.start_new-new_object-requires
start_new-new_object-requires t c = let e = of_creation c.args.creation.now in (omega arith, tt)

pub start-group-requires : goal.start-group-requires
start-group-requires t c = let e = ap weigh_start c.in-Group.is ∙ weigh_start_group c.in-Group.at c.in-Group.inner in let f = ap weigh_expr c.deref-in-Group.ensures in (omega arith, tt)

pub call_on-arguments-requires : goal.call_on-arguments-requires
call_on-arguments-requires t c = let d = of_dot c.args.dot.now in let e = of_actuals (out-Dot c.args.dot.now).actuals in let f = ap (λ z. total (map weigh_expr z)) c.deref.ensures.value in (omega arith, tt)

pub calls_on-call_on-requires : goal.calls_on-call_on-requires
calls_on-call_on-requires t c = let e = one_of weigh_dot c.args.calls.now _ _ c.each-test.true c.dot-item.is in (omega arith, tt)

pub links_on-link_on-requires : goal.links_on-link_on-requires
links_on-link_on-requires t c = let e = one_of weigh_link c.args.more.now _ _ c.each-test.true c.link-item.is in (omega arith, tt)

pub arguments-expr-requires : goal.arguments-expr-requires
arguments-expr-requires t c = let e = one_of weigh_expr c.args.actuals.now _ _ c.each-test.true c.actual-item.is in (omega arith, tt)

pub with_calls-call_on-requires : goal.with_calls-call_on-requires
with_calls-call_on-requires t c = let e = of_calls c.args.calls.now in (omega arith, tt)

pub with_calls-call_on-requires-in-Some : goal.with_calls-call_on-requires-in-Some
with_calls-call_on-requires-in-Some t c = let e = of_calls c.args.calls.now in (omega arith, tt)

pub with_calls-calls_on-requires : goal.with_calls-calls_on-requires
with_calls-calls_on-requires t c = let d = of_calls c.args.calls.now in let f = ap (λ z. total (map weigh_dot z)) c.deref.ensures.value in let e = total_ends weigh_dot c.deref.result.now c.in-Some.front.now c.in-Some.last.now c.in-Some.ensures.cases.0 in (omega arith, tt)

pub with_calls-call_on-requires-in-Some-2 : goal.with_calls-call_on-requires-in-Some-2
with_calls-call_on-requires-in-Some-2 t c = let d = of_calls c.args.calls.now in let f = ap (λ z. total (map weigh_dot z)) c.deref.ensures.value in let e = total_ends weigh_dot c.deref.result.now c.in-Some.front.now c.in-Some.last.now c.in-Some.ensures.cases.0 in (omega arith, tt)

pub expr-returns-in-Chain : goal.expr-returns-in-Chain
expr-returns-in-Chain t c =
    let site = see_site c.args.site.now in
    let same = ap see_expr c.in-Chain.is ∙ seen_chained c.in-Chain.chain ∙ ap see_chain (sym c.deref.ensures) in
    if_ok c.joined.result _ _ (λ r h. subst (λ z. IsChecked site Used (term_after z c.args.minus) c.args.breaks.now.found c.joined.new.breaks.found r) (sym same) (h c.args.minus)) c.joined.ensures

pub expr-returns-in-Minus : goal.expr-returns-in-Minus
expr-returns-in-Minus t c =
    let site = see_site c.args.site.now in
    let same = ap (λ z. term_after z c.args.minus) (ap see_expr c.in-Minus.is ∙ seen_minus c.in-Minus.at c.in-Minus.operand ∙ ap (λ z. MinusExpr c.in-Minus.at (see_expr z)) (sym c.deref-in-Minus.ensures)) in
    if_ok c.minus_of.result _ _ (λ r h. subst (λ z. IsChecked site Used z c.args.breaks.now.found c.minus_of.new.breaks.found r) (sym same) h) c.minus_of.ensures

pub expr-returns-in-Not : goal.expr-returns-in-Not
expr-returns-in-Not t c =
    let site = see_site c.args.site.now in
    let same = ap (λ z. term_after z c.args.minus) (ap see_expr c.in-Not.is ∙ seen_not c.in-Not.at c.in-Not.operand ∙ ap (λ z. NotExpr c.in-Not.at (see_expr z)) (sym c.deref-in-Not.ensures)) in
    if_ok c.not_of.result _ _ (λ r h. subst (λ z. IsChecked site Used z c.args.breaks.now.found c.not_of.new.breaks.found r) (sym same) h) c.not_of.ensures

pub expr-returns-in-Start : goal.expr-returns-in-Start
expr-returns-in-Start t c =
    let site = see_site c.args.site.now in
    let same = ap (λ z. term_after z c.args.minus) (ap see_expr c.in-Start.is ∙ seen_alone c.in-Start.begin) in
    if_ok c.start.result _ _ (λ r h. subst (λ z. IsChecked site Used z c.args.breaks.now.found c.start.new.breaks.found r) (sym same) h.checked) c.start.ensures

pub expr-returns-in-Calls : goal.expr-returns-in-Calls
expr-returns-in-Calls t c =
    let site = see_site c.args.site.now in
    let same = ap (λ z. term_after z c.args.minus) (ap see_expr c.in-Calls.is ∙ seen_called c.in-Calls.calls ∙ ap see_calls (sym c.deref-in-Calls.ensures)) in
    if_ok c.with_calls.result _ _ (λ r h. subst (λ z. IsChecked site Used z c.args.breaks.now.found c.with_calls.new.breaks.found r) (sym same) h) c.with_calls.ensures

pub minus_of-returns : goal.minus_of-returns
minus_of-returns t c =
    minus_checked (see_site c.args.site.now) c.args.at _ c.args.breaks.now.found c.expr.new.breaks.found c.judge_minus-static_type.new.breaks.found c.in_ok-operand.operand _ c.in_ok-operand.ensures
    (c.judge_minus-static_type.ensures.typed (see_site c.args.site.now) Used) (c.judge_minus-static_type.ensures.noted (see_site c.args.site.now) Used)
    (viewed_negate c.in_ok-new.field-0 ∙ ap (λ z. to.Negate (view_expr z)) c.in_ok-new.ensures.ok)
    (doubled_negate c.in_ok-new.field-0 ∙ ap doubled c.in_ok-new.ensures.ok)

pub not_of-returns : goal.not_of-returns
not_of-returns t c =
    not_checked (see_site c.args.site.now) c.args.at _ c.args.breaks.now.found c.expr.new.breaks.found c.judge_not-static_type.new.breaks.found c.in_ok-operand.operand _ c.in_ok-operand.ensures
    (c.judge_not-static_type.ensures.typed (see_site c.args.site.now) Used) (c.judge_not-static_type.ensures.noted (see_site c.args.site.now) Used)
    (viewed_deny c.in_ok-new.field-0 ∙ ap (λ z. to.Deny (view_expr z)) c.in_ok-new.ensures.ok)
    (doubled_deny c.in_ok-new.field-0 ∙ ap doubled c.in_ok-new.ensures.ok)

pub joined-returns : goal.joined-returns
joined-returns t c =
    let site = see_site c.args.site.now in
    let first = see_expr (out-Chain c.args.chain.now).first in
    let link = see_link (out-Chain c.args.chain.now).link in
    let more = links (map see_link (out-Chain c.args.chain.now).more.items) in
    if_ok c.links_on.result _ _ (λ r h. λ minus.
    subst (λ z. IsChecked site Used z c.args.breaks.now.found c.links_on.new.breaks.found r) (sym (ap (λ z. term_after z minus) (seen_chain c.args.chain.now) ∙ chain_term first link more minus))
    (subst (λ z. IsChecked site Used (operated (links (map see_link z)) (on_link (term first) link)) c.args.breaks.now.found c.links_on.new.breaks.found r) c.deref.ensures.value
    (h (on_link (term first) link) c.args.breaks.now.found (c.in_ok-left.ensures (term first) c.args.breaks.now.found c.in_ok-first.ensures))))
    c.links_on.ensures

pub link_on-returns : goal.link_on-returns
link_on-returns t c = λ before start h.
    let site = see_site c.args.site.now in
    let link = out-Link c.args.link.now in
    subst (λ z. IsChecked site Used z start c.judge_operation-static_type.new.breaks.found (record { expr = c.in_ok-with_link.field-0; static_type = c.judge_operation-static_type.result; is_console = false })) (sym (link_term c.args.link.now before))
    (operation_checked site link.operator link.at before (term (see_expr link.operand)) start c.args.breaks.now.found c.expr.new.breaks.found c.judge_operation-static_type.new.breaks.found c.args.left c.in_ok-right.right _ h c.in_ok-right.ensures
    (c.judge_operation-static_type.ensures.typed site Used refl) (c.judge_operation-static_type.ensures.noted site Used refl)
    (c.in_ok-with_link.ensures.built ∙ ap (λ (z : LinkOf). binary z.operator (view_expr c.args.left.expr) z.operand) (viewed_link _) ∙ c.resolved_operator.ensures (view_expr c.args.left.expr) (view_expr c.in_ok-right.right.expr))
    (subst (λ n. doubled c.in_ok-with_link.field-0 ≤ doubled c.args.left.expr + n) (doubled_operand _) c.in_ok-with_link.ensures.flat))

pub links_on-each-init : goal.links_on-each-init
links_on-each-init t c = λ u o h. h

pub links_on-each-preserved : goal.links_on-each-preserved
links_on-each-preserved t c = λ u o h.
    subst (λ z. IsChecked (see_site c.args.site.now) Used z o c.link_on.new.breaks.found c.in_ok-left.left) (sym (links_taken see_link c.args.more.now c.each.link-index c.link-item.result u c.each-test.true c.link-item.is))
    (c.in_ok-left.ensures (operated (links (map see_link (take c.each.link-index c.args.more.now))) u) o (c.each.invariant u o h))

pub links_on-returns : goal.links_on-returns
links_on-returns t c = λ u o h.
    subst (λ z. IsChecked (see_site c.args.site.now) Used (operated (links (map see_link z)) u) o c.each.breaks.found c.each.left) (take_all c.args.more.now c.each.link-index c.each-test.false) (c.each.invariant u o h)

pub with_calls-returns-in-None : goal.with_calls-returns-in-None
with_calls-returns-in-None t c =
    let site = see_site c.args.site.now in
    let calls = out-Calls c.args.calls.now in
    let begin = started (see_start calls.start) c.args.minus in
    let whole = called_term c.args.calls.now c.args.minus ∙ ap (λ z. called (dots (map see_dot z)) (on_dot begin (see_dot calls.first))) (sym c.deref.ensures.value ∙ length_zero _ c.in-None.ensures.cases) in
    if_ok c.call_on.result _ _ (λ r h.
    let all = h _ c.args.breaks.now.found c.in_ok-receiver.ensures in
    subst (λ z. IsChecked site Used z c.args.breaks.now.found c.call_on.new.breaks.found r) (sym whole) all.checked)
    c.call_on.ensures

pub with_calls-returns-in_ok-receiver-in-Some-2 : goal.with_calls-returns-in_ok-receiver-in-Some-2
with_calls-returns-in_ok-receiver-in-Some-2 t c =
    let site = see_site c.args.site.now in
    let calls = out-Calls c.args.calls.now in
    let begin = started (see_start calls.start) c.args.minus in
    let whole = called_term c.args.calls.now c.args.minus ∙ ap (λ z. called (dots (map see_dot z)) (on_dot begin (see_dot calls.first))) (sym c.deref.ensures.value) ∙ dots_last see_dot c.deref.result.now c.in-Some.front.now c.in-Some.last.now (on_dot begin (see_dot calls.first)) c.in-Some.ensures.cases.0 in
    if_ok c.call_on-in-Some-2.result _ _ (λ r h.
    let all = h _ c.args.breaks.now.found (c.in_ok-receiver-in-Some-2.ensures _ c.args.breaks.now.found (c.in_ok-receiver-in-Some.ensures _ c.args.breaks.now.found c.in_ok-receiver.ensures)) in
    subst (λ z. IsChecked site Used z c.args.breaks.now.found c.call_on-in-Some-2.new.breaks.found r) (sym whole) all.checked)
    c.call_on-in-Some-2.ensures

pub start-returns-in-Variable : goal.start-returns-in-Variable
start-returns-in-Variable t c =
    let same = ap (λ z. started z c.args.minus) (ap see_start c.in-Variable.is ∙ seen_start_variable c.in-Variable.name) in
    subst (λ z. IsReceiver (see_site c.args.site.now) (see_role c.args.role) z c.args.breaks.now.found c.variable.new.breaks.found c.variable.result) (sym same) c.variable.ensures

pub start-returns-in-This : goal.start-returns-in-This
start-returns-in-This t c =
    let same = ap (λ z. started z c.args.minus) (ap see_start c.in-This.is ∙ seen_start_this c.in-This.at) in
    subst (λ z. IsReceiver (see_site c.args.site.now) (see_role c.args.role) z c.args.breaks.now.found c.this.new.breaks.found c.this.result) (sym same) c.this.ensures

pub start-returns-in-Number : goal.start-returns-in-Number
start-returns-in-Number t c =
    let same = ap (λ z. started z c.args.minus) (ap see_start c.in-Number.is ∙ seen_start_number c.in-Number.value c.in-Number.at) in
    subst (λ z. IsReceiver (see_site c.args.site.now) (see_role c.args.role) z c.args.breaks.now.found c.number.new.breaks.found c.number.result) (sym same) c.number.ensures

pub start-returns-in-Literal : goal.start-returns-in-Literal
start-returns-in-Literal t c =
    let same = ap (λ z. started z c.args.minus) (ap see_start c.in-Literal.is ∙ seen_start_literal c.in-Literal.at c.in-Literal.bytes) ∙ ap (λ z. LiteralTerm z c.in-Literal.at) (sym c.items.ensures) in
    if_ok c.literal.result _ _ (λ r h. subst (λ z. IsReceiver (see_site c.args.site.now) (see_role c.args.role) z c.args.breaks.now.found c.literal.new.breaks.found r) (sym same) h) c.literal.ensures.receiver

pub start-returns-in-True : goal.start-returns-in-True
start-returns-in-True t c =
    let same = ap (λ z. started z c.args.minus) (ap see_start c.in-True.is ∙ seen_start_true c.in-True.at) in
    subst (λ z. IsReceiver (see_site c.args.site.now) (see_role c.args.role) z c.args.breaks.now.found c.args.breaks.now.found c.flag.result) (sym same) c.flag.ensures

pub start-returns-in-False : goal.start-returns-in-False
start-returns-in-False t c =
    let same = ap (λ z. started z c.args.minus) (ap see_start c.in-False.is ∙ seen_start_false c.in-False.at) in
    subst (λ z. IsReceiver (see_site c.args.site.now) (see_role c.args.role) z c.args.breaks.now.found c.args.breaks.now.found c.flag-in-False.result) (sym same) c.flag-in-False.ensures

pub start-returns-in-Call : goal.start-returns-in-Call
start-returns-in-Call t c =
    let same = ap (λ z. started z c.args.minus) (ap see_start c.in-Call.is ∙ seen_start_call c.in-Call.call ∙ ap see_own_call (sym c.deref.ensures)) ∙ own_call_term c.deref.result.now c.args.minus ∙ sym (own_call_term c.deref.result.now false) in
    if_ok c.start_call.result _ _ (λ r h. subst (λ z. IsReceiver (see_site c.args.site.now) (see_role c.args.role) z c.args.breaks.now.found c.start_call.new.breaks.found r) (sym same) h) c.start_call.ensures

pub start_call-returns : goal.start_call-returns
start_call-returns t c =
    let same = own_call_term c.args.call.now false in
    if_ok c.own_call.result _ _ (λ r h. subst (λ z. IsReceiver (see_site c.args.site.now) (see_role c.args.role) z c.args.breaks.now.found c.own_call.new.breaks.found r) (sym same) h) c.own_call.ensures

pub start-returns-in-New : goal.start-returns-in-New
start-returns-in-New t c =
    let same = ap (λ z. started z c.args.minus) (ap see_start c.in-New.is ∙ seen_start_new c.in-New.creation ∙ ap see_creation (sym c.deref-in-New.ensures)) ∙ creation_term c.deref-in-New.result.now c.args.minus ∙ sym (creation_term c.deref-in-New.result.now false) in
    if_ok c.start_new.result _ _ (λ r h. subst (λ z. IsReceiver (see_site c.args.site.now) (see_role c.args.role) z c.args.breaks.now.found c.start_new.new.breaks.found r) (sym same) h) c.start_new.ensures

pub start_new-returns : goal.start_new-returns
start_new-returns t c =
    let same = creation_term c.args.creation.now false in
    if_ok c.new_object.result _ _ (λ r h. subst (λ z. IsReceiver (see_site c.args.site.now) (see_role c.args.role) z c.args.breaks.now.found c.new_object.new.breaks.found r) (sym same) h) c.new_object.ensures

pub start-returns-in-Group : goal.start-returns-in-Group
start-returns-in-Group t c =
    let same = ap (λ z. started z c.args.minus) (ap see_start c.in-Group.is ∙ seen_start_group c.in-Group.at c.in-Group.inner ∙ ap (λ z. GroupStart c.in-Group.at (see_expr z)) (sym c.deref-in-Group.ensures)) in
    if_ok c.group.result _ _ (λ r h. subst (λ z. IsReceiver (see_site c.args.site.now) (see_role c.args.role) z c.args.breaks.now.found c.group.new.breaks.found r) (sym same) h) c.group.ensures

pub start-returns-in-ChainGroup : goal.start-returns-in-ChainGroup
start-returns-in-ChainGroup t c =
    let same = ap (λ z. started z c.args.minus) (ap see_start c.in-ChainGroup.is ∙ seen_start_chain_group c.in-ChainGroup.at c.in-ChainGroup.chain ∙ ap (λ z. GroupStart c.in-ChainGroup.at (see_chain z)) (sym c.deref-in-ChainGroup.ensures)) in
    if_ok c.chain_group.result _ _ (λ r h. subst (λ z. IsReceiver (see_site c.args.site.now) (see_role c.args.role) z c.args.breaks.now.found c.chain_group.new.breaks.found r) (sym same) h) c.chain_group.ensures

pub chain_group-returns : goal.chain_group-returns
chain_group-returns t c = group_checked (see_site c.args.site.now) (see_role c.args.role) c.args.at _ c.args.breaks.now.found c.joined.new.breaks.found c.in_ok-inner.inner _ (c.in_ok-inner.ensures false) refl refl refl

pub group-returns : goal.group-returns
group-returns t c = group_checked (see_site c.args.site.now) (see_role c.args.role) c.args.at _ c.args.breaks.now.found c.expr.new.breaks.found c.in_ok-inner.inner _ c.in_ok-inner.ensures refl refl refl

pub own_call-returns : goal.own_call-returns
own_call-returns t c =
    let site = see_site c.args.site.now in
    let role = see_role c.args.role in
    let a = subst (λ z. AreChecked site (terms (exprs (map see_expr z))) c.args.breaks.now.found c.arguments.new.breaks.found c.in_ok-exprs.field-0) c.deref.ensures.value c.in_ok-exprs.ensures in
    own_checked site role c.args.name.now c.args.actuals.now.at _ c.args.breaks.now.found c.arguments.new.breaks.found c.judge_call-static_type.new.breaks.found c.in_ok-exprs.field-0 (option_map see_target c.own_target-target.result) _ a
    (c.own_target-target.ensures ∙ ap (own_target site) c.items.ensures.bytes)
    (c.judge_call-static_type.ensures.typed ∙ ap (λ z. call_type site role (option_map see_target c.own_target-target.result) c.args.name.now.at (map see_passed z)) c.deref-2.ensures.value)
    (c.judge_call-static_type.ensures.noted ∙ ap (λ z. least c.arguments.new.breaks.found (call_keys site role (option_map see_target c.own_target-target.result) c.args.name.now.at (map see_passed z))) c.deref-2.ensures.value)
    (c.in_ok-call_of.ensures.built ∙ ap (λ z. call_of site.table (option_map see_target c.own_target-target.result) z (expr_list (map view_expr c.in_ok-exprs.field-0.exprs.items))) viewed_this)
    (beside_this (doubled c.in_ok-call_of.field-0) (sum_by doubled c.in_ok-exprs.field-0.exprs.items) c.in_ok-call_of.ensures.flat)
    refl

pub new_object-judge_new-static_type-requires : goal.new_object-judge_new-static_type-requires
new_object-judge_new-static_type-requires t c = c.class_named-class.ensures ∙ ap (class_named c.args.site.now.table.now) c.items.ensures.bytes

pub new_object-returns : goal.new_object-returns
new_object-returns t c =
    let site = see_site c.args.site.now in
    let role = see_role c.args.role in
    let a = subst (λ z. AreChecked site (terms (exprs (map see_expr z))) c.args.breaks.now.found c.arguments.new.breaks.found c.in_ok-exprs.field-0) c.deref.ensures.value c.in_ok-exprs.ensures in
    new_checked site role c.args.at c.args.name.now c.args.actuals.now.at _ c.args.breaks.now.found c.arguments.new.breaks.found c.judge_new-static_type.new.breaks.found c.in_ok-exprs.field-0 c.unwrap_or.result _ a
    (c.unwrap_or.ensures ∙ ap (λ z. unwrap_or z 0) (c.class_named-class.ensures ∙ ap (class_named site.table) c.items.ensures.bytes))
    (c.judge_new-static_type.ensures.typed ∙ ap (λ z. judged site role (NewTyped c.args.name.now (map see_passed z))) c.deref-2.ensures.value)
    (c.judge_new-static_type.ensures.noted ∙ ap (λ z. least c.arguments.new.breaks.found (typed_term_keys site role (NewTyped c.args.name.now (map see_passed z)))) c.deref-2.ensures.value)
    (viewed_new c.unwrap_or.result c.in_ok-exprs.field-0.exprs)
    (doubled_new c.unwrap_or.result c.in_ok-exprs.field-0.exprs)
    refl

pub call_on-judge_on-static_type-requires : goal.call_on-judge_on-static_type-requires
call_on-judge_on-static_type-requires t c = c.target_on-target.ensures ∙ ap (target_on (see_site c.args.site.now) c.args.receiver.static_type) c.items.ensures.bytes

pub call_on-returns : goal.call_on-returns
call_on-returns t c = λ before start h.
    let site = see_site c.args.site.now in
    let role = see_role c.args.role in
    let d = out-Dot c.args.dot.now in
    let x = c.args.receiver in
    let a = subst (λ z. AreChecked site (terms (exprs (map see_expr z))) c.args.breaks.now.found c.arguments.new.breaks.found c.in_ok-exprs.field-0) c.deref.ensures.value c.in_ok-exprs.ensures in
    subst (λ z. IsReceiver site role z start c.judge_on-static_type.new.breaks.found (record { expr = c.in_ok-call_of.field-0; static_type = c.judge_on-static_type.result; is_console = false })) (sym (dot_term c.args.dot.now before))
    (call_checked site role before d.at d.name (out-Actuals d.actuals).at _ start c.args.breaks.now.found c.arguments.new.breaks.found c.judge_on-static_type.new.breaks.found x c.in_ok-exprs.field-0 _ h a
    (c.judge_on-static_type.ensures.typed ∙ ap (λ z. judged site role (typed_call x.is_console x.static_type d.at d.name (map see_passed z))) c.deref-2.ensures.value)
    (c.judge_on-static_type.ensures.noted ∙ ap (λ z. least c.arguments.new.breaks.found (typed_term_keys site role (typed_call x.is_console x.static_type d.at d.name (map see_passed z)))) c.deref-2.ensures.value)
    (c.in_ok-call_of.ensures.built ∙ ap (λ z. call_of site.table z (view_expr x.expr) (expr_list (map view_expr c.in_ok-exprs.field-0.exprs.items))) (c.target_on-target.ensures ∙ ap (target_on site x.static_type) c.items.ensures.bytes))
    c.in_ok-call_of.ensures.flat
    refl)

pub calls_on-each-init : goal.calls_on-each-init
calls_on-each-init t c = λ u o h. h

pub calls_on-each-preserved : goal.calls_on-each-preserved
calls_on-each-preserved t c = λ u o h.
    subst (λ z. IsReceiver (see_site c.args.site.now) Receiver z o c.call_on.new.breaks.found c.in_ok-receiver.receiver) (sym (dots_taken see_dot c.args.calls.now c.each.dot-index c.dot-item.result u c.each-test.true c.dot-item.is))
    (c.in_ok-receiver.ensures (called (dots (map see_dot (take c.each.dot-index c.args.calls.now))) u) o (c.each.invariant u o h))

pub calls_on-returns : goal.calls_on-returns
calls_on-returns t c = λ u o h.
    subst (λ z. IsReceiver (see_site c.args.site.now) Receiver (called (dots (map see_dot z)) u) o c.each.breaks.found c.each.receiver) (take_all c.args.calls.now c.each.dot-index c.each-test.false) (c.each.invariant u o h)

pub arguments-each-init : goal.arguments-each-init
arguments-each-init t c = (moved refl (sym (ap (map view_expr) c.new-exprs.ensures.items)) (sym (ap (map see_passed) c.new-passed.ensures.items)) (none_yet (see_site c.args.site.now) c.args.breaks.now.found), ap (sum_by doubled) c.new-exprs.ensures.items)

pub arguments-returns : goal.arguments-returns
arguments-returns t c =
    are_checked (see_site c.args.site.now) (map see_expr c.args.actuals.now) c.args.breaks.now.found c.each.breaks.found (record { exprs = c.each.exprs; passed = c.each.passed })
    (subst (λ z. AreAll (see_site c.args.site.now) (map see_expr z) c.args.breaks.now.found c.each.breaks.found (map view_expr c.each.exprs.items) (map see_passed c.each.passed.items)) (take_all c.args.actuals.now c.each.actual-index c.each-test.false) c.each.invariant.0)
    c.each.invariant.1

pub arguments-each-preserved : goal.arguments-each-preserved
arguments-each-preserved t c =
    let site = see_site c.args.site.now in
    let xs = c.args.actuals.now in
    let i = c.each.actual-index in
    let m = one_more_checked site (map see_expr (take i xs)) (see_expr c.actual-item.result) c.args.breaks.now.found c.each.breaks.found c.expr.new.breaks.found (map view_expr c.each.exprs.items) (map see_passed c.each.passed.items) c.in_ok-argument.argument c.first_token.result c.each.invariant.0 c.in_ok-argument.ensures c.first_token.ensures in (
      moved (sym (ap (map see_expr) (take_step xs i c.actual-item.result c.each-test.true c.actual-item.is) ∙ map_last see_expr (take i xs) c.actual-item.result))
          (sym (ap (map view_expr) c.in_ok-push.ensures.items ∙ map_last view_expr c.each.exprs.items c.in_ok-argument.argument.expr))
          (sym (ap (map see_passed) c.in_ok-push-2.ensures.items ∙ map_last see_passed c.each.passed.items (record { first = c.first_token.result; static_type = c.in_ok-argument.argument.static_type }))) m,
      same_sum doubled 0 c.each.exprs.items c.push.new.self.items c.in_ok-argument.argument.expr c.in_ok-push.ensures.items c.each.invariant.1 c.in_ok-argument.ensures.flat,
    )
