use Rattle.std.proofs.Common.{◌≡◌, ◌+◌, [], ◌∷◌, ◌++◌, length, map, drop, sym, ap, ◌∙◌, subst, arith, slice_set, true, false}
use Rattle.std.specs.Prelude.{OnOk}
use Rattle.std.proofs.lemmas.List.{length-set}
use Rattle.chord_bodies.specs.declared.expr.Link.{Link}
use Rattle.chord_bodies.specs.declared.expr.Call.{Call}
use Rattle.chord_bodies.specs.declared.expr.BinaryOperator.TheVariants.{By}
use Rattle.chord_bodies.specs.View.{LinkOf, CallOf, view_expr, view_link, view_call, expr_list, binary, links_on, calls_on}
use Rattle.chord_bodies.specs.Resolved as to
use Rattle.chord_bodies.proofs.Viewed.{viewed_negate, viewed_deny, viewed_chain, viewed_new, viewed_calls, viewed_link, viewed_call}
use Rattle.chord_code.specs.declared.instruction.Instruction.TheVariants as i
use Rattle.chord_gen.specs.Emitted.{expr_code, exprs_code}
use Rattle.chord_gen.specs.Emitting.{IsNarrow, AreNarrow, GoesOnAs, AreNarrowLinks, IsNarrowCall, AreNarrowCalls}
use Rattle.chord_gen.proofs.Patching.{ways_patched}
use Rattle.chord_gen.proofs.Weights.{in_all, expr_size, link_size, call_size, size_negate, size_deny, size_chain, size_new, size_calls, size_link, size_call, one_in_all}
use Rattle.chord_gen.proofs.Emits.{ok_gives, item_step, none_behind, below_more, below_put, count_is, narrow_links, narrow_calls, unary_emitted, new_emitted, call_emitted, operator_emitted, chain_emitted, calls_emitted, argument_emitted}
use Rattle.chord_gen.proofs.expressions.+expressions.Goals as goal

pub expression-expression-requires : goal.expression-expression-requires
expression-expression-requires t c =
    let e = ap expr_size c.in-Negate.is ∙ size_negate c.in-Negate.operand in
    let f = ap expr_size c.deref.ensures in
    (omega arith, subst IsNarrow (ap view_expr c.in-Negate.is ∙ viewed_negate c.in-Negate.operand ∙ ap (λ z. to.Negate (view_expr z)) (sym c.deref.ensures)) c.requires.narrow)

pub expression-expression-requires-in-Deny : goal.expression-expression-requires-in-Deny
expression-expression-requires-in-Deny t c =
    let e = ap expr_size c.in-Deny.is ∙ size_deny c.in-Deny.operand in
    let f = ap expr_size c.deref-in-Deny.ensures in
    (omega arith, subst IsNarrow (ap view_expr c.in-Deny.is ∙ viewed_deny c.in-Deny.operand ∙ ap (λ z. to.Deny (view_expr z)) (sym c.deref-in-Deny.ensures)) c.requires.narrow)

pub expression-expression-requires-in-Chain : goal.expression-expression-requires-in-Chain
expression-expression-requires-in-Chain t c =
    let e = ap expr_size c.in-Chain.is ∙ size_chain c.in-Chain.first c.in-Chain.link c.in-Chain.more in
    let f = ap expr_size c.deref-in-Chain.ensures in
    let n = narrow_links (view_link c.in-Chain.link.value ∷ map view_link c.in-Chain.more.items) (view_expr c.in-Chain.first.value) (subst IsNarrow (ap view_expr c.in-Chain.is ∙ viewed_chain c.in-Chain.first c.in-Chain.link c.in-Chain.more) c.requires.narrow) in
    (omega arith, subst (λ z. IsNarrow (view_expr z)) (sym c.deref-in-Chain.ensures) n.0)

pub expression-operation-requires : goal.expression-operation-requires
expression-operation-requires t c =
    let e = ap expr_size c.in-Chain.is ∙ size_chain c.in-Chain.first c.in-Chain.link c.in-Chain.more in
    let f = ap link_size c.deref-in-Chain-2.ensures in
    let n = narrow_links (view_link c.in-Chain.link.value ∷ map view_link c.in-Chain.more.items) (view_expr c.in-Chain.first.value) (subst IsNarrow (ap view_expr c.in-Chain.is ∙ viewed_chain c.in-Chain.first c.in-Chain.link c.in-Chain.more) c.requires.narrow) in
    (omega arith, subst (λ (z : Link). IsNarrow (view_link z).operand) (sym c.deref-in-Chain-2.ensures) n.1.0)

pub expression-operations-requires : goal.expression-operations-requires
expression-operations-requires t c =
    let e = ap expr_size c.in-Chain.is ∙ size_chain c.in-Chain.first c.in-Chain.link c.in-Chain.more in
    let f = ap (λ z. in_all (map link_size z)) c.deref-in-Chain-3.ensures.value in
    let n = narrow_links (view_link c.in-Chain.link.value ∷ map view_link c.in-Chain.more.items) (view_expr c.in-Chain.first.value) (subst IsNarrow (ap view_expr c.in-Chain.is ∙ viewed_chain c.in-Chain.first c.in-Chain.link c.in-Chain.more) c.requires.narrow) in
    (omega arith, subst (λ z. AreNarrowLinks (map view_link z)) (sym c.deref-in-Chain-3.ensures.value) n.1.1)

pub expression-expressions-requires : goal.expression-expressions-requires
expression-expressions-requires t c =
    let e = ap expr_size c.in-New.is ∙ size_new c.in-New.class c.in-New.arguments in
    let f = ap (λ z. in_all (map expr_size z)) c.deref-in-New.ensures.value in
    let n = subst IsNarrow (ap view_expr c.in-New.is ∙ viewed_new c.in-New.class c.in-New.arguments) c.requires.narrow in
    (omega arith, subst (λ z. AreNarrow (expr_list (map view_expr z))) (sym c.deref-in-New.ensures.value) n.2)

pub expression-overflow_cast-class : goal.expression-overflow_cast-class
expression-overflow_cast-class t c =
    let n = subst IsNarrow (ap view_expr c.in-New.is ∙ viewed_new c.in-New.class c.in-New.arguments) c.requires.narrow in
    let m = n.0 in
    omega (arith, m)

pub expression-overflow_cast-len : goal.expression-overflow_cast-len
expression-overflow_cast-len t c =
    let n = subst IsNarrow (ap view_expr c.in-New.is ∙ viewed_new c.in-New.class c.in-New.arguments) c.requires.narrow in
    let few = n.1 in
    let k = count_is c.in-New.arguments.items in
    let l = c.len.ensures ∙ c.in-New.arguments.ok.0 in
    omega (arith, few, k, l)

pub expression-expression-requires-in-Calls : goal.expression-expression-requires-in-Calls
expression-expression-requires-in-Calls t c =
    let e = ap expr_size c.in-Calls.is ∙ size_calls c.in-Calls.first c.in-Calls.call c.in-Calls.more in
    let f = ap expr_size c.deref-in-Calls.ensures in
    let n = narrow_calls (view_call c.in-Calls.call.value ∷ map view_call c.in-Calls.more.items) (view_expr c.in-Calls.first.value) (subst IsNarrow (ap view_expr c.in-Calls.is ∙ viewed_calls c.in-Calls.first c.in-Calls.call c.in-Calls.more) c.requires.narrow) in
    (omega arith, subst (λ z. IsNarrow (view_expr z)) (sym c.deref-in-Calls.ensures) n.0)

pub expression-method_call-requires : goal.expression-method_call-requires
expression-method_call-requires t c =
    let e = ap expr_size c.in-Calls.is ∙ size_calls c.in-Calls.first c.in-Calls.call c.in-Calls.more in
    let f = ap call_size c.deref-in-Calls-2.ensures in
    let n = narrow_calls (view_call c.in-Calls.call.value ∷ map view_call c.in-Calls.more.items) (view_expr c.in-Calls.first.value) (subst IsNarrow (ap view_expr c.in-Calls.is ∙ viewed_calls c.in-Calls.first c.in-Calls.call c.in-Calls.more) c.requires.narrow) in
    (omega arith, subst (λ (z : Call). IsNarrowCall (view_call z)) (sym c.deref-in-Calls-2.ensures) n.1.0)

pub expression-method_calls-requires : goal.expression-method_calls-requires
expression-method_calls-requires t c =
    let e = ap expr_size c.in-Calls.is ∙ size_calls c.in-Calls.first c.in-Calls.call c.in-Calls.more in
    let f = ap (λ z. in_all (map call_size z)) c.deref-in-Calls-3.ensures.value in
    let n = narrow_calls (view_call c.in-Calls.call.value ∷ map view_call c.in-Calls.more.items) (view_expr c.in-Calls.first.value) (subst IsNarrow (ap view_expr c.in-Calls.is ∙ viewed_calls c.in-Calls.first c.in-Calls.call c.in-Calls.more) c.requires.narrow) in
    (omega arith, subst (λ z. AreNarrowCalls (map view_call z)) (sym c.deref-in-Calls-3.ensures.value) n.1.1)

pub expression-returns-in_ok-expression-in-Negate : goal.expression-returns-in_ok-expression-in-Negate
expression-returns-in_ok-expression-in-Negate t c =
    let base = c.args.code.now.items in
    let same = ap view_expr c.in-Negate.is ∙ viewed_negate c.in-Negate.operand in
    ok_gives c.put-in-Negate.result (c.put-in-Negate.new.code.items ≡ c.expression.new.code.items ++ i.Neg ∷ []) (c.put-in-Negate.new.code.items ≡ c.args.code.now.items ++ expr_code (view_expr c.args.expr.now) (length c.args.code.now.items)) (λ h. unary_emitted base _ _ (view_expr c.args.expr.now) (view_expr c.in-Negate.operand.value) (view_expr c.deref.result.now) i.Neg (ap (λ z. expr_code z (length base)) same) (ap view_expr c.deref.ensures) c.in_ok-expression-in-Negate.ensures h) c.put-in-Negate.ensures.added

pub expression-returns-in_ok-expression-in-Deny : goal.expression-returns-in_ok-expression-in-Deny
expression-returns-in_ok-expression-in-Deny t c =
    let base = c.args.code.now.items in
    let same = ap view_expr c.in-Deny.is ∙ viewed_deny c.in-Deny.operand in
    ok_gives c.put-in-Deny.result (c.put-in-Deny.new.code.items ≡ c.expression-in-Deny.new.code.items ++ i.Not ∷ []) (c.put-in-Deny.new.code.items ≡ c.args.code.now.items ++ expr_code (view_expr c.args.expr.now) (length c.args.code.now.items)) (λ h. unary_emitted base _ _ (view_expr c.args.expr.now) (view_expr c.in-Deny.operand.value) (view_expr c.deref-in-Deny.result.now) i.Not (ap (λ z. expr_code z (length base)) same) (ap view_expr c.deref-in-Deny.ensures) c.in_ok-expression-in-Deny.ensures h) c.put-in-Deny.ensures.added

pub expression-returns-in_ok-operation-in-Chain : goal.expression-returns-in_ok-operation-in-Chain
expression-returns-in_ok-operation-in-Chain t c =
    ok_gives c.operations.result (GoesOnAs (λ e. links_on e (map view_link c.deref-in-Chain-3.result.now)) c.operation.new.code.items c.operations.new.code.items) (c.operations.new.code.items ≡ c.args.code.now.items ++ expr_code (view_expr c.args.expr.now) (length c.args.code.now.items)) (λ h. chain_emitted c.args.code.now.items _ _ _ (view_expr c.args.expr.now) (view_expr c.in-Chain.first.value) (view_expr c.deref-in-Chain.result.now) (view_link c.in-Chain.link.value) (view_link c.deref-in-Chain-2.result.now) (map view_link c.in-Chain.more.items) (map view_link c.deref-in-Chain-3.result.now)
    (ap view_expr c.in-Chain.is ∙ viewed_chain c.in-Chain.first c.in-Chain.link c.in-Chain.more) (ap view_expr c.deref-in-Chain.ensures) (ap view_link c.deref-in-Chain-2.ensures) (ap (map view_link) c.deref-in-Chain-3.ensures.value)
    c.in_ok-expression-in-Chain.ensures c.in_ok-operation-in-Chain.ensures h) c.operations.ensures

pub expression-returns-in_ok-expressions-in-New : goal.expression-returns-in_ok-expressions-in-New
expression-returns-in_ok-expressions-in-New t c =
    let base = c.args.code.now.items in
    let same = ap view_expr c.in-New.is ∙ viewed_new c.in-New.class c.in-New.arguments in
    let count = c.len.ensures ∙ c.in-New.arguments.ok.0 ∙ sym (count_is c.in-New.arguments.items) in
    ok_gives c.put-in-New.result (c.put-in-New.new.code.items ≡ c.expressions.new.code.items ++ i.New c.in-New.class c.len.result ∷ []) (c.put-in-New.new.code.items ≡ c.args.code.now.items ++ expr_code (view_expr c.args.expr.now) (length c.args.code.now.items)) (λ h. new_emitted base _ _ (expr_list (map view_expr c.in-New.arguments.items)) (expr_list (map view_expr c.deref-in-New.result.now)) c.in-New.class c.len.result (ap (λ z. expr_list (map view_expr z)) c.deref-in-New.ensures.value) count c.in_ok-expressions-in-New.ensures h ∙ ap (λ z. base ++ expr_code z (length base)) (sym same)) c.put-in-New.ensures.added

pub expression-returns-in_ok-method_call-in-Calls : goal.expression-returns-in_ok-method_call-in-Calls
expression-returns-in_ok-method_call-in-Calls t c =
    ok_gives c.method_calls.result (GoesOnAs (λ e. calls_on e (map view_call c.deref-in-Calls-3.result.now)) c.method_call.new.code.items c.method_calls.new.code.items) (c.method_calls.new.code.items ≡ c.args.code.now.items ++ expr_code (view_expr c.args.expr.now) (length c.args.code.now.items)) (λ h. calls_emitted c.args.code.now.items _ _ _ (view_expr c.args.expr.now) (view_expr c.in-Calls.first.value) (view_expr c.deref-in-Calls.result.now) (view_call c.in-Calls.call.value) (view_call c.deref-in-Calls-2.result.now) (map view_call c.in-Calls.more.items) (map view_call c.deref-in-Calls-3.result.now)
    (ap view_expr c.in-Calls.is ∙ viewed_calls c.in-Calls.first c.in-Calls.call c.in-Calls.more) (ap view_expr c.deref-in-Calls.ensures) (ap view_call c.deref-in-Calls-2.ensures) (ap (map view_call) c.deref-in-Calls-3.ensures.value)
    c.in_ok-expression-in-Calls.ensures c.in_ok-method_call-in-Calls.ensures h) c.method_calls.ensures

pub expressions-expression-requires : goal.expressions-expression-requires
expressions-expression-requires t c =
    let f = one_in_all expr_size c.args.exprs.now _ _ c.loop-expr-test.true c.expr-item.is in
    let n = subst (λ z. AreNarrow (expr_list (map view_expr z))) (item_step c.args.exprs.now _ _ c.loop-expr-test.true c.expr-item.is) c.loop-expr.invariant.1 in
    (omega arith, n.0)

pub expressions-loop-expr-preserved : goal.expressions-loop-expr-preserved
expressions-loop-expr-preserved t c =
    let step = item_step c.args.exprs.now _ _ c.loop-expr-test.true c.expr-item.is in
    let n = subst (λ z. AreNarrow (expr_list (map view_expr z))) step c.loop-expr.invariant.1 in
    (argument_emitted c.loop-expr.code.items c.expression.new.code.items _ (view_expr c.expr-item.result) (expr_list (map view_expr (drop (c.loop-expr.expr-index + 1) c.args.exprs.now))) (ap (λ z. c.loop-expr.code.items ++ exprs_code (expr_list (map view_expr z)) (length c.loop-expr.code.items)) (sym step) ∙ c.loop-expr.invariant.0) c.in_ok-expression.ensures, n.1)

pub operations-operation-requires : goal.operations-operation-requires
operations-operation-requires t c =
    let f = one_in_all link_size c.args.links.now _ _ c.loop-link-test.true c.link-item.is in
    let n = subst (λ z. AreNarrowLinks (map view_link z)) (item_step c.args.links.now _ _ c.loop-link-test.true c.link-item.is) c.loop-link.invariant.1 in
    (omega arith, n.0)

pub operations-loop-link-preserved : goal.operations-loop-link-preserved
operations-loop-link-preserved t c =
    let step = item_step c.args.links.now _ _ c.loop-link-test.true c.link-item.is in
    let n = subst (λ z. AreNarrowLinks (map view_link z)) step c.loop-link.invariant.1 in
    let l = view_link c.link-item.result in
    (λ after g. c.loop-link.invariant.0 after (λ front e h. subst (λ z. after ≡ front ++ expr_code (links_on e (map view_link z)) (length front)) (sym step) (g front (binary l.operator e l.operand) (c.in_ok-operation.ensures front e h))), n.1)

pub operations-returns : goal.operations-returns
operations-returns t c =
    c.loop-link.invariant.0 _ (λ front e h. subst (λ z. c.loop-link.code.items ≡ front ++ expr_code (links_on e (map view_link z)) (length front)) (sym (none_behind c.args.links.now c.loop-link.link-index c.loop-link-test.false)) h)

pub method_calls-method_call-requires : goal.method_calls-method_call-requires
method_calls-method_call-requires t c =
    let f = one_in_all call_size c.args.calls.now _ _ c.loop-call-test.true c.call-item.is in
    let n = subst (λ z. AreNarrowCalls (map view_call z)) (item_step c.args.calls.now _ _ c.loop-call-test.true c.call-item.is) c.loop-call.invariant.1 in
    (omega arith, n.0)

pub method_calls-loop-call-preserved : goal.method_calls-loop-call-preserved
method_calls-loop-call-preserved t c =
    let step = item_step c.args.calls.now _ _ c.loop-call-test.true c.call-item.is in
    let n = subst (λ z. AreNarrowCalls (map view_call z)) step c.loop-call.invariant.1 in
    let l = view_call c.call-item.result in
    (λ after g. c.loop-call.invariant.0 after (λ front e h. subst (λ z. after ≡ front ++ expr_code (calls_on e (map view_call z)) (length front)) (sym step) (g front (to.Call e l.class l.method l.result l.arguments) (c.in_ok-method_call.ensures front e h))), n.1)

pub method_calls-returns : goal.method_calls-returns
method_calls-returns t c =
    c.loop-call.invariant.0 _ (λ front e h. subst (λ z. c.loop-call.code.items ≡ front ++ expr_code (calls_on e (map view_call z)) (length front)) (sym (none_behind c.args.calls.now c.loop-call.call-index c.loop-call-test.false)) h)

pub method_call-expressions-requires : goal.method_call-expressions-requires
method_call-expressions-requires t c =
    let e = size_call c.args.call.now in
    let f = ap (λ z. in_all (map expr_size z)) c.deref.ensures.value in
    let n = subst IsNarrowCall (viewed_call c.args.call.now) c.requires.narrow in
    (omega arith, subst (λ z. AreNarrow (expr_list (map view_expr z))) (sym c.deref.ensures.value) n.2)

pub method_call-overflow_cast-call : goal.method_call-overflow_cast-call
method_call-overflow_cast-call t c =
    let n = subst IsNarrowCall (viewed_call c.args.call.now) c.requires.narrow in
    let m = n.0 in
    omega (arith, m)

pub method_call-overflow_cast-len : goal.method_call-overflow_cast-len
method_call-overflow_cast-len t c =
    let n = subst IsNarrowCall (viewed_call c.args.call.now) c.requires.narrow in
    let few = n.1 in
    let k = count_is c.args.call.now.arguments.items in
    let l = c.len.ensures ∙ c.args.call.now.arguments.ok.0 in
    omega (arith, few, k, l)

pub method_call-returns : goal.method_call-returns
method_call-returns t c =
    let call = c.args.call.now in
    let args = expr_list (map view_expr call.arguments.items) in
    let count = c.len.ensures ∙ call.arguments.ok.0 ∙ sym (count_is call.arguments.items) in
    subst (λ (z : CallOf). OnOk c.put.result (GoesOnAs (λ receiver. to.Call receiver z.class z.method z.result z.arguments) c.args.code.now.items c.put.new.code.items)) (sym (viewed_call call))
    (ok_gives c.put.result (c.put.new.code.items ≡ c.expressions.new.code.items ++ i.Call call.method c.len.result ∷ []) (GoesOnAs (λ receiver. to.Call receiver call.class call.method call.result args) c.args.code.now.items c.put.new.code.items) (λ h front e k. call_emitted front c.args.code.now.items _ _ e args (expr_list (map view_expr c.deref.result.now)) call.class call.method c.len.result call.result (ap (λ z. expr_list (map view_expr z)) c.deref.ensures.value) count c.in_ok-expressions.ensures h k) c.put.ensures.added)

pub operation-right_of_and-requires : goal.operation-right_of_and-requires
operation-right_of_and-requires t c = let e = size_link c.args.link.now in (omega arith, subst (λ (z : LinkOf). IsNarrow z.operand) (viewed_link c.args.link.now) c.requires.narrow)

pub operation-right_of_or-requires : goal.operation-right_of_or-requires
operation-right_of_or-requires t c = let e = size_link c.args.link.now in (omega arith, subst (λ (z : LinkOf). IsNarrow z.operand) (viewed_link c.args.link.now) c.requires.narrow)

pub operation-expression-requires : goal.operation-expression-requires
operation-expression-requires t c = let e = size_link c.args.link.now in (omega arith, subst (λ (z : LinkOf). IsNarrow z.operand) (viewed_link c.args.link.now) c.requires.narrow)

pub operation-returns-in-And : goal.operation-returns-in-And
operation-returns-in-And t c =
    let link = c.args.link.now in
    subst (λ (z : LinkOf). OnOk c.right_of_and.result (GoesOnAs (λ left. binary z.operator left z.operand) c.args.code.now.items c.right_of_and.new.code.items)) (sym (viewed_link link))
    (subst (λ o. OnOk c.right_of_and.result (GoesOnAs (λ left. binary o left (view_expr link.operand)) c.args.code.now.items c.right_of_and.new.code.items)) (sym c.in-And.is) c.right_of_and.ensures)

pub operation-returns-in-Or : goal.operation-returns-in-Or
operation-returns-in-Or t c =
    let link = c.args.link.now in
    subst (λ (z : LinkOf). OnOk c.right_of_or.result (GoesOnAs (λ left. binary z.operator left z.operand) c.args.code.now.items c.right_of_or.new.code.items)) (sym (viewed_link link))
    (subst (λ o. OnOk c.right_of_or.result (GoesOnAs (λ left. binary o left (view_expr link.operand)) c.args.code.now.items c.right_of_or.new.code.items)) (sym c.in-Or.is) c.right_of_or.ensures)

pub operation-returns-in_ok-expression-in-By : goal.operation-returns-in_ok-expression-in-By
operation-returns-in_ok-expression-in-By t c =
    let link = c.args.link.now in
    subst (λ (z : LinkOf). OnOk c.put.result (GoesOnAs (λ left. binary z.operator left z.operand) c.args.code.now.items c.put.new.code.items)) (sym (viewed_link link))
    (subst (λ o. OnOk c.put.result (GoesOnAs (λ left. binary o left (view_expr link.operand)) c.args.code.now.items c.put.new.code.items)) (sym c.in-By.is)
    (ok_gives c.put.result (c.put.new.code.items ≡ c.expression.new.code.items ++ c.instruction_of.result ∷ []) (GoesOnAs (λ left. binary (By c.in-By.operation) left (view_expr link.operand)) c.args.code.now.items c.put.new.code.items) (λ h front e k. operator_emitted front c.args.code.now.items _ _ e (view_expr link.operand) c.in-By.operation c.instruction_of.result c.instruction_of.ensures c.in_ok-expression-in-By.ensures h k) c.put.ensures.added))

pub right_of_and-expression-requires : goal.right_of_and-expression-requires
right_of_and-expression-requires t c = (omega arith, c.requires.narrow)

pub right_of_and-patch-requires : goal.right_of_and-patch-requires
right_of_and-patch-requires t c =
    below_more _ _ _ _ c.in_ok-put-3.ensures.added (below_more _ _ _ _ c.in_ok-put-2.ensures.added (below_more _ _ _ _ c.in_ok-expression.ensures (below_put _ _ _ _ c.in_ok-test.ensures.place c.in_ok-put.ensures.added)))

pub right_of_and-patch-requires-2 : goal.right_of_and-patch-requires-2
right_of_and-patch-requires-2 t c =
    let l = below_more _ _ _ _ c.in_ok-put-3.ensures.added (below_put _ _ _ _ c.in_ok-done.ensures.place c.in_ok-put-2.ensures.added) in
    let m = ap length c.patch.ensures ∙ length-set c.put-3.new.code.items c.in_ok-test.test (i.Skip c.in_ok-other.other) in
    omega (arith, l, m)

pub right_of_and-returns : goal.right_of_and-returns
right_of_and-returns t c =
    λ front e h.
    c.patch-2.ensures ∙ ap (λ z. slice_set z c.in_ok-done.done (i.Jump c.in_ok-end.end)) c.patch.ensures
    ∙ ways_patched front (expr_code e (length front)) (expr_code (view_expr c.args.right.now)) (λ b. i.Flag false ∷ []) _ _ _ _ _ _ _ _ _ _ _ h c.in_ok-test.ensures.place c.in_ok-put.ensures.added c.in_ok-expression.ensures c.in_ok-done.ensures.place c.in_ok-put-2.ensures.added c.in_ok-other.ensures.place c.in_ok-put-3.ensures.added c.in_ok-end.ensures.place

pub right_of_or-expression-requires : goal.right_of_or-expression-requires
right_of_or-expression-requires t c = (omega arith, c.requires.narrow)

pub right_of_or-patch-requires : goal.right_of_or-patch-requires
right_of_or-patch-requires t c =
    below_more _ _ _ _ c.in_ok-expression.ensures (below_more _ _ _ _ c.in_ok-put-3.ensures.added (below_more _ _ _ _ c.in_ok-put-2.ensures.added (below_put _ _ _ _ c.in_ok-test.ensures.place c.in_ok-put.ensures.added)))

pub right_of_or-patch-requires-2 : goal.right_of_or-patch-requires-2
right_of_or-patch-requires-2 t c =
    let l = below_more _ _ _ _ c.in_ok-expression.ensures (below_put _ _ _ _ c.in_ok-done.ensures.place c.in_ok-put-3.ensures.added) in
    let m = ap length c.patch.ensures ∙ length-set c.expression.new.code.items c.in_ok-test.test (i.Skip c.in_ok-other.other) in
    omega (arith, l, m)

pub right_of_or-returns : goal.right_of_or-returns
right_of_or-returns t c =
    λ front e h.
    c.patch-2.ensures ∙ ap (λ z. slice_set z c.in_ok-done.done (i.Jump c.in_ok-end.end)) c.patch.ensures
    ∙ ways_patched front (expr_code e (length front)) (λ b. i.Flag true ∷ []) (expr_code (view_expr c.args.right.now)) _ _ _ _ _ _ _ _ _ _ _ h c.in_ok-test.ensures.place c.in_ok-put.ensures.added c.in_ok-put-2.ensures.added c.in_ok-done.ensures.place c.in_ok-put-3.ensures.added c.in_ok-other.ensures.place c.in_ok-expression.ensures c.in_ok-end.ensures.place
