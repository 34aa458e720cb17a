use Rattle.std.proofs.Common.{◌≡◌, ◌+◌, [], ◌∷◌, ◌++◌, length, map, drop, sym, ap, ◌∙◌, subst, arith, slice_set}
use Rattle.std.specs.Prelude.{OnOk}
use Rattle.std.proofs.lemmas.List.{length-set}
use Rattle.chord_bodies.specs.View.{view_expr, view_stmt, expr_list, stmt_list}
use Rattle.chord_bodies.specs.Resolved as to
use Rattle.chord_bodies.proofs.Viewed.{viewed_store, viewed_do, viewed_send, viewed_print, viewed_if, viewed_if_else, viewed_while, viewed_return, viewed_give, viewed_block}
use Rattle.chord_code.specs.declared.instruction.Instruction.TheVariants as i
use Rattle.chord_gen.specs.Emitted.{expr_code, stmt_code, stmts_code}
use Rattle.chord_gen.specs.Emitting.{AreNarrow, IsNarrowStmt, AreNarrowStmts}
use Rattle.chord_gen.proofs.Patching.{ways_patched, way_patched, loop_patched}
use Rattle.chord_gen.proofs.Weights.{in_all, stmt_size, size_if, size_if_else, size_while, size_block, one_in_all}
use Rattle.chord_gen.proofs.Emits.{ok_gives, item_step, below_more, below_put, count_is, one_more_emitted, send_emitted, statement_emitted}
use Rattle.chord_gen.proofs.statements.+statements.Goals as goal

pub statement-expression-requires : goal.statement-expression-requires
statement-expression-requires t c =
    record { narrow = subst IsNarrowStmt (ap view_stmt c.in-Store.is ∙ viewed_store c.in-Store.slot c.in-Store.value) c.requires.narrow }

pub statement-returns-in_ok-expression-in-Store : goal.statement-returns-in_ok-expression-in-Store
statement-returns-in_ok-expression-in-Store t c =
    let base = c.args.code.now.items in
    ok_gives c.put.result (c.put.new.code.items ≡ c.expression.new.code.items ++ i.Store c.in-Store.slot ∷ []) (c.put.new.code.items ≡ base ++ stmt_code c.args.builder (view_stmt c.args.stmt.now) (length base))
    (λ h. one_more_emitted base c.expression.new.code.items c.put.new.code.items (expr_code (view_expr c.in-Store.value) (length base)) (i.Store c.in-Store.slot) c.in_ok-expression-in-Store.ensures h ∙ ap (λ z. base ++ stmt_code c.args.builder z (length base)) (sym (ap view_stmt c.in-Store.is ∙ viewed_store c.in-Store.slot c.in-Store.value))) c.put.ensures.added

pub statement-expression-requires-in-Do : goal.statement-expression-requires-in-Do
statement-expression-requires-in-Do t c =
    record { narrow = subst IsNarrowStmt (ap view_stmt c.in-Do.is ∙ viewed_do c.in-Do.value) c.requires.narrow }

pub statement-returns-in_ok-expression-in-Do : goal.statement-returns-in_ok-expression-in-Do
statement-returns-in_ok-expression-in-Do t c =
    let base = c.args.code.now.items in
    ok_gives c.put-in-Do.result (c.put-in-Do.new.code.items ≡ c.expression-in-Do.new.code.items ++ i.Drop ∷ []) (c.put-in-Do.new.code.items ≡ base ++ stmt_code c.args.builder (view_stmt c.args.stmt.now) (length base))
    (λ h. one_more_emitted base c.expression-in-Do.new.code.items c.put-in-Do.new.code.items (expr_code (view_expr c.in-Do.value) (length base)) (i.Drop) c.in_ok-expression-in-Do.ensures h ∙ ap (λ z. base ++ stmt_code c.args.builder z (length base)) (sym (ap view_stmt c.in-Do.is ∙ viewed_do c.in-Do.value))) c.put-in-Do.ensures.added

pub statement-expression-requires-in-Print : goal.statement-expression-requires-in-Print
statement-expression-requires-in-Print t c =
    record { narrow = subst IsNarrowStmt (ap view_stmt c.in-Print.is ∙ viewed_print c.in-Print.value) c.requires.narrow }

pub statement-returns-in_ok-expression-in-Print : goal.statement-returns-in_ok-expression-in-Print
statement-returns-in_ok-expression-in-Print t c =
    let base = c.args.code.now.items in
    ok_gives c.put-in-Print.result (c.put-in-Print.new.code.items ≡ c.expression-in-Print.new.code.items ++ i.Print ∷ []) (c.put-in-Print.new.code.items ≡ base ++ stmt_code c.args.builder (view_stmt c.args.stmt.now) (length base))
    (λ h. one_more_emitted base c.expression-in-Print.new.code.items c.put-in-Print.new.code.items (expr_code (view_expr c.in-Print.value) (length base)) (i.Print) c.in_ok-expression-in-Print.ensures h ∙ ap (λ z. base ++ stmt_code c.args.builder z (length base)) (sym (ap view_stmt c.in-Print.is ∙ viewed_print c.in-Print.value))) c.put-in-Print.ensures.added

pub statement-expression-requires-in-Give : goal.statement-expression-requires-in-Give
statement-expression-requires-in-Give t c =
    record { narrow = subst IsNarrowStmt (ap view_stmt c.in-Give.is ∙ viewed_give c.in-Give.value) c.requires.narrow }

pub statement-returns-in_ok-expression-in-Give : goal.statement-returns-in_ok-expression-in-Give
statement-returns-in_ok-expression-in-Give t c =
    let base = c.args.code.now.items in
    ok_gives c.put-in-Give.result (c.put-in-Give.new.code.items ≡ c.expression-in-Give.new.code.items ++ i.Endv ∷ []) (c.put-in-Give.new.code.items ≡ base ++ stmt_code c.args.builder (view_stmt c.args.stmt.now) (length base))
    (λ h. one_more_emitted base c.expression-in-Give.new.code.items c.put-in-Give.new.code.items (expr_code (view_expr c.in-Give.value) (length base)) (i.Endv) c.in_ok-expression-in-Give.ensures h ∙ ap (λ z. base ++ stmt_code c.args.builder z (length base)) (sym (ap view_stmt c.in-Give.is ∙ viewed_give c.in-Give.value))) c.put-in-Give.ensures.added

pub statement-expression-requires-in-Send : goal.statement-expression-requires-in-Send
statement-expression-requires-in-Send t c =
    record { narrow = (subst IsNarrowStmt (ap view_stmt c.in-Send.is ∙ viewed_send c.in-Send.receiver c.in-Send.class c.in-Send.method c.in-Send.arguments) c.requires.narrow).2 }

pub statement-expressions-requires : goal.statement-expressions-requires
statement-expressions-requires t c =
    record { narrow = subst (λ z. AreNarrow (expr_list (map view_expr z))) (sym c.deref.ensures.value) (subst IsNarrowStmt (ap view_stmt c.in-Send.is ∙ viewed_send c.in-Send.receiver c.in-Send.class c.in-Send.method c.in-Send.arguments) c.requires.narrow).3 }

pub statement-overflow_cast-method : goal.statement-overflow_cast-method
statement-overflow_cast-method t c =
    let m = (subst IsNarrowStmt (ap view_stmt c.in-Send.is ∙ viewed_send c.in-Send.receiver c.in-Send.class c.in-Send.method c.in-Send.arguments) c.requires.narrow).0 in
    omega (arith, m)

pub statement-overflow_cast-len : goal.statement-overflow_cast-len
statement-overflow_cast-len t c =
    let few = (subst IsNarrowStmt (ap view_stmt c.in-Send.is ∙ viewed_send c.in-Send.receiver c.in-Send.class c.in-Send.method c.in-Send.arguments) c.requires.narrow).1 in
    let k = count_is c.in-Send.arguments.items in
    let l = c.len.ensures ∙ c.in-Send.arguments.ok.0 in
    omega (arith, few, k, l)

pub statement-returns-in_ok-expressions-in-Send : goal.statement-returns-in_ok-expressions-in-Send
statement-returns-in_ok-expressions-in-Send t c =
    let base = c.args.code.now.items in
    let count = c.len.ensures ∙ c.in-Send.arguments.ok.0 ∙ sym (count_is c.in-Send.arguments.items) in
    ok_gives c.put-in-Send.result (c.put-in-Send.new.code.items ≡ c.expressions.new.code.items ++ i.Send c.in-Send.method c.len.result ∷ []) (c.put-in-Send.new.code.items ≡ base ++ stmt_code c.args.builder (view_stmt c.args.stmt.now) (length base))
    (λ h. send_emitted base c.expression-in-Send.new.code.items c.expressions.new.code.items c.put-in-Send.new.code.items (view_expr c.in-Send.receiver) (expr_list (map view_expr c.in-Send.arguments.items)) (expr_list (map view_expr c.deref.result.now)) c.in-Send.class c.in-Send.method c.len.result c.args.builder (ap (λ z. expr_list (map view_expr z)) c.deref.ensures.value) count c.in_ok-expression-in-Send.ensures c.in_ok-expressions-in-Send.ensures h
    ∙ ap (λ z. base ++ stmt_code c.args.builder z (length base)) (sym (ap view_stmt c.in-Send.is ∙ viewed_send c.in-Send.receiver c.in-Send.class c.in-Send.method c.in-Send.arguments))) c.put-in-Send.ensures.added

pub statement-if_then-requires : goal.statement-if_then-requires
statement-if_then-requires t c =
    let e = ap stmt_size c.in-If.is ∙ size_if c.in-If.test c.in-If.first in
    let f = ap stmt_size c.deref-in-If.ensures in
    (omega arith, subst IsNarrowStmt (ap view_stmt c.in-If.is ∙ viewed_if c.in-If.test c.in-If.first ∙ ap (λ z. to.IfThen (view_expr c.in-If.test) (view_stmt z)) (sym c.deref-in-If.ensures)) c.requires.narrow)

pub statement-returns-in-If : goal.statement-returns-in-If
statement-returns-in-If t c =
    subst (λ z. OnOk c.if_then.result (c.if_then.new.code.items ≡ c.args.code.now.items ++ stmt_code c.args.builder z (length c.args.code.now.items))) (sym (ap view_stmt c.in-If.is ∙ viewed_if c.in-If.test c.in-If.first ∙ ap (λ z. to.IfThen (view_expr c.in-If.test) (view_stmt z)) (sym c.deref-in-If.ensures))) c.if_then.ensures

pub statement-if_else-requires : goal.statement-if_else-requires
statement-if_else-requires t c =
    let e = ap stmt_size c.in-IfElse.is ∙ size_if_else c.in-IfElse.test c.in-IfElse.first c.in-IfElse.second in
    let f = ap stmt_size c.deref-in-IfElse.ensures in
    let g = ap stmt_size c.deref-in-IfElse-2.ensures in
    let n = subst IsNarrowStmt (ap view_stmt c.in-IfElse.is ∙ viewed_if_else c.in-IfElse.test c.in-IfElse.first c.in-IfElse.second ∙ ap (λ z. to.IfElse (view_expr c.in-IfElse.test) (view_stmt z) (view_stmt c.in-IfElse.second.value)) (sym c.deref-in-IfElse.ensures) ∙ ap (λ z. to.IfElse (view_expr c.in-IfElse.test) (view_stmt c.deref-in-IfElse.result.now) (view_stmt z)) (sym c.deref-in-IfElse-2.ensures)) c.requires.narrow in
    (omega arith, (n.0, (n.1, n.2)))

pub statement-returns-in-IfElse : goal.statement-returns-in-IfElse
statement-returns-in-IfElse t c =
    subst (λ z. OnOk c.if_else.result (c.if_else.new.code.items ≡ c.args.code.now.items ++ stmt_code c.args.builder z (length c.args.code.now.items))) (sym (ap view_stmt c.in-IfElse.is ∙ viewed_if_else c.in-IfElse.test c.in-IfElse.first c.in-IfElse.second ∙ ap (λ z. to.IfElse (view_expr c.in-IfElse.test) (view_stmt z) (view_stmt c.in-IfElse.second.value)) (sym c.deref-in-IfElse.ensures) ∙ ap (λ z. to.IfElse (view_expr c.in-IfElse.test) (view_stmt c.deref-in-IfElse.result.now) (view_stmt z)) (sym c.deref-in-IfElse-2.ensures))) c.if_else.ensures

pub statement-while_loop-requires : goal.statement-while_loop-requires
statement-while_loop-requires t c =
    let e = ap stmt_size c.in-While.is ∙ size_while c.in-While.test c.in-While.body in
    let f = ap stmt_size c.deref-in-While.ensures in
    (omega arith, subst IsNarrowStmt (ap view_stmt c.in-While.is ∙ viewed_while c.in-While.test c.in-While.body ∙ ap (λ z. to.While (view_expr c.in-While.test) (view_stmt z)) (sym c.deref-in-While.ensures)) c.requires.narrow)

pub statement-returns-in-While : goal.statement-returns-in-While
statement-returns-in-While t c =
    subst (λ z. OnOk c.while_loop.result (c.while_loop.new.code.items ≡ c.args.code.now.items ++ stmt_code c.args.builder z (length c.args.code.now.items))) (sym (ap view_stmt c.in-While.is ∙ viewed_while c.in-While.test c.in-While.body ∙ ap (λ z. to.While (view_expr c.in-While.test) (view_stmt z)) (sym c.deref-in-While.ensures))) c.while_loop.ensures

pub statement-returns-in-Return : goal.statement-returns-in-Return
statement-returns-in-Return t c =
    let base = c.args.code.now.items in
    ok_gives c.put-in-Return.result (c.put-in-Return.new.code.items ≡ base ++ c.return_instruction.result ∷ []) (c.put-in-Return.new.code.items ≡ base ++ stmt_code c.args.builder (view_stmt c.args.stmt.now) (length base))
    (λ h. h ∙ ap (λ x. base ++ x ∷ []) c.return_instruction.ensures ∙ ap (λ z. base ++ stmt_code c.args.builder z (length base)) (sym (ap view_stmt c.in-Return.is ∙ viewed_return))) c.put-in-Return.ensures.added

pub statement-statements-requires : goal.statement-statements-requires
statement-statements-requires t c =
    let e = ap stmt_size c.in-Block.is ∙ size_block c.in-Block.stmts in
    let f = ap (λ z. in_all (map stmt_size z)) c.deref-in-Block.ensures.value in
    (omega arith, subst IsNarrowStmt (ap view_stmt c.in-Block.is ∙ viewed_block c.in-Block.stmts ∙ ap (λ z. to.Block (stmt_list (map view_stmt z))) (sym c.deref-in-Block.ensures.value)) c.requires.narrow)

pub statement-returns-in-Block : goal.statement-returns-in-Block
statement-returns-in-Block t c =
    subst (λ z. OnOk c.statements.result (c.statements.new.code.items ≡ c.args.code.now.items ++ stmt_code c.args.builder z (length c.args.code.now.items))) (sym (ap view_stmt c.in-Block.is ∙ viewed_block c.in-Block.stmts ∙ ap (λ z. to.Block (stmt_list (map view_stmt z))) (sym c.deref-in-Block.ensures.value))) c.statements.ensures

pub statements-statement-requires : goal.statements-statement-requires
statements-statement-requires t c =
    let f = one_in_all stmt_size c.args.stmts.now _ _ c.loop-stmt-test.true c.stmt-item.is in
    let n = subst (λ z. AreNarrowStmts (stmt_list (map view_stmt z))) (item_step c.args.stmts.now _ _ c.loop-stmt-test.true c.stmt-item.is) c.loop-stmt.invariant.1 in
    (omega arith, n.0)

pub statements-loop-stmt-preserved : goal.statements-loop-stmt-preserved
statements-loop-stmt-preserved t c =
    let step = item_step c.args.stmts.now _ _ c.loop-stmt-test.true c.stmt-item.is in
    let n = subst (λ z. AreNarrowStmts (stmt_list (map view_stmt z))) step c.loop-stmt.invariant.1 in
    (statement_emitted c.args.builder c.loop-stmt.code.items c.statement.new.code.items _ (view_stmt c.stmt-item.result) (stmt_list (map view_stmt (drop (c.loop-stmt.stmt-index + 1) c.args.stmts.now))) (ap (λ z. c.loop-stmt.code.items ++ stmts_code c.args.builder (stmt_list (map view_stmt z)) (length c.loop-stmt.code.items)) (sym step) ∙ c.loop-stmt.invariant.0) c.in_ok-statement.ensures, n.1)

pub if_then-expression-requires : goal.if_then-expression-requires
if_then-expression-requires t c =
    record { narrow = c.requires.test }

pub if_then-statement-requires : goal.if_then-statement-requires
if_then-statement-requires t c =
    (omega arith, c.requires.first)

pub if_then-patch-requires : goal.if_then-patch-requires
if_then-patch-requires t c =
    below_more _ _ _ _ c.in_ok-statement.ensures (below_put _ _ _ _ c.in_ok-skip.ensures.place c.in_ok-put.ensures.added)

pub if_then-returns : goal.if_then-returns
if_then-returns t c =
    let base = c.args.code.now.items in
    c.patch.ensures ∙ way_patched base (expr_code (view_expr c.args.test.now) (length base)) (stmt_code c.args.builder (view_stmt c.args.first.now)) _ _ _ _ _ _ c.in_ok-expression.ensures c.in_ok-skip.ensures.place c.in_ok-put.ensures.added c.in_ok-statement.ensures c.in_ok-end.ensures.place

pub if_else-expression-requires : goal.if_else-expression-requires
if_else-expression-requires t c =
    record { narrow = c.requires.test }

pub if_else-statement-requires : goal.if_else-statement-requires
if_else-statement-requires t c =
    (omega arith, c.requires.first)

pub if_else-statement-requires-2 : goal.if_else-statement-requires-2
if_else-statement-requires-2 t c =
    (omega arith, c.requires.second)

pub if_else-patch-requires : goal.if_else-patch-requires
if_else-patch-requires t c =
    below_more _ _ _ _ c.in_ok-statement-2.ensures (below_more _ _ _ _ c.in_ok-put-2.ensures.added (below_more _ _ _ _ c.in_ok-statement.ensures (below_put _ _ _ _ c.in_ok-skip.ensures.place c.in_ok-put.ensures.added)))

pub if_else-patch-requires-2 : goal.if_else-patch-requires-2
if_else-patch-requires-2 t c =
    let l = below_more _ _ _ _ c.in_ok-statement-2.ensures (below_put _ _ _ _ c.in_ok-done.ensures.place c.in_ok-put-2.ensures.added) in
    let m = ap length c.patch.ensures ∙ length-set c.statement-2.new.code.items c.in_ok-skip.skip (i.Skip c.in_ok-other.other) in
    omega (arith, l, m)

pub if_else-returns : goal.if_else-returns
if_else-returns t c =
    let base = c.args.code.now.items in
    c.patch-2.ensures ∙ ap (λ z. slice_set z c.in_ok-done.done (i.Jump c.in_ok-end.end)) c.patch.ensures
    ∙ ways_patched base (expr_code (view_expr c.args.test.now) (length base)) (stmt_code c.args.builder (view_stmt c.args.first.now)) (stmt_code c.args.builder (view_stmt c.args.second.now)) _ _ _ _ _ _ _ _ _ _ _ c.in_ok-expression.ensures c.in_ok-skip.ensures.place c.in_ok-put.ensures.added c.in_ok-statement.ensures c.in_ok-done.ensures.place c.in_ok-put-2.ensures.added c.in_ok-other.ensures.place c.in_ok-statement-2.ensures c.in_ok-end.ensures.place

pub while_loop-statement-requires : goal.while_loop-statement-requires
while_loop-statement-requires t c =
    (omega arith, c.requires.body)

pub while_loop-patch-requires : goal.while_loop-patch-requires
while_loop-patch-requires t c =
    below_more _ _ _ _ c.in_ok-statement.ensures (below_put _ _ _ _ c.in_ok-jump.ensures.place c.in_ok-put.ensures.added)

pub while_loop-expression-requires : goal.while_loop-expression-requires
while_loop-expression-requires t c =
    record { narrow = c.requires.test }

pub while_loop-returns : goal.while_loop-returns
while_loop-returns t c =
    let base = c.args.code.now.items in
    ok_gives c.put-2.result (c.put-2.new.code.items ≡ c.expression.new.code.items ++ i.Again c.in_ok-round.round ∷ []) (c.put-2.new.code.items ≡ base ++ stmt_code c.args.builder (to.While (view_expr c.args.test.now) (view_stmt c.args.body.now)) (length base))
    (λ h. h ∙ loop_patched base (expr_code (view_expr c.args.test.now)) (stmt_code c.args.builder (view_stmt c.args.body.now)) _ _ _ _ _ _ _ _ c.in_ok-jump.ensures.place c.in_ok-put.ensures.added c.in_ok-round.ensures.place c.in_ok-statement.ensures c.in_ok-place.ensures.place c.patch.ensures c.in_ok-expression.ensures) c.put-2.ensures.added
