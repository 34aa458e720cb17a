use Rattle.std.proofs.Common.{map, refl, sym, ap, ◌∙◌}
use Rattle.std.specs.Prelude.{sum_by}
use Rattle.chord_tree.specs.Tree.{AssignStmt, MethodCallStmt, ThisCallStmt, NewStmt, CallStmt, EmptyStmt, ReturnStmt, ReturnValueStmt, dots}
use Rattle.chord_tree.specs.ViewExprs.{see_expr, see_actuals, see_dot}
use Rattle.chord_tree.specs.ViewStmts.{see_stmt}
use Rattle.chord_tree.proofs.SeenStmts.{seen_stmt_assign, seen_stmt_call, seen_stmt_through, seen_stmt_this, seen_stmt_new, seen_stmt_empty, seen_stmt_return, seen_stmt_return_value}
use Rattle.chord_bodies.specs.declared.stmt.Stmt.TheVariants as stmt
use Rattle.chord_bodies.specs.Resolved as to
use Rattle.chord_bodies.specs.View.{view_stmt, stmt_list}
use Rattle.chord_bodies.proofs.Viewed.{viewed_block}
use Rattle.chord_types.specs.Flat.{doubled_stmt}
use Rattle.chord_types.proofs.Oks.{if_ok}
use Rattle.chord_types.proofs.Items.{seen_plain}
use Rattle.chord_types.proofs.Doubled.{doubled_block}
use Rattle.chord_types.proofs.plain.plain_stmt.Goals as goal

pub returns-in-Assign : goal.returns-in-Assign
returns-in-Assign c =
    if_ok c.assign.result _ _ (λ r h. seen_plain c.args.site.now (see_stmt c.args.stmt.now) (AssignStmt c.in-Assign.name c.in-Assign.at (see_expr c.in-Assign.value)) c.args.breaks.now.found c.assign.new.breaks.found r (ap see_stmt c.in-Assign.is ∙ seen_stmt_assign c.in-Assign.name c.in-Assign.at c.in-Assign.value) refl h) c.assign.ensures

pub returns-in-Call : goal.returns-in-Call
returns-in-Call c =
    if_ok c.call.result _ _ (λ r h. seen_plain c.args.site.now (see_stmt c.args.stmt.now) (CallStmt c.in-Call.name (see_actuals c.in-Call.actuals) (dots (map see_dot c.deref.result.now))) c.args.breaks.now.found c.call.new.breaks.found r (ap see_stmt c.in-Call.is ∙ seen_stmt_call c.in-Call.name c.in-Call.actuals c.in-Call.calls ∙ ap (λ z. CallStmt c.in-Call.name (see_actuals c.in-Call.actuals) (dots (map see_dot z))) (sym c.deref.ensures.value)) refl h) c.call.ensures

pub returns-in-MethodCall : goal.returns-in-MethodCall
returns-in-MethodCall c =
    if_ok c.method_call.result _ _ (λ r h. seen_plain c.args.site.now (see_stmt c.args.stmt.now) (MethodCallStmt c.in-MethodCall.name (see_dot c.in-MethodCall.first) (dots (map see_dot c.deref-in-MethodCall.result.now))) c.args.breaks.now.found c.method_call.new.breaks.found r (ap see_stmt c.in-MethodCall.is ∙ seen_stmt_through c.in-MethodCall.name c.in-MethodCall.first c.in-MethodCall.calls ∙ ap (λ z. MethodCallStmt c.in-MethodCall.name (see_dot c.in-MethodCall.first) (dots (map see_dot z))) (sym c.deref-in-MethodCall.ensures.value)) refl h) c.method_call.ensures

pub returns-in-ThisCall : goal.returns-in-ThisCall
returns-in-ThisCall c =
    if_ok c.this_call.result _ _ (λ r h. seen_plain c.args.site.now (see_stmt c.args.stmt.now) (ThisCallStmt c.in-ThisCall.at (see_dot c.in-ThisCall.first) (dots (map see_dot c.deref-in-ThisCall.result.now))) c.args.breaks.now.found c.this_call.new.breaks.found r (ap see_stmt c.in-ThisCall.is ∙ seen_stmt_this c.in-ThisCall.at c.in-ThisCall.first c.in-ThisCall.calls ∙ ap (λ z. ThisCallStmt c.in-ThisCall.at (see_dot c.in-ThisCall.first) (dots (map see_dot z))) (sym c.deref-in-ThisCall.ensures.value)) refl h) c.this_call.ensures

pub returns-in-New : goal.returns-in-New
returns-in-New c =
    if_ok c.new_alone.result _ _ (λ r h. seen_plain c.args.site.now (see_stmt c.args.stmt.now) (NewStmt c.in-New.at c.in-New.name (see_actuals c.in-New.actuals) (dots (map see_dot c.deref-in-New.result.now))) c.args.breaks.now.found c.new_alone.new.breaks.found r (ap see_stmt c.in-New.is ∙ seen_stmt_new c.in-New.at c.in-New.name c.in-New.actuals c.in-New.calls ∙ ap (λ z. NewStmt c.in-New.at c.in-New.name (see_actuals c.in-New.actuals) (dots (map see_dot z))) (sym c.deref-in-New.ensures.value)) refl h) c.new_alone.ensures

pub returns-in-ReturnValue : goal.returns-in-ReturnValue
returns-in-ReturnValue c =
    if_ok c.return_value.result _ _ (λ r h. seen_plain c.args.site.now (see_stmt c.args.stmt.now) (ReturnValueStmt c.in-ReturnValue.at (see_expr c.in-ReturnValue.value)) c.args.breaks.now.found c.return_value.new.breaks.found r (ap see_stmt c.in-ReturnValue.is ∙ seen_stmt_return_value c.in-ReturnValue.at c.in-ReturnValue.value) refl h) c.return_value.ensures

pub returns-in-Empty : goal.returns-in-Empty
returns-in-Empty c =
    seen_plain c.args.site.now (see_stmt c.args.stmt.now) EmptyStmt c.args.breaks.now.found c.args.breaks.now.found (stmt.Block c.new.result) (ap see_stmt c.in-Empty.is ∙ seen_stmt_empty) refl
    (record { built = λ e. viewed_block c.new.result ∙ ap (λ z. to.Block (stmt_list (map view_stmt z))) c.new.ensures.items; noted = refl; flat = doubled_block c.new.result ∙ ap (sum_by doubled_stmt) c.new.ensures.items })

pub returns-in-Return : goal.returns-in-Return
returns-in-Return c =
    seen_plain c.args.site.now (see_stmt c.args.stmt.now) (ReturnStmt c.in-Return.at) c.args.breaks.now.found c.return_nothing.new.breaks.found c.return_nothing.result (ap see_stmt c.in-Return.is ∙ seen_stmt_return c.in-Return.at) refl c.return_nothing.ensures
