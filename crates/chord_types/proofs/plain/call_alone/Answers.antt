use Rattle.std.proofs.Common.{map, cond, sym, ap, subst, ◌∙◌}
use Rattle.chord_tree.specs.declared.exprs.Dot.{out-Dot}
use Rattle.chord_tree.specs.declared.exprs.Actuals.{out-Actuals}
use Rattle.chord_tree.specs.Tree.{exprs}
use Rattle.chord_tree.specs.Terms.{terms}
use Rattle.chord_tree.specs.Walk.{Alone}
use Rattle.chord_tree.specs.ViewExprs.{see_expr}
use Rattle.chord_bodies.specs.Resolved as to
use Rattle.chord_bodies.specs.View.{view_expr, expr_list}
use Rattle.chord_classes.specs.TypedTerms.{typed_call, target_on}
use Rattle.chord_classes.specs.Resolve.{done, printed}
use Rattle.chord_classes.specs.Least.{least}
use Rattle.chord_classes.specs.AllNotes.{typed_term_keys}
use Rattle.chord_types.specs.Views.{see_passed}
use Rattle.chord_types.specs.Sites.{see_site}
use Rattle.chord_types.specs.Checked.{AreChecked, IsAlone}
use Rattle.chord_types.proofs.Oks.{if_both}
use Rattle.chord_types.proofs.Terms.{dot_term}
use Rattle.chord_types.proofs.PlainStmts.{on_alone}
use Rattle.chord_types.proofs.plain.call_alone.Goals as goal

pub judge_on-requires : goal.judge_on-requires
judge_on-requires c = c.target_on-target.ensures ∙ ap (target_on (see_site c.args.site.now) c.args.receiver.static_type) c.items.ensures.bytes

pub returns : goal.returns
returns c =
    let site = see_site c.args.site.now in
    let d = out-Dot c.args.dot.now in
    let x = c.args.receiver in
    let a = subst (λ z. AreChecked site (terms (exprs (map see_expr z))) c.args.breaks.now.found c.arguments.new.breaks.found c.in_ok-exprs.field-0) c.deref.ensures.value c.in_ok-exprs.ensures in
    if_both c.ended.result _ _ _ (λ r v f. λ before start h.
    subst (λ z. IsAlone site z start c.judge_on.new.breaks.found r) (sym (dot_term c.args.dot.now before))
    (on_alone site before d.at d.name (out-Actuals d.actuals).at _ start c.args.breaks.now.found c.arguments.new.breaks.found c.judge_on.new.breaks.found x c.in_ok-exprs.field-0 r h a
    (c.judge_on.ensures.noted ∙ ap (λ z. least c.arguments.new.breaks.found (typed_term_keys site Alone (typed_call x.is_console x.static_type d.at d.name (map see_passed z)))) c.deref-2.ensures.value)
    (v ∙ ap (λ z. cond x.is_console (to.Print (printed (expr_list (map view_expr c.in_ok-exprs.field-0.exprs.items)))) (done site.table z (view_expr x.expr) (expr_list (map view_expr c.in_ok-exprs.field-0.exprs.items)))) (c.target_on-target.ensures ∙ ap (target_on site x.static_type) c.items.ensures.bytes))
    f))
    c.ended.ensures.built c.ended.ensures.flat
