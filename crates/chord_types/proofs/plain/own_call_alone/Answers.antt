use Rattle.std.proofs.Common.{map, option_map, ap, subst, ◌∙◌}
use Rattle.std.specs.Prelude.{sum_by}
use Rattle.chord_tree.specs.Tree.{exprs}
use Rattle.chord_tree.specs.Terms.{terms}
use Rattle.chord_tree.specs.Walk.{Alone}
use Rattle.chord_tree.specs.ViewExprs.{see_expr}
use Rattle.chord_bodies.specs.View.{view_expr, expr_list}
use Rattle.chord_bodies.proofs.Viewed.{viewed_this}
use Rattle.chord_classes.specs.TypedTerms.{own_target}
use Rattle.chord_classes.specs.Resolve.{done}
use Rattle.chord_classes.specs.Least.{least}
use Rattle.chord_types.specs.Views.{see_passed, see_target}
use Rattle.chord_types.specs.Sites.{see_site}
use Rattle.chord_types.specs.CallKeys.{call_keys}
use Rattle.chord_types.specs.Checked.{AreChecked}
use Rattle.chord_types.specs.Flat.{doubled, doubled_stmt}
use Rattle.chord_types.proofs.Oks.{if_both}
use Rattle.chord_types.proofs.Doubled.{beside_this}
use Rattle.chord_types.proofs.PlainStmts.{own_alone}
use Rattle.chord_types.proofs.plain.own_call_alone.Goals as goal

pub returns : goal.returns
returns c =
    let site = see_site c.args.site.now in
    let a = subst (λ z. AreChecked site (terms (exprs (map see_expr z))) c.args.breaks.now.found c.arguments.new.breaks.found c.in_ok-exprs.field-0) c.deref.ensures.value c.in_ok-exprs.ensures in
    if_both c.done.result _ _ _ (λ r h f.
    own_alone site c.args.name.now c.args.actuals.now.at _ c.args.breaks.now.found c.arguments.new.breaks.found c.judge_call.new.breaks.found c.in_ok-exprs.field-0 (option_map see_target c.own_target-target.result) r a
    (c.own_target-target.ensures ∙ ap (own_target site) c.items.ensures.bytes)
    (c.judge_call.ensures.noted ∙ ap (λ z. least c.arguments.new.breaks.found (call_keys site Alone (option_map see_target c.own_target-target.result) c.args.name.now.at (map see_passed z))) c.deref-2.ensures.value)
    (h ∙ ap (λ z. done site.table (option_map see_target c.own_target-target.result) z (expr_list (map view_expr c.in_ok-exprs.field-0.exprs.items))) viewed_this)
    (beside_this (doubled_stmt r) (sum_by doubled c.in_ok-exprs.field-0.exprs.items) f))
    c.done.ensures.built c.done.ensures.flat
