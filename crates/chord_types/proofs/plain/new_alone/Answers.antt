use Rattle.std.proofs.Common.{map, sym, subst}
use Rattle.chord_tree.specs.declared.exprs.Actuals.{out-Actuals}
use Rattle.chord_tree.specs.Tree.{exprs, dots}
use Rattle.chord_tree.specs.Terms.{terms, called, NewTerm}
use Rattle.chord_tree.specs.ViewExprs.{see_expr, see_dot, see_actuals}
use Rattle.chord_tree.proofs.SeenExprs.{seen_actuals}
use Rattle.chord_tree.proofs.Words.{length_zero}
use Rattle.chord_bodies.specs.declared.stmt.Stmt.TheVariants as stmt
use Rattle.chord_bodies.proofs.Viewed.{viewed_do}
use Rattle.chord_types.specs.Sites.{see_site}
use Rattle.chord_types.specs.Checked.{IsAlone}
use Rattle.chord_types.proofs.Oks.{if_ok}
use Rattle.chord_types.proofs.Lists.{dots_last}
use Rattle.chord_types.proofs.Doubled.{doubled_do}
use Rattle.chord_types.proofs.PlainStmts.{new_plain, new_ends}
use Rattle.chord_types.proofs.plain.new_alone.Goals as goal

pub returns-in_ok-receiver-in-Some : goal.returns-in_ok-receiver-in-Some
returns-in_ok-receiver-in-Some c =
    let site = see_site c.args.site.now in
    let begin = NewTerm c.args.at c.args.name.now (out-Actuals c.args.actuals.now).at (terms (exprs (map see_expr (out-Actuals c.args.actuals.now).arguments.items))) in
    if_ok c.calls_alone.result _ _ (λ r h.
    new_plain site c.args.at c.args.name.now (see_actuals c.args.actuals.now) (dots (map see_dot c.args.calls.now)) _ _ c.args.breaks.now.found c.calls_alone.new.breaks.found r (seen_actuals c.args.actuals.now)
    (subst (λ z. IsAlone site z c.args.breaks.now.found c.calls_alone.new.breaks.found r) (sym (dots_last see_dot c.args.calls.now c.in-Some.front.now c.in-Some.last.now begin c.in-Some.ensures.cases.0))
    (h begin c.args.breaks.now.found c.in_ok-receiver-in-Some.ensures)))
    c.calls_alone.ensures

pub returns-in_ok-object-in-None : goal.returns-in_ok-object-in-None
returns-in_ok-object-in-None c =
    let site = see_site c.args.site.now in
    let begin = NewTerm c.args.at c.args.name.now (out-Actuals c.args.actuals.now).at (terms (exprs (map see_expr (out-Actuals c.args.actuals.now).arguments.items))) in
    new_plain site c.args.at c.args.name.now (see_actuals c.args.actuals.now) (dots (map see_dot c.args.calls.now)) _ _ c.args.breaks.now.found c.new_object.new.breaks.found (stmt.Do c.in_ok-object-in-None.object.expr) (seen_actuals c.args.actuals.now)
    (subst (λ z. IsAlone site (called (dots (map see_dot z)) begin) c.args.breaks.now.found c.new_object.new.breaks.found (stmt.Do c.in_ok-object-in-None.object.expr)) (sym (length_zero _ c.in-None.ensures.cases))
    (new_ends site c.args.at c.args.name.now _ _ c.args.breaks.now.found c.new_object.new.breaks.found c.in_ok-object-in-None.object (stmt.Do c.in_ok-object-in-None.object.expr) c.in_ok-object-in-None.ensures (viewed_do c.in_ok-object-in-None.object.expr) (doubled_do c.in_ok-object-in-None.object.expr)))
