use Rattle.std.proofs.Common.{map, sym, subst}
use Rattle.chord_tree.specs.declared.exprs.Actuals.{out-Actuals}
use Rattle.chord_tree.specs.Tree.{exprs, dots}
use Rattle.chord_tree.specs.Terms.{terms, called, OwnCallTerm}
use Rattle.chord_tree.specs.ViewExprs.{see_expr, see_dot, see_actuals}
use Rattle.chord_tree.proofs.SeenExprs.{seen_actuals}
use Rattle.chord_tree.proofs.Words.{length_zero}
use Rattle.chord_types.specs.Sites.{see_site}
use Rattle.chord_types.specs.Checked.{IsAlone}
use Rattle.chord_types.proofs.Oks.{if_ok}
use Rattle.chord_types.proofs.Lists.{dots_last}
use Rattle.chord_types.proofs.PlainStmts.{call_plain}
use Rattle.chord_types.proofs.plain.call.Goals as goal

pub returns-in_ok-receiver-in-Some : goal.returns-in_ok-receiver-in-Some
returns-in_ok-receiver-in-Some c =
    let site = see_site c.args.site.now in
    let begin = OwnCallTerm c.args.name.now (out-Actuals c.args.actuals.now).at (terms (exprs (map see_expr (out-Actuals c.args.actuals.now).arguments.items))) in
    if_ok c.calls_alone.result _ _ (λ r h.
    call_plain site c.args.name.now (see_actuals c.args.actuals.now) (dots (map see_dot c.args.calls.now)) _ _ c.args.breaks.now.found c.calls_alone.new.breaks.found r (seen_actuals c.args.actuals.now)
    (subst (λ z. IsAlone site z c.args.breaks.now.found c.calls_alone.new.breaks.found r) (sym (dots_last see_dot c.args.calls.now c.in-Some.front.now c.in-Some.last.now begin c.in-Some.ensures.cases.0))
    (h begin c.args.breaks.now.found c.in_ok-receiver-in-Some.ensures)))
    c.calls_alone.ensures

pub returns-in-None : goal.returns-in-None
returns-in-None c =
    let site = see_site c.args.site.now in
    let begin = OwnCallTerm c.args.name.now (out-Actuals c.args.actuals.now).at (terms (exprs (map see_expr (out-Actuals c.args.actuals.now).arguments.items))) in
    if_ok c.own_call_alone.result _ _ (λ r h.
    call_plain site c.args.name.now (see_actuals c.args.actuals.now) (dots (map see_dot c.args.calls.now)) _ _ c.args.breaks.now.found c.own_call_alone.new.breaks.found r (seen_actuals c.args.actuals.now)
    (subst (λ z. IsAlone site (called (dots (map see_dot z)) begin) c.args.breaks.now.found c.own_call_alone.new.breaks.found r) (sym (length_zero _ c.in-None.ensures.cases)) h))
    c.own_call_alone.ensures
