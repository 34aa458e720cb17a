use Rattle.std.proofs.Common.{sym, subst}
use Rattle.chord_tree.specs.ViewExprs.{see_dot}
use Rattle.chord_types.specs.Sites.{see_site}
use Rattle.chord_types.specs.Checked.{IsAlone, on_dot}
use Rattle.chord_types.proofs.Oks.{if_ok}
use Rattle.chord_types.proofs.Lists.{dots_last}
use Rattle.chord_types.proofs.plain.first_then.Goals as goal

pub returns-in_ok-receiver-in-Some : goal.returns-in_ok-receiver-in-Some
returns-in_ok-receiver-in-Some c =
    if_ok c.calls_alone.result _ _ (λ r h. λ before start k.
    subst (λ z. IsAlone (see_site c.args.site.now) z start c.calls_alone.new.breaks.found r) (sym (dots_last see_dot c.args.calls.now c.in-Some.front.now c.in-Some.last.now (on_dot before (see_dot c.args.first.now)) c.in-Some.ensures.cases.0))
    (h (on_dot before (see_dot c.args.first.now)) start (c.in_ok-receiver-in-Some.ensures before start k)))
    c.calls_alone.ensures
