use Rattle.std.proofs.Common.{false, sym, ap, ◌∙◌}
use Rattle.chord_tree.specs.declared.exprs.OwnCall.{out-OwnCall}
use Rattle.chord_tree.specs.declared.exprs.Creation.{out-Creation}
use Rattle.chord_tree.specs.Tree.{CallStart, NewStart}
use Rattle.chord_tree.specs.Terms.{started, first_token}
use Rattle.chord_tree.specs.ViewExprs.{see_start, see_own_call, see_creation}
use Rattle.chord_tree.proofs.SeenExprs.{seen_actuals, seen_start_call, seen_own_call, seen_start_new, seen_creation}
use Rattle.chord_tree.proofs.exprs.Start.first_token.Goals as goal

pub returns-in-Call : goal.returns-in-Call
returns-in-Call c =
    let call = out-OwnCall c.deref.result.now in
    sym (ap (λ z. first_token (started z false)) (ap see_start c.in-Call.is ∙ seen_start_call c.in-Call.call ∙ ap see_own_call (sym c.deref.ensures) ∙ seen_own_call c.deref.result.now ∙ ap (CallStart call.name) (seen_actuals call.actuals)))

pub returns-in-New : goal.returns-in-New
returns-in-New c =
    let creation = out-Creation c.deref-in-New.result.now in
    sym (ap (λ z. first_token (started z false)) (ap see_start c.in-New.is ∙ seen_start_new c.in-New.creation ∙ ap see_creation (sym c.deref-in-New.ensures) ∙ seen_creation c.deref-in-New.result.now ∙ ap (NewStart creation.at creation.name) (seen_actuals creation.actuals)))
