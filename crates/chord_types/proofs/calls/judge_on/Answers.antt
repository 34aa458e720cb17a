use Rattle.std.proofs.Common.{sym, ap, ◌∙◌, map}
use Rattle.chord_classes.specs.TypedTerms.{typed_call}
use Rattle.chord_classes.specs.AllNotes.{typed_term_keys}
use Rattle.chord_classes.specs.Least.{least}
use Rattle.chord_types.specs.Views.{see_passed, see_role}
use Rattle.chord_types.specs.Sites.{see_site}
use Rattle.chord_types.proofs.calls.judge_on.Goals as goal

pub returns-then-is_console-clause-noted : goal.returns-then-is_console-clause-noted
returns-then-is_console-clause-noted c =
    let site = see_site c.args.site.now in
    c.judge_print.ensures site
    ∙ ap (λ z. least c.args.breaks.now.found (typed_term_keys site (see_role c.args.role) (typed_call z c.args.receiver c.args.dot c.args.name.now (map see_passed c.args.actuals.now)))) (sym c.if-is_console.true)
