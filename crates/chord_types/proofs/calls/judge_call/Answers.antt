use Rattle.std.proofs.Common.{sym, ap, ◌∙◌, option_map, map}
use Rattle.chord_classes.specs.Table.{formal_types}
use Rattle.chord_classes.specs.Least.{least}
use Rattle.chord_types.specs.Views.{see_role, see_target, see_passed}
use Rattle.chord_types.specs.Sites.{see_site}
use Rattle.chord_types.specs.CallKeys.{call_keys}
use Rattle.chord_types.proofs.CallNotes.{called_noted}
use Rattle.chord_types.proofs.calls.judge_call.Goals as goal

pub returns-in-Some-clause-noted : goal.returns-in-Some-clause-noted
returns-in-Some-clause-noted c =
    called_noted (see_site c.args.site.now) (see_role c.args.role) (see_target c.in-Some.target) c.args.at (map see_passed c.args.actuals.now) c.args.breaks.now.found c.fit_counted-fitting.new.breaks.found c.note_if.new.self.found c.note_if-in-Some.new.self.found c.note_if-in-Some-2.new.self.found
    (formal_types c.as_slice-formals.result.now) c.may_reach-reached.result c.is_used.result c.is_valueless.result c.counts-counted.result
    c.fit_counted-fitting.ensures.noted c.note_if.ensures c.note_if-in-Some.ensures c.note_if-in-Some-2.ensures (ap formal_types c.as_slice-formals.ensures.value) c.may_reach-reached.ensures c.is_used.ensures c.is_valueless.ensures c.counts-counted.ensures
    ∙ ap (λ z. least c.args.breaks.now.found (call_keys (see_site c.args.site.now) (see_role c.args.role) z c.args.at (map see_passed c.args.actuals.now))) (sym (ap (option_map see_target) c.in-Some.is))
