use Rattle.std.proofs.Common.{map}
use Rattle.chord_classes.specs.Table.{formal_types}
use Rattle.chord_types.specs.Views.{see_passed}
use Rattle.chord_types.specs.Sites.{see_site}
use Rattle.chord_types.proofs.CallNotes.{built_noted}
use Rattle.chord_types.proofs.calls.judge_built.Goals as goal

pub returns-clause-noted : goal.returns-clause-noted
returns-clause-noted c =
    built_noted (see_site c.args.site.now) c.args.class c.args.at (map see_passed c.args.actuals.now) c.args.breaks.now.found c.fit_counted-fitting.new.breaks.found c.note_if.new.self.found c.note_if-2.new.self.found
    (formal_types c.class_formals-formals.result.now) c.may_build-reached.result c.counts-counted.result
    c.fit_counted-fitting.ensures.noted c.note_if.ensures c.note_if-2.ensures c.class_formals-formals.ensures c.may_build-reached.ensures c.counts-counted.ensures
