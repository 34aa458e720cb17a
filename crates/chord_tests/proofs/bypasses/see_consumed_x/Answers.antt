use Rattle.std.proofs.Common.{Some, ap, ◌∙◌}
use Rattle.chord_rule.specs.Made.{key}
use Rattle.chord_space.specs.Desks.{view}
use Rattle.chord_tests.specs.Pairs.{first_object}
use Rattle.chord_tests.proofs.Bypassing.{went_past_x}
use Rattle.chord_tests.proofs.bypasses.see_consumed_x.Goals as goal

pub returns-in-None-clause-past : goal.returns-in-None-clause-past
returns-in-None-clause-past c =
    let head = c.look_head.ensures.looked in let at = c.in-Some-eq2.is ∙ ap Some c.in-Some-eq2.field-0-test in
    went_past_x (view c.args.desk.now) (view c.look_head.new.desk) (view c.look_cell-word.new.desk) (key first_object 0) head.linked c.look_head.result c.look_cell-word.result at head.is c.look_cell-word.ensures.looked.looked c.in-Consumed.is c.in-None.is
