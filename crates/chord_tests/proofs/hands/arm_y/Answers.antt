use Rattle.std.proofs.Common.{[], Some}
use Rattle.chord_rule.specs.Made.{key}
use Rattle.chord_space.specs.Desks.{view}
use Rattle.chord_tests.specs.Pairs.{first_object, sent_both}
use Rattle.chord_tests.proofs.ByHand.{holds_armed}
use Rattle.chord_tests.proofs.hands.arm_y.Goals as goal

pub returns-clause-armed : goal.returns-clause-armed
returns-clause-armed c = holds_armed (view c.args.desk.now) (view c.arm.new.desk) sent_both [] 3 (key first_object 1) (Some 3) _ c.requires.desk.1 c.requires.desk.2 c.arm.ensures.armed
