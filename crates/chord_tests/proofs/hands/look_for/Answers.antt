use Rattle.chord_space.specs.Desks.{view, program_of}
use Rattle.chord_tests.proofs.ByHand.{duty_by_find, same_by_find}
use Rattle.chord_tests.proofs.hands.look_for.Goals as goal

pub returns-clause-same : goal.returns-clause-same
returns-clause-same c = same_by_find (program_of c.args.space.now) c.args.space.now.events (view c.args.desk.now) (view c.find-found.new.desk) c.args.m c.args.object c.args.method c.find-found.new.members c.find-found.new.nexts c.find-found.result c.find-found.ensures.finding

pub returns-clause-duty : goal.returns-clause-duty
returns-clause-duty c = duty_by_find (program_of c.args.space.now) c.args.space.now.events (view c.args.desk.now) (view c.find-found.new.desk) c.args.m c.args.object c.args.method c.find-found.new.members c.find-found.new.nexts c.find-found.result c.requires.duty c.find-found.ensures.finding
