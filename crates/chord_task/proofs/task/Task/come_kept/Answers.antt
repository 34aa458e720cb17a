use Rattle.chord_vm.specs.Frames.{what_of_ask}
use Rattle.chord_task.proofs.Coming.{keeps_ask, came_kept}
use Rattle.chord_task.proofs.task.Task.come_kept.Goals as goal

pub take_kept-requires : goal.take_kept-requires
take_kept-requires c = keeps_ask c.args.code.now c.args.limits.now c.prepare.new.self c.in-Some.body c.in_ok-prepare.ensures.task c.in-Some.is c.in_ok-prepare.ensures.gave

pub returns-clause-came : goal.returns-clause-came
returns-clause-came c = λ a e. came_kept c.args.code.now c.args.limits.now c.args.self.now c.prepare.new.self c.in-Some.body c.take_kept.new.next (what_of_ask a) c.take_kept.ensures.runs c.in_ok-prepare.ensures.task c.in_ok-prepare.ensures.same c.prepare.ensures.past c.in-Some.is (c.take_kept.ensures.asked a e)
