use Rattle.chord_task.proofs.Tasks.{renewed_task}
use Rattle.chord_task.proofs.task.Task.renew.Goals as goal

pub returns-clause-task : goal.returns-clause-task
returns-clause-task c = λ code limits k. renewed_task code limits c.args.self.now c.none.result c.requires.over c.none.ensures k
