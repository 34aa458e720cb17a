use Rattle.std.proofs.Common.{◌∙◌}
use Rattle.chord_task.proofs.Tasks.{task_encloses}
use Rattle.chord_task.proofs.parcel.packed.Goals as goal

pub returns-clause-keeps : goal.returns-clause-keeps
returns-clause-keeps c =
    (c.requires.twice, rw (c.deref_mut.ensures.value ∙ c.task.view_is) (task_encloses _ _ c.args.task _ c.requires.task, c.requires.left))
