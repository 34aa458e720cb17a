use Rattle.std.proofs.Common.{sym, refl, subst}
use Rattle.chord_task.specs.Standing.{IsTaskOf}
use Rattle.chord_task.proofs.Resuming.{task_roomier}
use Rattle.chord_task.proofs.task.Task.reserve.Goals as goal

pub take_room-requires-clause-spare : goal.take_room-requires-clause-spare
take_room-requires-clause-spare c = c.requires.task.1.kept

pub take_room-requires-clause-values : goal.take_room-requires-clause-values
take_room-requires-clause-values c = c.requires.task.1.kept_values

pub returns-clause-task : goal.returns-clause-task
returns-clause-task c = λ limits k.
    let s = c.take_room.new.self in
    let e = c.take_room.ensures in
    subst (λ l. IsTaskOf c.args.code.now limits (record { past = s.past; top = s.top; below = s.below; spare = s.spare; ended = s.ended; values = s.values; limits = l; enclosed = s.enclosed })) (sym e.limits)
    (task_roomier c.args.code.now limits c.args.self.now s.past s.below c.args.self.now.top s.top s.spare s.ended s.values s.enclosed refl k c.requires.left e.past e.below e.top e.spare e.values)
