use Rattle.std.proofs.Common.{Some, refl}
use Rattle.std.proofs.lemmas.Result.{IfOk-weaker}
use Rattle.chord_task.specs.Standing.{IsTaskOf, AskedBody}
use Rattle.chord_task.proofs.Asking.{may_run, task_asked, asked_gives}
use Rattle.chord_task.proofs.task.Task.prepare.Goals as goal

pub come_to_ask-requires : goal.come_to_ask-requires
come_to_ask-requires c = may_run c.args.code.now c.args.limits.now c.args.self.now c.in-Some.body c.requires.task c.in-Some.is c.requires.left

pub returns-clause-task : goal.returns-clause-task
returns-clause-task c =
    let b = c.in-Some.body in
    let b' = c.come_to_ask.new.body in
    let t = c.args.self.now in
    IfOk-weaker c.come_to_ask.result (λ _. AskedBody c.args.code.now b b') (λ _. IsTaskOf c.args.code.now c.args.limits.now (record { past = t.past; top = Some b'; below = t.below; spare = t.spare; ended = t.ended; values = t.values; limits = t.limits; enclosed = t.enclosed }))
    (λ _ a.
    let w = asked_gives c.args.code.now b b' b.next refl a.by in
    task_asked c.args.code.now c.args.limits.now t b b' w.0 c.requires.task c.in-Some.is a w.1) c.come_to_ask.ensures
