use Rattle.std.specs.Prelude.{◌≡◌, Some}
use Rattle.std.proofs.lemmas.Result.{IfOk-weaker}
use Rattle.chord_code.specs.Meaning.{code_program}
use Rattle.chord_vm.specs.Frames.{what_of_ask}
use Rattle.chord_task.specs.Stacks.{IsNext}
use Rattle.chord_task.specs.Standing.{IsTaskOf, view_of, given_of}
use Rattle.chord_task.proofs.Asking.{may_run, task_asked, view_asked}
use Rattle.chord_task.proofs.task.Task.ask.Goals as goal

pub come_to_ask-requires : goal.come_to_ask-requires
come_to_ask-requires c = may_run c.args.code.now c.args.limits.now c.args.self.now c.in-Some.body c.requires.task c.in-Some.is c.requires.left

pub returns-clause-task : goal.returns-clause-task
returns-clause-task c =
    let b = c.in-Some.body in
    let b' = c.come_to_ask.new.body in
    let t = c.args.self.now in
    IfOk-weaker c.given.result (λ ask. given_of b'.next ≡ Some (what_of_ask ask)) (λ _. IsTaskOf c.args.code.now c.args.limits.now (record { past = t.past; top = Some b'; below = t.below; spare = t.spare; ended = t.ended; values = t.values; limits = t.limits; enclosed = t.enclosed }))
    (λ ask gave. task_asked c.args.code.now c.args.limits.now t b b' (what_of_ask ask) c.requires.task c.in-Some.is c.in_ok-come_to_ask-in-Some.ensures gave) c.given.ensures

pub returns-clause-next : goal.returns-clause-next
returns-clause-next c =
    let b = c.in-Some.body in
    let b' = c.come_to_ask.new.body in
    let t = c.args.self.now in
    IfOk-weaker c.given.result (λ ask. given_of b'.next ≡ Some (what_of_ask ask)) (λ ask. IsNext (code_program c.args.code.now c.args.limits.now) (view_of t) (what_of_ask ask))
    (λ ask gave. view_asked c.args.code.now c.args.limits.now t b b' (what_of_ask ask) c.requires.task c.in-Some.is c.in_ok-come_to_ask-in-Some.ensures gave) c.given.ensures
