use Rattle.std.proofs.Common.{◌≡◌, true, false, sym, ap, ◌∙◌, subst, Option}
use Rattle.chord_task.specs.declared.task.Task.{Task}
use Rattle.chord_task.specs.Standing.{body_may_go, body_number, is_ready_of}
use Rattle.chord_worker.specs.Resting.{IsInMemory, MayContinue}
use Rattle.chord_worker.proofs.Memory.{task_done}
use Rattle.chord_worker.proofs.worker.Worker.settle.Goals as goal

pub returns-then-is_ready-clause-settled : goal.returns-then-is_ready-clause-settled
returns-then-is_ready-clause-settled c = λ code limits kept spent m.
    let goes = ap is_ready_of (sym (c.deref.ensures ∙ c.task.view_is)) ∙ sym c.is_ready.ensures ∙ c.if-is_ready.true in (
      subst (λ (x : Option Task). IsInMemory code limits kept spent x) (sym c.put_task.ensures) m,
      subst MayContinue (sym c.put_task.ensures) goes,
    )

pub returns-clause-settled : goal.returns-clause-settled
returns-clause-settled c = λ code limits kept spent m.
    let over = ap is_ready_of (sym (c.deref.ensures ∙ c.task.view_is)) ∙ sym c.is_ready.ensures ∙ c.if-is_ready.false in
    let none = c.retire.ensures.same.1 ∙ c.requires.none in (
      subst (λ (x : Option Task). IsInMemory code limits kept spent x) (sym none) (task_done code limits kept spent c.args.task m over),
      subst MayContinue (sym none) tt,
    )

pub returns-then-is_ready-clause-serves : goal.returns-then-is_ready-clause-serves
returns-then-is_ready-clause-serves c = λ _ top.
    let goes = ap is_ready_of (sym (c.deref.ensures ∙ c.task.view_is)) ∙ sym c.is_ready.ensures ∙ c.if-is_ready.true in
    let z : true ≡ false = sym goes ∙ ap body_may_go top in
    absurd (cc)

pub returns-clause-serves : goal.returns-clause-serves
returns-clause-serves c = λ none top. c.retire.ensures.serves none (ap body_number top)
