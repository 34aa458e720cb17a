use Rattle.std.proofs.Common.{◌≡◌, ◌≢◌, ◌∙◌, None, Some, sym, subst}
use Rattle.std.specs.Box.{with_value}
use Rattle.std.proofs.lemmas.Result.{IfOk-weaker}
use Rattle.chord_code.specs.Machine.{ComesToAsk}
use Rattle.chord_vm.specs.Frames.{machine_of, what_of_ask, Advanced}
use Rattle.chord_vm.specs.declared.frames.Frames.{Frames}
use Rattle.chord_vm.specs.declared.ask.Ask.{Ask}
use Rattle.chord_task.specs.Turning.{HasCome}
use Rattle.chord_task.proofs.Turning.{ask_put, with_body, with_frames, runs_to_ask}
use Rattle.chord_task.proofs.Coming.{came_run}
use Rattle.chord_task.proofs.task.Task.run_to_ask.Goals as goal

pub advance_to-requires : goal.advance_to-requires
advance_to-requires c =
    record {
      sound =
          subst (λ (f : Frames). ComesToAsk c.args.code.now (machine_of f)) (sym c.deref_mut.ensures.value)
          (runs_to_ask c.args.code.now c.args.limits.now c.args.self.now c.in-Some.body c.requires.task c.requires.runs c.in-Some.is);
    }

pub returns-clause-some : goal.returns-clause-some
returns-clause-some c =
    IfOk-weaker c.advance_to.result (λ _. (a : Ask) × (c.advance_to.new.asked ≡ Some a) × Advanced c.args.code.now (machine_of c.deref_mut.result.now) a c.advance_to.new.frames) (λ _. c.advance_to.new.asked ≢ None)
    (λ _ x e. let z : None ≡ Some x.0 = sym e ∙ x.1 in cc) c.advance_to.ensures.asked

pub returns-clause-came : goal.returns-clause-came
returns-clause-came c =
    let code = c.args.code.now in
    let t = c.args.self.now in
    let f = with_value c.in-Some.body.frames c.advance_to.new.frames in
    IfOk-weaker c.advance_to.result (λ _. (a : Ask) × (c.advance_to.new.asked ≡ Some a) × Advanced code (machine_of c.deref_mut.result.now) a c.advance_to.new.frames)
    (λ _. (a : Ask) → c.advance_to.new.asked ≡ Some a → HasCome code c.args.limits.now t (with_body t (with_frames c.in-Some.body f)) (what_of_ask a))
    (λ _ x a e.
    came_run code c.args.limits.now t c.in-Some.body f a c.requires.task c.requires.runs c.in-Some.is
    (subst (λ (f : Frames). Advanced code (machine_of f) a c.advance_to.new.frames) c.deref_mut.ensures.value (ask_put code (machine_of c.deref_mut.result.now) c.advance_to.new.asked c.advance_to.new.frames x a e))) c.advance_to.ensures.asked
