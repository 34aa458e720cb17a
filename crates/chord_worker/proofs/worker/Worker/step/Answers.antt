use Rattle.std.proofs.Common.{◌≡◌, Some, sym, ap, ◌∙◌, subst}
use Rattle.chord_space.specs.Desks.{view, space_limits}
use Rattle.chord_code.specs.declared.parts.Parts.{Parts}
use Rattle.chord_base.specs.declared.event.Limits.{Limits}
use Rattle.chord_task.specs.Standing.{view_of}
use Rattle.chord_task.specs.Turning.{HasCome}
use Rattle.chord_vm.specs.Frames.{what_of_ask}
use Rattle.chord_worker.proofs.Given.{some_ask, stocked_rest}
use Rattle.std.proofs.lemmas.Result.{IfOk-weaker}
use Rattle.chord_task.specs.declared.task.Task.{Task}
use Rattle.chord_worker.specs.Stepping.{HasGoneOn, PlaysNext}
use Rattle.chord_worker.proofs.Drawn.{drew_alike}
use Rattle.chord_worker.proofs.Stepping.{gone_on, plays_next}
use Rattle.chord_worker.proofs.worker.Worker.step.Goals as goal

pub play-played-requires-clause-came : goal.play-played-requires-clause-came
play-played-requires-clause-came g c = λ a e.
    let s = c.args.space.now in
    let w = c.args.self.now in
    let came = rw (c.deref_mut.ensures.value ∙ c.task.view_is) at c.in_ok-come-in-Some.ensures.came a e in (
      c.in-Some.task,
      subst (λ (p : Parts). HasCome p (space_limits s) c.in-Some.task c.come.new.self (what_of_ask a)) (sym c.requires.code.0)
          (subst (λ (l : Limits). HasCome c.args.code.now l c.in-Some.task c.come.new.self (what_of_ask a)) (sym c.requires.code.1) came),
      stocked_rest s w c.in-Some.task w.spare c.requires.rest (sym c.take.ensures.value ∙ c.in-Some.is) c.requires.rest.stock,
    )

pub returns-clause-went : goal.returns-clause-went
returns-clause-went g c =
    IfOk-weaker c.play-played.result (λ _. HasGoneOn (view c.args.self.now.desk).kept c.come.new.self c.play-played.new.self)
    (λ _. (t : Task) → c.args.self.now.task ≡ Some t → HasGoneOn (view c.args.self.now.desk).kept t c.play-played.new.self)
    (λ _ went t e.
    let same : Some c.in-Some.task ≡ Some t = sym (sym c.take.ensures.value ∙ c.in-Some.is) ∙ e in
    let k : c.in-Some.task ≡ t = cc in
    let a = some_ask c.come.new.asked c.in_ok-come-in-Some.ensures.some in
    let came = rw (c.deref_mut.ensures.value ∙ c.task.view_is) at c.in_ok-come-in-Some.ensures.came a.0 a.1 in
    gone_on (view c.args.self.now.desk).kept t c.come.new.self c.play-played.new.self (came.view ∙ ap view_of k) went) c.play-played.ensures.went

pub returns-clause-plays : goal.returns-clause-plays
returns-clause-plays g c =
    IfOk-weaker c.play-played.result (λ _. PlaysNext g.G.Gate.knows (view c.args.self.now.desk).kept c.come.new.self c.play-played.new.self)
    (λ _. (t : Task) → c.args.self.now.task ≡ Some t → PlaysNext g.G.Gate.knows (view c.args.self.now.desk).kept t c.play-played.new.self)
    (λ _ plays t e.
    let same : Some c.in-Some.task ≡ Some t = sym (sym c.take.ensures.value ∙ c.in-Some.is) ∙ e in
    let k : c.in-Some.task ≡ t = cc in
    let a = some_ask c.come.new.asked c.in_ok-come-in-Some.ensures.some in
    let came = rw (c.deref_mut.ensures.value ∙ c.task.view_is) at c.in_ok-come-in-Some.ensures.came a.0 a.1 in
    plays_next g.G.Gate.knows (view c.args.self.now.desk).kept t c.come.new.self c.play-played.new.self (came.view ∙ ap view_of k) plays) c.play-played.ensures.plays

pub returns-clause-drew : goal.returns-clause-drew
returns-clause-drew g c = λ t e.
    let same : Some c.in-Some.task ≡ Some t = sym (sym c.take.ensures.value ∙ c.in-Some.is) ∙ e in
    let k : c.in-Some.task ≡ t = cc in
    let a = some_ask c.come.new.asked c.in_ok-come-in-Some.ensures.some in
    let came = rw (c.deref_mut.ensures.value ∙ c.task.view_is) at c.in_ok-come-in-Some.ensures.came a.0 a.1 in
    drew_alike (view c.args.self.now.desk).draws (view c.play-played.new.self.desk).draws t c.come.new.self (came.view ∙ ap view_of k) c.play-played.ensures.drew
