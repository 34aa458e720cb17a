use Rattle.std.proofs.Common.{◌≡◌, ◌∙◌, sym, ap, refl, subst, None, Some}
use Rattle.chord_base.specs.declared.value.Value.TheVariants as a_value
use Rattle.chord_base.specs.declared.event.What.TheVariants.{Made, Ended}
use Rattle.chord_code.specs.Machine.{with_answer}
use Rattle.chord_vm.specs.Frames.{machine_of, what_of_ask}
use Rattle.chord_vm.specs.declared.ask.Ask.{Ask}
use Rattle.chord_vm.specs.declared.ask.Ask.TheVariants as ask
use Rattle.chord_vm.specs.declared.frames.Frames.{Frames}
use Rattle.chord_task.specs.declared.task.Task.{Task}
use Rattle.chord_task.specs.Turning.{HasSettled}
use Rattle.chord_task.proofs.Stock.{settles_on, settles_end}
use Rattle.chord_task.proofs.Turning.{awaiting_room, roomy_fits, roomy_asked, settled_gave, settled_end, roomy_ready, over_alone}
use Rattle.chord_task.proofs.task.Task.settle.Goals as goal

pub answer-requires-clause-fits : goal.answer-requires-clause-fits
answer-requires-clause-fits c =
    let t = c.requires.awaits.0 in
    let w = Made c.in-Make.class in
    let x = awaiting_room c.args.code.now t c.args.self.now c.args.number c.args.asked.now (ask.Make c.in-Make.class) c.in-Some.body c.requires.awaits.1 (c.in-Some-asked.is ∙ ap Some c.in-Make.is) c.in-Some.is in
    subst (λ (f : Frames). with_answer (machine_of f) f.awaited (a_value.Ref (record { number = c.args.number; class = c.in-Make.class })) ≡ None → ⊥) (sym c.deref_mut.ensures.value)
    (roomy_fits c.args.code.now t c.args.self.now c.args.number w c.in-Some.body x w x.given).1

pub put-requires : goal.put-requires
put-requires c =
    let x = awaiting_room c.args.code.now c.requires.awaits.0 c.args.self.now c.args.number c.args.asked.now (ask.Call c.in-Call.object c.in-Call.method c.in-Call.arguments) c.in-Some.body c.requires.awaits.1 (c.in-Some-asked.is ∙ ap Some c.in-Call.is) c.in-Some.is in
    record { runs = x.runs }

pub end_turn-requires-clause-runs : goal.end_turn-requires-clause-runs
end_turn-requires-clause-runs c =
    let x = awaiting_room c.args.code.now c.requires.awaits.0 c.args.self.now c.args.number c.args.asked.now (ask.End c.in-End.end) c.in-Some.body c.requires.awaits.1 (c.in-Some-asked.is ∙ ap Some c.in-End.is) c.in-Some.is in
    (c.in-Some.body, refl, x.runs)

pub end_turn-requires-clause-ready : goal.end_turn-requires-clause-ready
end_turn-requires-clause-ready c =
    let t = c.requires.awaits.0 in
    let x = awaiting_room c.args.code.now t c.args.self.now c.args.number c.args.asked.now (ask.End c.in-End.end) c.in-Some.body c.requires.awaits.1 (c.in-Some-asked.is ∙ ap Some c.in-End.is) c.in-Some.is in
    roomy_ready c.args.code.now t c.args.self.now c.args.number (Ended c.in-End.end) c.in-Some.body x

pub returns-in-Make-clause-settled : goal.returns-in-Make-clause-settled
returns-in-Make-clause-settled c = λ t d.
    let a : Ask = ask.Make c.in-Make.class in
    let put : c.args.asked.now ≡ Some a = c.in-Some-asked.is ∙ ap Some c.in-Make.is in
    let x = awaiting_room c.args.code.now t c.args.self.now c.args.number c.args.asked.now a c.in-Some.body d put c.in-Some.is in (
      a,
      put,
      settled_gave c.args.code.now t c.args.self.now c.args.number (what_of_ask a) c.in-Some.body x (what_of_ask a) x.given c.append_made.new.past _ refl
          (x.runs, subst (λ (f : Frames). with_answer (machine_of f) f.awaited (a_value.Ref (record { number = c.args.number; class = c.in-Make.class })) ≡ Some (machine_of c.answer.new.frames)) c.deref_mut.ensures.value c.answer.ensures.answered)
          c.append_made.ensures.past,
      refl,
    )

pub returns-in-Send-clause-settled : goal.returns-in-Send-clause-settled
returns-in-Send-clause-settled c = λ t d.
    let a : Ask = ask.Send c.in-Send.object c.in-Send.method c.in-Send.arguments in
    let put : c.args.asked.now ≡ Some a = c.in-Some-asked.is ∙ ap Some c.in-Send.is in
    let x = awaiting_room c.args.code.now t c.args.self.now c.args.number c.args.asked.now a c.in-Some.body d put c.in-Some.is in (
      a,
      put,
      settled_gave c.args.code.now t c.args.self.now c.args.number (what_of_ask a) c.in-Some.body x (what_of_ask a) x.given c.append_sent.new.past _ refl
          (x.runs, ap (λ p. with_answer (machine_of c.in-Some.body.frames.value) p a_value.Unit) (roomy_asked c.args.code.now t c.args.self.now c.args.number (what_of_ask a) c.in-Some.body x (what_of_ask a) x.given))
          c.append_sent.ensures.past,
      refl,
    )

pub returns-in-Call-clause-settled : goal.returns-in-Call-clause-settled
returns-in-Call-clause-settled c = λ t d.
    let a : Ask = ask.Call c.in-Call.object c.in-Call.method c.in-Call.arguments in
    let put : c.args.asked.now ≡ Some a = c.in-Some-asked.is ∙ ap Some c.in-Call.is in
    let x = awaiting_room c.args.code.now t c.args.self.now c.args.number c.args.asked.now a c.in-Some.body d put c.in-Some.is in (
      a,
      put,
      settled_gave c.args.code.now t c.args.self.now c.args.number (what_of_ask a) c.in-Some.body x (what_of_ask a) x.given c.append_called.new.past _ refl
          (c.put.ensures.put, refl)
          c.append_called.ensures.past,
      refl,
    )

pub returns-in-Print-clause-settled : goal.returns-in-Print-clause-settled
returns-in-Print-clause-settled c = λ t d.
    let a : Ask = ask.Print c.take_text.result in
    let put : c.args.asked.now ≡ Some a = c.in-Some-asked.is ∙ c.take_text.ensures.text in
    let x = awaiting_room c.args.code.now t c.args.self.now c.args.number c.args.asked.now a c.in-Some.body d put c.in-Some.is in (
      a,
      put,
      settled_gave c.args.code.now t c.args.self.now c.args.number (what_of_ask a) c.in-Some.body x (what_of_ask a) x.given c.append_printed.new.past _ refl
          (x.runs, ap (λ p. with_answer (machine_of c.in-Some.body.frames.value) p a_value.Unit) (roomy_asked c.args.code.now t c.args.self.now c.args.number (what_of_ask a) c.in-Some.body x (what_of_ask a) x.given))
          c.append_printed.ensures.past,
      refl,
    )

pub returns-in-End-clause-settled : goal.returns-in-End-clause-settled
returns-in-End-clause-settled c = λ t d.
    let h = c.end_turn.ensures in
    let a : Ask = ask.End c.in-End.end in
    let put : c.args.asked.now ≡ Some a = c.in-Some-asked.is ∙ ap Some c.in-End.is in
    let x = awaiting_room c.args.code.now t c.args.self.now c.args.number c.args.asked.now a c.in-Some.body d put c.in-Some.is in
    let s = c.end_turn.new.self in
    (a, put, subst (HasSettled c.args.code.now t c.args.number (what_of_ask a)) (sym h.rest) (settled_end c.args.code.now t c.args.self.now c.args.number (what_of_ask a) c.in-Some.body x c.in-End.end x.given s.past s.below s.ended s.top h.ended (h.past c.in-Some.body refl) h.below), refl)

pub returns-in-End-clause-listed : goal.returns-in-End-clause-listed
returns-in-End-clause-listed c = let h = c.end_turn.ensures in record { entry = _; past = h.past c.in-Some.body refl; list = h.items c.in-Some.body refl }

pub returns-in-End-clause-over : goal.returns-in-End-clause-over
returns-in-End-clause-over c = λ t m e _ none.
    over_alone c.in-End.end t.below c.args.self.now.below c.end_turn.new.self.below c.end_turn.new.self.top c.end_turn.ensures.ended m.below none

pub returns-in-Make-clause-frames : goal.returns-in-Make-clause-frames
returns-in-Make-clause-frames c = λ t m a e.
    settles_on c.args.code.now t c.args.self.now _ c.args.asked.now a (ask.Make c.in-Make.class) (c.in-Some-asked.is ∙ ap Some c.in-Make.is) refl e m refl refl refl refl

pub returns-in-Send-clause-frames : goal.returns-in-Send-clause-frames
returns-in-Send-clause-frames c = λ t m a e.
    settles_on c.args.code.now t c.args.self.now _ c.args.asked.now a (ask.Send c.in-Send.object c.in-Send.method c.in-Send.arguments) (c.in-Some-asked.is ∙ ap Some c.in-Send.is) refl e m refl refl refl refl

pub returns-in-Call-clause-frames : goal.returns-in-Call-clause-frames
returns-in-Call-clause-frames c = λ t m a e.
    settles_on c.args.code.now t c.args.self.now _ c.args.asked.now a (ask.Call c.in-Call.object c.in-Call.method c.in-Call.arguments) (c.in-Some-asked.is ∙ ap Some c.in-Call.is) refl e m refl refl refl refl

pub returns-in-Print-clause-frames : goal.returns-in-Print-clause-frames
returns-in-Print-clause-frames c = λ t m a e.
    settles_on c.args.code.now t c.args.self.now _ c.args.asked.now a (ask.Print c.take_text.result) (c.in-Some-asked.is ∙ c.take_text.ensures.text) refl e m refl refl refl refl

pub returns-in-End-clause-frames : goal.returns-in-End-clause-frames
returns-in-End-clause-frames c = λ t m a e.
    let h = c.end_turn.ensures in
    settles_end c.args.code.now t c.args.self.now _ c.args.asked.now a c.in-End.end (c.in-Some-asked.is ∙ ap Some c.in-End.is) e m h.below (ap (λ (t : Task). t.values) h.rest) (ap (λ (t : Task). t.spare) h.rest) (λ b top. h.frames b (sym c.in-Some.is ∙ top))
