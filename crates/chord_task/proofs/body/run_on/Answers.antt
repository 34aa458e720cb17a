use Rattle.std.proofs.Common.{◌≡◌, ◌∙◌, None, Some, sym, subst}
use Rattle.std.specs.Box.{with_value}
use Rattle.chord_vm.specs.Frames.{machine_of, what_of_ask, Advanced}
use Rattle.chord_vm.specs.declared.frames.Frames.{Frames}
use Rattle.chord_task.specs.Standing.{GivenBy, HasRun}
use Rattle.chord_task.proofs.Tasks.{on_ok_follows}
use Rattle.chord_task.proofs.Turning.{ask_put}
use Rattle.chord_task.proofs.body.run_on.Goals as goal

pub take_ask-requires : goal.take_ask-requires
take_ask-requires c = λ e. let z : None ≡ Some c.in_ok-advance_to.ensures.asked.0 = sym e ∙ c.in_ok-advance_to.ensures.asked.1 in cc

pub returns-clause-asked : goal.returns-clause-asked
returns-clause-asked c =
    let a = c.take_ask.result in
    let put = ask_put c.args.code.now (machine_of c.deref_mut.result.now) c.advance_to.new.asked c.advance_to.new.frames c.in_ok-advance_to.ensures.asked a c.take_ask.ensures.asked in
    let adv = subst (λ (f : Frames). Advanced c.args.code.now (machine_of f) a c.advance_to.new.frames) c.deref_mut.ensures.value put in
    on_ok_follows (GivenBy (what_of_ask a) c.keep.new.next) (HasRun c.args.code.now c.args.body.now.frames.value (record { number = c.args.body.now.number; frames = with_value c.args.body.now.frames c.advance_to.new.frames; next = c.keep.new.next })) c.keep.result
    (λ g. (a, adv, g)) c.keep.ensures
