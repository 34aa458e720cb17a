use Rattle.std.proofs.Common.{◌≡◌, ◌∙◌, ℕ, None, Some, sym, subst, vec_len, vec_capacity}
use Rattle.chord_base.specs.Room.{HasGrown}
use Rattle.std.specs.Box.{with_value}
use Rattle.chord_code.specs.Machine.{ComesToAsk}
use Rattle.chord_vm.specs.Frames.{machine_of, what_of_ask, Advanced}
use Rattle.chord_vm.specs.declared.frames.Frames.{Frames}
use Rattle.chord_vm.specs.declared.ask.Ask.{Ask}
use Rattle.chord_task.proofs.Turning.{ask_put, with_body, with_frames, runs_to_ask, awaits_number, settled_turned}
use Rattle.chord_task.proofs.Stock.{settled_stock}
use Rattle.chord_task.proofs.task.Task.run_turn.Goals as goal

pub advance_to-requires : goal.advance_to-requires
advance_to-requires c =
    record {
      sound =
          subst (λ (f : Frames). ComesToAsk c.args.code.now (machine_of f)) (sym c.deref_mut.ensures.value)
          (runs_to_ask c.args.code.now c.args.limits.now c.args.self.now c.in-Some.body c.requires.task c.requires.runs c.in-Some.is);
    }

pub settle-sent-requires-clause-some : goal.settle-sent-requires-clause-some
settle-sent-requires-clause-some c = λ e. let z : None ≡ Some c.in_ok-advance_to-in-Some.ensures.asked.0 = sym e ∙ c.in_ok-advance_to-in-Some.ensures.asked.1 in cc

pub settle-sent-requires-clause-awaits : goal.settle-sent-requires-clause-awaits
settle-sent-requires-clause-awaits c =
    let code = c.args.code.now in
    let b = c.in-Some.body in
    let f = with_value b.frames c.advance_to.new.frames in
    let advanced : (a : Ask) → c.advance_to.new.asked ≡ Some a → Advanced code (machine_of b.frames.value) a c.advance_to.new.frames = λ a e. subst (λ (g : Frames). Advanced code (machine_of g) a c.advance_to.new.frames) c.deref_mut.ensures.value (ask_put code (machine_of c.deref_mut.result.now) c.advance_to.new.asked c.advance_to.new.frames c.in_ok-advance_to-in-Some.ensures.asked a e) in (
      with_body c.args.self.now (with_frames b f),
      awaits_number code c.args.limits.now c.args.self.now c.make_room.new.self b f c.advance_to.new.asked c.args.number c.requires.task c.requires.runs c.in-Some.is advanced c.requires.may c.in_ok-make_room-in-Some.ensures.room,
    )

pub returns-clause-turned : goal.returns-clause-turned
returns-clause-turned c =
    let code = c.args.code.now in
    let limits = c.args.limits.now in
    let t = c.args.self.now in
    let b = c.in-Some.body in
    let f = with_value b.frames c.advance_to.new.frames in
    let advanced : (a : Ask) → c.advance_to.new.asked ≡ Some a → Advanced code (machine_of b.frames.value) a c.advance_to.new.frames = λ a e. subst (λ (g : Frames). Advanced code (machine_of g) a c.advance_to.new.frames) c.deref_mut.ensures.value (ask_put code (machine_of c.deref_mut.result.now) c.advance_to.new.asked c.advance_to.new.frames c.in_ok-advance_to-in-Some.ensures.asked a e) in
    let s = c.settle-sent.ensures.settled (with_body t (with_frames b f)) (awaits_number code limits t c.make_room.new.self b f c.advance_to.new.asked c.args.number c.requires.task c.requires.runs c.in-Some.is advanced c.requires.may c.in_ok-make_room-in-Some.ensures.room) in
    (what_of_ask s.0, settled_turned code limits t b f s.0 c.args.number c.settle-sent.new.self c.requires.task c.requires.runs c.in-Some.is (advanced s.0 s.1) s.2, s.3, settled_stock code t c.settle-sent.new.self b f (what_of_ask s.0) c.in-Some.is (c.settle-sent.ensures.frames (with_body t (with_frames b f)) c.in_ok-make_room-in-Some.ensures.room s.0 s.1))

pub returns-clause-entries : goal.returns-clause-entries
returns-clause-entries c = subst (λ (z : ℕ). HasGrown (vec_len c.args.list.now) (vec_capacity c.args.list.now) z) (sym c.settle-sent.ensures.capacity) c.in_ok-make_room-in-Some.ensures.grown
