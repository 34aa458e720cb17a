use Rattle.std.proofs.Common.{vec_len, vec_capacity, sym, ◌∙◌, subst, inl}
use Rattle.chord_base.specs.Room.{HasGrown}
use Rattle.chord_space.specs.Desks.{view, space_code, space_limits}
use Rattle.chord_task.proofs.Turning.{adds_from}
use Rattle.chord_vm.specs.Frames.{what_of_ask}
use Rattle.chord_worker.proofs.Given.{some_ask, came_runs, may_draw, awaits_drawn, settled_as, noted_as, noted_one}
use Rattle.chord_worker.proofs.playing.draw_own.Goals as goal

pub top_number-body-requires : goal.top_number-body-requires
top_number-body-requires c =
    let a = some_ask c.args.asked.now c.requires.some in
    let x = c.requires.came a.0 a.1 in
    rw (c.deref.ensures ∙ c.task.view_is) (came_runs (space_code c.args.space.now) (space_limits c.args.space.now) x.0 c.args.task.now (what_of_ask a.0) x.1)

pub draw_ask-requires-clause-next : goal.draw_ask-requires-clause-next
draw_ask-requires-clause-next c = λ a e.
    let x = c.requires.came a e in
    let top = rw (c.deref.ensures ∙ c.task.view_is) at c.top_number-body.ensures in
    inl (x.1.next.own, may_draw (space_code c.args.space.now) (space_limits c.args.space.now) x.0 c.args.task.now (what_of_ask a) x.1 c.top_number-body.result top (view c.args.desk.now).kept x.2)

pub settle-requires-clause-awaits : goal.settle-requires-clause-awaits
settle-requires-clause-awaits c =
    let s = c.args.space.now in
    let top = rw (c.deref.ensures ∙ c.task.view_is) at c.top_number-body.ensures in
    let room = rw (c.deref_mut.ensures.value ∙ c.task.view_is, c.requires.code) at c.in_ok-make_room.ensures.room in (
      c.args.task.now,
      rw (c.requires.code, c.deref_mut-in-Ok.ensures.value)
          (awaits_drawn (space_code s) (space_limits s) c.args.task.now c.make_room.new.self c.args.asked.now (view c.args.desk.now).kept c.top_number-body.result c.in-Ok.number top c.requires.sound room c.requires.came (λ a e. let d = c.in-Ok.ensures.drawn a e in (d.below, d.place))),
    )

pub returns-in-Ok-clause-noted : goal.returns-in-Ok-clause-noted
returns-in-Ok-clause-noted c = λ a t e came.
    let s = c.args.space.now in
    let top = rw (c.deref.ensures ∙ c.task.view_is) at c.top_number-body.ensures in
    let room = rw (c.deref_mut.ensures.value ∙ c.task.view_is, c.requires.code) at c.in_ok-make_room.ensures.room in
    let awaits = awaits_drawn (space_code s) (space_limits s) c.args.task.now c.make_room.new.self c.args.asked.now (view c.args.desk.now).kept c.top_number-body.result c.in-Ok.number top c.requires.sound room c.requires.came (λ a e. let d = c.in-Ok.ensures.drawn a e in (d.below, d.place)) in
    let settled = rw (c.requires.code, c.deref_mut-in-Ok.ensures.value) at c.settle.ensures.settled in
    let x = settled_as (space_code s) c.args.task.now c.settle.new.self c.args.asked.now c.in-Ok.number c.settle.result (settled c.args.task.now awaits) in
    let d = c.in-Ok.ensures.drawn a e in
    noted_as (space_code s) (space_limits s) t c.args.task.now (what_of_ask a) came c.top_number-body.result top (view c.args.desk.now) (view c.draw_ask.new.desk) c.in-Ok.number c.settle.new.self d.drawn d.below d.named d.of_code (x a e)

pub returns-in-Ok-clause-listed : goal.returns-in-Ok-clause-listed
returns-in-Ok-clause-listed c =
    let s = c.args.space.now in
    let a = some_ask c.args.asked.now c.requires.some in
    let y = c.requires.came a.0 a.1 in
    let top = rw (c.deref.ensures ∙ c.task.view_is) at c.top_number-body.ensures in
    let room = rw (c.deref_mut.ensures.value ∙ c.task.view_is, c.requires.code) at c.in_ok-make_room.ensures.room in
    let awaits = awaits_drawn (space_code s) (space_limits s) c.args.task.now c.make_room.new.self c.args.asked.now (view c.args.desk.now).kept c.top_number-body.result c.in-Ok.number top c.requires.sound room c.requires.came (λ a e. let d = c.in-Ok.ensures.drawn a e in (d.below, d.place)) in
    let settled = rw (c.requires.code, c.deref_mut-in-Ok.ensures.value) at c.settle.ensures.settled in
    let x = settled_as (space_code s) c.args.task.now c.settle.new.self c.args.asked.now c.in-Ok.number c.settle.result (settled c.args.task.now awaits) in
    let d = c.in-Ok.ensures.drawn a.0 a.1 in
    let one = rw (c.deref_mut-in-Ok.ensures.value) at c.settle.ensures.listed in
    noted_one (space_code s) (space_limits s) y.0 c.args.task.now (what_of_ask a.0) y.1 (view c.args.desk.now) (view c.draw_ask.new.desk) c.in-Ok.number c.settle.new.self
    (noted_as (space_code s) (space_limits s) y.0 c.args.task.now (what_of_ask a.0) y.1 c.top_number-body.result top (view c.args.desk.now) (view c.draw_ask.new.desk) c.in-Ok.number c.settle.new.self d.drawn d.below d.named d.of_code (x a.0 a.1))
    c.args.draws.now.items c.settle.new.list.items (adds_from room.past c.make_room.ensures.listed one)

pub returns-in-Ok-clause-over : goal.returns-in-Ok-clause-over
returns-in-Ok-clause-over c =
    let room = rw (c.deref_mut.ensures.value ∙ c.task.view_is) at c.in_ok-make_room.ensures.room in
    let over = rw (c.deref_mut-in-Ok.ensures.value) at c.settle.ensures.over in
    over c.args.task.now room

pub returns-in-Ok-clause-frames : goal.returns-in-Ok-clause-frames
returns-in-Ok-clause-frames c =
    let room = rw (c.deref_mut.ensures.value ∙ c.task.view_is) at c.in_ok-make_room.ensures.room in
    let frames = rw (c.deref_mut-in-Ok.ensures.value) at c.settle.ensures.frames in
    frames c.args.task.now room

pub returns-in-Ok-clause-grown : goal.returns-in-Ok-clause-grown
returns-in-Ok-clause-grown c = subst (HasGrown (vec_len c.args.draws.now) (vec_capacity c.args.draws.now)) (sym c.settle.ensures.capacity) c.in_ok-make_room.ensures.grown
