use Rattle.std.proofs.Common.{◌≡◌, ◌∙◌, ◌++◌, ◌∷◌, [], sym, ap, subst, refl, arith, reverse, true}
use Rattle.std.proofs.lemmas.Option.{get_or_from_slice_get, slice_get_within}
use Rattle.chord_code.specs.Meaning.{code_program}
use Rattle.chord_task.specs.declared.task.Task.{Task}
use Rattle.chord_task.specs.Standing.{view_of, IsTaskOf, is_ready_of}
use Rattle.chord_task.specs.Past.{AddsOne}
use Rattle.chord_task.specs.Turning.{MayTurn, Turned, HasTurned}
use Rattle.chord_lists.specs.CodeStands.{turn_to}
use Rattle.chord_lists.proofs.CodeSteps.{ready_task, may_turn, went_at}
use Rattle.chord_lists.proofs.CodeTasks.{turn_told}
use Rattle.chord_lists.proofs.OverTasks.{over_went}
use Rattle.chord_lists.proofs.code_bodies.make.Goals as goal

pub index_mut-task-requires : goal.index_mut-task-requires
index_mut-task-requires c =
    let xs = c.args.bodies.now.tasks.items in
    let t = ready_task xs c.args.at c.requires.ready in
    let l = slice_get_within xs c.args.at t.0 t.1 in
    omega (arith, l)

pub as_home-requires : goal.as_home-requires
as_home-requires c =
    let xs = c.args.bodies.now.tasks.items in
    let t = ready_task xs c.args.at c.requires.ready in
    let l = slice_get_within xs c.args.at t.0 t.1 in
    let m = c.requires.may in
    let few = m.2.few in
    omega (arith, l, few, m.1.so_long, c.requires.room)

pub turn-requires-clause-task : goal.turn-requires-clause-task
turn-requires-clause-task c =
    let xs = c.args.bodies.now.tasks.items in
    let t = ready_task xs c.args.at c.requires.ready in
    let e : c.index_mut-task.result.now ≡ t.0 = c.index_mut-task.ensures.value ∙ get_or_from_slice_get xs c.args.at t.0 c.index_mut-task.result.now t.1 in
    subst (λ (x : Task). IsTaskOf c.args.code.now c.args.limits.now x) (sym e) (c.requires.may.2.tasks c.args.at t.0 t.1)

pub turn-requires-clause-left : goal.turn-requires-clause-left
turn-requires-clause-left c =
    let xs = c.args.bodies.now.tasks.items in
    let t = ready_task xs c.args.at c.requires.ready in
    let e : c.index_mut-task.result.now ≡ t.0 = c.index_mut-task.ensures.value ∙ get_or_from_slice_get xs c.args.at t.0 c.index_mut-task.result.now t.1 in
    subst (λ (x : Task). is_ready_of x ≡ true) (sym e) t.2

pub turn-requires-clause-may : goal.turn-requires-clause-may
turn-requires-clause-may c =
    let code = c.args.code.now in
    let limits = c.args.limits.now in
    let xs = c.args.bodies.now.tasks.items in
    let t = ready_task xs c.args.at c.requires.ready in
    let e : c.index_mut-task.result.now ≡ t.0 = c.index_mut-task.ensures.value ∙ get_or_from_slice_get xs c.args.at t.0 c.index_mut-task.result.now t.1 in
    let m = c.requires.may in
    subst (λ (x : Task). MayTurn (code_program code limits) (view_of x) c.args.number) (sym e)
    (may_turn code limits c.args.bodies.now m.0 c.args.number c.args.at t.0 c.requires.sound m.2 m.1.so_long t.1)

pub returns-clause-went : goal.returns-clause-went
returns-clause-went c =
    λ h played s.
    let code = c.args.code.now in
    let limits = c.args.limits.now in
    let bodies = c.args.bodies.now in
    let xs = bodies.tasks.items in
    let task = c.index_mut-task.result.now in
    let t = ready_task xs c.args.at c.requires.ready in
    let e : task ≡ t.0 = c.index_mut-task.ensures.value ∙ get_or_from_slice_get xs c.args.at t.0 task t.1 in
    let w = c.in_ok-sent.ensures.turned in
    let u = subst (λ (x : Task). Turned code limits x c.turn.new.self c.args.number w.0) e w.1 in
    let listed = subst (λ (x : Task). AddsOne x.past c.turn.new.self.past bodies.entries.items c.turn.new.list.items) e c.in_ok-sent.ensures.listed in
    let homes = c.in_ok-push.ensures.items ∙ ap (λ i. bodies.homes.items ++ i ∷ []) c.as_home.ensures in
    let is = c.turn_to.ensures ∙ ap turn_to w.2 ∙ turn_told w.0 in
    went_at code limits bodies _ h c.args.number c.args.at t.0 c.turn.new.self w.0 c.turn_to.result c.parts-parts.ensures.valid c.requires.sound c.requires.room played s t.1 t.2 u listed homes is refl refl c.in_ok-keep_over.ensures

pub returns-clause-over : goal.returns-clause-over
returns-clause-over c =
    let xs = c.args.bodies.now.tasks.items in
    let t = ready_task xs c.args.at c.requires.ready in
    c.in_ok-keep_over.ensures ∙ sym (over_went xs c.args.at c.turn.new.self t.0 (reverse c.args.bodies.now.over.items) t.1)

pub returns-clause-turned : goal.returns-clause-turned
returns-clause-turned c =
    let xs = c.args.bodies.now.tasks.items in
    let task = c.index_mut-task.result.now in
    let t = ready_task xs c.args.at c.requires.ready in
    let e : task ≡ t.0 = c.index_mut-task.ensures.value ∙ get_or_from_slice_get xs c.args.at t.0 task t.1 in
    record {
      before = t.0;
      after = c.turn.new.self;
      sent = c.in_ok-sent.sent;
      there = t.1;
      turned = subst (λ (x : Task). HasTurned c.args.code.now c.args.limits.now x c.turn.new.self c.args.number c.in_ok-sent.sent) e c.in_ok-sent.ensures.turned;
      is = refl;
    }
