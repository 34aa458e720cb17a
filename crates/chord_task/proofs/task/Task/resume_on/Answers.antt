use Rattle.std.proofs.Common.{◌≡◌, ◌∷◌, ◌++◌, [], List, ℕ, Some, None, refl, sym, ap, ◌∙◌, subst}
use Rattle.std.specs.Prelude.{Box}
use Rattle.std.specs.Global.{Global}
use Rattle.chord_base.specs.declared.value.Value.{Value}
use Rattle.chord_base.specs.declared.value.Value.TheVariants as a_value
use Rattle.chord_base.specs.declared.event.What.TheVariants.{Fired}
use Rattle.chord_code.specs.Machine.{body_in_block}
use Rattle.chord_code.specs.declared.parts.ChordLine.{ChordLine}
use Rattle.chord_vm.specs.Frames.{IsRoomFor}
use Rattle.chord_vm.specs.declared.frames.Frames.{Frames}
use Rattle.chord_task.specs.Standing.{room_of}
use Rattle.chord_task.proofs.Standing.{entry}
use Rattle.chord_task.proofs.Resuming.{opening, task_resumed, spacious_at, put_below, waits_below, begun_with}
use Rattle.chord_task.proofs.task.Task.resume_on.Goals as goal

pub line_of-requires : goal.line_of-requires
line_of-requires c =
    let limits = c.args.self.now.limits in
    let o = opening c.args.code.now limits c.args.self.now c.args.number c.args.chord c.args.object c.args.members.now c.args.arguments.first c.requires.task c.requires.may in
    λ e. let z : None ≡ Some o.line = sym e ∙ o.found in cc

pub begin_moved-requires-clause-fits : goal.begin_moved-requires-clause-fits
begin_moved-requires-clause-fits c =
    let limits = c.args.self.now.limits in
    let vs = c.args.arguments.first in
    let o = opening c.args.code.now limits c.args.self.now c.args.number c.args.chord c.args.object c.args.members.now vs c.requires.task c.requires.may in
    let z : Some o.line ≡ Some c.line_of.result.now = sym o.found ∙ c.line_of.ensures in
    let l : o.line ≡ c.line_of.result.now = cc in
    let r = c.requires.may.room in
    let y : Some r.frames ≡ Some c.in-Some.frames = sym r.spare ∙ sym c.take.ensures.value ∙ c.in-Some.is in
    let f : r.frames ≡ c.in-Some.frames = cc in
    let same = begun_with c.args.code.now limits c.deref_mut.result.now.limits c.line_of.result.now.block c.depth_over-depth.result (room_of limits c.args.self.now.top) (a_value.Ref c.args.object) c.args.arguments.second (ap (λ (x : Frames). x.limits) c.deref_mut.ensures.value ∙ ap (λ (x : Box Frames Global). x.value.limits) (sym f) ∙ r.room.limited) (c.depth_over-depth.ensures limits refl)
    ∙ ap (λ (xs : List Value). body_in_block c.args.code.now c.line_of.result.now.block (room_of limits c.args.self.now.top) (a_value.Ref c.args.object ∷ xs) limits.turns) c.requires.twice in
    λ e.
    let w : Some o.machine ≡ None = sym o.starts ∙ ap (λ (x : ChordLine). body_in_block c.args.code.now x.block (room_of limits c.args.self.now.top) (a_value.Ref c.args.object ∷ vs) limits.turns) l ∙ sym same ∙ e in
    cc

pub begin_moved-requires-clause-space : goal.begin_moved-requires-clause-space
begin_moved-requires-clause-space c =
    let limits = c.args.self.now.limits in
    let vs = c.args.arguments.first in
    let o = opening c.args.code.now limits c.args.self.now c.args.number c.args.chord c.args.object c.args.members.now vs c.requires.task c.requires.may in
    let z : Some o.line ≡ Some c.line_of.result.now = sym o.found ∙ c.line_of.ensures in
    let l : o.line ≡ c.line_of.result.now = cc in
    let r = c.requires.may.room in
    let y : Some r.frames ≡ Some c.in-Some.frames = sym r.spare ∙ sym c.take.ensures.value ∙ c.in-Some.is in
    let f : r.frames ≡ c.in-Some.frames = cc in
    spacious_at c.args.code.now c.deref_mut.result.now c.line_of.result.now.block (room_of limits c.args.self.now.top) limits.turns (a_value.Ref c.args.object ∷ vs) o.machine
    (subst (IsRoomFor c.args.code.now) (sym c.deref_mut.ensures.value) (subst (λ (x : Box Frames Global). IsRoomFor c.args.code.now x.value) f r.room.room))
    (ap (λ (x : ChordLine). body_in_block c.args.code.now x.block (room_of limits c.args.self.now.top) (a_value.Ref c.args.object ∷ vs) limits.turns) (sym l) ∙ o.starts)

pub returns-clause-task : goal.returns-clause-task
returns-clause-task c =
    let limits = c.args.self.now.limits in
    let vs = c.args.arguments.first in
    let r = c.requires.may.room in
    let y : Some r.frames ≡ Some c.in-Some.frames = sym r.spare ∙ sym c.take.ensures.value ∙ c.in-Some.is in
    let f : r.frames ≡ c.in-Some.frames = cc in
    let same = begun_with c.args.code.now limits c.deref_mut.result.now.limits c.line_of.result.now.block c.depth_over-depth.result (room_of limits c.args.self.now.top) (a_value.Ref c.args.object) c.args.arguments.second (ap (λ (x : Frames). x.limits) c.deref_mut.ensures.value ∙ ap (λ (x : Box Frames Global). x.value.limits) (sym f) ∙ r.room.limited) (c.depth_over-depth.ensures limits refl)
    ∙ ap (λ (xs : List Value). body_in_block c.args.code.now c.line_of.result.now.block (room_of limits c.args.self.now.top) (a_value.Ref c.args.object ∷ xs) limits.turns) c.requires.twice in
    let items =
    c.append.ensures.past
    ∙ ap (λ (ms : List ℕ). c.args.self.now.past ++ entry c.args.number c.args.number (Fired c.args.chord c.args.object ms vs) ∷ []) c.copied.ensures
    in
    let bodies = put_below c.args.self.now.top c.args.self.now.below.items c.put_on_top.new.below.items c.put_on_top.ensures.below in
    rw (c.put_on_top.ensures.top, c.take.ensures.after)
    (task_resumed c.args.code.now limits c.args.self.now c.append.new.past c.put_on_top.new.below c.args.self.now.values c.args.number c.args.chord c.args.object c.args.members.now vs _ c.line_of.result.now c.requires.task.kept_values c.requires.task c.requires.may c.line_of.ensures (sym same ∙ c.begin_moved.ensures.begun) items bodies)

pub put_on_top-requires-clause-waits : goal.put_on_top-requires-clause-waits
put_on_top-requires-clause-waits c = waits_below c.args.code.now c.args.self.now.limits c.args.self.now c.args.number c.args.chord c.args.object c.args.members.now c.args.arguments.first c.requires.task c.requires.may
