use Rattle.std.proofs.Common.{ℕ, ap, sym, subst, ◌∙◌, vec_len, vec_capacity}
use Rattle.chord_base.specs.Room.{HasGrown}
use Rattle.chord_task.specs.Stacks.{TaskView}
use Rattle.chord_task.specs.Turning.{sent_of}
use Rattle.chord_task.proofs.Turning.{may_note, turned, some_given, adds_from}
use Rattle.chord_task.proofs.Stock.{kept_stock}
use Rattle.chord_task.proofs.task.Task.kept_turn.Goals as goal

pub note-requires-clause-may : goal.note-requires-clause-may
note-requires-clause-may c =
    let code = c.args.code.now in
    let limits = c.args.limits.now in
    let k = c.reserve.ensures.task limits c.in_ok-prepare.ensures.task in
    let v = c.reserve.ensures.same ∙ c.in_ok-prepare.ensures.same in
    let w = some_given _ c.in_ok-prepare.ensures.gave in
    let m = may_note code limits c.args.self.now c.reserve.new.self c.args.number w.0 c.requires.may k v (c.reserve.ensures.gave ∙ w.1) c.in_ok-reserve.ensures.ready in
    (code, limits, k, m.0)

pub returns-clause-turned : goal.returns-clause-turned
returns-clause-turned c =
    let code = c.args.code.now in
    let limits = c.args.limits.now in
    let k = c.reserve.ensures.task limits c.in_ok-prepare.ensures.task in
    let v = c.reserve.ensures.same ∙ c.in_ok-prepare.ensures.same in
    let w = some_given _ c.in_ok-prepare.ensures.gave in
    let g = c.reserve.ensures.gave ∙ w.1 in
    let room = c.in_ok-reserve.ensures.ready in
    let m = may_note code limits c.args.self.now c.reserve.new.self c.args.number w.0 c.requires.may k v g room in
    let stock = kept_stock code c.args.self.now c.prepare.new.self c.reserve.new.self c.note.new.self w.0 (c.in_ok-prepare.ensures.task.limited ∙ sym c.requires.task.limited) c.prepare.ensures.stock (ap (λ (x : TaskView). x.top) v) c.in_ok-reserve.ensures.stocked c.reserve.ensures.kept c.in_ok-reserve.ensures.grown.0 (c.note.ensures.frames w.0 g) c.note.ensures.callers in
    (w.0, turned code limits c.args.self.now c.reserve.new.self c.note.new.self c.args.number w.0 c.requires.may k v g room (c.note.ensures.noted code limits k m.0), c.kept_message-sent.ensures ∙ ap sent_of g, stock)

pub returns-clause-listed : goal.returns-clause-listed
returns-clause-listed c = adds_from (c.reserve.ensures.past ∙ c.in_ok-prepare.ensures.past) c.reserve.ensures.listed c.note.ensures.listed

pub returns-clause-entries : goal.returns-clause-entries
returns-clause-entries c = subst (λ (z : ℕ). HasGrown (vec_len c.args.list.now) (vec_capacity c.args.list.now) z) (sym c.note.ensures.capacity) c.in_ok-reserve.ensures.grown.1
