use Rattle.std.proofs.Common.{◌≡◌, ◌<◌, true, false, sym, ◌∙◌, ap, subst, inl, vec_len, vec_capacity}
use Rattle.chord_space.specs.Desks.{view, program_of}
use Rattle.chord_worker.specs.declared.worker.Worker.{Worker}
use Rattle.chord_worker.specs.Resting.{IsOutOfMemory}
use Rattle.chord_worker.proofs.Attending.{role_on, minds_roomier, out_of_memory}
use Rattle.chord_worker.proofs.Drawn.{drew_since}
use Rattle.chord_worker.proofs.Stepping.{minded_since}
use Rattle.chord_worker.proofs.Stocked.{stocked_alike}
use Rattle.chord_worker.proofs.worker.Worker.mind.Goals as goal

pub mind_on-requires-clause-minds : goal.mind_on-requires-clause-minds
mind_on-requires-clause-minds g c = c.attend.ensures.again c.if-attend.false

pub returns-clause-role : goal.returns-clause-role
returns-clause-role g c =
    role_on (view c.args.self.now.desk) (view c.attend.new.self.desk) (view c.mind_on.new.self.desk) c.attend.ensures.role c.mind_on.ensures.role

pub returns-clause-minded : goal.returns-clause-minded
returns-clause-minded g c =
    let same = c.attend.ensures.same c.if-attend.false in
    minded_since g.G.Gate.knows _ _ _ _ _ _ same.0 same.1 c.mind_on.ensures.minded

pub returns-clause-drew : goal.returns-clause-drew
returns-clause-drew g c =
    drew_since (view c.args.self.now.desk).draws (view c.attend.new.self.desk).draws (view c.mind_on.new.self.desk).draws (c.attend.ensures.undrawn c.if-attend.false) c.mind_on.ensures.drew

pub attend-requires-clause-minds : goal.attend-requires-clause-minds
attend-requires-clause-minds g c = minds_roomier c.args.space.now c.args.self.now _ _ c.requires.minds c.reserve_draw.new.draws c.reserve_draw.ensures.items

pub mind_on-requires-clause-place : goal.mind_on-requires-clause-place
mind_on-requires-clause-place g c =
    subst (λ (w : Worker). vec_len w.draws < vec_capacity w.draws) (sym (c.attend.ensures.frame c.if-attend.false)) (c.reserve_draw.ensures.room c.if-not-reserve_draw.false)

pub returns-clause-stock : goal.returns-clause-stock
returns-clause-stock g c =
    stocked_alike (program_of c.args.space.now) (view c.args.self.now.desk).draws (view c.attend.new.self.desk).draws c.args.self.now.spare c.attend.new.self.spare c.mind_on.new.self (λ _. ap (λ (w : Worker). w.spare) (c.attend.ensures.frame c.if-attend.false))
    c.mind_on.ensures.stock (c.attend.ensures.undrawn c.if-attend.false)

pub returns-then-not-reserve_draw-clause-short : goal.returns-then-not-reserve_draw-clause-short
returns-then-not-reserve_draw-clause-short g c =
    subst (IsOutOfMemory c.args.space.now) (sym c.drop_task.ensures.frame)
    (out_of_memory c.args.space.now c.args.self.now _ _ c.requires.minds c.reserve_draw.new.draws c.reserve_draw.ensures.items c.drop_task.new.self.task c.drop_task.ensures.none)

pub returns-then-not-reserve_draw-clause-drew : goal.returns-then-not-reserve_draw-clause-drew
returns-then-not-reserve_draw-clause-drew g c = inl (ap (λ (w : Worker). (view w.desk).draws) c.drop_task.ensures.frame)

pub returns-then-not-reserve_draw-clause-roomy : goal.returns-then-not-reserve_draw-clause-roomy
returns-then-not-reserve_draw-clause-roomy g c = λ room.
    let z : false ≡ true = sym c.if-not-reserve_draw.true ∙ (c.reserve_draw.ensures.stays room).1 in
    absurd (cc)

pub returns-then-not-reserve_draw-clause-lists : goal.returns-then-not-reserve_draw-clause-lists
returns-then-not-reserve_draw-clause-lists g c = ap (λ (w : Worker). w.taken) c.drop_task.ensures.frame

pub returns-clause-lists : goal.returns-clause-lists
returns-clause-lists g c = c.mind_on.ensures.lists ∙ c.attend.ensures.lists

pub returns-then-not-reserve_draw-clause-played : goal.returns-then-not-reserve_draw-clause-played
returns-then-not-reserve_draw-clause-played g c = λ none still. ap (λ (w : Worker). (view w.desk).draws) c.drop_task.ensures.frame

pub returns-then-attend-clause-played : goal.returns-then-attend-clause-played
returns-then-attend-clause-played g c = c.attend.ensures.played

pub returns-clause-played : goal.returns-clause-played
returns-clause-played g c = λ none still.
    let same = c.attend.ensures.same c.if-attend.false in
    c.mind_on.ensures.played (same.0 ∙ none) still ∙ c.attend.ensures.undrawn c.if-attend.false
