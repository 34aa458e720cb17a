use Rattle.std.proofs.Common.{◌≡◌, ℕ, true, List, Option, Some, None, refl, sym, ap, ◌∙◌, subst, inl, inr, ⊎_elim, Vec, Global}
use Rattle.chord_base.specs.declared.event.Entry.{Entry}
use Rattle.chord_match.specs.declared.claiming.Missed.TheVariants as a_miss
use Rattle.chord_match.specs.Fires.{IsMissedBy}
use Rattle.chord_rule.specs.declared.view.View.{View}
use Rattle.chord_space.specs.declared.space.Desk.{Desk}
use Rattle.chord_space.specs.Desks.{view, program_of, IsSameDesk}
use Rattle.chord_task.specs.declared.parcel.Opened.{Opened as Parcel}
use Rattle.chord_task.specs.declared.task.Task.{Task}
use Rattle.chord_task.proofs.Gathering.{none_gathered}
use Rattle.chord_worker.proofs.Attending.{found_fired, still_minds, refused, lost_looks}
use Rattle.chord_worker.proofs.Drawn.{fired_drew}
use Rattle.chord_worker.proofs.Stepping.{message_older, taken_minded}
use Rattle.chord_worker.proofs.Stocked.{fired_last}
use Rattle.chord_worker.specs.declared.worker.Worker.{Worker}
use Rattle.chord_worker.specs.Stepping.{DrewFiring, DrewFiringLast, HasTakenOn}
use Rattle.chord_worker.proofs.worker.Worker.try_to_fire.Goals as goal

pub fire_to-requires-clause-empty : goal.fire_to-requires-clause-empty
fire_to-requires-clause-empty g c = record { gathered = rw c.nothing-unpacked.ensures.none.0 (none_gathered _ c.nothing-unpacked.ensures.first c.nothing-unpacked.ensures.second); caller_is = c.nothing-unpacked.ensures.none.1 }

pub begin_fired-requires-clause-fired : goal.begin_fired-requires-clause-fired
begin_fired-requires-clause-fired g c =
    let f = c.in-Ok.ensures.fired in
    (view c.args.self.now.desk, f.0, f.1, found_fired _ _ _ _ _ c.requires.minds _ _ _ _ c.requires.found.1 _ c.fire_to.ensures.desk _ _ f.2)

pub returns-in-Ok-clause-minded : goal.returns-in-Ok-clause-minded
returns-in-Ok-clause-minded g c = λ e.
    let found = c.requires.found.1 in
    let f = c.in-Ok.ensures.fired in
    taken_minded g.G.Gate.knows _ _ _ _ _ (message_older _ _ _ _ _ _ _ f.2.came found.own)
    (c.begin_fired.ensures.taken (view c.args.self.now.desk) f.0 f.1 (found_fired _ _ _ _ _ c.requires.minds _ _ _ _ found _ c.fire_to.ensures.desk _ _ f.2))

pub returns-in-Err-Lost-clause-again : goal.returns-in-Err-Lost-clause-again
returns-in-Err-Lost-clause-again g c = λ e.
    let lost = rw c.in-Err-Lost.field-0-is at c.in-Err-Lost.ensures.missed in
    still_minds c.args.space.now c.args.self.now (record c.args.self.now { desk = c.fire_to.new.desk }) _ _ c.requires.minds c.fire_to.ensures.desk refl (lost_looks _ _ lost.same)

pub returns-in-Err-Spent-clause-over : goal.returns-in-Err-Spent-clause-over
returns-in-Err-Spent-clause-over g c = λ e.
    let d = c.give_up.ensures.same.0 in
    let turned : IsMissedBy c.args.space.now.events (view c.args.self.now.desk) (view c.fire_to.new.desk) c.args.members.now c.args.nexts.now a_miss.Spent = rw c.in-Err-Spent.field-0-is at c.in-Err-Spent.ensures.missed in
    let none = c.give_up.ensures.none in (
      refused c.args.space.now c.args.self.now c.give_up.new.self _ _ c.requires.minds
          (subst (λ (x : Desk Parcel). IsSameDesk c.args.self.now.desk x) (sym d) c.fire_to.ensures.desk)
          (subst (λ (x : Desk Parcel). view x ≡ record (view c.args.self.now.desk) { looked = (view x).looked; spent = true }) (sym d) turned.same)
          none c.give_up.ensures.same.2 c.give_up.ensures.same.1
          (ap (λ (x : Vec Entry Global). x.items) c.give_up.ensures.lists.0) (ap (λ (x : Vec (Vec Entry Global) Global). x.items) c.give_up.ensures.lists.1),
      λ z. none,
    )

pub returns-in-Err-Lost-clause-same : goal.returns-in-Err-Lost-clause-same
returns-in-Err-Lost-clause-same g c = λ e.
    let lost = rw c.in-Err-Lost.field-0-is at c.in-Err-Lost.ensures.missed in
    (refl, ap (λ (z : View). z.kept) lost.same)

pub returns-in-Err-Spent-clause-minded : goal.returns-in-Err-Spent-clause-minded
returns-in-Err-Spent-clause-minded g c = λ e.
    let turned : IsMissedBy c.args.space.now.events (view c.args.self.now.desk) (view c.fire_to.new.desk) c.args.members.now c.args.nexts.now a_miss.Spent = rw c.in-Err-Spent.field-0-is at c.in-Err-Spent.ensures.missed in
    inr (inr (ap (λ (x : Desk Parcel). (view x).spent) c.give_up.ensures.same.0 ∙ ap (λ (z : View). z.spent) turned.same))

pub returns-in-Err-Lost-clause-lost : goal.returns-in-Err-Lost-clause-lost
returns-in-Err-Lost-clause-lost g c = λ e. (_, rw c.in-Err-Lost.field-0-is at c.in-Err-Lost.ensures.missed)

pub returns-in-Ok-clause-drew : goal.returns-in-Ok-clause-drew
returns-in-Ok-clause-drew g c =
    subst (DrewFiring (view c.args.self.now.desk).draws) (sym c.begin_fired.ensures.undrawn) (fired_drew _ _ _ _ _ _ _ _ _ _ c.in-Ok.ensures.fired.2)

pub returns-in-Err-Lost-clause-drew : goal.returns-in-Err-Lost-clause-drew
returns-in-Err-Lost-clause-drew g c =
    let lost = rw c.in-Err-Lost.field-0-is at c.in-Err-Lost.ensures.missed in
    inl (ap (λ (z : View). z.draws) lost.same)

pub returns-in-Err-Lost-clause-undrawn : goal.returns-in-Err-Lost-clause-undrawn
returns-in-Err-Lost-clause-undrawn g c = λ e.
    let lost = rw c.in-Err-Lost.field-0-is at c.in-Err-Lost.ensures.missed in
    ap (λ (z : View). z.draws) lost.same

pub returns-in-Err-Spent-clause-drew : goal.returns-in-Err-Spent-clause-drew
returns-in-Err-Spent-clause-drew g c =
    let turned : IsMissedBy c.args.space.now.events (view c.args.self.now.desk) (view c.fire_to.new.desk) c.args.members.now c.args.nexts.now a_miss.Spent = rw c.in-Err-Spent.field-0-is at c.in-Err-Spent.ensures.missed in
    inl (ap (λ (x : Desk Parcel). (view x).draws) c.give_up.ensures.same.0 ∙ ap (λ (z : View). z.draws) turned.same)

pub returns-in-Ok-clause-stock : goal.returns-in-Ok-clause-stock
returns-in-Ok-clause-stock g c = λ _.
    let f = c.in-Ok.ensures.fired in
    ⊎_elim
    (λ same. inl same)
    (λ none. inr (subst (DrewFiringLast (program_of c.args.space.now) (view c.args.self.now.desk).draws) (sym c.begin_fired.ensures.undrawn) (fired_last _ _ _ _ _ _ _ _ _ _ f.2 none)))
    (c.begin_fired.ensures.kept (view c.args.self.now.desk) f.0 f.1 (found_fired _ _ _ _ _ c.requires.minds _ _ _ _ c.requires.found.1 _ c.fire_to.ensures.desk _ _ f.2))

pub returns-in-Err-Lost-clause-stock : goal.returns-in-Err-Lost-clause-stock
returns-in-Err-Lost-clause-stock g c = λ _. inl refl

pub returns-in-Err-Spent-clause-stock : goal.returns-in-Err-Spent-clause-stock
returns-in-Err-Spent-clause-stock g c = λ _. inl c.give_up.ensures.same.1

pub returns-in-Err-Spent-clause-lists : goal.returns-in-Err-Spent-clause-lists
returns-in-Err-Spent-clause-lists g c = c.give_up.ensures.lists.1

-- who had no task and took a firing on plays its body
no_post : (knows : ℕ → Type 0) (before : List Entry) (x : Option Task) (w : Worker) (f : ℕ) → HasTakenOn knows before x w f → x ≡ None → w.task ≡ None → ⊥
no_post knows before x w f (inl posted) none still = posted.0 none
no_post knows before x w f (inr plays) none still = let z : Some plays.on_top.0 ≡ None = sym plays.on_top.1 ∙ still in absurd (cc)

pub returns-in-Ok-clause-played : goal.returns-in-Ok-clause-played
returns-in-Ok-clause-played g c = λ none still.
    let f = c.in-Ok.ensures.fired in
    absurd (no_post g.G.Gate.knows (view c.args.self.now.desk).kept c.args.self.now.task c.begin_fired.new.self _
    (c.begin_fired.ensures.taken (view c.args.self.now.desk) f.0 f.1 (found_fired _ _ _ _ _ c.requires.minds _ _ _ _ c.requires.found.1 _ c.fire_to.ensures.desk _ _ f.2))
    none still)

pub returns-in-Err-Lost-clause-played : goal.returns-in-Err-Lost-clause-played
returns-in-Err-Lost-clause-played g c = λ none still.
    let lost = rw c.in-Err-Lost.field-0-is at c.in-Err-Lost.ensures.missed in
    ap (λ (z : View). z.draws) lost.same

pub returns-in-Err-Spent-clause-played : goal.returns-in-Err-Spent-clause-played
returns-in-Err-Spent-clause-played g c = λ none still.
    let turned : IsMissedBy c.args.space.now.events (view c.args.self.now.desk) (view c.fire_to.new.desk) c.args.members.now c.args.nexts.now a_miss.Spent = rw c.in-Err-Spent.field-0-is at c.in-Err-Spent.ensures.missed in
    ap (λ (x : Desk Parcel). (view x).draws) c.give_up.ensures.same.0 ∙ ap (λ (z : View). z.draws) turned.same
