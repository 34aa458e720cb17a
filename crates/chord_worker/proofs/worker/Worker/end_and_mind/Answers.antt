use Rattle.std.specs.Prelude.{IfSome}
use Rattle.std.proofs.Common.{◌≡◌, Option, Some, None, refl, sym, ap, ◌∙◌, subst, inl, inr, vec_len, Vec, Global, ℕ}
use Rattle.chord_base.specs.declared.event.End.{End}
use Rattle.chord_base.specs.declared.event.End.TheVariants.{Gives}
use Rattle.chord_base.specs.declared.event.What.TheVariants.{Ended}
use Rattle.chord_base.specs.declared.event.Entry.{Entry}
use Rattle.chord_base.specs.declared.value.Value.TheVariants as a_value
use Rattle.chord_base.specs.Story.{IsIn}
use Rattle.chord_rule.specs.declared.view.View.{View}
use Rattle.chord_rule.specs.Made.{key}
use Rattle.chord_space.specs.declared.space.Desk.{Desk}
use Rattle.chord_space.specs.Desks.{view, space_code, space_limits, program_of, IsSameDesk}
use Rattle.chord_task.specs.declared.parcel.Opened.{Opened as Parcel}
use Rattle.chord_task.specs.declared.task.Task.{Task}
use Rattle.chord_task.specs.Standing.{body_may_go, body_number}
use Rattle.chord_task.specs.Turning.{HasCome}
use Rattle.chord_vm.specs.declared.ask.Ask.{Ask}
use Rattle.chord_vm.specs.declared.ask.Ask.TheVariants as ask
use Rattle.chord_vm.specs.Frames.{what_of_ask}
use Rattle.chord_worker.specs.Playing.{DrawsOne, HeardOfLimit, IsNotedAs, IsNotedFrom}
use Rattle.chord_worker.specs.Resting.{IsAtRest, IsSameRole}
use Rattle.chord_worker.specs.Stepping.{DrewEnd, WasMinded}
use Rattle.chord_worker.proofs.Attending.{role_on}
use Rattle.chord_worker.proofs.Drawn.{was_noted, last_drew, none_drew, step_stocked}
use Rattle.chord_worker.proofs.Ended.{ended_minds, ended_told, rest_stocked, stays_stocked}
use Rattle.chord_worker.proofs.Given.{value_of_some, where_none}
use Rattle.chord_worker.proofs.Resting.{role_noted, role_told}
use Rattle.chord_worker.proofs.Stepping.{minded_as}
use Rattle.chord_worker.proofs.Stocked.{stocked_retired}
use Rattle.chord_worker.proofs.worker.Worker.end_and_mind.Given.{Over}
use Rattle.chord_worker.proofs.worker.Worker.end_and_mind.Goals.{After-draw_own}
use Rattle.chord_worker.proofs.worker.Worker.end_and_mind.Goals as goal

pub draw_own-requires-clause-came : goal.draw_own-requires-clause-came
draw_own-requires-clause-came g c = λ a e.
    let s = c.args.space.now in
    let is : Some (ask.End (Gives a_value.Unit)) ≡ Some a = sym c.replace.ensures.after ∙ e in
    let same : ask.End (Gives a_value.Unit) ≡ a = cc in
    (c.args.task, subst (λ (b : Ask). HasCome (space_code s) (space_limits s) c.args.task c.args.task (what_of_ask b)) same c.requires.came, c.requires.minds.memory)

-- the end that was drawn is an entry
module _ (g : Over) (c : After-draw_own g) where
  noted_here : {number : Option ℕ} {n : ℕ} → number ≡ Some n → IfSome number (IsNotedFrom c.args.space.now (view c.args.self.now.desk) (view c.draw_own.new.desk) c.replace.new.dest c.args.task c.draw_own.new.task)
      → IsNotedAs (space_code c.args.space.now) (space_limits c.args.space.now) (view c.args.self.now.desk) (view c.draw_own.new.desk) c.args.task c.draw_own.new.task n (Ended (Gives a_value.Unit))
  noted_here is each = was_noted c.args.space.now (view c.args.self.now.desk) (view c.draw_own.new.desk) c.replace.new.dest c.args.task c.draw_own.new.task _ _ is each (ask.End (Gives a_value.Unit)) c.args.task c.replace.ensures.after c.requires.came

pub mind-requires-clause-minds : goal.mind-requires-clause-minds
mind-requires-clause-minds g c =
    let s = c.args.space.now in
    let w = c.args.self.now in
    let n = c.in-Some.field-0 in
    let noted = noted_here g (goal.at.mind-requires-clause-minds g c).After-draw_own c.in-Some.is c.in_ok-draw_own.ensures.noted in
    let top = value_of_some _ n (λ _. (e : End) → c.replace.new.dest ≡ Some (ask.End e) → vec_len c.args.task.below ≡ 0 → c.draw_own.new.task.top ≡ None) c.in-Some.is c.in_ok-draw_own.ensures.over (Gives a_value.Unit) c.replace.ensures.after c.requires.alone in
    ended_minds s w c.args.task c.args.message.number (key c.args.message.object c.args.message.method) c.requires.minds _ c.draw_own.ensures.desk c.draw_own.new.task n (Ended (Gives a_value.Unit)) noted (λ x xs. refl) (ap body_may_go top) refl refl c.requires.none
    (value_of_some _ n (λ _. DrawsOne (view w.desk).draws (view c.draw_own.new.desk).draws w.draws.items c.draw_own.new.draws.items) c.in-Some.is c.in_ok-draw_own.ensures.listed) refl

pub returns-in_ok-mind-in-Some-clause-over : goal.returns-in_ok-mind-in-Some-clause-over
returns-in_ok-mind-in-Some-clause-over g c =
    let s = c.args.space.now in
    let noted = noted_here g (goal.at.returns-in_ok-mind-in-Some-clause-over g c).After-draw_own c.in-Some.is c.in_ok-draw_own.ensures.noted in
    let r = c.in_ok-mind-in-Some.ensures.over in
    let stock = c.retire.ensures.stock (space_code s) (space_limits s) noted.task r.0.stock in (
      subst (IsAtRest s) (sym c.retire.ensures.frame) (rest_stocked s c.mind.new.self c.retire.new.self.spare stock r.0),
      λ e. c.retire.ensures.same.1 ∙ r.1 (sym c.retire.ensures.same.2 ∙ e),
    )

pub returns-in_ok-mind-in-Some-clause-stocked : goal.returns-in_ok-mind-in-Some-clause-stocked
returns-in_ok-mind-in-Some-clause-stocked g c =
    let n = c.in-Some.field-0 in
    let top = value_of_some _ n (λ _. (e : End) → c.replace.new.dest ≡ Some (ask.End e) → vec_len c.args.task.below ≡ 0 → c.draw_own.new.task.top ≡ None) c.in-Some.is c.in_ok-draw_own.ensures.over (Gives a_value.Unit) c.replace.ensures.after c.requires.alone in
    stays_stocked c.mind.new.self.spare c.retire.new.self.spare c.retire.ensures.stays (λ none. c.retire.ensures.serves none (ap body_number top))

pub returns-in_ok-mind-in-Some-clause-role : goal.returns-in_ok-mind-in-Some-clause-role
returns-in_ok-mind-in-Some-clause-role g c =
    let s = c.args.space.now in
    let w = c.args.self.now in
    let n = c.in-Some.field-0 in
    let noted = noted_here g (goal.at.returns-in_ok-mind-in-Some-clause-role g c).After-draw_own c.in-Some.is c.in_ok-draw_own.ensures.noted in
    let here = role_noted (space_code s) (space_limits s) (view w.desk) (view c.draw_own.new.desk) c.args.task c.draw_own.new.task n (Ended (Gives a_value.Unit)) noted in
    role_on (view w.desk) (view c.draw_own.new.desk) (view c.retire.new.self.desk) here
    (subst (λ (d : Desk Parcel). IsSameRole (view c.draw_own.new.desk) (view d)) (sym c.retire.ensures.same.0) c.in_ok-mind-in-Some.ensures.role)

pub returns-in_ok-mind-in-Some-clause-minded : goal.returns-in_ok-mind-in-Some-clause-minded
returns-in_ok-mind-in-Some-clause-minded g c =
    let noted = noted_here g (goal.at.returns-in_ok-mind-in-Some-clause-minded g c).After-draw_own c.in-Some.is c.in_ok-draw_own.ensures.noted in
    let es = (view c.draw_own.new.desk).kept in (
      es,
      (λ e i. subst (IsIn e) (sym (ap (λ (z : View). z.kept) noted.drawn)) (inr i)),
      minded_as g.G.Gate.knows es None c.mind.new.self c.retire.new.self c.args.message.number c.retire.ensures.same.0 c.retire.ensures.same.1
          (subst (λ (y : Option Task). WasMinded g.G.Gate.knows es y c.mind.new.self c.args.message.number) c.requires.none c.in_ok-mind-in-Some.ensures.minded),
    )

pub returns-in-None-clause-over : goal.returns-in-None-clause-over
returns-in-None-clause-over g c =
    let s = c.args.space.now in
    let w = c.args.self.now in
    let d = c.lay_down.ensures.same.0 in
    let told = subst (λ (x : Desk Parcel). HeardOfLimit (view w.desk) (view x)) (sym d) (where_none _ (HeardOfLimit (view w.desk) (view c.draw_own.new.desk)) c.in-None.is c.in_ok-draw_own.ensures.told) in
    let same = subst (λ (x : Desk Parcel). IsSameDesk w.desk x) (sym d) c.draw_own.ensures.desk in
    let none = c.lay_down.ensures.same.2 ∙ c.requires.none in (
      ended_told s w c.args.task c.args.message.number (key c.args.message.object c.args.message.method) c.requires.minds c.lay_down.new.self same told c.lay_down.ensures.same.1 none c.lay_down.ensures.same.3
          (ap (λ (x : Vec Entry Global). x.items) c.lay_down.ensures.lists.0 ∙ where_none _ (c.draw_own.new.draws.items ≡ w.draws.items) c.in-None.is c.in_ok-draw_own.ensures.same)
          (ap (λ (x : Vec (Vec Entry Global) Global). x.items) c.lay_down.ensures.lists.1),
      λ _. none,
    )

pub returns-in-None-clause-role : goal.returns-in-None-clause-role
returns-in-None-clause-role g c =
    let w = c.args.self.now in
    let told = where_none _ (HeardOfLimit (view w.desk) (view c.draw_own.new.desk)) c.in-None.is c.in_ok-draw_own.ensures.told in
    role_told (view w.desk) (view c.lay_down.new.self.desk) (subst (λ (x : Desk Parcel). HeardOfLimit (view w.desk) (view x)) (sym c.lay_down.ensures.same.0) told)

pub returns-in-None-clause-minded : goal.returns-in-None-clause-minded
returns-in-None-clause-minded g c =
    let w = c.args.self.now in
    let told = where_none _ (HeardOfLimit (view w.desk) (view c.draw_own.new.desk)) c.in-None.is c.in_ok-draw_own.ensures.told in
    ((view w.desk).kept, (λ e i. i), inr (inr (ap (λ (x : Desk Parcel). (view x).spent) c.lay_down.ensures.same.0 ∙ ap (λ (z : View). z.spent) told.1)))

pub returns-in-None-clause-stocked : goal.returns-in-None-clause-stocked
returns-in-None-clause-stocked g c = λ e.
    let stock : Some c.requires.minds.stock ≡ None = sym c.requires.minds.spare ∙ sym c.lay_down.ensures.same.1 ∙ e in
    absurd (cc)

pub returns-in_ok-mind-in-Some-clause-drew : goal.returns-in_ok-mind-in-Some-clause-drew
returns-in_ok-mind-in-Some-clause-drew g c = λ b top.
    subst (λ (d : Desk Parcel). DrewEnd b (view c.args.self.now.desk).draws (view d).draws) (sym c.retire.ensures.same.0)
    (last_drew c.args.space.now (view c.args.self.now.desk) (view c.draw_own.new.desk) c.replace.new.dest c.args.task c.draw_own.new.task _ c.in-Some.field-0 c.in-Some.is c.in_ok-draw_own.ensures.noted (ask.End (Gives a_value.Unit)) c.args.task c.replace.ensures.after c.requires.came
    b top refl (view c.mind.new.self.desk).draws c.mind.ensures.drew)

pub returns-in_err-mind-in-Some-clause-drew : goal.returns-in_err-mind-in-Some-clause-drew
returns-in_err-mind-in-Some-clause-drew g c = λ b top.
    last_drew c.args.space.now (view c.args.self.now.desk) (view c.draw_own.new.desk) c.replace.new.dest c.args.task c.draw_own.new.task _ c.in-Some.field-0 c.in-Some.is c.in_ok-draw_own.ensures.noted (ask.End (Gives a_value.Unit)) c.args.task c.replace.ensures.after c.requires.came
    b top refl (view c.mind.new.self.desk).draws c.mind.ensures.drew

pub returns-in-None-clause-drew : goal.returns-in-None-clause-drew
returns-in-None-clause-drew g c = λ b top.
    inl (inl (none_drew (view c.args.self.now.desk) (view c.draw_own.new.desk) _ c.in-None.is c.in_ok-draw_own.ensures.told (view c.lay_down.new.self.desk).draws (ap (λ (x : Desk Parcel). (view x).draws) c.lay_down.ensures.same.0)))

pub returns-in_err-draw_own-clause-drew : goal.returns-in_err-draw_own-clause-drew
returns-in_err-draw_own-clause-drew g c = λ b top. inl (inl (ap (λ (z : View). z.draws) c.in_err-draw_own.ensures.undrawn.0))

pub returns-in_ok-mind-in-Some-clause-stock : goal.returns-in_ok-mind-in-Some-clause-stock
returns-in_ok-mind-in-Some-clause-stock g c =
    let w = c.args.self.now in
    stocked_retired (program_of c.args.space.now) (view w.desk).draws w.spare c.mind.new.self c.retire.new.self c.retire.ensures.same.0 c.retire.ensures.stays
    (step_stocked c.args.space.now (view w.desk) (view c.draw_own.new.desk) c.replace.new.dest c.args.task c.draw_own.new.task _ c.in-Some.field-0 c.in-Some.is c.in_ok-draw_own.ensures.noted (ask.End (Gives a_value.Unit)) c.args.task c.replace.ensures.after c.requires.came
    (program_of c.args.space.now) (view c.draw_own.new.desk).draws w.spare w.spare c.mind.new.self refl (λ _. refl) c.in_ok-mind-in-Some.ensures.stock)

pub returns-in-None-clause-stock : goal.returns-in-None-clause-stock
returns-in-None-clause-stock g c = λ _. inl c.lay_down.ensures.same.1

pub returns-in_ok-mind-in-Some-clause-lists : goal.returns-in_ok-mind-in-Some-clause-lists
returns-in_ok-mind-in-Some-clause-lists g c = c.retire.ensures.lists.1 ∙ c.mind.ensures.lists

pub returns-in_err-mind-in-Some-clause-lists : goal.returns-in_err-mind-in-Some-clause-lists
returns-in_err-mind-in-Some-clause-lists g c = c.mind.ensures.lists

pub returns-in-None-clause-lists : goal.returns-in-None-clause-lists
returns-in-None-clause-lists g c = c.lay_down.ensures.lists.1
