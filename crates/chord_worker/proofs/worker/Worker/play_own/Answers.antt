use Rattle.std.specs.Prelude.{IfSome}
use Rattle.std.proofs.Common.{◌≡◌, ℕ, Bool, Option, Some, None, vec_len, refl, sym, ap, subst, ◌∙◌, inl, inr, Vec, Global}
use Rattle.chord_base.specs.declared.event.Entry.{Entry}
use Rattle.chord_base.specs.Story.{IsIn}
use Rattle.chord_rule.specs.declared.view.View.{View}
use Rattle.chord_rule.specs.Kinds.{entry}
use Rattle.chord_space.specs.declared.space.Desk.{Desk}
use Rattle.chord_space.specs.Desks.{view, space_code, space_limits, IsSameDesk}
use Rattle.chord_task.specs.declared.parcel.Opened.{Opened as Parcel}
use Rattle.chord_base.specs.declared.event.End.{End}
use Rattle.chord_vm.specs.declared.ask.Ask.{Ask}
use Rattle.chord_vm.specs.declared.ask.Ask.TheVariants as ask
use Rattle.chord_vm.specs.Frames.{what_of_ask}
use Rattle.chord_worker.specs.Playing.{DrawsOne, IsNotedAs, IsNotedFrom, HeardOfLimit}
use Rattle.chord_worker.specs.Resting.{IsInMemory}
use Rattle.chord_worker.proofs.Given.{some_ask, value_of_some, where_none}
use Rattle.chord_worker.proofs.Ended.{stays_stocked}
use Rattle.chord_worker.proofs.Drawn.{was_noted, step_drew, step_says, none_drew, nothing_first}
use Rattle.chord_worker.proofs.Resting.{rest_noted, role_noted, rest_told, role_told}
use Rattle.chord_worker.specs.Stepping.{PlaysNoOther}
use Rattle.chord_worker.proofs.Stepping.{newest_is_kept, no_other, still_no_other}
use Rattle.chord_worker.proofs.worker.Worker.play_own.Goals.{After-draw_own}
use Rattle.chord_worker.proofs.worker.Worker.play_own.Goals as goal

pub draw_own-requires-clause-came : goal.draw_own-requires-clause-came
draw_own-requires-clause-came c = λ a e. let y = c.requires.came a e in
    (y.0, y.1, subst (λ (b : Bool). IsInMemory (space_code c.args.space.now) (space_limits c.args.space.now) (view c.args.self.now.desk).kept b (Some y.0)) c.requires.room y.2.memory)

-- the ask that was drawn is an entry
module _ (c : After-draw_own) where
  abbrev ask_here : (a : Ask) × (c.args.asked.now ≡ Some a)
  ask_here = some_ask c.args.asked.now c.requires.some

  noted_here : {number : Option ℕ} {n : ℕ} → number ≡ Some n → IfSome number (IsNotedFrom c.args.space.now (view c.args.self.now.desk) (view c.draw_own.new.desk) c.args.asked.now c.args.task c.draw_own.new.task)
      → IsNotedAs (space_code c.args.space.now) (space_limits c.args.space.now) (view c.args.self.now.desk) (view c.draw_own.new.desk) (c.requires.came ask_here.0 ask_here.1).0 c.draw_own.new.task n (what_of_ask ask_here.0)
  noted_here is each = let came = c.requires.came ask_here.0 ask_here.1 in was_noted c.args.space.now (view c.args.self.now.desk) (view c.draw_own.new.desk) c.args.asked.now c.args.task c.draw_own.new.task _ _ is each ask_here.0 came.0 ask_here.1 came.1

pub returns-in-Some-clause-rest : goal.returns-in-Some-clause-rest
returns-in-Some-clause-rest c =
    let s = c.args.space.now in
    let w = c.args.self.now in
    let a = some_ask c.args.asked.now c.requires.some in
    let y = c.requires.came a.0 a.1 in
    let n = c.in-Some.field-0 in
    let noted = noted_here (goal.at.returns-in-Some-clause-rest c).After-draw_own c.in-Some.is c.in_ok-draw_own.ensures.noted in
    let d = c.settle.ensures.same.0 in
    let moved = subst (λ (x : Desk Parcel). IsNotedAs (space_code s) (space_limits s) (view w.desk) (view x) y.0 c.draw_own.new.task n (what_of_ask a.0)) (sym d) noted in
    let same = subst (λ (x : Desk Parcel). IsSameDesk w.desk x) (sym d) c.draw_own.ensures.desk in
    let memory = moved.memory (view w.desk).spent y.2.memory in
    let settled = c.settle.ensures.settled (space_code s) (space_limits s) _ _ memory in
    rest_noted s w y.0 y.2 c.settle.new.self same c.draw_own.new.task n (what_of_ask a.0) moved (c.requires.plain a.0 a.1) c.settle.ensures.same.1 (c.settle.ensures.stock (space_code s) (space_limits s) memory.played.0 y.2.stock) settled.0 settled.1
    (subst (λ (x : Desk Parcel). DrawsOne (view w.desk).draws (view x).draws w.draws.items c.settle.new.self.draws.items) (sym d)
    (subst (λ (x : Vec Entry Global). DrawsOne (view w.desk).draws (view c.draw_own.new.desk).draws w.draws.items x.items) (sym c.settle.ensures.lists.0)
    (value_of_some _ n (λ _. DrawsOne (view w.desk).draws (view c.draw_own.new.desk).draws w.draws.items c.draw_own.new.draws.items) c.in-Some.is c.in_ok-draw_own.ensures.listed)))
    (ap (λ (x : Vec (Vec Entry Global) Global). x.items) c.settle.ensures.lists.1)

pub returns-in-Some-clause-role : goal.returns-in-Some-clause-role
returns-in-Some-clause-role c =
    let s = c.args.space.now in
    let w = c.args.self.now in
    let a = some_ask c.args.asked.now c.requires.some in
    let y = c.requires.came a.0 a.1 in
    let n = c.in-Some.field-0 in
    let noted = noted_here (goal.at.returns-in-Some-clause-role c).After-draw_own c.in-Some.is c.in_ok-draw_own.ensures.noted in
    let d = c.settle.ensures.same.0 in
    let moved = subst (λ (x : Desk Parcel). IsNotedAs (space_code s) (space_limits s) (view w.desk) (view x) y.0 c.draw_own.new.task n (what_of_ask a.0)) (sym d) noted in
    role_noted (space_code s) (space_limits s) (view w.desk) (view c.settle.new.self.desk) y.0 c.draw_own.new.task n (what_of_ask a.0) moved

pub returns-in-None-clause-rest : goal.returns-in-None-clause-rest
returns-in-None-clause-rest c =
    let s = c.args.space.now in
    let w = c.args.self.now in
    let a = some_ask c.args.asked.now c.requires.some in
    let y = c.requires.came a.0 a.1 in
    let told = where_none _ (HeardOfLimit (view w.desk) (view c.draw_own.new.desk)) c.in-None.is c.in_ok-draw_own.ensures.told in
    let d = c.lay_down.ensures.same.0 in
    let moved = subst (λ (x : Desk Parcel). HeardOfLimit (view w.desk) (view x)) (sym d) told in
    let same = subst (λ (x : Desk Parcel). IsSameDesk w.desk x) (sym d) c.draw_own.ensures.desk in
    rest_told s w y.0 y.2 c.lay_down.new.self same moved c.lay_down.ensures.same.1 (c.lay_down.ensures.same.2 ∙ c.requires.none) c.lay_down.ensures.same.3
    (ap (λ (x : Vec Entry Global). x.items) c.lay_down.ensures.lists.0 ∙ where_none _ (c.draw_own.new.draws.items ≡ w.draws.items) c.in-None.is c.in_ok-draw_own.ensures.same)
    (ap (λ (x : Vec (Vec Entry Global) Global). x.items) c.lay_down.ensures.lists.1)

pub returns-in-None-clause-role : goal.returns-in-None-clause-role
returns-in-None-clause-role c =
    let w = c.args.self.now in
    let told = where_none _ (HeardOfLimit (view w.desk) (view c.draw_own.new.desk)) c.in-None.is c.in_ok-draw_own.ensures.told in
    let d = c.lay_down.ensures.same.0 in
    let moved = subst (λ (x : Desk Parcel). HeardOfLimit (view w.desk) (view x)) (sym d) told in
    role_told (view w.desk) (view c.lay_down.new.self.desk) moved

pub returns-in-Some-clause-went : goal.returns-in-Some-clause-went
returns-in-Some-clause-went c =
    let w = c.args.self.now in
    let a = some_ask c.args.asked.now c.requires.some in
    let n = c.in-Some.field-0 in
    let noted = noted_here (goal.at.returns-in-Some-clause-went c).After-draw_own c.in-Some.is c.in_ok-draw_own.ensures.noted in
    let kept = ap (λ (x : Desk Parcel). (view x).kept) c.settle.ensures.same.0 ∙ ap (λ (z : View). z.kept) noted.drawn in
    let x = entry n noted.body (what_of_ask a.0) in
    inl (newest_is_kept (view w.desk).kept c.args.task n x refl noted.below c.settle.new.self (subst (IsIn x) (sym kept) (inl refl)))

pub returns-in-None-clause-went : goal.returns-in-None-clause-went
returns-in-None-clause-went c =
    let w = c.args.self.now in
    let told = where_none _ (HeardOfLimit (view w.desk) (view c.draw_own.new.desk)) c.in-None.is c.in_ok-draw_own.ensures.told in
    let d = c.lay_down.ensures.same.0 in
    inr (inr (ap (λ (x : Desk Parcel). (view x).spent) d ∙ ap (λ (z : View). z.spent) told.1))

pub returns-in-Some-clause-plays : goal.returns-in-Some-clause-plays
returns-in-Some-clause-plays c =
    let a = some_ask c.args.asked.now c.requires.some in
    let y = c.requires.came a.0 a.1 in
    let n = c.in-Some.field-0 in
    let noted = noted_here (goal.at.returns-in-Some-clause-plays c).After-draw_own c.in-Some.is c.in_ok-draw_own.ensures.noted in
    still_no_other c.args.task y.0 c.settle.new.self.task (sym y.1.view) (no_other y.0 c.draw_own.new.task (entry n noted.body (what_of_ask a.0)) c.settle.new.self.task noted.past c.settle.ensures.task)

pub returns-in-None-clause-plays : goal.returns-in-None-clause-plays
returns-in-None-clause-plays c = subst (PlaysNoOther c.args.task) (sym (c.lay_down.ensures.same.2 ∙ c.requires.none)) tt

pub returns-in-Some-clause-drew : goal.returns-in-Some-clause-drew
returns-in-Some-clause-drew c =
    let a = some_ask c.args.asked.now c.requires.some in
    let y = c.requires.came a.0 a.1 in
    let draws = (view c.settle.new.self.desk).draws in
    step_drew c.args.space.now (view c.args.self.now.desk) (view c.draw_own.new.desk) c.args.asked.now c.args.task c.draw_own.new.task _ c.in-Some.field-0 c.in-Some.is c.in_ok-draw_own.ensures.noted a.0 y.0 a.1 y.1
    draws draws (ap (λ (x : Desk Parcel). (view x).draws) c.settle.ensures.same.0) (λ b top. inl (inl refl))

pub returns-in-None-clause-drew : goal.returns-in-None-clause-drew
returns-in-None-clause-drew c =
    inl (none_drew (view c.args.self.now.desk) (view c.draw_own.new.desk) _ c.in-None.is c.in_ok-draw_own.ensures.told (view c.lay_down.new.self.desk).draws (ap (λ (x : Desk Parcel). (view x).draws) c.lay_down.ensures.same.0))

pub returns-in_err-draw_own-clause-drew : goal.returns-in_err-draw_own-clause-drew
returns-in_err-draw_own-clause-drew c = inl (ap (λ (z : View). z.draws) c.in_err-draw_own.ensures.undrawn.0)

pub returns-in-Some-clause-stocked : goal.returns-in-Some-clause-stocked
returns-in-Some-clause-stocked c = λ e asked alone.
    let n = c.in-Some.field-0 in
    let top = value_of_some _ n (λ _. (e : End) → c.args.asked.now ≡ Some (ask.End e) → vec_len c.args.task.below ≡ 0 → c.draw_own.new.task.top ≡ None) c.in-Some.is c.in_ok-draw_own.ensures.over e asked alone in
    inl (stays_stocked c.args.self.now.spare c.settle.new.self.spare c.settle.ensures.stays (λ none. c.settle.ensures.serves none top))

pub returns-in-Some-clause-stays : goal.returns-in-Some-clause-stays
returns-in-Some-clause-stays c = c.settle.ensures.stays

pub returns-in-None-clause-stays : goal.returns-in-None-clause-stays
returns-in-None-clause-stays c = λ _. c.lay_down.ensures.same.1

pub returns-in-Some-clause-unmade : goal.returns-in-Some-clause-unmade
returns-in-Some-clause-unmade c = λ a e plain.
    let y = c.requires.came a e in
    let noted = was_noted c.args.space.now (view c.args.self.now.desk) (view c.draw_own.new.desk) c.args.asked.now c.args.task c.draw_own.new.task _ c.in-Some.field-0 c.in-Some.is c.in_ok-draw_own.ensures.noted a y.0 e y.1 in
    c.settle.ensures.unmade (λ none. let z : Some noted.body ≡ None = sym (noted.top plain) ∙ none in cc)

pub returns-in-None-clause-unmade : goal.returns-in-None-clause-unmade
returns-in-None-clause-unmade c = λ a e plain. c.lay_down.ensures.same.1

pub returns-in-Some-clause-says : goal.returns-in-Some-clause-says
returns-in-Some-clause-says c = λ a e.
    let y = c.requires.came a e in
    let draws = (view c.settle.new.self.desk).draws in
    step_says c.args.space.now (view c.args.self.now.desk) (view c.draw_own.new.desk) c.args.asked.now c.args.task c.draw_own.new.task _ c.in-Some.field-0 c.in-Some.is c.in_ok-draw_own.ensures.noted a y.0 e y.1
    draws draws (ap (λ (x : Desk Parcel). (view x).draws) c.settle.ensures.same.0) (λ b top. inl (inl refl))

pub returns-in-None-clause-says : goal.returns-in-None-clause-says
returns-in-None-clause-says c = λ a e.
    nothing_first (what_of_ask a) (view c.args.self.now.desk).draws (view c.lay_down.new.self.desk).draws
    (none_drew (view c.args.self.now.desk) (view c.draw_own.new.desk) _ c.in-None.is c.in_ok-draw_own.ensures.told (view c.lay_down.new.self.desk).draws (ap (λ (x : Desk Parcel). (view x).draws) c.lay_down.ensures.same.0))

pub returns-in-Some-clause-lists : goal.returns-in-Some-clause-lists
returns-in-Some-clause-lists c = c.settle.ensures.lists.1

pub returns-in-None-clause-lists : goal.returns-in-None-clause-lists
returns-in-None-clause-lists c = c.lay_down.ensures.lists.1
