use Rattle.std.specs.Prelude.{IfSome}
use Rattle.std.proofs.Common.{◌≡◌, ℕ, ◌<◌, Bool, Some, List, ◌∷◌, Option, refl, sym, ap, ◌∙◌, subst, inl, inr, arith, Vec, Global}
use Rattle.chord_base.specs.declared.event.Entry.{Entry}
use Rattle.chord_base.specs.declared.event.What.TheVariants.{Called}
use Rattle.chord_vm.specs.declared.ask.Ask.{Ask}
use Rattle.chord_vm.specs.declared.ask.Ask.TheVariants as ask
use Rattle.chord_vm.specs.Frames.{what_of_ask}
use Rattle.chord_task.specs.Turning.{HasCome}
use Rattle.chord_rule.specs.declared.view.View.{View}
use Rattle.chord_rule.specs.Kinds.{entry, left_by}
use Rattle.chord_rule.specs.Made.{key}
use Rattle.chord_space.specs.declared.space.Desk.{Desk}
use Rattle.chord_space.specs.Desks.{view, space_code, space_limits, program_of, IsSameDesk}
use Rattle.chord_task.specs.declared.parcel.Opened.{Opened as Parcel}
use Rattle.chord_task.specs.declared.task.Task.{Task}
use Rattle.chord_task.specs.Standing.{view_of}
use Rattle.chord_worker.specs.Playing.{DrawsOne, HeardOfLimit, IsNotedAs, IsNotedFrom}
use Rattle.chord_worker.proofs.Given.{only_ask, value_of_some, where_none}
use Rattle.chord_worker.specs.Resting.{IsInMemory, MayContinue}
use Rattle.chord_worker.proofs.Resting.{rest_told}
use Rattle.chord_worker.proofs.Attending.{role_on}
use Rattle.chord_worker.proofs.Drawn.{was_noted, step_drew, step_says, none_drew, nothing_first, step_stocked}
use Rattle.chord_worker.proofs.Sent.{task_may, task_left, task_memory, now_minds, minds_role}
use Rattle.chord_worker.proofs.Stepping.{went_called, plays_minded, gone_on, plays_next}
use Rattle.chord_worker.specs.Stepping.{PlaysNoOther, WasMinded}
use Rattle.chord_worker.proofs.worker.Worker.play_called.Given.{Over}
use Rattle.chord_worker.proofs.worker.Worker.play_called.Goals.{After-draw_own}
use Rattle.chord_worker.proofs.worker.Worker.play_called.Goals as goal

pub draw_own-requires-clause-came : goal.draw_own-requires-clause-came
draw_own-requires-clause-came g c = λ a e.
    let s = c.args.space.now in
    let w = c.args.self.now in
    let same = only_ask c.args.asked.now (ask.Call c.args.object c.args.method c.args.held.first) a c.requires.asked e in (
      c.requires.came.0,
      subst (λ (b : Ask). HasCome (space_code s) (space_limits s) c.requires.came.0 c.args.task (what_of_ask b)) same c.requires.came.1,
      subst (λ (b : Bool). IsInMemory (space_code s) (space_limits s) (view w.desk).kept b (Some c.requires.came.0)) c.requires.room c.requires.came.2.memory,
    )

-- the message that was drawn is an entry
module _ (g : Over) (c : After-draw_own g) where
  noted_here : {number : Option ℕ} {n : ℕ} → number ≡ Some n → IfSome number (IsNotedFrom c.args.space.now (view c.args.self.now.desk) (view c.draw_own.new.desk) c.args.asked.now c.args.task c.draw_own.new.task)
      → IsNotedAs (space_code c.args.space.now) (space_limits c.args.space.now) (view c.args.self.now.desk) (view c.draw_own.new.desk) c.requires.came.0 c.draw_own.new.task n (Called c.args.object c.args.method c.args.held.first)
  noted_here is each = was_noted c.args.space.now (view c.args.self.now.desk) (view c.draw_own.new.desk) c.args.asked.now c.args.task c.draw_own.new.task _ _ is each (ask.Call c.args.object c.args.method c.args.held.first) c.requires.came.0 c.requires.asked c.requires.came.1

pub send_task-requires-clause-bounds : goal.send_task-requires-clause-bounds
send_task-requires-clause-bounds g c = ((value_of_some _ c.in-Some.number (λ (n : ℕ). n < c.args.space.now.events) c.in-Some.is c.in_ok-number.ensures.within), (noted_here g (goal.at.send_task-requires-clause-bounds g c).After-draw_own c.in-Some.is c.in_ok-number.ensures.noted).named c.args.object (inl refl))

pub send_task-requires-clause-link : goal.send_task-requires-clause-link
send_task-requires-clause-link g c =
    let s = c.args.space.now in
    task_may s c.args.self.now c.requires.came.0 c.requires.came.2 c.draw_own.new.task c.in-Some.number (view c.draw_own.new.desk) c.args.object c.args.method c.args.held.first (noted_here g (goal.at.send_task-requires-clause-link g c).After-draw_own c.in-Some.is c.in_ok-number.ensures.noted)

pub mind-requires-clause-bounds : goal.mind-requires-clause-bounds
mind-requires-clause-bounds g c =
    let low = (value_of_some _ c.in-Some.number (λ (n : ℕ). n < c.args.space.now.events) c.in-Some.is c.in_ok-number.ensures.within) in
    let named = (noted_here g (goal.at.mind-requires-clause-bounds g c).After-draw_own c.in-Some.is c.in_ok-number.ensures.noted).named c.args.object (inl refl) in
    (low, (omega (arith, low, named)), c.send_task.ensures.bounds.0, c.send_task.ensures.bounds.1)

pub mind-requires-clause-minds : goal.mind-requires-clause-minds
mind-requires-clause-minds g c =
    let s = c.args.space.now in
    let w = c.args.self.now in
    let w' = record w { desk = c.send_task.new.desk; draws = c.draw_own.new.draws } in
    let what = Called c.args.object c.args.method c.args.held.first in
    let noted = noted_here g (goal.at.mind-requires-clause-minds g c).After-draw_own c.in-Some.is c.in_ok-number.ensures.noted in
    let k = key c.args.object c.args.method in
    let v = view c.draw_own.new.desk in
    let sent = c.send_task.ensures.sent in
    let same : IsSameDesk w.desk c.send_task.new.desk = (c.send_task.ensures.desk.0 ∙ c.draw_own.ensures.desk.0, c.send_task.ensures.desk.1 ∙ c.draw_own.ensures.desk.1) in
    now_minds s w c.requires.came.0 c.requires.came.2 c.draw_own.new.task c.in-Some.number v what noted refl c.requires.room c.requires.stock w' k (view_of c.draw_own.new.task).past sent same refl refl
    (subst (λ (x : Option Task). IsInMemory (space_code s) (space_limits s) (view w'.desk).kept (view w.desk).spent x) (sym c.requires.none)
    (task_memory s w c.requires.came.0 c.requires.came.2 c.draw_own.new.task c.in-Some.number v c.args.object c.args.method c.args.held.first noted (view w'.desk) k sent))
    (subst MayContinue (sym c.requires.none) tt)
    (value_of_some _ c.in-Some.number (λ _. DrawsOne (view w.desk).draws (view c.draw_own.new.desk).draws w.draws.items c.draw_own.new.draws.items) c.in-Some.is c.in_ok-number.ensures.listed) refl

pub returns-in-None-clause-rest : goal.returns-in-None-clause-rest
returns-in-None-clause-rest g c =
    let s = c.args.space.now in
    let w = c.args.self.now in
    let d = c.lay_down.ensures.same.0 in
    let told = subst (λ (x : Desk Parcel). HeardOfLimit (view w.desk) (view x)) (sym d) (where_none _ (HeardOfLimit (view c.args.self.now.desk) (view c.draw_own.new.desk)) c.in-None.is c.in_ok-number.ensures.told) in
    let same = subst (λ (x : Desk Parcel). IsSameDesk w.desk x) (sym d) c.draw_own.ensures.desk in
    rest_told s w c.requires.came.0 c.requires.came.2 c.lay_down.new.self same told c.lay_down.ensures.same.1 (c.lay_down.ensures.same.2 ∙ c.requires.none) c.lay_down.ensures.same.3
    (ap (λ (x : Vec Entry Global). x.items) c.lay_down.ensures.lists.0 ∙ where_none _ (c.draw_own.new.draws.items ≡ w.draws.items) c.in-None.is c.in_ok-number.ensures.same)
    (ap (λ (x : Vec (Vec Entry Global) Global). x.items) c.lay_down.ensures.lists.1)

pub returns-in_ok-mind-in-Some-clause-went : goal.returns-in_ok-mind-in-Some-clause-went
returns-in_ok-mind-in-Some-clause-went g c =
    let noted = noted_here g (goal.at.returns-in_ok-mind-in-Some-clause-went g c).After-draw_own c.in-Some.is c.in_ok-number.ensures.noted in
    let x = entry c.in-Some.number noted.body (Called c.args.object c.args.method c.args.held.first) in
    let es = (view c.send_task.new.desk).kept in
    let gone = ap (λ (ps : List Entry). left_by ps (view c.draw_own.new.desk).kept) noted.past in
    let kept = c.send_task.ensures.sent.kept ∙ gone ∙ ap (λ (z : View). left_by (x ∷ (view_of c.requires.came.0).past) z.kept) noted.drawn in
    gone_on (view c.args.self.now.desk).kept c.args.task c.requires.came.0 c.mind.new.self (sym c.requires.came.1.view)
    (went_called (view c.args.self.now.desk).kept c.requires.came.0 c.in-Some.number x refl noted.below c.mind.new.self g.G.Gate.knows es kept
    (subst (λ (y : Option Task). WasMinded g.G.Gate.knows es y c.mind.new.self c.in-Some.number) c.requires.none c.in_ok-mind-in-Some.ensures.minded))

pub returns-in-None-clause-went : goal.returns-in-None-clause-went
returns-in-None-clause-went g c = inr (inr (ap (λ (x : Desk Parcel). (view x).spent) c.lay_down.ensures.same.0 ∙ ap (λ (z : View). z.spent) (where_none _ (HeardOfLimit (view c.args.self.now.desk) (view c.draw_own.new.desk)) c.in-None.is c.in_ok-number.ensures.told).1))

pub returns-in_ok-mind-in-Some-clause-plays : goal.returns-in_ok-mind-in-Some-clause-plays
returns-in_ok-mind-in-Some-clause-plays g c =
    plays_next g.G.Gate.knows (view c.args.self.now.desk).kept c.args.task c.requires.came.0 c.mind.new.self (sym c.requires.came.1.view)
    (plays_minded g.G.Gate.knows (view c.args.self.now.desk).kept (view c.send_task.new.desk).kept c.requires.came.0 c.in-Some.number c.args.self.now.task c.mind.new.self (noted_here g (goal.at.returns-in_ok-mind-in-Some-clause-plays g c).After-draw_own c.in-Some.is c.in_ok-number.ensures.noted).below
    (subst (PlaysNoOther c.requires.came.0) (sym c.requires.none) tt)
    (λ told. c.in_ok-mind-in-Some.ensures.over.1 (c.in_ok-mind-in-Some.ensures.over.0.told ∙ told)) c.in_ok-mind-in-Some.ensures.minded)

pub returns-in-None-clause-plays : goal.returns-in-None-clause-plays
returns-in-None-clause-plays g c = inl (subst (PlaysNoOther c.args.task) (sym (c.lay_down.ensures.same.2 ∙ c.requires.none)) tt)

pub send_task-requires-clause-task : goal.send_task-requires-clause-task
send_task-requires-clause-task g c = (noted_here g (goal.at.send_task-requires-clause-task g c).After-draw_own c.in-Some.is c.in_ok-number.ensures.noted).task

pub send_task-requires-clause-left : goal.send_task-requires-clause-left
send_task-requires-clause-left g c = task_left c.args.space.now c.args.self.now c.requires.came.0 c.requires.came.2 c.draw_own.new.task c.in-Some.number (view c.draw_own.new.desk) c.args.object c.args.method c.args.held.first (noted_here g (goal.at.send_task-requires-clause-left g c).After-draw_own c.in-Some.is c.in_ok-number.ensures.noted)

pub send_task-requires-clause-named : goal.send_task-requires-clause-named
send_task-requires-clause-named g c = (noted_here g (goal.at.send_task-requires-clause-named g c).After-draw_own c.in-Some.is c.in_ok-number.ensures.noted).of_code

pub returns-in_ok-mind-in-Some-clause-role : goal.returns-in_ok-mind-in-Some-clause-role
returns-in_ok-mind-in-Some-clause-role g c =
    let s = c.args.space.now in
    let w = c.args.self.now in
    let w' = record w { desk = c.send_task.new.desk; draws = c.draw_own.new.draws } in
    let what = Called c.args.object c.args.method c.args.held.first in
    let noted = noted_here g (goal.at.returns-in_ok-mind-in-Some-clause-role g c).After-draw_own c.in-Some.is c.in_ok-number.ensures.noted in
    let k = key c.args.object c.args.method in
    let v = view c.draw_own.new.desk in
    let sent = c.send_task.ensures.sent in
    let same : IsSameDesk w.desk c.send_task.new.desk = (c.send_task.ensures.desk.0 ∙ c.draw_own.ensures.desk.0, c.send_task.ensures.desk.1 ∙ c.draw_own.ensures.desk.1) in
    role_on (view w.desk) (view w'.desk) (view c.mind.new.self.desk) (minds_role s w c.requires.came.0 c.requires.came.2 c.draw_own.new.task c.in-Some.number v what noted refl c.requires.room c.requires.stock w' k (view_of c.draw_own.new.task).past sent same refl refl) c.in_ok-mind-in-Some.ensures.role

pub returns-in_ok-mind-in-Some-clause-drew : goal.returns-in_ok-mind-in-Some-clause-drew
returns-in_ok-mind-in-Some-clause-drew g c =
    step_drew c.args.space.now (view c.args.self.now.desk) (view c.draw_own.new.desk) c.args.asked.now c.args.task c.draw_own.new.task _ c.in-Some.number c.in-Some.is c.in_ok-number.ensures.noted (ask.Call c.args.object c.args.method c.args.held.first) c.requires.came.0 c.requires.asked c.requires.came.1
    (view c.send_task.new.desk).draws (view c.mind.new.self.desk).draws c.send_task.ensures.sent.draws (λ b top. inl c.mind.ensures.drew)

pub returns-in_err-mind-in-Some-clause-drew : goal.returns-in_err-mind-in-Some-clause-drew
returns-in_err-mind-in-Some-clause-drew g c =
    step_drew c.args.space.now (view c.args.self.now.desk) (view c.draw_own.new.desk) c.args.asked.now c.args.task c.draw_own.new.task _ c.in-Some.number c.in-Some.is c.in_ok-number.ensures.noted (ask.Call c.args.object c.args.method c.args.held.first) c.requires.came.0 c.requires.asked c.requires.came.1
    (view c.send_task.new.desk).draws (view c.mind.new.self.desk).draws c.send_task.ensures.sent.draws (λ b top. inl c.mind.ensures.drew)

pub returns-in-None-clause-drew : goal.returns-in-None-clause-drew
returns-in-None-clause-drew g c =
    inl (none_drew (view c.args.self.now.desk) (view c.draw_own.new.desk) _ c.in-None.is c.in_ok-number.ensures.told (view c.lay_down.new.self.desk).draws (ap (λ (x : Desk Parcel). (view x).draws) c.lay_down.ensures.same.0))

pub returns-in_err-number-clause-drew : goal.returns-in_err-number-clause-drew
returns-in_err-number-clause-drew g c = inl (ap (λ (z : View). z.draws) c.in_err-number.ensures.undrawn.0)

pub returns-in_ok-mind-in-Some-clause-stock : goal.returns-in_ok-mind-in-Some-clause-stock
returns-in_ok-mind-in-Some-clause-stock g c =
    step_stocked c.args.space.now (view c.args.self.now.desk) (view c.draw_own.new.desk) c.args.asked.now c.args.task c.draw_own.new.task _ c.in-Some.number c.in-Some.is c.in_ok-number.ensures.noted (ask.Call c.args.object c.args.method c.args.held.first) c.requires.came.0 c.requires.asked c.requires.came.1
    (program_of c.args.space.now) (view c.send_task.new.desk).draws c.args.self.now.spare c.args.self.now.spare c.mind.new.self c.send_task.ensures.sent.draws (λ _. refl) c.in_ok-mind-in-Some.ensures.stock

pub returns-in-None-clause-stock : goal.returns-in-None-clause-stock
returns-in-None-clause-stock g c = λ _. inl c.lay_down.ensures.same.1

pub returns-in_ok-mind-in-Some-clause-says : goal.returns-in_ok-mind-in-Some-clause-says
returns-in_ok-mind-in-Some-clause-says g c =
    step_says c.args.space.now (view c.args.self.now.desk) (view c.draw_own.new.desk) c.args.asked.now c.args.task c.draw_own.new.task _ c.in-Some.number c.in-Some.is c.in_ok-number.ensures.noted (ask.Call c.args.object c.args.method c.args.held.first) c.requires.came.0 c.requires.asked c.requires.came.1
    (view c.send_task.new.desk).draws (view c.mind.new.self.desk).draws c.send_task.ensures.sent.draws (λ b top. inl c.mind.ensures.drew)

pub returns-in-None-clause-says : goal.returns-in-None-clause-says
returns-in-None-clause-says g c =
    nothing_first (Called c.args.object c.args.method c.args.held.first) (view c.args.self.now.desk).draws (view c.lay_down.new.self.desk).draws
    (none_drew (view c.args.self.now.desk) (view c.draw_own.new.desk) _ c.in-None.is c.in_ok-number.ensures.told (view c.lay_down.new.self.desk).draws (ap (λ (x : Desk Parcel). (view x).draws) c.lay_down.ensures.same.0))

pub returns-in-None-clause-lists : goal.returns-in-None-clause-lists
returns-in-None-clause-lists g c = c.lay_down.ensures.lists.1
