-- A task that came to its ask, and the entry that this becomes.
use Rattle.std.specs.Prelude.{IfSome, IfNone}
use Rattle.std.proofs.Common.{◌≡◌, ◌≢◌, ℕ, ◌+◌, ◌<◌, false, List, ◌∷◌, Option, Some, None, refl, sym, ap, ◌∙◌, subst}
use Rattle.chord_base.specs.declared.event.Entry.{Entry}
use Rattle.chord_base.specs.declared.event.Limits.{Limits}
use Rattle.chord_base.specs.declared.event.What.{What}
use Rattle.chord_base.specs.declared.value.Object.{Object}
use Rattle.chord_base.specs.Meaning.{Program}
use Rattle.chord_base.specs.Bodies.{doing, Asks}
use Rattle.chord_base.specs.Story.{IsSound, IsDefined, AllBelow}
use Rattle.chord_code.specs.declared.parts.Parts.{Parts}
use Rattle.chord_code.specs.Meaning.{code_program}
use Rattle.chord_rule.specs.declared.view.View.{View}
use Rattle.chord_rule.specs.Coming.{IsPlace}
use Rattle.chord_rule.specs.Kinds.{entry, drew, saw_count}
use Rattle.chord_rule.specs.Made.{Names}
use Rattle.chord_space.specs.declared.space.Space.{Space}
use Rattle.chord_space.specs.Desks.{view, space_code, space_limits}
use Rattle.chord_space.specs.Ruled.{IsOfCode}
use Rattle.chord_task.specs.declared.parcel.Opened.{Opened as Parcel}
use Rattle.chord_task.specs.declared.task.Task.{Task}
use Rattle.chord_task.specs.Stacks.{TaskView, IsNext, StaysDefined}
use Rattle.chord_task.specs.Past.{AddsOne}
use Rattle.chord_task.specs.Standing.{view_of, IsTaskOf, HasRoomFor, HasMadeRoom}
use Rattle.chord_task.specs.Arguments.{MayBeList}
use Rattle.chord_task.specs.Turning.{sent_to, RunsOn, MaySettle, AwaitsNumber, HasSettled, HasCome}
use Rattle.chord_vm.specs.declared.ask.Ask.{Ask}
use Rattle.chord_vm.specs.Frames.{what_of_ask}
use Rattle.chord_worker.specs.declared.worker.Worker.{Worker}
use Rattle.chord_worker.specs.Playing.{DrawsOne, IsNotedAs}
use Rattle.chord_worker.specs.Resting.{IsInMemory, MayContinue, IsStock, IsAtRest}
use Rattle.chord_worker.proofs.Listed.{one_drawn}
use Rattle.chord_worker.proofs.Memory.{asks_at_desk, noted_defined, noted_below, noted}

-- ## The ask

-- there is an ask
pub some_ask : (o : Option Ask) → o ≢ None → (a : Ask) × (o ≡ Some a)
some_ask None some = absurd (some refl)
some_ask (Some a) some = (a, refl)

-- the ask that is there is the only one
pub only_ask : (o : Option Ask) (a b : Ask) → o ≡ Some a → o ≡ Some b → a ≡ b
only_ask o a b e f = let same : Some a ≡ Some b = sym e ∙ f in cc

-- what the body on top asks next is the ask of the body of that number
pub next_asks : (p : Program) (v : TaskView) (w : What) (n : IsNext p v w) (b : ℕ) → v.top ≡ Some b → Asks p v.past b w
next_asks p v w n b top =
    let same : Some n.body ≡ Some b = sym n.on_top ∙ top in
    let k : n.body ≡ b = cc in subst (λ (i : ℕ). Asks p v.past i w) k n.asks

-- a body on top is the one of this number
pub one_top : (x : Option ℕ) (b c : ℕ) → x ≡ Some b → x ≡ Some c → b ≡ c
one_top x b c e f = let same : Some b ≡ Some c = sym e ∙ f in cc

-- ## The entry

module _ (code : Parts) (limits : Limits) (t u : Task) (w : What) (came : HasCome code limits t u w) where
  -- the frames of the body on top ran to the ask
  pub came_runs : RunsOn u.top
  came_runs = (came.asked.body, came.asked.on_top, came.asked.runs)

  -- frames in stock have room for each block
  pub came_spare : HasRoomFor code u.limits u.spare
  came_spare = came.asked.task.kept

  -- the wide list, if there is one, is one
  pub came_values : MayBeList u.values
  came_values = came.asked.task.kept_values

  -- the list of what the desk drew got the task's entry
  pub noted_one : (v v' : View) (n : ℕ) (t' : Task) (noted : IsNotedAs code limits v v' t t' n w) (list list' : List Entry) → AddsOne u.past t'.past list list' → DrawsOne v.draws v'.draws list list'
  noted_one v v' n t' noted list list' one = one_drawn u.past t'.past list list' v.draws v'.draws (entry n noted.body w) one
      (noted.past ∙ ap (λ (x : TaskView). entry n noted.body w ∷ x.past) (sym came.view)) (ap (λ (z : View). z.draws) noted.drawn)

  module _ (b : ℕ) (top : (view_of u).top ≡ Some b) where
    -- that body was on top before
    top_before : (view_of t).top ≡ Some b
    top_before = ap (λ (v : TaskView). v.top) (sym came.view) ∙ top

    -- what the task asks next, by the number of the body on top
    asks_next : Asks (code_program code limits) (view_of t).past b w
    asks_next = next_asks (code_program code limits) (view_of t) w came.next b top_before

    module _ (es : List Entry) (m : IsInMemory code limits es false (Some t)) where
      -- the desk may draw it
      pub may_draw : Asks (code_program code limits) es b w
      may_draw = asks_at_desk code limits es false t m b w asks_next

      -- and what its bodies do with it is defined
      pub came_may_settle : IsSound (code_program code limits) → (n : ℕ) → AllBelow n es → IsPlace (code_program code limits) (entry n b w ∷ es) → MaySettle code u n w
      came_may_settle sound n below place = record {
        stays = subst (λ (l : Limits). StaysDefined (code_program code l) (view_of u) n w) (sym came.limited)
            (subst (λ (v : TaskView). StaysDefined (code_program code limits) v n w) (sym came.view)
            (λ c at i. subst (λ (k : ℕ). IsDefined (code_program code limits) (doing (code_program code limits) (entry n k w ∷ (view_of t).past) i)) (one_top (view_of t).top b c top_before at)
            (noted_defined code limits es false t m n b w below came.next.own asks_next sound place.run place.view place.merged place.place place.is i)));
        above = subst (λ (v : TaskView). AllBelow n v.past) (sym came.view) (noted_below code limits es false t m n b w below came.next.own asks_next);
      }

    -- the ask became an entry of the desk and of the task
    pub noted_as : (v v' : View) (n : ℕ) (t' : Task) → v' ≡ saw_count (drew v n b w) (n + 1) → AllBelow n v.kept → ((o : Object) → Names w o → o.number < n) → IsOfCode code w → HasSettled code u n w t' → IsNotedAs code limits v v' t t' n w
    noted_as v v' n t' drawn below named of_code settled = record {
      body = b;
      on_top = top_before;
      asks = asks_next;
      drawn = drawn;
      below = below;
      task = is_task;
      past = past;
      top = λ e. settled.top e ∙ top;
      memory = λ spent k. noted code limits v.kept spent t k n b w below came.next.own asks_next t' is_task past;
      named = named;
      of_code = of_code;
    }
      where
        is_task : IsTaskOf code limits t'
        is_task = subst (λ (l : Limits). IsTaskOf code l t') came.limited settled.task

        past : (view_of t').past ≡ entry n b w ∷ (view_of t).past
        past = settled.noted.2 ∙ ap (λ (k : ℕ). entry n k w ∷ (view_of u).past) (one_top (view_of u).top settled.noted.0 b settled.noted.1 top) ∙ ap (λ (v : TaskView). entry n b w ∷ v.past) came.view

-- an ask with its caller, for whose entry there is room, waits for the number that the desk drew
pub awaits_drawn : (code : Parts) (limits : Limits) (u s : Task) (ask : Option Ask) (es : List Entry) (b n : ℕ) → (view_of u).top ≡ Some b → IsSound (code_program code limits) → HasMadeRoom code u s
    → ((a : Ask) → ask ≡ Some a → (t : Task) × HasCome code limits t u (what_of_ask a) × IsInMemory code limits es false (Some t)) → ((a : Ask) → ask ≡ Some a → AllBelow n es × IsPlace (code_program code limits) (entry n b (what_of_ask a) ∷ es)) → AwaitsNumber code u s n ask
awaits_drawn code limits u s ask es b n top sound room came drawn = record {
  room = room;
  asked = λ a e. (came a e).1.asked;
  may = λ a e.
      let x = came a e in
      let d = drawn a e in came_may_settle code limits x.0 u (what_of_ask a) x.1 b top es x.2 sound n d.0 d.1;
}

-- what became an entry is the ask that was there
pub settled_as : (code : Parts) (u t' : Task) (ask : Option Ask) (n : ℕ) (sent : Option (Object × ℕ)) → ((a : Ask) × (ask ≡ Some a) × HasSettled code u n (what_of_ask a) t' × (sent ≡ sent_to (what_of_ask a))) → (a : Ask) → ask ≡ Some a → HasSettled code u n (what_of_ask a) t'
settled_as code u t' ask n sent x a e = subst (λ (b : Ask). HasSettled code u n (what_of_ask b) t') (only_ask ask x.0 a x.1 e) x.2

-- ## The stock

-- a worker with its task, and with what is in stock
pub stocked_rest : (s : Space Parcel) (w : Worker) (t : Task) (stock : Option Task) → IsAtRest s w → w.task ≡ Some t → IsStock (space_code s) (space_limits s) stock → IsAtRest s (record w { task = Some t; spare = stock })
stocked_rest s w t stock r task in_stock = record {
  desk = r.desk;
  told = r.told;
  free = r.free;
  duties = r.duties;
  memory = subst (λ (x : Option Task). IsInMemory (space_code s) (space_limits s) (view w.desk).kept (view w.desk).spent x) task r.memory;
  goes_on = subst MayContinue task r.goes_on;
  stock = in_stock;
  listed = r.listed;
}

-- the stock is one of the space's code and limits
pub stock_of : (s : Space Parcel) (code : Parts) (limits : Limits) (stock : Option Task) → code ≡ space_code s → limits ≡ space_limits s → IsStock code limits stock → IsStock (space_code s) (space_limits s) stock
stock_of s code limits stock e k in_stock = subst (λ (p : Parts). IsStock p (space_limits s) stock) e (subst (λ (l : Limits). IsStock code l stock) k in_stock)

-- a task that came to its ask, of a worker with another stock
pub came_stocked : (s : Space Parcel) (w : Worker) (task : Task) (a : Ask) (stock : Option Task) → IsStock (space_code s) (space_limits s) stock
    → (t : Task) × HasCome (space_code s) (space_limits s) t task (what_of_ask a) × IsAtRest s (record w { task = Some t })
    → (t : Task) × HasCome (space_code s) (space_limits s) t task (what_of_ask a) × IsAtRest s (record w { task = Some t; spare = stock })
came_stocked s w task a stock in_stock came = (came.0, came.1, stocked_rest s (record w { task = Some came.0 }) came.0 stock came.2 refl in_stock)

-- ## Optional answers

-- what holds of an option that is there holds of its value
pub value_of_some : {A : Type 0} (o : Option A) (x : A) (P : A → Type 0) → o ≡ Some x → IfSome o P → P x
value_of_some o x P is h = subst (λ (z : Option _). IfSome z P) is h

-- what holds of an option that is not there holds
pub where_none : {A : Type 0} (o : Option A) (P : Type 0) → o ≡ None → IfNone o P → P
where_none o P is h = subst (λ (z : Option _). IfNone z P) is h
