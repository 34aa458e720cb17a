-- A firing's body begins in the task of the caller that it serves or in one in stock; then it is played, or posted.
use Rattle.std.proofs.Common.{◌≡◌, ◌≢◌, ◌⊎◌, inl, inr, ⊎_elim, ℕ, ◌+◌, ◌-◌, ◌≤◌, length, Bool, true, false, ◌==◌, List, [], ◌∷◌, map, Option, Some, None, refl, sym, ap, ◌∙◌, subst, arith, Vec, Global}
use Rattle.std.specs.Prelude.{is_some}
use Rattle.std.proofs.lemmas.Bool.{eq-eqb}
use mathlib.Core.Path.{Path}
use Rattle.chord_base.specs.declared.event.End.{End}
use Rattle.chord_base.specs.declared.event.Entry.{Entry}
use Rattle.chord_base.specs.declared.event.Limits.{Limits}
use Rattle.chord_base.specs.declared.event.What.TheVariants.{Fired}
use Rattle.chord_base.specs.declared.value.Object.{Object}
use Rattle.chord_base.specs.declared.value.Value as value
use Rattle.chord_base.specs.Meaning.{Program, Start, Chord, HasOneSync}
use Rattle.chord_base.specs.Bounds.{AreWithin}
use Rattle.chord_base.specs.Machine.{IsPast}
use Rattle.chord_base.specs.Messages.{maker}
use Rattle.chord_base.specs.Bodies.{Doing, Absent, Unplaced, Ready, Waits, Over, placed, begun_by, begun, served_among, or_none, served, doing}
use Rattle.chord_base.specs.Story.{AllBelow, IsDefined, IsIn, IsSound, IsTold}
use Rattle.chord_base.proofs.Merge.{IsSeen}
use Rattle.chord_base.proofs.Waits.{either}
use Rattle.chord_code.specs.declared.parts.Parts.{Parts}
use Rattle.chord_code.specs.Laws.{ChordsAreRight}
use Rattle.chord_code.specs.Meaning.{code_program}
use Rattle.chord_match.specs.Fires.{all_together, drop_duties, laid_together}
use Rattle.chord_rule.specs.declared.view.View.{View}
use Rattle.chord_rule.specs.Closing.{AreQuiet}
use Rattle.chord_rule.specs.Kinds.{entry, left_by, posted, posting, saw}
use Rattle.chord_rule.specs.Numbers.{HasNumber}
use Rattle.chord_rule.specs.Parcels.{BeginsThere}
use Rattle.chord_rule.proofs.Closing.{begins_there}
use Rattle.chord_space.specs.declared.space.Desk.{Desk}
use Rattle.chord_space.specs.declared.space.Space.{Space}
use Rattle.chord_space.specs.Desks.{view, space_code, space_limits, program_of, IsSameDesk}
use Rattle.chord_space.specs.Gives.{MayPost}
use Rattle.chord_task.specs.declared.args.Args.{Args}
use Rattle.chord_task.specs.declared.body.Body.{Body}
use Rattle.chord_task.specs.declared.body.Next.{Next}
use Rattle.chord_task.specs.declared.body.Next.TheVariants as nexts
use Rattle.chord_task.specs.declared.parcel.Opened.{Opened as Parcel}
use Rattle.chord_task.specs.declared.task.Task.{Task}
use Rattle.chord_task.specs.Arguments.{for_entry, AreTwice}
use Rattle.chord_task.specs.Parcels.{entries_of, arguments_of}
use Rattle.chord_task.specs.Past.{AddsOne}
use Rattle.chord_task.specs.Stacks.{FitsCall, TopWaitsFor}
use Rattle.chord_task.specs.Standing.{body_number, view_of, IsTop, HasRoomIf, IsResumable, IsTaskOf, MayResume, may_go, body_may_go, is_ready_of}
use Rattle.chord_task.proofs.Tasks.{stack_at}
use Rattle.chord_vm.specs.Frames.{laid}
use Rattle.chord_word.specs.declared.cells.Word.{Word}
use Rattle.chord_worker.specs.declared.worker.Worker.{Worker}
use Rattle.chord_worker.specs.Beginning.{first_task, arguments_in, caller_or, HasBoth, FitsFiring, HasBegun}
use Rattle.chord_worker.specs.Firing.{HasFired, ServesNone}
use Rattle.chord_worker.specs.Resting.{IsInMemory, IsStock, IsAtRest, IsSameRole}
use Rattle.chord_worker.proofs.Begun.{alone_both, alone_defined, called_both, called_defined}
use Rattle.chord_worker.proofs.Fitting.{comes_waiting}
use Rattle.chord_worker.proofs.Given.{one_top}
use Rattle.chord_worker.proofs.Listed.{lists_same, one_more_listed, one_drawn}
use Rattle.chord_worker.proofs.Parked.{below_parked, seen_there}
use Rattle.chord_worker.proofs.Parts.{in_below}
use Rattle.chord_worker.proofs.Unpacked.{HasNone, HasCaller, held_twice, one_caller, values_in}

-- ## Tasks

module _ (code : Parts) (limits : Limits) where
  -- the program that is played
  abbrev p : Program
  p = code_program code limits

  -- a body on top that waits, waits for a call
  waits_next : (h : List Entry) (b : Body) (n : Next) → IsTop code limits h n b → (s : Start) (k : ℕ) (rs : List End) (q l : ℕ) → doing p h b.number ≡ Waits s k rs q l → (c : ℕ) × (n ≡ nexts.Waits c)
  waits_next h b nexts.Runs t s k rs q l e = (let z : Ready t.start t.depth t.answers ≡ Waits s k rs q l = sym t.is ∙ e in cc)
  waits_next h b (nexts.Gave w) t s k rs q l e = (let z : Ready t.start t.depth t.answers ≡ Waits s k rs q l = sym t.is ∙ e in cc)
  waits_next h b (nexts.Ends x y) t s k rs q l e = (let z : Ready t.start t.depth t.answers ≡ Waits s k rs q l = sym t.is ∙ e in cc)
  waits_next h b (nexts.Fails x) t s k rs q l e = (let z : Ready t.start t.depth t.answers ≡ Waits s k rs q l = sym t.is ∙ e in cc)
  waits_next h b (nexts.Waits c) t s k rs q l e = (c, refl)

  -- a task whose body on top waits has room for a firing
  pub waiting_room : (t : Task) (q : ℕ) → IsTaskOf code limits t → TopWaitsFor p (view_of t) q → IsResumable code t
  waiting_room t q k w = by_top t.top refl
    where
      by_top : (x : Option Body) → t.top ≡ x → IsResumable code t
      by_top None e = (let z : Path (Option ℕ) None (Some w.body) = sym (ap body_number e) ∙ w.on_top in cc)
      by_top (Some b) e =
          let z : Some b.number ≡ Some w.body = sym (ap body_number e) ∙ w.on_top in
          let same : b.number ≡ w.body = cc in
          let waits = waits_next (view_of t).past b b.next (stack_at code limits t b k e).0 w.start w.depth w.answers q w.place (ap (doing p (view_of t).past) same ∙ w.is) in
          (subst (HasRoomIf code t) e k.room) waits.0 waits.1

  -- a body that begins does not wait
  begun_waits : (a : Start) (c : Option ℕ) (m : ℕ → Option ℕ) (g : ℕ → Doing) (s : Start) (k : ℕ) (rs : List End) (q l : ℕ) → begun a c m g ≡ Waits s k rs q l → ⊥
  begun_waits a None m g s k rs q l e = (let z : Ready a 1 [] ≡ Waits s k rs q l = e in cc)
  begun_waits a (Some c) m g s k rs q l e = by_maker (m c) e
    where
      by_place : (d : Doing) → placed a c d ≡ Waits s k rs q l → ⊥
      by_place (Waits s' k' rs' c' l') e = elim (either (c == c')) [ inl y ↦ (let v : Ready a (l' + 1) [] ≡ Waits s k rs q l = rw y at e in cc) | inr o ↦ (let v : Unplaced ≡ Waits s k rs q l = rw o at e in cc) ]
      by_place (Ready s' k' rs') e = cc
      by_place Absent e = cc
      by_place Unplaced e = cc
      by_place (Over x) e = cc

      by_maker : (x : Option ℕ) → begun_by a c x g ≡ Waits s k rs q l → ⊥
      by_maker None e = cc
      by_maker (Some b) e = by_place (g b) e

  module _ (f k : ℕ) (o : Object) (ms : List ℕ) (vs : List value.Value) (h : List Entry) where
    -- the body of the newest firing does not wait
    fired_waits : (s : Start) (d : ℕ) (rs : List End) (q l : ℕ) → doing p (entry f f (Fired k o ms vs) ∷ h) f ≡ Waits s d rs q l → ⊥
    fired_waits s d rs q l e = begun_waits (Chord k o vs) (served p (Fired k o ms vs)) (λ c. maker c h) (doing p h) s d rs q l (rw (eq-eqb f f refl) at e)

    -- the body of the newest firing, on top of a task, may go on
    goes_next : (t : Task) (b : Body) (n : Next) → IsTop code limits (view_of t).past n b → (view_of t).past ≡ entry f f (Fired k o ms vs) ∷ h → b.number ≡ f → may_go n ≡ true
    goes_next t b nexts.Runs u past same = refl
    goes_next t b (nexts.Gave w) u past same = refl
    goes_next t b (nexts.Ends x y) u past same = refl
    goes_next t b (nexts.Fails x) u past same = refl
    goes_next t b (nexts.Waits q) u past same = absurd (fired_waits u.start u.depth u.answers q (limits.depth - b.frames.value.top.room) (subst (λ (g : List Entry). doing p g f ≡ Waits u.start u.depth u.answers q (limits.depth - b.frames.value.top.room)) past (ap (doing p (view_of t).past) (sym same) ∙ u.is)))

    -- the task may go on
    pub begun_goes : (t : Task) → IsTaskOf code limits t → (view_of t).past ≡ entry f f (Fired k o ms vs) ∷ h → (view_of t).top ≡ Some f → is_ready_of t ≡ true
    begun_goes t is past top = by_top t.top refl
      where
        by_top : (x : Option Body) → t.top ≡ x → is_ready_of t ≡ true
        by_top None e = (let z : Path (Option ℕ) None (Some f) = sym (ap body_number e) ∙ top in cc)
        by_top (Some b) e =
            let z : Some b.number ≡ Some f = sym (ap body_number e) ∙ top in
            let same : b.number ≡ f = cc in
            ap body_may_go e ∙ goes_next t b b.next (stack_at code limits t b is e).0 past same

    -- the firing's entry is the only one of its body
    pub only_entry : IsTold p h → AllBelow f h → (e : Entry) → IsIn e (entry f f (Fired k o ms vs) ∷ h) → e.body ≡ f → e.number ≡ f
    only_entry told below e (inl same) body = ap (λ (x : Entry). x.number) same
    only_entry told below e (inr there) body =
        let seen = seen_there p h e f told there body in
        ⊎_elim (λ none. absurd (subst IsSeen none seen)) (λ (k : BeginsThere f h). let low = in_below f h k.0 below k.1 in let number = k.2 in absurd (omega (arith, low, number))) (begins_there p h f told)

-- ## The task in which the body begins

module _ (s : Space Parcel) (w : Worker) (v : View) (o : Object) (k : ℕ) (ms : List ℕ) (f : ℕ) (qs : List Parcel) (fired : HasFired s w v o k ms f qs) (sound : IsSound (program_of s)) where
  -- the values of the firing
  abbrev values : List value.Value
  values = laid_together arguments_of qs

  -- the firing's entry
  abbrev newest : Entry
  newest = entry f f (Fired k o ms values)

  -- what the desk keeps
  kept_is : (view w.desk).kept ≡ all_together (newest ∷ v.kept) (map entries_of qs)
  kept_is = ap (λ (z : View). z.kept) fired.fired.view

  -- the call that the firing serves
  serves_is : (c : Option ℕ) → served_among ((program_of s).is_sync o.class) fired.fired.methods ms ≡ c → served (program_of s) (Fired k o ms values) ≡ c
  serves_is c e = ap (λ (x : Option (List ℕ)). served_among ((program_of s).is_sync o.class) (or_none x) ms) fired.fired.is_chord ∙ e

  -- the firing's body fits the task
  abbrev Fits : Task → Type 0
  Fits t = FitsFiring (space_code s) (space_limits s) v.kept (view w.desk).kept f k o ms values t

  -- the task in stock, where no parcel has one
  where_none : HasNone ((program_of s).is_sync o.class) (newest ∷ v.kept) fired.fired.methods ms qs → Fits fired.stock
  where_none n = record {
    task = fired.is_stock.task;
    may = record {
      may = subst (FitsCall (program_of s) (view_of fired.stock)) (sym (serves_is None n.serves)) fired.is_stock.top;
      begins = λ b. subst (λ (h : List Entry). IsDefined (program_of s) (doing (program_of s) (newest ∷ h) b)) (sym fired.is_stock.past)
          (alone_defined (program_of s) v.kept fired.memory.rises fired.memory.told f k o ms values fired.fired.below sound fired.fired.place b);
      above = subst (AllBelow f) (sym fired.is_stock.past) tt;
      room = fired.is_stock.room;
    };
    both = subst (λ (h : List Entry). HasBoth (program_of s) v.kept (newest ∷ h) (view w.desk).kept) (sym fired.is_stock.past)
        (subst (HasBoth (program_of s) v.kept (newest ∷ [])) (sym (kept_is ∙ n.all)) (alone_both (program_of s) v.kept fired.memory.rises fired.memory.told f k o ms values fired.fired.below));
  }

  module _ (one : HasOneSync (program_of s)) where
    -- the task of the caller that came
    of_caller : (n : HasCaller (space_code s) (space_limits s) ((program_of s).is_sync o.class) f (newest ∷ v.kept) fired.fired.methods ms qs) → Fits n.caller
    of_caller n =
        let waits = comes_waiting (space_code s) (space_limits s) sound one n.caller n.is_task (newest ∷ v.kept) n.claim n.comes n.left in
        record {
          task = n.is_task;
          may = record {
            may = subst (FitsCall (program_of s) (view_of n.caller)) (sym (serves_is (Some n.claim.number) n.serves)) waits;
            begins = called_defined (program_of s) v.kept fired.memory.rises fired.memory.told f k o ms values fired.fired.below (view_of n.caller).past n.below n.comes.places sound;
            above = n.below;
            room = waiting_room (space_code s) (space_limits s) n.caller n.claim.number n.is_task waits;
          };
          both = subst (HasBoth (program_of s) v.kept (newest ∷ (view_of n.caller).past)) (sym (kept_is ∙ n.all))
              (called_both (program_of s) v.kept fired.memory.rises fired.memory.told f k o ms values fired.fired.below (view_of n.caller).past n.below n.comes.places);
        }

    -- none of the parcels has a task, or one has that of the caller
    callers : HasNone ((program_of s).is_sync o.class) (newest ∷ v.kept) fired.fired.methods ms qs ⊎ HasCaller (space_code s) (space_limits s) ((program_of s).is_sync o.class) f (newest ∷ v.kept) fired.fired.methods ms qs
    callers = one_caller (space_code s) (space_limits s) sound one o f (newest ∷ v.kept) fired.fired.methods ms qs (one o.class k fired.fired.methods fired.fired.is_chord) fired.fired.older fired.fired.coming

    -- the caller's task, or else the one in stock
    pub fitted : Fits (caller_or (first_task qs) fired.stock)
    fitted = ⊎_elim
        (λ n. subst Fits (sym (ap (λ (x : Option Task). caller_or x fired.stock) n.task)) (where_none n))
        (λ n. subst Fits (sym (ap (λ (x : Option Task). caller_or x fired.stock) n.task)) (of_caller n))
        callers

    -- one of the parcels has a task, or the firing serves no call
    pub caller_or_none : (first_task qs ≢ None) ⊎ ServesNone s o k ms qs
    caller_or_none = ⊎_elim
        (λ n. inr (serves_is None n.serves))
        (λ n. inl (λ none. let z : Some n.caller ≡ None = sym n.task ∙ none in cc))
        callers

  -- the body has begun in this task
  pub has_begun : (stock : Option Task) → IsStock (space_code s) (space_limits s) stock → (t u : Task) → Fits t → IsTaskOf (space_code s) (space_limits s) u → (view_of u).past ≡ newest ∷ (view_of t).past → (view_of u).top ≡ Some f → (list : Vec Entry Global) → AddsOne t.past u.past w.draws.items list.items → HasBegun s (record w { spare = stock; draws = list }) v f u
  has_begun stock is_stock t u fits is past top list one = record {
    desk = fired.desk;
    untold = fired.untold;
    room = fired.room;
    free = fired.free;
    memory = fired.memory;
    goes_on = fired.goes_on;
    stock = is_stock;
    listed = one_more_listed w.draws.items list.items w.taken.items w.taken.items v.draws (view w.desk).draws (one_drawn t.past u.past w.draws.items list.items v.draws (view w.desk).draws newest one past (ap (λ (z : View). z.draws) fired.fired.view)) refl fired.listed;
    duties = fired.duties;
    low = fired.fired.low;
    seen = fired.fired.view ∙ seen_kept;
    task = is;
    ready = begun_goes (space_code s) (space_limits s) f k o ms values (view_of t).past u is past top;
    top = top;
    both = subst (λ (h : List Entry). HasBoth (program_of s) v.kept h (view w.desk).kept) (sym past) fits.both;
    begins = subst (BeginsThere f) (sym past) (newest, inl refl, refl, refl);
    only = λ e i. only_entry (space_code s) (space_limits s) f k o ms values (view_of t).past fits.task.task.told fits.may.above e (subst (IsIn e) past i);
  }
    where
      seen_kept : record v { kept = all_together (newest ∷ v.kept) (map entries_of qs); draws = newest ∷ v.draws; claims = []; unposted = f ∷ v.unposted; drawn = true; duties = drop_duties ms v.duties; looked = (view w.desk).looked }
          ≡ record v { kept = (view w.desk).kept; draws = (view w.desk).draws; claims = []; unposted = f ∷ v.unposted; drawn = true; duties = (view w.desk).duties; looked = (view w.desk).looked }
      seen_kept = rw (kept_is, ap (λ (z : View). z.draws) fired.fired.view, ap (λ (z : View). z.duties) fired.fired.view) refl

  -- what is left in stock is a task in stock, if there is one
  pub stock_left : (x : Option Task) → (x ≡ w.spare) ⊎ (x ≡ None) → IsStock (space_code s) (space_limits s) x
  stock_left x = ⊎_elim (λ e. subst (IsStock (space_code s) (space_limits s)) (sym (e ∙ fired.spare)) fired.is_stock) (λ e. subst (IsStock (space_code s) (space_limits s)) (sym e) tt)

  module _ (code : Parts) (same : code ≡ space_code s) (law : (l : Limits) → ChordsAreRight (code_program code l)) (caller : Option Task) (is_caller : caller ≡ first_task qs) (t : Task) (taken : (stock : Task) → w.spare ≡ Some stock → t ≡ caller_or caller stock)
      (arguments : List Args) (values_held : AreTwice (arguments_in qs) → laid (for_entry arguments) ≡ laid (for_entry (arguments_in qs))) (twice_held : AreTwice (arguments_in qs) → AreTwice arguments) where
    -- the parcels have their arguments twice
    held : AreTwice (arguments_in qs)
    held = held_twice (space_code s) (space_limits s) f qs fired.fired.older

    -- the values of the arguments are those of the firing
    values_are : values ≡ laid (for_entry arguments)
    values_are = values_in qs ∙ sym (values_held held)

    -- the firing's body fits the task
    fits_task : Fits t
    fits_task = subst Fits (sym (taken fired.stock fired.spare ∙ ap (λ (x : Option Task). caller_or x fired.stock) is_caller))
        (fitted (subst (λ (c : Parts). ChordsAreRight (code_program c (space_limits s))) same (law (space_limits s))).one_sync)

    -- a caller's task came, or the firing serves no call
    pub caller_came : (caller ≢ None) ⊎ ServesNone s o k ms qs
    caller_came = subst (λ (x : Option Task). (x ≢ None) ⊎ ServesNone s o k ms qs) (sym is_caller)
        (caller_or_none (subst (λ (c : Parts). ChordsAreRight (code_program c (space_limits s))) same (law (space_limits s))).one_sync)

    -- the task is of this code under its own limits
    pub task_is : IsTaskOf code t.limits t
    task_is = subst (λ (c : Parts). IsTaskOf c t.limits t) (sym same) (subst (λ (l : Limits). IsTaskOf (space_code s) l t) (sym fits_task.task.limited) fits_task.task)

    -- the body may begin in the task
    pub may_be_begun : MayResume code t.limits t f k o ms (laid (for_entry arguments))
    may_be_begun = subst (λ (c : Parts). MayResume c t.limits t f k o ms (laid (for_entry arguments))) (sym same)
        (subst (λ (l : Limits). MayResume (space_code s) l t f k o ms (laid (for_entry arguments))) (sym fits_task.task.limited)
        (subst (MayResume (space_code s) (space_limits s) t f k o ms) values_are fits_task.may))

    -- the arguments are held twice
    pub twice : AreTwice arguments
    twice = twice_held held

    -- the firing has no more values than an entry may have
    pub few_values : ((l : Limits) (h : List Entry) → IsPast (code_program code l) h → length h ≤ 65536 → AreWithin h) → s.events ≤ 65536 → length (laid (for_entry arguments)) ≤ 64
    few_values bounds most =
        let came = fired.fired.came in
        let number = came.1.1.numbered in
        let low = fired.fired.low in
        let within = bounds (space_limits s) (newest ∷ came.0) (subst (λ (c : Parts). IsPast (code_program c (space_limits s)) (newest ∷ came.0)) (sym same) came.1) (omega (arith, number, low, most)) in
        subst (λ (vs : List value.Value). length vs ≤ 64) values_are within.3.few_values

    -- the body has begun in it
    pub begun_there : (stock : Option Task) → (stock ≡ w.spare) ⊎ (stock ≡ None) → (u : Task) → IsTaskOf code t.limits u → (view_of u).past ≡ entry f f (Fired k o ms (laid (for_entry arguments))) ∷ (view_of t).past → (view_of u).top ≡ Some f → (list : Vec Entry Global) → AddsOne t.past u.past w.draws.items list.items → HasBegun s (record w { spare = stock; draws = list }) v f u
    begun_there stock left u is_task past top list one = has_begun stock (stock_left stock left) t u fits_task
        (subst (λ (l : Limits). IsTaskOf (space_code s) l u) fits_task.task.limited (subst (λ (c : Parts). IsTaskOf c t.limits u) same is_task))
        (past ∙ ap (λ (vs : List value.Value). entry f f (Fired k o ms vs) ∷ (view_of t).past) (sym values_are)) top list one

-- ## It is played, or posted

-- there is no task where there is not some
pub no_task : (x : Option Task) → is_some x ≡ false → x ≡ None
no_task None e = refl
no_task (Some t) e = let z : true ≡ false = e in cc

-- there is one where there is some
pub a_task : (x : Option Task) → is_some x ≡ true → x ≢ None
a_task x e q = let z : false ≡ true = sym (ap is_some q) ∙ e in absurd (cc)

module _ (s : Space Parcel) (w : Worker) (v : View) (f : ℕ) (t : Task) (b : HasBegun s w v f t) where
  -- the firing may be posted with the task
  pub may_post : MayPost (program_of s) (view w.desk) f (view_of t).past
  may_post = record {
    unposted = subst (HasNumber f) (sym (ap (λ (z : View). z.unposted) b.seen)) (inl refl);
    goes = b.both.goes;
    linked = λ e x i m h. subst (HasNumber e.number) (ap (λ (z : View). z.fresh) b.seen ∙ b.free.fresh) h;
    begins = b.begins;
    only = b.only;
    parked = λ c other begins. below_parked (program_of s) (view_of t) None b.task.task b.task.is_defined c (λ q. other (one_top (view_of t).top c f q b.top)) begins;
  }

  -- a worker without a task plays it
  pub rest_played : w.task ≡ None → IsAtRest s (record w { task = Some t })
  rest_played none =
      let m : IsInMemory (space_code s) (space_limits s) v.kept false None = subst (IsInMemory (space_code s) (space_limits s) v.kept false) none b.memory in
      record {
        desk = b.desk;
        told = b.untold ∙ sym (ap (λ (z : View). z.spent) b.seen ∙ b.room);
        free = record { claims = ap (λ (z : View). z.claims) b.seen; flight = ap (λ (z : View). z.flight) b.seen ∙ b.free.flight; fresh = ap (λ (z : View). z.fresh) b.seen ∙ b.free.fresh };
        duties = λ e. b.duties;
        memory = record {
          rises = b.both.rises;
          told = b.both.told;
          played = (b.task, b.both.goes);
          quiet = λ e. subst (AreQuiet (program_of s)) (sym b.both.left) (m.quiet refl);
        };
        goes_on = b.ready;
        stock = b.stock;
        listed = b.listed;
      }

  module _ (d : Desk Parcel) (same : IsSameDesk w.desk d) (es : List Entry) (is : es ≡ (view_of t).past) (x : Word) (post : view d ≡ saw (posted (posting (view w.desk) f) es) f x) where
    -- where it is posted, the desk keeps what it kept
    pub kept_posted : (view d).kept ≡ v.kept
    kept_posted = ap (λ (z : View). z.kept) post ∙ ap (λ (h : List Entry). left_by h (view w.desk).kept) is ∙ b.both.left

    -- and the worker has in memory what it had
    pub rest_posted : IsAtRest s (record w { desk = d })
    rest_posted = record {
      desk = same.0 ∙ b.desk;
      told = b.untold ∙ sym spent;
      free = record {
        claims = ap (λ (z : View). z.claims) post ∙ ap (λ (z : View). z.claims) b.seen;
        flight = ap (λ (z : View). z.flight) post ∙ ap (λ (z : View). z.flight) b.seen ∙ b.free.flight;
        fresh = ap (λ (z : View). z.fresh) post ∙ ap (λ (z : View). z.fresh) b.seen ∙ b.free.fresh;
      };
      duties = λ e. ap (λ (z : View). z.duties) post ∙ b.duties;
      memory = subst (λ (h : List Entry). IsInMemory (space_code s) (space_limits s) h (view d).spent w.task) (sym kept_posted)
          (subst (λ (y : Bool). IsInMemory (space_code s) (space_limits s) v.kept y w.task) (sym spent) b.memory);
      goes_on = b.goes_on;
      stock = b.stock;
      listed = lists_same w.draws.items w.draws.items w.taken.items w.taken.items (view w.desk).draws (view d).draws refl refl (ap (λ (z : View). z.draws) post) b.listed;
    }
      where
        spent : (view d).spent ≡ false
        spent = ap (λ (z : View). z.spent) post ∙ ap (λ (z : View). z.spent) b.seen ∙ b.room

    -- and its desk its role
    pub role_posted : IsSameRole (view w.desk) (view d)
    role_posted = record {
      first = ap (λ (z : View). z.first) post;
      lent = ap (λ (z : View). z.lent) post;
      splits = ap (λ (z : View). z.splits) post;
      drawn = λ e. ap (λ (z : View). z.drawn) post ∙ e;
    }
