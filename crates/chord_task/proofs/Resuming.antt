-- A body that a firing begins.
use Rattle.std.proofs.Common.{◌≡◌, ℕ, ◌+◌, ◌-◌, ◌<◌, true, false, ◌==◌, List, [], ◌∷◌, ◌++◌, append-nil, Option, Some, None, refl, sym, ap, ◌∙◌, subst, arith, Vec, Global}
use Rattle.std.specs.Prelude.{reverse, slice_get, IsSome, Box}
use Rattle.std.proofs.lemmas.List.{reverse-append}
use Rattle.std.proofs.lemmas.Bool.{eq-eqb, ne_eqb}
use Rattle.chord_base.specs.declared.value.Object.{Object}
use Rattle.chord_base.specs.declared.value.Value.{Value}
use Rattle.chord_base.specs.declared.value.Value.TheVariants as a_value
use Rattle.chord_base.specs.declared.event.End.{End}
use Rattle.chord_base.specs.declared.event.Entry.{Entry}
use Rattle.chord_base.specs.declared.event.Limits.{Limits}
use Rattle.chord_base.specs.declared.event.What.{What}
use Rattle.chord_base.specs.declared.event.What.TheVariants.{Begun, Made, Sent, Called, Printed, Fired, Ended}
use Rattle.chord_base.specs.Meaning.{Program, Start, Chord}
use Rattle.chord_base.specs.Bodies.{Doing, Absent, Ready, Waits, begun as begun_of, served, serves, doing}
use Rattle.chord_base.specs.Messages.{maker}
use Rattle.chord_base.specs.Story.{IsDefined as StaysDefinedAt}
use Rattle.chord_base.proofs.Local.{other_body}
use Rattle.chord_code.specs.declared.parts.ChordLine.{ChordLine}
use Rattle.chord_code.specs.declared.parts.Block.{Block}
use Rattle.chord_code.specs.declared.parts.Parts.{Parts}
use Rattle.chord_code.specs.Machine.{Asking, Machine, body_in_block, body_in}
use Rattle.chord_code.specs.Meaning.{Point, At, point_of, chord_lines, start_line, code_program, stands, asked_of}
use Rattle.chord_vm.specs.declared.frames.Frames.{Frames}
use Rattle.chord_vm.specs.Frames.{machine_of, waiting_of, IsSpacious, IsRoomFor}
use Rattle.chord_task.specs.declared.body.Next.{Next}
use Rattle.chord_task.specs.declared.body.Next.TheVariants as nexts
use Rattle.chord_task.specs.declared.body.Body.{Body}
use Rattle.chord_task.specs.declared.body.Caller.{Caller}
use Rattle.chord_task.specs.declared.task.Task.{Task}
use Rattle.chord_task.specs.Stacks.{IsTask, TopWaitsFor, FitsCall}
use Rattle.chord_vm.specs.Frames.{laid}
use Rattle.chord_task.specs.declared.args.Args.{Args}
use Rattle.chord_task.specs.Arguments.{MayBeList, for_entry, for_body, AreTwice}
use Rattle.chord_task.specs.Standing.{body_number, view_of, NextIs, IsUp, IsParked, IsTop, AreParked, IsBodyStack, HasRoomFor, IsTaskOf, MayResume, room_of, may_go, body_may_go, is_ready_of, IsRoomier, IsRoomierTop, waiting_body, waiting_bodies, awaited_call, callers_of, WaitsIfAny}
use Rattle.chord_task.proofs.Stacks.{task_resume, task_spare, begun_ready}
use Rattle.chord_task.proofs.Standing.{entry, parked_more, all_parked, parked_under}
use Rattle.chord_task.proofs.Notes.{stack_view}
use Rattle.chord_task.proofs.Tasks.{one_more, stack_at, task_at}

-- the body on top, if there is one, went below
pub put_below : (o : Option Body) (bs cs : List Caller) → cs ≡ bs ++ callers_of o → reverse cs ≡ callers_of o ++ reverse bs
put_below None bs cs e = ap reverse (e ∙ append-nil bs)
put_below (Some b) bs cs e = ap reverse e ∙ reverse-append bs (callers_of (Some b))

-- what is known of a body that a firing begins
pub record Beginning (code : Parts) (limits : Limits) (h : List Entry) (top : Option Body) (bs : List Caller) (n k : ℕ) (o : Object) (ms : List ℕ) (vs : List Value) : Type 0 where
  pub depth : ℕ
  pub ready : doing (code_program code limits) (entry n n (Fired k o ms vs) ∷ h) n ≡ Ready (Chord k o vs) depth []
  pub room : limits.depth - depth ≡ room_of limits top
  pub task : IsTask (code_program code limits) (stack_view (entry n n (Fired k o ms vs) ∷ h) (Some n))
  pub rest : AreParked code limits (entry n n (Fired k o ms vs) ∷ h) (serves (code_program code limits) n (entry n n (Fired k o ms vs) ∷ h)) n (waiting_bodies (callers_of top ++ bs))

-- a body that an entry of its number begins serves what this entry serves
serves_own : (p : Program) (h : List Entry) (n : ℕ) (w : What) → serves p n (entry n n w ∷ h) ≡ served p w
serves_own p h n w = let i : (n == n) ≡ true = eq-eqb n n refl in rw i refl

-- a body after its own firing does what a body of that chord begins with, by the call that it serves
fired_own : (p : Program) (h : List Entry) (n k : ℕ) (o : Object) (ms : List ℕ) (vs : List Value) → doing p (entry n n (Fired k o ms vs) ∷ h) n ≡ begun_of (Chord k o vs) (served p (Fired k o ms vs)) (λ q. maker q h) (doing p h)
fired_own p h n k o ms vs = let i : (n == n) ≡ true = eq-eqb n n refl in rw i refl

-- a body on top has an entry
top_seen : (code : Parts) (limits : Limits) (h : List Entry) (b : Body) (n : Next) → h ≡ [] → IsTop code limits h n b → ⊥
top_seen code limits h b nexts.Runs e u = (let z : Absent ≡ Ready u.start u.depth u.answers = sym (ap (λ l. doing (code_program code limits) l b.number) e) ∙ u.is in cc)
top_seen code limits h b (nexts.Gave w) e u = (let z : Absent ≡ Ready u.start u.depth u.answers = sym (ap (λ l. doing (code_program code limits) l b.number) e) ∙ u.is in cc)
top_seen code limits h b (nexts.Ends x y) e u = (let z : Absent ≡ Ready u.start u.depth u.answers = sym (ap (λ l. doing (code_program code limits) l b.number) e) ∙ u.is in cc)
top_seen code limits h b (nexts.Fails t) e u = (let z : Absent ≡ Ready u.start u.depth u.answers = sym (ap (λ l. doing (code_program code limits) l b.number) e) ∙ u.is in cc)
top_seen code limits h b (nexts.Waits q) e k = (let z : Absent ≡ Waits k.start k.depth k.answers q (limits.depth - b.frames.value.top.room) = sym (ap (λ l. doing (code_program code limits) l b.number) e) ∙ k.is in cc)

-- a body that may make its next entry does not wait
up_waits : (code : Parts) (limits : Limits) (h : List Entry) (b : Body) (s : Start) (d : ℕ) (rs : List End) (q l : ℕ) → doing (code_program code limits) h b.number ≡ Waits s d rs q l → IsUp code limits h b → ⊥
up_waits code limits h b s d rs q l e u = (let z : Waits s d rs q l ≡ Ready u.start u.depth u.answers = sym e ∙ u.is in cc)

-- the body on top that waits is parked
top_parked : (code : Parts) (limits : Limits) (h : List Entry) (b : Body) (s : Start) (d : ℕ) (rs : List End) (q l : ℕ) (n : Next) → doing (code_program code limits) h b.number ≡ Waits s d rs q l → IsTop code limits h n b → (q' : ℕ) × IsParked code limits h b q'
top_parked code limits h b s d rs q l nexts.Runs e u = absurd (up_waits code limits h b s d rs q l e u)
top_parked code limits h b s d rs q l (nexts.Gave w) e u = absurd (up_waits code limits h b s d rs q l e u)
top_parked code limits h b s d rs q l (nexts.Ends x y) e u = absurd (up_waits code limits h b s d rs q l e u)
top_parked code limits h b s d rs q l (nexts.Fails t) e u = absurd (up_waits code limits h b s d rs q l e u)
top_parked code limits h b s d rs q l (nexts.Waits r) e k = (r, k)

-- a body that waits is the one that waits as its caller
as_caller : (b : Body) (q : ℕ) → b.next ≡ nexts.Waits q → waiting_body (record { number = b.number; call = awaited_call b.next; frames = b.frames }) ≡ b
as_caller b q e =
    ap (λ (x : Next). record { number = b.number; frames = b.frames; next = nexts.Waits (awaited_call x) }) e
    ∙ ap (λ (x : Next). record { number = b.number; frames = b.frames; next = x }) (sym e)

-- where a firing fits a task, the body on top waits for a call, if there is one
waits_by : (code : Parts) (limits : Limits) (t : Task) (top : Option Body) (c : Option ℕ) → t.top ≡ top → FitsCall (code_program code limits) (view_of t) c → IsBodyStack code limits (view_of t).past top (reverse t.below.items) → WaitsIfAny top
waits_by code limits t None c i f stack = tt
waits_by code limits t (Some b) None i f stack = (let z : ◌≡◌ {A = Option ℕ} None (Some b.number) = sym f ∙ ap body_number i in cc)
waits_by code limits t (Some b) (Some q) i w stack =
    let z : Some b.number ≡ Some w.body = sym (ap body_number i) ∙ w.on_top in
    let body : w.body ≡ b.number = cc in
    let is : doing (code_program code limits) (view_of t).past b.number ≡ Waits w.start w.depth w.answers q w.place = ap (doing (code_program code limits) (view_of t).past) (sym body) ∙ w.is in
    let parked = top_parked code limits (view_of t).past b w.start w.depth w.answers q w.place b.next is stack.0 in (parked.0, parked.1.waits)

-- where a firing may begin, the body on top waits for a call, if there is one
pub waits_below : (code : Parts) (limits : Limits) (t : Task) (n k : ℕ) (o : Object) (ms : List ℕ) (vs : List Value) → IsTaskOf code limits t → MayResume code limits t n k o ms vs → WaitsIfAny t.top
waits_below code limits t n k o ms vs task may = waits_by code limits t t.top (served (code_program code limits) (Fired k o ms vs)) refl may.may task.stack

-- a firing that serves no call begins a body in a task that is over
begins_spare : (code : Parts) (limits : Limits) (t : Task) (n k : ℕ) (o : Object) (ms : List ℕ) (vs : List Value) → (top : Option Body) → t.top ≡ top → served (code_program code limits) (Fired k o ms vs) ≡ None → (view_of t).top ≡ None → IsTaskOf code limits t → MayResume code limits t n k o ms vs → IsBodyStack code limits (view_of t).past top (reverse t.below.items) → Beginning code limits (view_of t).past top (reverse t.below.items) n k o ms vs
begins_spare code limits t n k o ms vs (Some b) i s e task may stack = (let z : ◌≡◌ {A = Option ℕ} None (Some b.number) = sym e ∙ ap body_number i in cc)
begins_spare code limits t n k o ms vs None i s e task may stack =
    let p = code_program code limits in
    let h = (view_of t).past in
    record {
      depth = 1;
      ready = fired_own p h n k o ms vs ∙ ap (λ c. begun_of (Chord k o vs) c (λ q. maker q h) (doing p h)) s;
      room = refl;
      task = task_spare p (view_of t) n k o ms vs s e task.task may.above;
      rest = subst (λ (z : List Body). AreParked code limits (entry n n (Fired k o ms vs) ∷ h) (serves p n (entry n n (Fired k o ms vs) ∷ h)) n z) (sym stack) (serves_own p h n (Fired k o ms vs) ∙ s);
    }

-- a firing that serves a call begins a body on top of the one that waits for the call
begins_called : (code : Parts) (limits : Limits) (t : Task) (n k : ℕ) (o : Object) (ms : List ℕ) (vs : List Value) (q : ℕ) → (top : Option Body) → t.top ≡ top → served (code_program code limits) (Fired k o ms vs) ≡ Some q → TopWaitsFor (code_program code limits) (view_of t) q → IsTaskOf code limits t → MayResume code limits t n k o ms vs → IsBodyStack code limits (view_of t).past top (reverse t.below.items) → Beginning code limits (view_of t).past top (reverse t.below.items) n k o ms vs
begins_called code limits t n k o ms vs q None i s w task may stack = (let z : ◌≡◌ {A = Option ℕ} None (Some w.body) = sym (ap body_number i) ∙ w.on_top in cc)
begins_called code limits t n k o ms vs q (Some b) i s w task may stack =
    let p = code_program code limits in
    let h = (view_of t).past in
    let e = entry n n (Fired k o ms vs) in
    let z : Some b.number ≡ Some w.body = sym (ap body_number i) ∙ w.on_top in
    let body : w.body ≡ b.number = cc in
    let is : doing p h b.number ≡ Waits w.start w.depth w.answers q w.place = ap (doing p h) (sym body) ∙ w.is in
    let parked = top_parked code limits h b w.start w.depth w.answers q w.place b.next is stack.0 in
    let c = parked.1 in
    let y : Waits w.start w.depth w.answers q w.place ≡ Waits c.start c.depth c.answers parked.0 (limits.depth - b.frames.value.top.room) = sym is ∙ c.is in
    let place : w.place ≡ limits.depth - b.frames.value.top.room = cc in
    let call : parked.0 ≡ q = cc in
    let under = parked_under code limits n parked.0 h b task.task.told may.above c in
    let apart : (m : ℕ) → m < n → (n == m) ≡ false = λ m l. ne_eqb n m (λ v. omega (arith, v, l)) in
    let same : (m : ℕ) → m < n → doing p (e ∷ h) m ≡ doing p h m = λ m l. other_body p e h m (apart m l) (λ v. let x : false ≡ true = v in cc) in
    let serving : serves p b.number (e ∷ h) ≡ serves p b.number h = (let x = apart b.number under in rw x refl) in
    let rest = all_parked code limits e h (serves p b.number h) b.number (waiting_bodies (reverse t.below.items)) (omega (arith, under)) (λ d r m j. same d.number (omega (arith, m, under))) stack.1 in
    record {
      depth = w.place + 1;
      ready =
          fired_own p h n k o ms vs ∙ ap (λ x. begun_of (Chord k o vs) x (λ v. maker v h) (doing p h)) s
          ∙ begun_ready p (view_of t) (Chord k o vs) q w task.task;
      room = ap (λ l. limits.depth - (l + 1)) place;
      task = task_resume p (view_of t) n k o ms vs q s w task.task may.above;
      rest = (
        (
          q,
          serves_own p h n (Fired k o ms vs) ∙ s,
          subst (λ (x : Body). IsParked code limits (e ∷ h) x q) (sym (as_caller b parked.0 c.waits)) (parked_more code limits e h b q (same b.number under) (subst (λ v. IsParked code limits h b v) call c)),
        ),
        under,
        subst (λ v. AreParked code limits (e ∷ h) v b.number (waiting_bodies (reverse t.below.items))) (sym serving) rest,
      );
    }

-- a firing that fits a task begins a body in it, whether it serves a call or not
begins_by : (code : Parts) (limits : Limits) (t : Task) (n k : ℕ) (o : Object) (ms : List ℕ) (vs : List Value) (c : Option ℕ) → served (code_program code limits) (Fired k o ms vs) ≡ c → FitsCall (code_program code limits) (view_of t) c → IsTaskOf code limits t → MayResume code limits t n k o ms vs → Beginning code limits (view_of t).past t.top (reverse t.below.items) n k o ms vs
begins_by code limits t n k o ms vs None s f task may = begins_spare code limits t n k o ms vs t.top refl s f task may task.stack
begins_by code limits t n k o ms vs (Some q) s f task may = begins_called code limits t n k o ms vs q t.top refl s f task may task.stack

-- what a firing that fits a task begins
pub beginning : (code : Parts) (limits : Limits) (t : Task) (n k : ℕ) (o : Object) (ms : List ℕ) (vs : List Value) → IsTaskOf code limits t → MayResume code limits t n k o ms vs → Beginning code limits (view_of t).past t.top (reverse t.below.items) n k o ms vs
beginning code limits t n k o ms vs task may = begins_by code limits t n k o ms vs (served (code_program code limits) (Fired k o ms vs)) refl may.may task may

-- the line of the chord, and the machine that begins
pub record Opening (code : Parts) (limits : Limits) (k : ℕ) (o : Object) (vs : List Value) (room : ℕ) : Type 0 where
  pub line : ChordLine
  pub found : slice_get (chord_lines code o.class) k ≡ Some line
  pub machine : Machine
  pub starts : body_in_block code line.block room (a_value.Ref o ∷ vs) limits.turns ≡ Some machine

-- where the first ask of a chord's body is defined, the line of the chord is there, and a machine begins
opens_in : (code : Parts) (limits : Limits) (k : ℕ) (o : Object) (vs : List Value) (d : ℕ) (x : Option ChordLine) → slice_get (chord_lines code o.class) k ≡ x → IsSome (asked_of code limits (point_of (start_line code limits o vs d x))) → Opening code limits k o vs (limits.depth - d)
opens_in code limits k o vs d None e s = cc
opens_in code limits k o vs d (Some line) e s = by_start (body_in_block code line.block (limits.depth - d) (a_value.Ref o ∷ vs) limits.turns) refl s
  where
    by_start : (y : Option Machine) → body_in_block code line.block (limits.depth - d) (a_value.Ref o ∷ vs) limits.turns ≡ y → IsSome (asked_of code limits (point_of y)) → Opening code limits k o vs (limits.depth - d)
    by_start None i z = cc
    by_start (Some m) i z = record { line = line; found = e; machine = m; starts = i }

-- the line of the chord and the machine that begins, for a firing that fits a task
pub opening : (code : Parts) (limits : Limits) (t : Task) (n k : ℕ) (o : Object) (ms : List ℕ) (vs : List Value) → IsTaskOf code limits t → MayResume code limits t n k o ms vs → Opening code limits k o vs (room_of limits t.top)
opening code limits t n k o ms vs task may =
    let b = beginning code limits t n k o ms vs task may in
    let d = subst (λ (x : Doing). StaysDefinedAt (code_program code limits) x) b.ready (may.begins n) in
    subst (λ r. Opening code limits k o vs r) b.room (opens_in code limits k o vs b.depth (slice_get (chord_lines code o.class) k) refl d)

-- the new body is up
begun_up : (code : Parts) (limits : Limits) (h : List Entry) (top : Option Body) (bs : List Caller) (n k : ℕ) (o : Object) (ms : List ℕ) (vs : List Value) (f : Box Frames Global) (line : ChordLine) → (b : Beginning code limits h top bs n k o ms vs) → slice_get (chord_lines code o.class) k ≡ Some line → body_in_block code line.block (room_of limits top) (a_value.Ref o ∷ vs) limits.turns ≡ Some (machine_of f.value) → IsUp code limits (entry n n (Fired k o ms vs) ∷ h) (record { number = n; frames = f; next = nexts.Runs })
begun_up code limits h top bs n k o ms vs f line b l s =
    record {
      start = Chord k o vs;
      depth = b.depth;
      answers = [];
      is = b.ready;
      next = ap (λ x. point_of (start_line code limits o vs b.depth x)) l ∙ ap (λ r. point_of (body_in_block code line.block r (a_value.Ref o ∷ vs) limits.turns)) b.room ∙ ap point_of s;
    }

-- the task with the new body on top
pub task_resumed : (code : Parts) (limits : Limits) (t : Task) (past : List Entry) (below : Vec Caller Global) (values : Option (Vec Value Global)) (n k : ℕ) (o : Object) (ms : List ℕ) (vs : List Value) (f : Box Frames Global) (line : ChordLine) → MayBeList values → IsTaskOf code limits t → MayResume code limits t n k o ms vs → slice_get (chord_lines code o.class) k ≡ Some line → body_in_block code line.block (room_of limits t.top) (a_value.Ref o ∷ vs) limits.turns ≡ Some (machine_of f.value) → past ≡ t.past ++ entry n n (Fired k o ms vs) ∷ [] → reverse below.items ≡ callers_of t.top ++ reverse t.below.items → IsTaskOf code limits (record { past = past; top = Some (record { number = n; frames = f; next = nexts.Runs }); below = below; spare = None; ended = t.ended; values = values; limits = t.limits; enclosed = t.enclosed })
task_resumed code limits t past below values n k o ms vs f line list task may l s items bodies =
    let p = code_program code limits in
    let h = (view_of t).past in
    let e = entry n n (Fired k o ms vs) in
    let b = beginning code limits t n k o ms vs task may in
    let new : reverse past ≡ e ∷ h = one_more t.past past e items in
    record {
      forward = task.forward;
      limited = task.limited;
      task = subst (λ z. IsTask p (stack_view z (Some n))) (sym new) b.task;
      is_defined = λ c. subst (λ z. StaysDefinedAt p (doing p z c)) (sym new) (may.begins c);
      stack =
          subst (λ z. IsBodyStack code limits z (Some (record { number = n; frames = f; next = nexts.Runs })) (reverse below.items)) (sym new) (
            begun_up code limits h t.top (reverse t.below.items) n k o ms vs f line b l s,
            subst (λ (z : List Caller). AreParked code limits (e ∷ h) (serves p n (e ∷ h)) n (waiting_bodies z)) (sym bodies) b.rest,
          );
      room = λ q z. let x : nexts.Runs ≡ nexts.Waits q = z in cc;
      kept = tt;
      kept_values = list;
    }

-- frames in stock have room for the block of the chord
pub spacious_at : (code : Parts) (f : Frames) (block room turns : ℕ) (xs : List Value) (m : Machine) → IsRoomFor code f → body_in_block code block room xs turns ≡ Some m → IsSpacious f (slice_get code.blocks block)
spacious_at code f block room turns xs m r s = by_block (slice_get code.blocks block) refl s
  where
    by_block : (o : Option Block) → slice_get code.blocks block ≡ o → body_in o block room xs turns ≡ Some m → IsSpacious f o
    by_block None e z = (let y : ◌≡◌ {A = Option Machine} None (Some m) = z in cc)
    by_block (Some b) e z = r block b e

-- more room changes nothing
waiting_same : (f f' : Frames) → machine_of f' ≡ machine_of f → f'.awaited ≡ f.awaited → waiting_of f ≡ waiting_of f'
waiting_same f f' m p = ap (λ x. record { machine = x; awaited = f.awaited }) (sym m) ∙ ap (λ x. record { machine = machine_of f'; awaited = x }) (sym p)

-- what frames say of the point where a body stands they say with more room
next_roomier : (code : Parts) (limits : Limits) (n : Next) (f f' : Frames) (point : Point) → machine_of f' ≡ machine_of f → f'.awaited ≡ f.awaited → NextIs code limits n f point → NextIs code limits n f' point
next_roomier code limits nexts.Runs f f' point m p x = x ∙ ap At (sym m)
next_roomier code limits (nexts.Gave (Made c)) f f' point m p x = (x.0, x.1, x.2 ∙ ap (λ z. Asking (Made c) z) (waiting_same f f' m p))
next_roomier code limits (nexts.Gave (Sent o j vs)) f f' point m p x = (x.0, x.1, x.2 ∙ ap (λ z. Asking (Sent o j vs) z) (waiting_same f f' m p))
next_roomier code limits (nexts.Gave (Called o j vs)) f f' point m p x = (x.0, x.1, x.2 ∙ ap (λ z. Asking (Called o j vs) z) (waiting_same f f' m p))
next_roomier code limits (nexts.Gave (Printed t)) f f' point m p x = (x.0, x.1, x.2 ∙ ap (λ z. Asking (Printed t) z) (waiting_same f f' m p))
next_roomier code limits (nexts.Gave Begun) f f' point m p x = x
next_roomier code limits (nexts.Gave (Fired k o ms vs)) f f' point m p x = x
next_roomier code limits (nexts.Gave (Ended e)) f f' point m p x = x
next_roomier code limits (nexts.Ends e e') f f' point m p x = x
next_roomier code limits (nexts.Fails t) f f' point m p x = x
next_roomier code limits (nexts.Waits q) f f' point m p x = x

-- a body that may make its next entry still may with more room
up_roomier : (code : Parts) (limits : Limits) (h : List Entry) (b b' : Body) → IsRoomier b b' → IsUp code limits h b → IsUp code limits h b'
up_roomier code limits h b b' r u =
    record {
      start = u.start;
      depth = u.depth;
      answers = u.answers;
      is = ap (doing (code_program code limits) h) r.0 ∙ u.is;
      next = subst (λ z. NextIs code limits z b'.frames.value (stands code limits u.start u.depth u.answers)) (sym r.1) (next_roomier code limits b.next b.frames.value b'.frames.value _ r.2 r.3 u.next);
    }

-- what is known of a body on top that may go on is known of it with more room
top_roomier : (code : Parts) (limits : Limits) (h : List Entry) (b b' : Body) (n : Next) → may_go n ≡ true → IsRoomier b b' → IsTop code limits h n b → IsTop code limits h n b'
top_roomier code limits h b b' nexts.Runs g r u = up_roomier code limits h b b' r u
top_roomier code limits h b b' (nexts.Gave w) g r u = up_roomier code limits h b b' r u
top_roomier code limits h b b' (nexts.Ends x y) g r u = up_roomier code limits h b b' r u
top_roomier code limits h b b' (nexts.Fails t) g r u = up_roomier code limits h b b' r u
top_roomier code limits h b b' (nexts.Waits q) g r u = (let z : false ≡ true = g in cc)

-- a body that waits may not go on
waits_goes : (n : Next) (q : ℕ) → n ≡ nexts.Waits q → may_go n ≡ true → ⊥
waits_goes n q e g = (let z : false ≡ true = sym (ap may_go e) ∙ g in cc)

-- the task with more room
pub task_roomier : (code : Parts) (limits : Limits) (t : Task) (past : List Entry) (below : Vec Caller Global) (top top' : Option Body) (spare ended : Option (Box Frames Global)) (values : Option (Vec Value Global)) (enclosed : Args) → t.top ≡ top → IsTaskOf code limits t → is_ready_of t ≡ true → past ≡ t.past → below.items ≡ t.below.items → IsRoomierTop top top' → HasRoomFor code t.limits spare → MayBeList values → IsTaskOf code limits (record { past = past; top = top'; below = below; spare = spare; ended = ended; values = values; limits = t.limits; enclosed = enclosed })
task_roomier code limits t past below None top' spare ended values enclosed i k g p q r s v = (let z : false ≡ true = sym (ap body_may_go i) ∙ g in cc)
task_roomier code limits t past below (Some b) None spare ended values enclosed i k g p q r s v = absurd r
task_roomier code limits t past below (Some b) (Some b') spare ended values enclosed i k g p q r s v =
    let m = code_program code limits in
    let h = (view_of t).past in
    let up : may_go b.next ≡ true = sym (ap body_may_go i) ∙ g in
    let same : reverse past ≡ h = ap reverse p in
    let st = stack_at code limits t b k i in
    let top : IsTop code limits h b'.next b' = subst (λ z. IsTop code limits h z b') (sym r.1) (top_roomier code limits h b b' b.next up r st.0) in
    let rest : AreParked code limits h (serves m b'.number h) b'.number (waiting_bodies (reverse below.items)) =
    subst (λ z. AreParked code limits h (serves m z h) z (waiting_bodies (reverse below.items))) (sym r.0)
    (subst (λ (z : List Caller). AreParked code limits h (serves m b.number h) b.number (waiting_bodies (reverse z))) (sym q) st.1)
    in
    record {
      forward = k.forward;
      limited = k.limited;
      task = subst (λ z. IsTask m (stack_view z (Some b'.number))) (sym same) (subst (λ z. IsTask m (stack_view h (Some z))) (sym r.0) (task_at code limits t b k i));
      is_defined = λ c. subst (λ z. StaysDefinedAt m (doing m z c)) (sym same) (k.is_defined c);
      stack = subst (λ z. IsBodyStack code limits z (Some b') (reverse below.items)) (sym same) (top, rest);
      room = λ j e. absurd (waits_goes b.next j (sym r.1 ∙ e) up);
      kept = s;
      kept_values = v;
    }

-- arguments that are held twice are the same for the entry and for the body
twice_same : (as_ : List Args) → AreTwice as_ → for_body as_ ≡ for_entry as_
twice_same [] t = refl
twice_same (a ∷ as_) t = ap (λ z. z ∷ for_body as_) t.0 ∙ ap (λ z. a.first ∷ z) (twice_same as_ t.1)

-- the body begins on these values as the meaning of the code has it
pub begun_with : (code : Parts) (limits l : Limits) (b depth room : ℕ) (this : Value) (vs : List Value) → l ≡ limits → limits.depth - depth ≡ room → body_in_block code b (l.depth - depth) (this ∷ vs) l.turns ≡ body_in_block code b room (this ∷ vs) limits.turns
begun_with code limits l b depth room this vs e d = ap (λ (x : Limits). body_in_block code b (x.depth - depth) (this ∷ vs) x.turns) e ∙ ap (λ r. body_in_block code b r (this ∷ vs) limits.turns) d

-- the body begins as the meaning of the code has it
pub begun_same : (code : Parts) (limits l : Limits) (b depth room : ℕ) (this : Value) (xs : List (List Value)) (as_ : List Args) → l ≡ limits → limits.depth - depth ≡ room → xs ≡ for_body as_ → AreTwice as_ → body_in_block code b (l.depth - depth) (this ∷ laid xs) l.turns ≡ body_in_block code b room (this ∷ laid (for_entry as_)) limits.turns
begun_same code limits l b depth room this xs as_ e d s t =
    begun_with code limits l b depth room this (laid xs) e d ∙ ap (λ (ys : List (List Value)). body_in_block code b room (this ∷ laid ys) limits.turns) (s ∙ twice_same as_ t)
