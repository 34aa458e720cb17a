-- The task as a whole, before and after its calls.
use Rattle.std.proofs.Common.{◌≡◌, ℕ, true, false, List, [], ◌∷◌, ◌++◌, length, Option, Some, None, refl, sym, ap, ◌∙◌, subst, arith, Vec, Global, vec_len, vec_capacity}
use Rattle.std.specs.Prelude.{reverse, Result, Ok, Err, OnOk, Box}
use Rattle.std.proofs.lemmas.List.{reverse-append}
use Rattle.chord_base.specs.declared.value.Value.{Value}
use Rattle.chord_base.specs.declared.event.End.{End}
use Rattle.chord_base.specs.declared.event.End.TheVariants.{Gives, Traps}
use Rattle.chord_base.specs.declared.event.Entry.{Entry}
use Rattle.chord_base.specs.declared.event.Limits.{Limits}
use Rattle.chord_base.specs.declared.event.What.{What}
use Rattle.chord_base.specs.declared.event.What.TheVariants.{Ended}
use Rattle.chord_base.specs.Bodies.{Absent, Unplaced, doing, asked as asks_of}
use Rattle.chord_base.specs.Printed.{is_end}
use Rattle.chord_base.specs.Story.{IsTold, IsDefined as StaysDefinedAt}
use Rattle.chord_code.specs.declared.parts.Parts.{Parts}
use Rattle.chord_code.specs.Machine.{IsForward}
use Rattle.chord_code.specs.Meaning.{code_program, stands}
use Rattle.chord_vm.specs.declared.frames.Frames.{Frames}
use Rattle.chord_task.specs.declared.args.Args.{Args}
use Rattle.chord_task.specs.declared.body.Next.TheVariants as nexts
use Rattle.chord_task.specs.declared.body.Body.{Body}
use Rattle.chord_task.specs.declared.body.Caller.{Caller}
use Rattle.chord_task.specs.declared.task.Task.{Task}
use Rattle.chord_task.specs.Stacks.{IsServedThere, IsTask, task_noted}
use Rattle.chord_task.specs.Arguments.{MayBeList}
use Rattle.chord_task.specs.Standing.{body_number, view_of, NextIs, IsParked, IsTop, IsBodyStack, IsResumable, HasRoomIf, HasRoomFor, IsTaskOf, given_of, given_by, answer_of, MayAnswer, AnsweredWith, CalledBack, IsReadyFor, MayNote, waiting_body, waiting_bodies, HasReturned}
use Rattle.chord_task.proofs.Standing.{entry, noted_answer_fits}
use Rattle.chord_task.proofs.Notes.{stack_view, gave_up, note_gave, note_last, note_end, back_top}

-- one more entry at the end stands first, the newest first
pub one_more : (xs ys : List Entry) (e : Entry) → ys ≡ xs ++ e ∷ [] → reverse ys ≡ e ∷ reverse xs
one_more xs ys e i = ap reverse i ∙ reverse-append xs (e ∷ [])

-- a task gave one ask
pub same_what : (t : Task) (b : Body) (v w : What) → t.top ≡ Some b → given_of b.next ≡ Some w → given_by t.top ≡ Some v → v ≡ w
same_what t b v w top e g = (let z : Some v ≡ Some w = sym g ∙ ap given_by top ∙ e in cc)

-- the parts of a task, where a body is on top
pub stack_at : (code : Parts) (limits : Limits) (t : Task) (b : Body) → IsTaskOf code limits t → t.top ≡ Some b → IsBodyStack code limits (view_of t).past (Some b) (reverse t.below.items)
stack_at code limits t b k top = subst (λ z. IsBodyStack code limits (view_of t).past z (reverse t.below.items)) top k.stack

-- the stack of a task whose body on top is this one
pub task_at : (code : Parts) (limits : Limits) (t : Task) (b : Body) → IsTaskOf code limits t → t.top ≡ Some b → IsTask (code_program code limits) (stack_view (view_of t).past (Some b.number))
task_at code limits t b k top = subst (λ z. IsTask (code_program code limits) (stack_view (view_of t).past z)) (ap body_number top) k.task

-- after an entry that may be noted it is still defined what each body does
stays_at : (code : Parts) (limits : Limits) (t : Task) (b : Body) (n : ℕ) (w : What) (may : MayNote code limits t n) → t.top ≡ Some b → may.what ≡ w → (c : ℕ) → StaysDefinedAt (code_program code limits) (doing (code_program code limits) (entry n b.number w ∷ (view_of t).past) c)
stays_at code limits t b n w may top e c =
    subst (λ z. StaysDefinedAt (code_program code limits) (doing (code_program code limits) (entry n b.number z ∷ (view_of t).past) c)) e (may.stays b.number (ap body_number top) c)

-- a body that holds an ask gave it
given_gave : (b : Body) (w : What) → b.next ≡ nexts.Gave w → given_of b.next ≡ Some w
given_gave b w e = ap given_of e

-- a body that holds its end gave it
pub given_ends : (b : Body) (x y : End) → b.next ≡ nexts.Ends x y → given_of b.next ≡ Some (Ended x)
given_ends b x y e = ap given_of e

-- what the note of an ask needs
pub may_answer : (code : Parts) (limits : Limits) (t : Task) (b : Body) (n : ℕ) (w : What) → IsTaskOf code limits t → MayNote code limits t n → t.top ≡ Some b → b.next ≡ nexts.Gave w → MayAnswer (answer_of n w) b.frames.value
may_answer code limits t b n w k may top e = by_value (answer_of n w) refl
  where
    by_value : (o : Option Value) → answer_of n w ≡ o → MayAnswer o b.frames.value
    by_value None a = tt
    by_value (Some v) a =
        let s = stack_at code limits t b k top in
        let u = gave_up code limits (view_of t).past b w e s.0 in
        let i = same_what t b may.what w top (given_gave b w e) may.gave in (
          subst IsReadyFor top may.reserved.top,
          noted_answer_fits code limits (view_of t).past b n w v u e a (stays_at code limits t b n w may top i b.number),
        )

-- the task after its ask became an entry
pub task_gave : (code : Parts) (limits : Limits) (t : Task) (past : List Entry) (b b' : Body) (n : ℕ) (w : What) → IsTaskOf code limits t → (may : MayNote code limits t n) → t.top ≡ Some b → b.next ≡ nexts.Gave w → b'.number ≡ b.number → AnsweredWith (answer_of n w) n b.frames.value b' → past ≡ t.past ++ entry n b.number w ∷ [] → IsTaskOf code limits (record { past = past; top = Some b'; below = t.below; spare = t.spare; ended = t.ended; values = t.values; limits = t.limits; enclosed = t.enclosed }) × task_noted (view_of t) n may.what (view_of (record { past = past; top = Some b'; below = t.below; spare = t.spare; ended = t.ended; values = t.values; limits = t.limits; enclosed = t.enclosed })) × (is_end may.what ≡ false → (view_of (record { past = past; top = Some b'; below = t.below; spare = t.spare; ended = t.ended; values = t.values; limits = t.limits; enclosed = t.enclosed })).top ≡ (view_of t).top)
task_gave code limits t past b b' n w k may top e i r items =
    let p = code_program code limits in
    let h = (view_of t).past in
    let new : reverse past ≡ entry n b.number w ∷ h = one_more t.past past (entry n b.number w) items in
    let j = same_what t b may.what w top (given_gave b w e) may.gave in
    let whole = note_gave code k.forward limits h b b' (waiting_bodies (reverse t.below.items)) n w (task_at code limits t b k top) (stack_at code limits t b k top) may.above e i r (subst IsReadyFor top may.reserved.top) in (
      record {
        forward = k.forward;
        kept = k.kept;
        kept_values = k.kept_values;
        limited = k.limited;
        task = subst (λ z. IsTask p (stack_view z (Some b'.number))) (sym new) whole.task;
        is_defined = λ c. subst (λ z. StaysDefinedAt p (doing p z c)) (sym new) (stays_at code limits t b n w may top j c);
        stack = subst (λ z. IsBodyStack code limits z (Some b') (reverse t.below.items)) (sym new) whole.stack;
        room =
            λ q z.
            record {
              below = may.reserved.below;
              frames = may.reserved.frames;
              spare = may.reserved.spare;
              room = may.reserved.room;
              values = may.reserved.values;
            };
      },
      (b.number, ap body_number top, subst (λ z. reverse past ≡ entry n b.number z ∷ h) (sym j) new),
      λ z. ap Some i ∙ sym (ap body_number top),
    )

-- the last body of a task ends
pub task_last : (code : Parts) (limits : Limits) (t : Task) (past : List Entry) (below : Vec Caller Global) (ended : Option (Box Frames Global)) (b : Body) (n : ℕ) (x y : End) → IsTaskOf code limits t → (may : MayNote code limits t n) → t.top ≡ Some b → b.next ≡ nexts.Ends x y → t.below.items ≡ [] → below.items ≡ [] → past ≡ t.past ++ entry n b.number (Ended x) ∷ [] → vec_len below ≡ vec_len t.below → vec_capacity below ≡ vec_capacity t.below → IsTaskOf code limits (record { past = past; top = None; below = below; spare = t.spare; ended = ended; values = t.values; limits = t.limits; enclosed = t.enclosed }) × task_noted (view_of t) n may.what (view_of (record { past = past; top = None; below = below; spare = t.spare; ended = ended; values = t.values; limits = t.limits; enclosed = t.enclosed })) × (is_end may.what ≡ false → (view_of (record { past = past; top = None; below = below; spare = t.spare; ended = ended; values = t.values; limits = t.limits; enclosed = t.enclosed })).top ≡ (view_of t).top)
task_last code limits t past below ended b n x y k may top e none left items long room =
    let p = code_program code limits in
    let h = (view_of t).past in
    let new : reverse past ≡ entry n b.number (Ended x) ∷ h = one_more t.past past (entry n b.number (Ended x)) items in
    let j = same_what t b may.what (Ended x) top (given_ends b x y e) may.gave in
    let s = subst (λ (z : List Caller). IsBodyStack code limits h (Some b) (reverse z)) none (stack_at code limits t b k top) in
    let whole = note_last code limits h b n x y (task_at code limits t b k top) s may.above e in (
      record {
        forward = k.forward;
        kept = k.kept;
        kept_values = k.kept_values;
        limited = k.limited;
        task = subst (λ z. IsTask p (stack_view z None)) (sym new) whole.task;
        is_defined = λ c. subst (λ z. StaysDefinedAt p (doing p z c)) (sym new) (stays_at code limits t b n (Ended x) may top j c);
        stack = ap (λ (z : List Caller). waiting_bodies (reverse z)) left;
        room =
            record {
              below = (let l = may.reserved.below in omega (arith, l, long, room));
              frames = may.reserved.frames;
              spare = may.reserved.spare;
              room = may.reserved.room;
              values = may.reserved.values;
            };
      },
      (b.number, ap body_number top, subst (λ z. reverse past ≡ entry n b.number z ∷ h) (sym j) new),
      λ z. let x : true ≡ false = sym (ap is_end j) ∙ z in cc,
    )

-- a caller that is called back keeps its number
back_number : (x : End) (c c' : Body) → CalledBack x c c' → c'.number ≡ c.number
back_number (Gives v) c c' r = r.0
back_number (Traps t) c c' r = r.0

-- a caller that is called back waits no more
back_next : (x : End) (c c' : Body) (q : ℕ) → CalledBack x c c' → c'.next ≡ nexts.Waits q → ⊥
back_next (Gives v) c c' q r e = (let z : nexts.Runs ≡ nexts.Waits q = sym r.1.0 ∙ e in cc)
back_next (Traps t) c c' q r e = (let z : nexts.Fails t ≡ nexts.Waits q = sym r.1 ∙ e in cc)

-- the last of the bodies below is the first of them in the other order
last_of : (below rest : List Caller) (c : Caller) → below ≡ rest ++ c ∷ [] → reverse below ≡ c ∷ reverse rest
last_of below rest c e = ap reverse e ∙ reverse-append rest (c ∷ [])

-- the last of the bodies below is the caller
pub caller_at : (code : Parts) (limits : Limits) (t : Task) (rest : List Caller) (b : Body) (c : Caller) → IsTaskOf code limits t → t.top ≡ Some b → t.below.items ≡ rest ++ c ∷ [] → IsBodyStack code limits (view_of t).past (Some b) (c ∷ reverse rest)
caller_at code limits t rest b c k top e = subst (λ z. IsBodyStack code limits (view_of t).past (Some b) z) (last_of t.below.items rest c e) (stack_at code limits t b k top)

-- the caller waits for a call
pub caller_parked : (code : Parts) (limits : Limits) (t : Task) (rest : List Caller) (b : Body) (c : Caller) → IsTaskOf code limits t → t.top ≡ Some b → t.below.items ≡ rest ++ c ∷ [] → (q : ℕ) × IsParked code limits (view_of t).past (waiting_body c) q
caller_parked code limits t rest b c k top e = (let s = caller_at code limits t rest b c k top e in (s.1.0.0, s.1.0.2))

-- a body ends, and its caller goes on
pub task_back : (code : Parts) (limits : Limits) (t : Task) (past : List Entry) (below : Vec Caller Global) (ended : Option (Box Frames Global)) (b : Body) (c : Caller) (c' : Body) (n : ℕ) (x y : End) → IsTaskOf code limits t → (may : MayNote code limits t n) → t.top ≡ Some b → b.next ≡ nexts.Ends x y → t.below.items ≡ below.items ++ c ∷ [] → CalledBack y (waiting_body c) c' → past ≡ t.past ++ entry n b.number (Ended x) ∷ [] → IsTaskOf code limits (record { past = past; top = Some c'; below = below; spare = t.spare; ended = ended; values = t.values; limits = t.limits; enclosed = t.enclosed }) × task_noted (view_of t) n may.what (view_of (record { past = past; top = Some c'; below = below; spare = t.spare; ended = ended; values = t.values; limits = t.limits; enclosed = t.enclosed })) × (is_end may.what ≡ false → (view_of (record { past = past; top = Some c'; below = below; spare = t.spare; ended = ended; values = t.values; limits = t.limits; enclosed = t.enclosed })).top ≡ (view_of t).top)
task_back code limits t past below ended b c c' n x y k may top e parts back items =
    let p = code_program code limits in
    let h = (view_of t).past in
    let new : reverse past ≡ entry n b.number (Ended x) ∷ h = one_more t.past past (entry n b.number (Ended x)) items in
    let j = same_what t b may.what (Ended x) top (given_ends b x y e) may.gave in
    let s = caller_at code limits t below.items b c k top parts in
    let u = gave_ends code limits h b x y e s.0 in
    let r = subst (λ z. CalledBack z (waiting_body c) c') u back in
    let whole = note_end code limits h b (waiting_body c) c' (waiting_bodies (reverse below.items)) n x y (task_at code limits t b k top) s may.above e r (back_number x (waiting_body c) c' r) (back_top code limits h b (waiting_body c) c' (waiting_bodies (reverse below.items)) n x y s r) in (
      record {
        forward = k.forward;
        kept = k.kept;
        kept_values = k.kept_values;
        limited = k.limited;
        task = subst (λ z. IsTask p (stack_view z (Some c'.number))) (sym new) whole.task;
        is_defined = λ d. subst (λ z. StaysDefinedAt p (doing p z d)) (sym new) (stays_at code limits t b n (Ended x) may top j d);
        stack = subst (λ z. IsBodyStack code limits z (Some c') (reverse below.items)) (sym new) whole.stack;
        room = λ q z. absurd (back_next x (waiting_body c) c' q r z);
      },
      (b.number, ap body_number top, subst (λ z. reverse past ≡ entry n b.number z ∷ h) (sym j) new),
      λ z. let x : true ≡ false = sym (ap is_end j) ∙ z in cc,
    )
  where
    gave_ends : (code : Parts) (limits : Limits) (h : List Entry) (b : Body) (x y : End) → b.next ≡ nexts.Ends x y → IsTop code limits h b.next b → y ≡ x
    gave_ends code limits h b x y e t =
        let u = subst (λ n. IsTop code limits h n b) e t in
        let i = subst (λ n. NextIs code limits n b.frames.value (stands code limits u.start u.depth u.answers)) e u.next in i.2

-- a list of no length is empty
pub no_length : {A : Type 0} (xs : List A) → length xs ≡ 0 → xs ≡ []
no_length [] e = refl
no_length (x ∷ xs) e = absurd (omega (arith, e))

-- a body ends, whether a caller waits for it or none
pub task_ended : (code : Parts) (limits : Limits) (t : Task) (past : List Entry) (below : Vec Caller Global) (ended : Option (Box Frames Global)) (top : Option Body) (b : Body) (n : ℕ) (x y : End) → IsTaskOf code limits t → (may : MayNote code limits t n) → t.top ≡ Some b → b.next ≡ nexts.Ends x y → HasReturned y t.below below top → past ≡ t.past ++ entry n b.number (Ended x) ∷ [] → vec_capacity below ≡ vec_capacity t.below → IsTaskOf code limits (record { past = past; top = top; below = below; spare = t.spare; ended = ended; values = t.values; limits = t.limits; enclosed = t.enclosed }) × task_noted (view_of t) n may.what (view_of (record { past = past; top = top; below = below; spare = t.spare; ended = ended; values = t.values; limits = t.limits; enclosed = t.enclosed })) × (is_end may.what ≡ false → (view_of (record { past = past; top = top; below = below; spare = t.spare; ended = ended; values = t.values; limits = t.limits; enclosed = t.enclosed })).top ≡ (view_of t).top)
task_ended code limits t past below ended None b n x y k may top e h items room =
    task_last code limits t past below ended b n x y k may top e (no_length t.below.items (omega (arith, h.0, t.below.ok.0))) (no_length below.items (omega (arith, h.1, below.ok.0))) items (omega (arith, h.0, h.1)) room
task_ended code limits t past below ended (Some c) b n x y k may top e h items room =
    task_back code limits t past below ended b h.0 c n x y k may top e h.1 h.2 items

-- what follows from an answer that is there
pub on_ok_follows : {A B : Type 0} (P Q : Type 0) (r : Result A B) → (P → Q) → OnOk r P → OnOk r Q
on_ok_follows P Q (Ok x) f p = f p
on_ok_follows P Q (Err e) f p = tt

-- a task without a body, with room for one
pub spare_task : (code : Parts) (limits : Limits) (t : Task) → IsForward code → t.limits ≡ limits → t.top ≡ None → t.past ≡ [] → waiting_bodies (reverse t.below.items) ≡ [] → IsResumable code t → HasRoomFor code t.limits t.spare → MayBeList t.values → IsTaskOf code limits t
spare_task code limits t forward limited top past below room kept list =
    let p = code_program code limits in
    let none : (view_of t).past ≡ [] = ap reverse past in
    record {
      forward = forward;
      limited = limited;
      task =
          record {
            told = subst (λ (h : List Entry). IsTold p h) (sym none) tt;
            quiet = λ b d. ap (λ (h : List Entry). asks_of p (doing p h b)) none;
            placed = λ b u. let z : Absent ≡ Unplaced = sym (ap (λ (h : List Entry). doing p h b) none) ∙ u in cc;
            below = λ b u. subst (λ (h : List Entry). IsServedThere p h (doing p h b)) (sym none) tt;
          };
      is_defined = λ b. subst (λ (h : List Entry). StaysDefinedAt p (doing p h b)) (sym none) tt;
      stack = subst (λ z. IsBodyStack code limits (view_of t).past z (reverse t.below.items)) (sym top) below;
      room = subst (λ z. HasRoomIf code t z) (sym top) room;
      kept = kept;
      kept_values = list;
    }

-- a body that has no number is not there
no_body : (top : Option Body) → body_number top ≡ None → top ≡ None
no_body None e = refl
no_body (Some b) e = absurd (cc)

-- a task in which no body is left, whose entries were taken, has room for a body
pub renewed_task : (code : Parts) (limits : Limits) (t : Task) (past : List Entry) → (view_of t).top ≡ None → past ≡ [] → IsTaskOf code limits t
    → IsTaskOf code limits (record t { past = past }) × IsResumable code (record t { past = past })
renewed_task code limits t past over none k =
    let top = no_body t.top over in
    let was : IsResumable code t = subst (HasRoomIf code t) top k.room in
    let room : IsResumable code (record t { past = past }) = record { below = was.below; frames = was.frames; spare = was.spare; room = was.room; values = was.values } in
    (spare_task code limits (record t { past = past }) k.forward k.limited top none (stack_none code limits (view_of t).past t.top (reverse t.below.items) top k.stack) room k.kept k.kept_values, room)
  where
    stack_none : (code : Parts) (limits : Limits) (h : List Entry) (o : Option Body) (cs : List Caller) → o ≡ None → IsBodyStack code limits h o cs → waiting_bodies cs ≡ []
    stack_none code limits h o cs e s = subst (λ z. IsBodyStack code limits h z cs) e s

-- room does not rest on the arguments that a task encloses
room_encloses : (code : Parts) (t : Task) (arguments : Args) → IsResumable code t → IsResumable code (record t { enclosed = arguments })
room_encloses code t arguments r = record { below = r.below; frames = r.frames; spare = r.spare; room = r.room; values = r.values }

-- nor does room where the body on top waits
waiting_encloses : (code : Parts) (t : Task) (arguments : Args) (top : Option Body) → HasRoomIf code t top → HasRoomIf code (record t { enclosed = arguments }) top
waiting_encloses code t arguments None r = room_encloses code t arguments r
waiting_encloses code t arguments (Some b) r = λ q e. room_encloses code t arguments (r q e)

-- a task stays one whatever arguments it encloses
pub task_encloses : (code : Parts) (limits : Limits) (t : Task) (arguments : Args) → IsTaskOf code limits t → IsTaskOf code limits (record t { enclosed = arguments })
task_encloses code limits t arguments k =
    record {
      forward = k.forward;
      limited = k.limited;
      task = k.task;
      is_defined = k.is_defined;
      stack = k.stack;
      room = waiting_encloses code t arguments t.top k.room;
      kept = k.kept;
      kept_values = k.kept_values;
    }
