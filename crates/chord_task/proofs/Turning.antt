-- A task whose ask is with its caller, before and after the ask becomes an entry.
use Rattle.std.proofs.Common.{◌≡◌, ℕ, suc, true, false, List, [], ◌∷◌, Option, Some, None, refl, sym, ap, ◌∙◌, subst, arith, Box, Global, Vec, ◌++◌, length, vec_len, vec_capacity}
use Rattle.std.specs.Prelude.{reverse}
use Rattle.chord_base.specs.declared.event.End.{End}
use Rattle.chord_base.specs.declared.event.Entry.{Entry}
use Rattle.chord_base.specs.declared.event.Limits.{Limits}
use Rattle.chord_base.specs.declared.event.What.{What}
use Rattle.chord_base.specs.declared.event.What.TheVariants.{Begun, Made, Sent, Called, Printed, Fired, Ended}
use Rattle.chord_base.specs.Bodies.{doing}
use Rattle.chord_base.specs.Printed.{is_end}
use Rattle.chord_base.specs.Story.{AllBelow, IsDefined}
use Rattle.chord_code.specs.declared.parts.Parts.{Parts}
use Rattle.chord_code.specs.Machine.{Machine, ComesToAsk}
use Rattle.chord_code.specs.Fuel.{weight}
use Rattle.chord_code.specs.Meaning.{IsAsked, code_program}
use Rattle.chord_code.proofs.Asks.{run_asked}
use Rattle.chord_vm.specs.declared.frames.Frames.{Frames}
use Rattle.chord_vm.specs.declared.ask.Ask.{Ask}
use Rattle.chord_vm.specs.declared.ask.Ask.TheVariants as ask
use Rattle.chord_vm.specs.Frames.{machine_of, waiting_of, what_of_ask, Advanced, KeepsRoom}
use Rattle.chord_task.specs.declared.body.Next.{Next}
use Rattle.chord_task.specs.declared.body.Next.TheVariants as nexts
use Rattle.chord_task.specs.declared.body.Body.{Body}
use Rattle.chord_task.specs.declared.body.Caller.{Caller}
use Rattle.chord_task.specs.declared.task.Task.{Task}
use Rattle.chord_task.specs.Arguments.{MayBeList}
use Rattle.chord_task.specs.Past.{AddsOne}
use Rattle.chord_task.specs.Stacks.{TaskView, IsNext, StaysDefined, task_noted}
use Rattle.chord_task.specs.Standing.{HasReturned, LastIsReady, HasMadeRoom, body_number, view_of, IsTaskOf, GivenBy, AskedBy, AskedBody, may_go, body_may_go, is_ready_of, HasGiven, HasRoomFor, IsReadyFor, IsReserved, IsRoomier, IsRoomierTop, MayNote, MayAnswer, AnsweredWith, answer_of}
use Rattle.chord_task.specs.Turning.{MayTurn, Turned, RunsOn, IsAskedFor, MaySettle, AwaitsNumber, HasSettled}
use Rattle.chord_task.proofs.Asking.{may_run, task_asked, view_asked, given_is, given_next}
use Rattle.chord_task.proofs.Resuming.{task_roomier}
use Rattle.chord_task.proofs.Notes.{gave_up}
use Rattle.chord_task.proofs.Standing.{entry, gave_by}
use Rattle.chord_task.proofs.Tasks.{stack_at, may_answer, task_gave, task_ended, caller_parked}

-- a task with another body on top
abbrev pub with_body : Task → Body → Task
with_body t b = record { past = t.past; top = Some b; below = t.below; spare = t.spare; ended = t.ended; values = t.values; limits = t.limits; enclosed = t.enclosed }

-- a body with other frames
abbrev pub with_frames : Body → Box Frames Global → Body
with_frames b f = record { number = b.number; frames = f; next = b.next }

-- a body with another state
abbrev pub with_next : Body → Next → Body
with_next b n = record { number = b.number; frames = b.frames; next = n }

-- bodies are the same where their options are
same_body : (b c : Body) → Some b ≡ Some c → b ≡ c
same_body b c e = cc

-- a body that runs may go on
pub runs_ready : (t : Task) → RunsOn t.top → is_ready_of t ≡ true
runs_ready t r = ap body_may_go r.1 ∙ ap may_go r.2

-- the state of a body with this ask
pub next_given : (a : Ask) → (n : Next) × GivenBy (what_of_ask a) n
next_given (ask.End e) = (nexts.Ends e e, refl)
next_given (ask.Make c) = (nexts.Gave (Made c), refl)
next_given (ask.Send o j vs) = (nexts.Gave (Sent o j vs), refl)
next_given (ask.Call o j vs) = (nexts.Gave (Called o j vs), refl)
next_given (ask.Print t) = (nexts.Gave (Printed t), refl)

-- a body that has its ask does not wait
given_goes : (w : What) (n : Next) → GivenBy w n → may_go n ≡ true
given_goes (Ended e) n g = ap may_go g
given_goes Begun n g = ap may_go g
given_goes (Made c) n g = ap may_go g
given_goes (Sent o j vs) n g = ap may_go g
given_goes (Called o j vs) n g = ap may_go g
given_goes (Printed t) n g = ap may_go g
given_goes (Fired k o ms vs) n g = ap may_go g

-- ---- the frames run to their ask

-- the frames of a body that runs come to an ask
pub runs_to_ask : (code : Parts) (limits : Limits) (t : Task) (b : Body) → IsTaskOf code limits t → RunsOn t.top → t.top ≡ Some b → ComesToAsk code (machine_of b.frames.value)
runs_to_ask code limits t b k r top =
    let e : b ≡ r.0 = same_body b r.0 (sym top ∙ r.1) in
    (may_run code limits t b k top (runs_ready t r)).0 (ap (λ (x : Body). x.next) e ∙ r.2)

-- the frames came to the ask that was put
pub ask_put : (code : Parts) (m : Machine) (o : Option Ask) (f : Frames) → ((a : Ask) × (o ≡ Some a) × Advanced code m a f) → (a : Ask) → o ≡ Some a → Advanced code m a f
ask_put code m o f w a e =
    let z : Some w.0 ≡ Some a = sym w.1 ∙ e in
    let y : w.0 ≡ a = cc in
    subst (λ x. Advanced code m x f) y w.2

-- a body that has come to its ask, and has it
pub has_asked : (code : Parts) (t : Task) (b : Body) (f : Box Frames Global) (a : Ask) → RunsOn t.top → t.top ≡ Some b → Advanced code (machine_of b.frames.value) a f.value → AskedBody code b (record { number = b.number; frames = f; next = (next_given a).0 })
has_asked code t b f a r top adv =
    let e : b ≡ r.0 = same_body b r.0 (sym top ∙ r.1) in
    let runs : b.next ≡ nexts.Runs = ap (λ (x : Body). x.next) e ∙ r.2 in
    record {
      number = refl;
      by = subst (λ n. AskedBy code n b (record { number = b.number; frames = f; next = (next_given a).0 })) (sym runs) (a, adv, (next_given a).1);
    }

-- the ask is with the caller
pub is_asked_for : (code : Parts) (limits : Limits) (t : Task) (b : Body) (f : Box Frames Global) (a : Ask) → IsTaskOf code limits t → RunsOn t.top → t.top ≡ Some b → Advanced code (machine_of b.frames.value) a f.value → IsAskedFor code (with_body t (with_frames b f)) (what_of_ask a)
is_asked_for code limits t b f a k r top adv =
    let e : b ≡ r.0 = same_body b r.0 (sym top ∙ r.1) in
    record {
      body = with_frames b f;
      asked = record { number = b.number; frames = f; next = (next_given a).0 };
      on_top = refl;
      runs = ap (λ (x : Body). x.next) e ∙ r.2;
      number = refl;
      frames = refl;
      given = (next_given a).1;
      task = subst (λ l. IsTaskOf code l (record { past = t.past; top = Some (record { number = b.number; frames = f; next = (next_given a).0 }); below = t.below; spare = t.spare; ended = t.ended; values = t.values; limits = t.limits; enclosed = t.enclosed })) (sym k.limited) (task_asked code limits t b (record { number = b.number; frames = f; next = (next_given a).0 }) (what_of_ask a) k top (has_asked code t b f a r top adv) (given_is (what_of_ask a) (next_given a).0 (next_given a).1));
    }

-- the ask is the next ask
pub asked_next : (code : Parts) (limits : Limits) (t : Task) (b : Body) (f : Box Frames Global) (a : Ask) → IsTaskOf code limits t → RunsOn t.top → t.top ≡ Some b → Advanced code (machine_of b.frames.value) a f.value → IsNext (code_program code limits) (view_of t) (what_of_ask a)
asked_next code limits t b f a k r top adv =
    view_asked code limits t b (record { number = b.number; frames = f; next = (next_given a).0 }) (what_of_ask a) k top (has_asked code t b f a r top adv) (given_is (what_of_ask a) (next_given a).0 (next_given a).1)

-- it may become an entry
pub may_settle : (code : Parts) (limits : Limits) (t : Task) (b : Body) (f : Box Frames Global) (a : Ask) (n : ℕ) → IsTaskOf code limits t → RunsOn t.top → t.top ≡ Some b → Advanced code (machine_of b.frames.value) a f.value → MayTurn (code_program code limits) (view_of t) n → MaySettle code (with_body t (with_frames b f)) n (what_of_ask a)
may_settle code limits t b f a n k r top adv may =
    record {
      stays = subst (λ l. StaysDefined (code_program code l) (view_of (with_body t (with_frames b f))) n (what_of_ask a)) (sym k.limited) (λ c e. may.stays (what_of_ask a) (asked_next code limits t b f a k r top adv) c (ap body_number top ∙ e));
      above = may.above;
    }

-- it waits for its number, once there is room
pub awaits_number : (code : Parts) (limits : Limits) (t s : Task) (b : Body) (f : Box Frames Global) (asked : Option Ask) (n : ℕ) → IsTaskOf code limits t → RunsOn t.top → t.top ≡ Some b → ((a : Ask) → asked ≡ Some a → Advanced code (machine_of b.frames.value) a f.value) → MayTurn (code_program code limits) (view_of t) n → HasMadeRoom code (with_body t (with_frames b f)) s → AwaitsNumber code (with_body t (with_frames b f)) s n asked
awaits_number code limits t s b f asked n k r top adv may room = record {
  room = room;
  asked = λ a e. is_asked_for code limits t b f a k r top (adv a e);
  may = λ a e. may_settle code limits t b f a n k r top (adv a e) may;
}

-- the task turned
pub settled_turned : (code : Parts) (limits : Limits) (t : Task) (b : Body) (f : Box Frames Global) (a : Ask) (n : ℕ) (t' : Task) → IsTaskOf code limits t → RunsOn t.top → t.top ≡ Some b → Advanced code (machine_of b.frames.value) a f.value → HasSettled code (with_body t (with_frames b f)) n (what_of_ask a) t' → Turned code limits t t' n (what_of_ask a)
settled_turned code limits t b f a n t' k r top adv s =
    record {
      task = subst (λ l. IsTaskOf code l t') k.limited s.task;
      next = asked_next code limits t b f a k r top adv;
      noted = (s.noted.0, ap body_number top ∙ s.noted.1, s.noted.2);
      top = λ z. s.top z ∙ sym (ap body_number top);
    }

-- ---- the ask becomes an entry

-- a body on top, with more room
roomier_of : (b : Body) (o : Option Body) → IsRoomierTop (Some b) o → (b' : Body) × (o ≡ Some b') × IsRoomier b b'
roomier_of b None r = absurd r
roomier_of b (Some c) r = (c, refl, r)

-- the body on top, with more room
roomier_top : (o o' : Option Body) (b : Body) → o ≡ Some b → IsRoomierTop o o' → (b' : Body) × (o' ≡ Some b') × IsRoomier b b'
roomier_top o o' b e r = roomier_of b o' (subst (λ z. IsRoomierTop z o') e r)

-- what is known once there is room: the task in which the body on top has the ask, and that it may be noted
pub record Roomy (code : Parts) (t s : Task) (n : ℕ) (w : What) (b : Body) : Type 0 where
  pub asked : Next
  pub given : GivenBy w asked
  pub runs : b.next ≡ nexts.Runs
  pub task : IsTaskOf code t.limits (with_body s (with_next b asked))
  pub may : MayNote code t.limits (with_body s (with_next b asked)) n
  pub what : may.what ≡ w
  pub past : (view_of s).past ≡ (view_of t).past
  pub top : (view_of t).top ≡ Some b.number

-- there is room
pub roomy : (code : Parts) (t s : Task) (n : ℕ) (w : What) (b : Body) → IsAskedFor code t w → MaySettle code t n w → s.past ≡ t.past → s.below.items ≡ t.below.items → IsRoomierTop t.top s.top → HasRoomFor code t.limits s.spare → MayBeList s.values → s.limits ≡ t.limits → IsReserved code s → s.top ≡ Some b → Roomy code t s n w b
roomy code t s n w b a m past below top spare values limits ready is =
    let p = code_program code t.limits in
    let r = roomier_top t.top s.top a.body a.on_top top in
    let e : r.0 ≡ b = same_body r.0 b (sym r.1 ∙ is) in
    let q : IsRoomier a.body b = subst (λ (z : Body). IsRoomier a.body z) e r.2 in
    let q' : IsRoomier a.asked (with_next b a.asked.next) = (q.0 ∙ sym a.number, refl, q.2 ∙ sym (ap (λ (x : Box Frames Global). machine_of x.value) a.frames), q.3 ∙ sym (ap (λ (x : Box Frames Global). x.value.awaited) a.frames), subst (λ (x : Box Frames Global). KeepsRoom x.value b.frames.value) (sym a.frames) q.4) in
    let k0 = task_roomier code t.limits (with_body t a.asked) s.past s.below (Some a.asked) (Some (with_next b a.asked.next)) s.spare s.ended s.values s.enclosed refl a.task (given_goes w a.asked.next a.given) past below q' spare values in
    let k : IsTaskOf code t.limits (with_body s (with_next b a.asked.next)) = subst (λ l. IsTaskOf code t.limits (record { past = s.past; top = Some (with_next b a.asked.next); below = s.below; spare = s.spare; ended = s.ended; values = s.values; limits = l; enclosed = s.enclosed })) (sym limits) k0 in
    let h : (view_of s).past ≡ (view_of t).past = ap reverse past in
    let view : (view_of t).top ≡ Some b.number = ap body_number a.on_top ∙ ap Some (sym q.0) in
    record {
      asked = a.asked.next;
      given = a.given;
      runs = q.1 ∙ a.runs;
      task = k;
      may =
          record {
            what = w;
            gave = given_is w a.asked.next a.given;
            reserved = record { below = ready.below; frames = ready.frames; spare = ready.spare; room = ready.room; values = ready.values; top = subst IsReadyFor is ready.top };
            stays = λ c z d. subst (λ (g : List Entry). IsDefined p (doing p (record { number = n; body = c; what = w } ∷ g) d)) (sym h) (m.stays c (view ∙ z) d);
            above = subst (λ (g : List Entry). AllBelow n g) (sym h) m.above;
          };
      what = refl;
      past = h;
      top = view;
    }

-- the same of an ask that waits for its number
pub awaiting_room : (code : Parts) (t s : Task) (n : ℕ) (asked : Option Ask) (a : Ask) (b : Body) → AwaitsNumber code t s n asked → asked ≡ Some a → s.top ≡ Some b → Roomy code t s n (what_of_ask a) b
awaiting_room code t s n asked a b d put is = roomy code t s n (what_of_ask a) b (d.asked a put) (d.may a put) d.room.past d.room.below d.room.top d.room.spare d.room.values d.room.limits d.room.ready is

-- the task in which the body on top had the ask was noted
pub has_settled : (code : Parts) (t s t' : Task) (n : ℕ) (w : What) (b : Body) (x : Roomy code t s n w b) → IsTaskOf code t.limits t' × task_noted (view_of (with_body s (with_next b x.asked))) n x.may.what (view_of t') × (is_end x.may.what ≡ false → (view_of t').top ≡ (view_of (with_body s (with_next b x.asked))).top) → HasSettled code t n w t'
has_settled code t s t' n w b x y =
    record {
      task = y.0;
      noted = (y.1.0, x.top ∙ y.1.1, y.1.2 ∙ ap (λ (g : List Entry). record { number = n; body = y.1.0; what = x.may.what } ∷ g) x.past ∙ ap (λ v. record { number = n; body = y.1.0; what = v } ∷ (view_of t).past) x.what);
      top = λ z. y.2 (ap is_end x.what ∙ z) ∙ sym x.top;
    }

-- the answer of an ask fits
pub roomy_fits : (code : Parts) (t s : Task) (n : ℕ) (w : What) (b : Body) (x : Roomy code t s n w b) (v : What) → x.asked ≡ nexts.Gave v → MayAnswer (answer_of n v) b.frames.value
roomy_fits code t s n w b x v e = may_answer code t.limits (with_body s (with_next b x.asked)) (with_next b x.asked) n v x.task x.may refl e

-- the body waits for an answer of the kind of its ask
pub roomy_asked : (code : Parts) (t s : Task) (n : ℕ) (w : What) (b : Body) (x : Roomy code t s n w b) (v : What) → x.asked ≡ nexts.Gave v → IsAsked v b.frames.value.awaited
roomy_asked code t s n w b x v e =
    let r = with_body s (with_next b x.asked) in
    let h = (view_of r).past in
    let u = gave_up code t.limits h (with_next b x.asked) v e (stack_at code t.limits r (with_next b x.asked) x.task refl).0 in
    let g = gave_by code t.limits h (with_next b x.asked) v u e in
    run_asked code x.task.forward v (waiting_of b.frames.value) (suc (weight code g.2.0)) g.2.0 g.2.2

-- the ask became an entry, and the body goes on, or waits
pub settled_gave : (code : Parts) (t s : Task) (n : ℕ) (w : What) (b : Body) (x : Roomy code t s n w b) (v : What) → x.asked ≡ nexts.Gave v → (past : List Entry) (b' : Body) → b'.number ≡ b.number → AnsweredWith (answer_of n v) n b.frames.value b' → past ≡ s.past ++ entry n b.number v ∷ [] → HasSettled code t n w (record { past = past; top = Some b'; below = s.below; spare = s.spare; ended = s.ended; values = s.values; limits = s.limits; enclosed = s.enclosed })
settled_gave code t s n w b x v e past b' i r items =
    has_settled code t s _ n w b x (task_gave code t.limits (with_body s (with_next b x.asked)) past (with_next b x.asked) b' n v x.task x.may refl e i r items)

-- the end became an entry, and the caller goes on, or no body is left
pub settled_end : (code : Parts) (t s : Task) (n : ℕ) (w : What) (b : Body) (x : Roomy code t s n w b) (y : End) → x.asked ≡ nexts.Ends y y → (past : List Entry) (below : Vec Caller Global) (ended : Option (Box Frames Global)) (top : Option Body) → HasReturned y s.below below top → past ≡ s.past ++ entry n b.number (Ended y) ∷ [] → vec_capacity below ≡ vec_capacity s.below → HasSettled code t n w (record { past = past; top = top; below = below; spare = s.spare; ended = ended; values = s.values; limits = s.limits; enclosed = s.enclosed })
settled_end code t s n w b x y e past below ended top h items room =
    has_settled code t s _ n w b x (task_ended code t.limits (with_body s (with_next b x.asked)) past below ended top (with_next b x.asked) n y y x.task x.may refl e h items room)

-- a list with a last item is not empty
no_last : {A : Type 0} (xs ys : List A) (x : A) → xs ≡ ys ++ x ∷ [] → length xs ≡ 0 → ⊥
no_last xs [] x e none = let z : length (x ∷ []) ≡ 0 = sym (ap length e) ∙ none in absurd (omega (arith, z))
no_last xs (y ∷ ys) x e none = let z : suc (length (ys ++ x ∷ [])) ≡ 0 = sym (ap length e) ∙ none in absurd (omega (arith, z))

-- a body that ended with no body below it has none on top after it
pub over_alone : (y : End) (old before after : Vec Caller Global) (top : Option Body) → HasReturned y before after top → before.items ≡ old.items → vec_len old ≡ 0 → top ≡ None
over_alone y old before after None h e none = refl
over_alone y old before after (Some b) h e none = absurd (no_last old.items after.items h.0 (sym e ∙ h.1) (omega (arith, none, old.ok.0)))

-- the callers below can be answered
pub roomy_ready : (code : Parts) (t s : Task) (n : ℕ) (w : What) (b : Body) → Roomy code t s n w b → LastIsReady s.below.items
roomy_ready code t s n w b x rest c e =
    let k = caller_parked code t.limits (with_body s (with_next b x.asked)) rest (with_next b x.asked) c x.task refl e in (k.1.ready, k.1.awaited)

-- ---- a task that keeps its ask

-- a task whose ask was given and which has its room may note it
abbrev pub may_note : (code : Parts) (limits : Limits) (t r : Task) (n : ℕ) (w : What) → MayTurn (code_program code limits) (view_of t) n → IsTaskOf code limits r → view_of r ≡ view_of t → HasGiven r w → IsReserved code r → MayNote code limits r n × IsNext (code_program code limits) (view_of t) w
may_note code limits t r n w may k v g room =
    let p = code_program code limits in
    let next : IsNext p (view_of t) w = subst (λ x. IsNext p x w) v (given_next code limits r w k g) in (
      record {
        what = w;
        gave = g;
        reserved = room;
        stays = subst (λ x. StaysDefined p x n w) (sym v) (may.stays w next);
        above = subst (λ (x : TaskView). AllBelow n x.past) (sym v) may.above;
      },
      next,
    )

-- the task after its next ask became an entry
pub turned : (code : Parts) (limits : Limits) (t r t' : Task) (n : ℕ) (w : What) (may : MayTurn (code_program code limits) (view_of t) n) (k : IsTaskOf code limits r) (v : view_of r ≡ view_of t) (g : HasGiven r w) (room : IsReserved code r) → IsTaskOf code limits t' × task_noted (view_of r) n w (view_of t') × (is_end w ≡ false → (view_of t').top ≡ (view_of r).top) → Turned code limits t t' n w
turned code limits t r t' n w may k v g room x =
    record {
      task = x.0;
      next = (may_note code limits t r n w may k v g room).1;
      noted = subst (λ u. task_noted u n w (view_of t')) v x.1;
      top = subst (λ (u : TaskView). (is_end w ≡ false → (view_of t').top ≡ u.top)) v x.2;
    }

-- an ask that is there is one
pub some_given : (o : Option What) → (o ≡ None → ⊥) → (w : What) × (o ≡ Some w)
some_given None n = absurd (n refl)
some_given (Some w) n = (w, refl)

-- what got one entry more got it from where it was before
pub adds_from : {old old' new l l' m : List Entry} → old' ≡ old → l' ≡ l → AddsOne old' new l' m → AddsOne old new l m
adds_from same same_list a = record { entry = a.entry; past = a.past ∙ ap (λ (h : List Entry). h ++ a.entry ∷ []) same; list = a.list ∙ ap (λ (h : List Entry). h ++ a.entry ∷ []) same_list }
