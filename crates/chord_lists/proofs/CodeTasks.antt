-- What the engine over a code uses of one task.
use Rattle.std.proofs.Common.{◌≡◌, ℕ, true, false, ◌==◌, inl, inr, ◌∷◌, Option, Some, None, refl, sym, ap, ◌∙◌, ◌⊎◌}
use Rattle.std.proofs.lemmas.Bool.{eqb-true, eqb-false}
use Rattle.chord_base.specs.declared.event.Limits.{Limits}
use Rattle.chord_base.specs.declared.event.What.{What}
use Rattle.chord_base.specs.declared.event.What.TheVariants.{Begun, Made, Sent, Called, Printed, Fired, Ended}
use Rattle.chord_base.specs.Meaning.{Program, Asked}
use Rattle.chord_base.specs.Bodies.{Doing, Absent, Unplaced, Ready, Waits, Over, doing, asked}
use Rattle.chord_base.specs.Printed.{is_end}
use Rattle.chord_base.proofs.Waits.{either}
use Rattle.chord_code.specs.declared.parts.Parts.{Parts}
use Rattle.chord_code.specs.Meaning.{code_program}
use Rattle.chord_task.specs.declared.task.Task.{Task}
use Rattle.chord_task.specs.declared.body.Body.{Body}
use Rattle.chord_task.specs.declared.body.Next.{Next}
use Rattle.chord_task.specs.declared.body.Next.TheVariants as nexts
use Rattle.chord_task.specs.Stacks.{TaskView, IsNext, TopWaitsFor, task_noted}
use Rattle.chord_task.specs.Standing.{view_of, IsTaskOf, is_ready_of, waits_of, may_go, body_may_go, waits_on, body_waits, IsResumable, HasRoomIf}
use Rattle.chord_task.proofs.Stacks.{called_waits}
use Rattle.chord_task.proofs.Asking.{not_ready_nothing, waits_no}
use Rattle.chord_task.specs.Turning.{Turned, sent_to}
use Rattle.chord_lists.specs.CodeStands.{turn_to, turn_of}
use Rattle.chord_lists.proofs.Spots.{nothing_some}

-- ---- ready and waiting tasks

-- a body that may go on waits for no call
may_go_not_waits : (q : ℕ) (n : Next) → may_go n ≡ true → waits_on q n ≡ true → ⊥
may_go_not_waits q nexts.Runs g w = (let z : false ≡ true = w in cc)
may_go_not_waits q (nexts.Gave x) g w = (let z : false ≡ true = w in cc)
may_go_not_waits q (nexts.Ends x y) g w = (let z : false ≡ true = w in cc)
may_go_not_waits q (nexts.Fails x) g w = (let z : false ≡ true = w in cc)
may_go_not_waits q (nexts.Waits x) g w = (let z : false ≡ true = g in cc)

-- neither does a body on top, if there is one
top_ready_not_waiting : (q : ℕ) (o : Option Body) → body_may_go o ≡ true → body_waits q o ≡ true → ⊥
top_ready_not_waiting q None g w = (let z : false ≡ true = w in cc)
top_ready_not_waiting q (Some b) g w = may_go_not_waits q b.next g w

-- a task that may go on waits for no call
pub ready_not_waiting : (q : ℕ) (t : Task) → is_ready_of t ≡ true → waits_of q t ≡ true → ⊥
ready_not_waiting q t g w = top_ready_not_waiting q t.top g w

-- a body waits for one call
waits_one : (q c : ℕ) (n : Next) → waits_on q n ≡ true → waits_on c n ≡ true → q ≡ c
waits_one q c nexts.Runs v w = (let z : false ≡ true = w in cc)
waits_one q c (nexts.Gave x) v w = (let z : false ≡ true = w in cc)
waits_one q c (nexts.Ends x y) v w = (let z : false ≡ true = w in cc)
waits_one q c (nexts.Fails x) v w = (let z : false ≡ true = w in cc)
waits_one q c (nexts.Waits x) v w = sym (eqb-true x q v) ∙ eqb-true x c w

-- so does the body on top, if there is one
top_one : (q c : ℕ) (o : Option Body) → body_waits q o ≡ true → body_waits c o ≡ true → q ≡ c
top_one q c None v w = (let z : false ≡ true = w in cc)
top_one q c (Some b) v w = waits_one q c b.next v w

-- a task waits for one call
pub one_call : (q c : ℕ) (t : Task) → waits_of q t ≡ true → waits_of c t ≡ true → q ≡ c
one_call q c t v w = top_one q c t.top v w

-- the body on top is this one or is not
top_is : (o : Option ℕ) (b : ℕ) → (o ≡ Some b) ⊎ (o ≡ Some b → ⊥)
top_is None b = inr (λ e. let z : ◌≡◌ {A = Option ℕ} None (Some b) = e in cc)
top_is (Some c) b = elim (either (c == b)) [ inl y ↦ inl (ap Some (eqb-true c b y)) | inr o ↦ inr (λ e. let z : c ≡ b = cc in eqb-false c b o z) ]

-- a body that asks in the past of a task is on top, and the task may go on
pub asks_ready : (code : Parts) (limits : Limits) (t : Task) (b : ℕ) (a : Asked) → IsTaskOf code limits t → asked (code_program code limits) (doing (code_program code limits) (view_of t).past b) ≡ Some a → ((view_of t).top ≡ Some b) × (is_ready_of t ≡ true)
asks_ready code limits t b a k e =
    elim (top_is (view_of t).top b) [
      | inl y ↦ (
        y,
        elim (either (is_ready_of t)) [ inl r ↦ r | inr n ↦ nothing_some a (sym (not_ready_nothing code limits t k n b y) ∙ e) ],
      )
      | inr n ↦ nothing_some a (sym (k.task.quiet b n) ∙ e)
    ]

-- ---- a task goes on

-- the engine is told what an entry is by what it is to
pub turn_told : (w : What) → turn_to (sent_to w) ≡ turn_of w
turn_told Begun = refl
turn_told (Made c) = refl
turn_told (Sent o j vs) = refl
turn_told (Called o j vs) = refl
turn_told (Printed t) = refl
turn_told (Fired k o ms vs) = refl
turn_told (Ended y) = refl

-- after a call the body on top waits for it
waits_called : (p : Program) (u t : TaskView) (n : ℕ) (w : What) → IsNext p u w → task_noted u n w t → (is_end w ≡ false → t.top ≡ u.top) → is_end w ≡ false → (o : _) (j : ℕ) (vs : _) → w ≡ Called o j vs → TopWaitsFor p t n
waits_called p u t n Begun a m e f o j vs is = (let z : Begun ≡ Called o j vs = is in cc)
waits_called p u t n (Made c) a m e f o j vs is = (let z : Made c ≡ Called o j vs = is in cc)
waits_called p u t n (Sent o' j' vs') a m e f o j vs is = (let z : Sent o' j' vs' ≡ Called o j vs = is in cc)
waits_called p u t n (Printed x) a m e f o j vs is = (let z : Printed x ≡ Called o j vs = is in cc)
waits_called p u t n (Fired k o' ms vs') a m e f o j vs is = (let z : Fired k o' ms vs' ≡ Called o j vs = is in cc)
waits_called p u t n (Ended x) a m e f o j vs is = (let z : Ended x ≡ Called o j vs = is in cc)
waits_called p u t n (Called o' j' vs') a m e f o j vs is = by_state (doing p u.past a.body) refl a.asks.1
  where
    by_state : (d : Doing) → doing p u.past a.body ≡ d → asked p d ≡ Some (record { what = Called o' j' vs'; depth = a.asks.0 }) → TopWaitsFor p t n
    by_state (Ready s d rs) i x =
        let z : Some a.body ≡ Some m.0 = sym a.on_top ∙ m.1 in
        let b : a.body ≡ m.0 = cc in
        let w = called_waits p u n o' j' vs' a s d rs i in
        let past : t.past ≡ record { number = n; body = a.body; what = Called o' j' vs' } ∷ u.past = m.2 ∙ ap (λ y. record { number = n; body = y; what = Called o' j' vs' } ∷ u.past) (sym b) in
        record { body = w.body; on_top = e refl ∙ w.on_top; start = w.start; depth = w.depth; answers = w.answers; place = w.place; is = ap (λ l. doing p l w.body) past ∙ w.is }
    by_state (Waits s d rs q l) i x = nothing_some _ x
    by_state Absent i x = nothing_some _ x
    by_state Unplaced i x = nothing_some _ x
    by_state (Over y) i x = nothing_some _ x

-- a task that has called waits for its call
pub call_waits : (code : Parts) (limits : Limits) (t t' : Task) (n : ℕ) (o : _) (j : ℕ) (vs : _) → Turned code limits t t' n (Called o j vs) → waits_of n t' ≡ true
call_waits code limits t t' n o j vs u =
    elim (either (waits_of n t')) [
      | inl y ↦ y
      | inr f ↦ absurd (waits_no code limits t' n u.task f (waits_called (code_program code limits) (view_of t) (view_of t') n (Called o j vs) u.next u.noted u.top refl o j vs refl))
    ]

-- a task that waits has room for a firing
pub resumable : (code : Parts) (limits : Limits) (t : Task) (q : ℕ) → IsTaskOf code limits t → waits_of q t ≡ true → IsResumable code t
resumable code limits t q k e = by_top t.top k.room e
  where
    by_next : (b : Body) (n : Next) → b.next ≡ n → ((j : ℕ) → b.next ≡ nexts.Waits j → IsResumable code t) → waits_on q n ≡ true → IsResumable code t
    by_next b nexts.Runs i r w = (let z : false ≡ true = w in cc)
    by_next b (nexts.Gave x) i r w = (let z : false ≡ true = w in cc)
    by_next b (nexts.Ends x y) i r w = (let z : false ≡ true = w in cc)
    by_next b (nexts.Fails x) i r w = (let z : false ≡ true = w in cc)
    by_next b (nexts.Waits j) i r w = r j i

    by_top : (o : Option Body) → HasRoomIf code t o → body_waits q o ≡ true → IsResumable code t
    by_top None r w = (let z : false ≡ true = w in cc)
    by_top (Some b) r w = by_next b b.next refl r w
