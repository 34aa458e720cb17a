-- A task after one more entry.
use Rattle.std.proofs.Common.{◌≡◌, ℕ, ◌<◌, true, false, ◌==◌, List, [], ◌∷◌, Option, Some, None, refl, sym, ap, ◌∙◌, subst, arith}
use Rattle.std.proofs.lemmas.Bool.{eqb-true, ne_eqb}
use Rattle.chord_base.specs.declared.value.Object.{Object}
use Rattle.chord_base.specs.declared.value.Value.{Value}
use Rattle.chord_base.specs.declared.value.Value.TheVariants as a_value
use Rattle.chord_base.specs.declared.event.End.{End}
use Rattle.chord_base.specs.declared.event.End.TheVariants.{Gives, Traps}
use Rattle.chord_base.specs.declared.event.Entry.{Entry}
use Rattle.chord_base.specs.declared.event.Limits.{Limits}
use Rattle.chord_base.specs.declared.event.What.{What}
use Rattle.chord_base.specs.declared.event.What.TheVariants.{Begun, Made, Sent, Called, Printed, Fired, Ended}
use Rattle.chord_base.specs.Bodies.{Doing, Ready, Waits, Absent, Unplaced, Over, doing, serves}
use Rattle.chord_base.specs.Messages.{maker}
use Rattle.chord_base.specs.Printed.{is_end}
use Rattle.chord_base.specs.Story.{IsOwn, AllBelow}
use Rattle.chord_base.proofs.Waits.{WaitsOn}
use Rattle.chord_base.proofs.Local.{waits_for, other_body}
use Rattle.chord_base.proofs.Places.{told_waits}
use Rattle.chord_code.specs.declared.parts.Parts.{Parts}
use Rattle.chord_code.specs.Machine.{IsForward}
use Rattle.chord_code.specs.Meaning.{code_program}
use Rattle.chord_vm.specs.Frames.{IsReady}
use Rattle.chord_task.specs.declared.body.Next.{Next}
use Rattle.chord_task.specs.declared.body.Next.TheVariants as nexts
use Rattle.chord_task.specs.declared.body.Body.{Body}
use Rattle.chord_task.specs.Stacks.{TaskView, IsTask}
use Rattle.chord_task.specs.Standing.{IsUp, IsParked, IsTop, AreParked, AreStacked, AnsweredWith, CalledBack, answer_of}
use Rattle.chord_task.proofs.Stacks.{task_note, task_end}
use Rattle.chord_task.proofs.Standing.{entry, gave_by, gave_next, ends_next, up_more, parks, called_back, all_parked, up_under, parked_maker}

-- a stack of this past, with this body on top
abbrev pub stack_view : List Entry → Option ℕ → TaskView
stack_view h top = record { past = h; top = top }

-- the task and its bodies
pub record Whole (code : Parts) (limits : Limits) (h : List Entry) (top : Option ℕ) (body : Option Body) (below : List Body) : Type 0 where
  pub task : IsTask (code_program code limits) (stack_view h top)
  pub stack : AreStacked code limits h body below

-- a body on top that does not wait may make its next entry
up_top : (code : Parts) (limits : Limits) (h : List Entry) (b : Body) (n : Next) → b.next ≡ n → ((q : ℕ) → n ≡ nexts.Waits q → ⊥) → IsTop code limits h b.next b → IsUp code limits h b
up_top code limits h b nexts.Runs e f t = subst (λ n. IsTop code limits h n b) e t
up_top code limits h b (nexts.Gave w) e f t = subst (λ n. IsTop code limits h n b) e t
up_top code limits h b (nexts.Ends x y) e f t = subst (λ n. IsTop code limits h n b) e t
up_top code limits h b (nexts.Fails x) e f t = subst (λ n. IsTop code limits h n b) e t
up_top code limits h b (nexts.Waits q) e f t = absurd (f q refl)

-- a body that gave an ask may make its next entry
pub gave_up : (code : Parts) (limits : Limits) (h : List Entry) (b : Body) (w : What) → b.next ≡ nexts.Gave w → IsTop code limits h b.next b → IsUp code limits h b
gave_up code limits h b w e t = subst (λ n. IsTop code limits h n b) e t

-- a body that gave its end may make its next entry
pub ends_up : (code : Parts) (limits : Limits) (h : List Entry) (b : Body) (x y : End) → b.next ≡ nexts.Ends x y → IsTop code limits h b.next b → IsUp code limits h b
ends_up code limits h b x y e t = subst (λ n. IsTop code limits h n b) e t

-- an entry of a body that was ready changes no body that waits, unless it ends the one that this one called
keeps_parked : (code : Parts) (limits : Limits) (h : List Entry) (b c : Body) (n q : ℕ) (w : What) → IsUp code limits h b → is_end w ≡ false → IsParked code limits h c q → doing (code_program code limits) (entry n b.number w ∷ h) c.number ≡ doing (code_program code limits) h c.number
keeps_parked code limits h b c n q w u no_end k =
    let p = code_program code limits in
    let o : (b.number == c.number) ≡ false =
    ne_eqb b.number c.number (λ i. let z : Ready u.start u.depth u.answers ≡ Waits k.start k.depth k.answers q _ = sym u.is ∙ ap (doing p h) i ∙ k.is in cc)
    in
    other_body p (entry n b.number w) h c.number o (λ t. let z : true ≡ false = sym t ∙ no_end in cc)

-- an own entry that is no end and has no answer is a call
call_answer : (n : ℕ) (w : What) → IsOwn w → is_end w ≡ false → answer_of n w ≡ None → (o : Object) × (j : ℕ) × (vs : List Value) × (w ≡ Called o j vs)
call_answer n (Called o j vs) i e a = (o, j, vs, refl)
call_answer n (Made c) i e a = (let z : ◌≡◌ {A = Option Value} (Some (a_value.Ref (record { number = n; class = c }))) None = a in cc)
call_answer n (Sent o j vs) i e a = (let z : ◌≡◌ {A = Option Value} (Some a_value.Unit) None = a in cc)
call_answer n (Printed t) i e a = (let z : ◌≡◌ {A = Option Value} (Some a_value.Unit) None = a in cc)
call_answer n Begun i e a = absurd i
call_answer n (Fired k o ms vs) i e a = absurd i
call_answer n (Ended x) i e a = cc

-- a body whose ask became an entry runs on with the answer, or waits for the end of its call
new_top : (code : Parts) → IsForward code → (limits : Limits) (h : List Entry) (b b' : Body) (n : ℕ) (w : What) → IsUp code limits h b → b.next ≡ nexts.Gave w → b'.number ≡ b.number → (o : Option Value) → answer_of n w ≡ o → AnsweredWith o n b.frames.value b' → IsReady b.frames.value.awaited b.frames.value → IsTop code limits (entry n b.number w ∷ h) b'.next b'
new_top code fwd limits h b b' n w u e i (Some v) a r ready =
    subst (λ z. IsTop code limits (entry n b.number w ∷ h) z b') (sym r.0) (up_more code limits h b b' n w v u e a i r.0 r.1)
new_top code fwd limits h b b' n w u e i None a r ready =
    let g = gave_by code limits h b w u e in
    let c = call_answer n w g.0 g.1 a in
    subst (λ z. IsTop code limits (entry n b.number w ∷ h) z b') (sym r.0)
    (subst (λ z. IsParked code limits (entry n b.number z ∷ h) b' n) (sym c.3)
    (parks code fwd limits h b b' n c.0 c.1 c.2 u (e ∙ ap nexts.Gave c.3) i r.0 r.1 ready))

-- the ask that was given becomes an entry
pub note_gave : (code : Parts) → IsForward code → (limits : Limits) (h : List Entry) (b b' : Body) (bs : List Body) (n : ℕ) (w : What) → IsTask (code_program code limits) (stack_view h (Some b.number)) → AreStacked code limits h (Some b) bs → AllBelow n h → b.next ≡ nexts.Gave w → b'.number ≡ b.number → AnsweredWith (answer_of n w) n b.frames.value b' → IsReady b.frames.value.awaited b.frames.value → Whole code limits (entry n b.number w ∷ h) (Some b'.number) (Some b') bs
note_gave code fwd limits h b b' bs n w t s l e i r ready =
    let p = code_program code limits in
    let u = gave_up code limits h b w e s.0 in
    let g = gave_by code limits h b w u e in
    let next = gave_next code limits h b w u e in
    let under = up_under code limits n h b t.told l u in
    let o : (n == b.number) ≡ false = ne_eqb n b.number (λ z. omega (arith, z, under)) in
    let same : serves p b.number (entry n b.number w ∷ h) ≡ serves p b.number h = rw o refl in
    let rest = all_parked code limits (entry n b.number w) h (serves p b.number h) b.number bs (omega (arith, under)) (λ c q m k. keeps_parked code limits h b c n q w u g.1 k) s.1 in
    let rest' : AreParked code limits (entry n b.number w ∷ h) (serves p b'.number (entry n b.number w ∷ h)) b'.number bs =
    subst (λ z. AreParked code limits (entry n b.number w ∷ h) (serves p z (entry n b.number w ∷ h)) z bs) (sym i)
    (subst (λ z. AreParked code limits (entry n b.number w ∷ h) z b.number bs) (sym same) rest)
    in
    record {
      task = subst (λ z. IsTask p (stack_view (entry n b.number w ∷ h) (Some z))) (sym i) (task_note p (stack_view h (Some b.number)) n w next g.1 t l);
      stack = (new_top code fwd limits h b b' n w u e i (answer_of n w) refl r ready, rest');
    }

-- no body waits where no call is served
none_waits : (d : Doing) → waits_for None d ≡ true → ⊥
none_waits d e = (let z : false ≡ true = e in cc)

-- the body on top ends, and no other is left
pub note_last : (code : Parts) (limits : Limits) (h : List Entry) (b : Body) (n : ℕ) (x y : End) → IsTask (code_program code limits) (stack_view h (Some b.number)) → AreStacked code limits h (Some b) [] → AllBelow n h → b.next ≡ nexts.Ends x y → Whole code limits (entry n b.number (Ended x) ∷ h) None None []
note_last code limits h b n x y t s l e =
    let p = code_program code limits in
    let u = ends_up code limits h b x y e s.0 in
    record {
      task =
          task_end p (stack_view h (Some b.number)) n x (ends_next code limits h b x y u e) None
          (λ c w. absurd (none_waits (doing p h c) (subst (λ z. waits_for z (doing p h c) ≡ true) s.1 w))) t l;
      stack = refl;
    }

-- a fact of the call that a body waits for holds of each call that it waits for
waits_same : (c : ℕ) (d : Doing) → waits_for (Some c) d ≡ true → (P : ℕ → Type 0) → WaitsOn P d → P c
waits_same c (Waits s k rs q l) e P w = subst P (sym (eqb-true c q e)) w
waits_same c (Ready s k rs) e P w = (let z : false ≡ true = e in cc)
waits_same c Absent e P w = (let z : false ≡ true = e in cc)
waits_same c Unplaced e P w = (let z : false ≡ true = e in cc)
waits_same c (Over y) e P w = (let z : false ≡ true = e in cc)

-- numbers are the same where their options are
same_some : (m n : ℕ) → Some m ≡ Some n → m ≡ n
same_some m n e = cc

-- the body on top ends, and its caller is answered
pub note_end : (code : Parts) (limits : Limits) (h : List Entry) (b c c' : Body) (bs : List Body) (n : ℕ) (x y : End) → IsTask (code_program code limits) (stack_view h (Some b.number)) → AreStacked code limits h (Some b) (c ∷ bs) → AllBelow n h → b.next ≡ nexts.Ends x y → CalledBack x c c' → c'.number ≡ c.number → IsTop code limits (entry n b.number (Ended x) ∷ h) c'.next c' → Whole code limits (entry n b.number (Ended x) ∷ h) (Some c'.number) (Some c') bs
note_end code limits h b c c' bs n x y t s l e r i top =
    let p = code_program code limits in
    let u = ends_up code limits h b x y e s.0 in
    let q = s.1.0.0 in
    let served : serves p b.number h ≡ Some q = s.1.0.1 in
    let k = s.1.0.2 in
    let less : c.number < b.number = s.1.1 in
    let under = up_under code limits n h b t.told l u in
    let made = parked_maker code limits q h c t.told k in
    let o : (n == c.number) ≡ false = ne_eqb n c.number (λ z. omega (arith, z, under, less)) in
    let same : serves p c.number (entry n b.number (Ended x) ∷ h) ≡ serves p c.number h = rw o refl in
    let rest =
    all_parked code limits (entry n b.number (Ended x)) h (serves p c.number h) c.number bs (omega (arith, under, less))
    (λ d r' m j.
    let below : d.number < c.number = m in
    let a : (b.number == d.number) ≡ false = ne_eqb b.number d.number (λ z. omega (arith, z, less, below)) in
    let apart : (q == r') ≡ false =
    ne_eqb q r' (λ z. let f = same_some c.number d.number (sym made ∙ ap (λ v. maker v h) z ∙ parked_maker code limits r' h d t.told j) in omega (arith, f, below))
    in
    other_body p (entry n b.number (Ended x)) h d.number a (λ v. ap (λ z. waits_for z (doing p h d.number)) served ∙ ap (waits_for (Some q)) j.is ∙ apart))
    s.1.2
    in
    let rest' : AreParked code limits (entry n b.number (Ended x) ∷ h) (serves p c'.number (entry n b.number (Ended x) ∷ h)) c'.number bs =
    subst (λ z. AreParked code limits (entry n b.number (Ended x) ∷ h) (serves p z (entry n b.number (Ended x) ∷ h)) z bs) (sym i)
    (subst (λ z. AreParked code limits (entry n b.number (Ended x) ∷ h) z c.number bs) (sym same) rest)
    in
    record {
      task =
          task_end p (stack_view h (Some b.number)) n x (ends_next code limits h b x y u e) (Some c'.number)
          (λ d w.
          let w' = subst (λ z. waits_for z (doing p h d) ≡ true) served w in
          let m = waits_same q (doing p h d) w' (λ v. maker v h ≡ Some d) (told_waits p h d t.told) in
          ap Some (i ∙ same_some c.number d (sym made ∙ m))) t l;
      stack = (top, rest');
    }

-- the caller is up again
pub back_top : (code : Parts) (limits : Limits) (h : List Entry) (b c c' : Body) (bs : List Body) (n : ℕ) (x y : End) → AreStacked code limits h (Some b) (c ∷ bs) → CalledBack x c c' → IsTop code limits (entry n b.number (Ended x) ∷ h) c'.next c'
back_top code limits h b c c' bs n (Gives v) y s r =
    let less : c.number < b.number = s.1.1 in
    let o : (b.number == c.number) ≡ false = ne_eqb b.number c.number (λ z. omega (arith, z, less)) in
    subst (λ z. IsTop code limits (entry n b.number (Ended (Gives v)) ∷ h) z c') (sym r.1.0)
    (called_back code limits h b c c' n s.1.0.0 (Gives v) o s.1.0.1 s.1.0.2 r)
back_top code limits h b c c' bs n (Traps t) y s r =
    let less : c.number < b.number = s.1.1 in
    let o : (b.number == c.number) ≡ false = ne_eqb b.number c.number (λ z. omega (arith, z, less)) in
    subst (λ z. IsTop code limits (entry n b.number (Ended (Traps t)) ∷ h) z c') (sym r.1)
    (called_back code limits h b c c' n s.1.0.0 (Traps t) o s.1.0.1 s.1.0.2 r)
