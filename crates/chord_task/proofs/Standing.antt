-- What the bodies of a task stand for after one more entry.
use Rattle.std.proofs.Common.{◌≡◌, ℕ, suc, ◌-◌, ◌<◌, ◌≤◌, true, false, ◌==◌, List, [], ◌∷◌, ◌++◌, Option, Some, None, refl, sym, ap, ◌∙◌, subst, arith}
use Rattle.std.specs.Prelude.{IsSome}
use Rattle.std.proofs.lemmas.Bool.{eq-eqb, ne_eqb}
use Rattle.chord_base.specs.declared.value.Object.{Object}
use Rattle.chord_base.specs.declared.value.Value.{Value}
use Rattle.chord_base.specs.declared.value.Value.TheVariants as a_value
use Rattle.chord_base.specs.declared.event.End.{End}
use Rattle.chord_base.specs.declared.event.End.TheVariants.{Gives, Traps}
use Rattle.chord_base.specs.declared.event.Entry.{Entry}
use Rattle.chord_base.specs.declared.event.Limits.{Limits}
use Rattle.chord_base.specs.declared.event.What.{What}
use Rattle.chord_base.specs.declared.event.What.TheVariants.{Begun, Made, Sent, Called, Printed, Fired, Ended}
use Rattle.chord_base.specs.Meaning.{Program, Start}
use Rattle.chord_base.specs.Bodies.{Doing, Ready, Waits, replied as and_then, waiting, ask_depth, own, doing, asked, serves}
use Rattle.chord_base.specs.Messages.{maker}
use Rattle.chord_base.specs.Printed.{is_end}
use Rattle.chord_base.specs.Story.{IsOwn, AllBelow, IsTold, IsDefined}
use Rattle.chord_base.proofs.Waits.{WaitsOn}
use Rattle.chord_base.proofs.Merge.{body_known, IsSeen}
use Rattle.chord_base.proofs.Places.{told_waits, known_under}
use Rattle.chord_code.specs.declared.parts.Parts.{Parts}
use Rattle.chord_code.specs.declared.awaited.Awaited.TheVariants.{ForValue}
use Rattle.chord_code.specs.Machine.{Asking, with_answer, IsForward}
use Rattle.chord_code.specs.Fuel.{weight}
use Rattle.chord_code.specs.Meaning.{Point, At, FailsBy, point_of, failed, reply, reply_to, point_replied, code_program, stands, begins, place, asked_at, asked_of}
use Rattle.chord_code.proofs.Asks.{points_more, run_asked}
use Rattle.chord_vm.specs.declared.frames.Frames.{Frames}
use Rattle.chord_vm.specs.Frames.{machine_of, waiting_of, IsReady}
use Rattle.chord_task.specs.declared.body.Next.TheVariants as nexts
use Rattle.chord_task.specs.declared.body.Body.{Body}
use Rattle.chord_task.specs.Stacks.{IsNext}
use Rattle.chord_task.specs.Standing.{GaveAt, NextIs, IsUp, IsParked, AreParked, CalledBack, answer_of}
use Rattle.chord_task.proofs.Stacks.{caller_ready}

-- an entry of this number and body
abbrev pub entry : ℕ → ℕ → What → Entry
entry n b w = record { number = n; body = b; what = w }

-- an ask that was given is the body's own, and no end
pub gave_at : (code : Parts) (limits : Limits) (w : What) (f : Frames) (p : Point) → NextIs code limits (nexts.Gave w) f p → IsOwn w × (is_end w ≡ false) × GaveAt code w f p
gave_at code limits Begun f p x = absurd x
gave_at code limits (Fired k o ms vs) f p x = absurd x
gave_at code limits (Ended e) f p x = absurd x
gave_at code limits (Made c) f p x = (tt, refl, x)
gave_at code limits (Sent o j vs) f p x = (tt, refl, x)
gave_at code limits (Called o j vs) f p x = (tt, refl, x)
gave_at code limits (Printed t) f p x = (tt, refl, x)

-- what is known of an ask that a body gave
pub gave_by : (code : Parts) (limits : Limits) (h : List Entry) (b : Body) (w : What) (u : IsUp code limits h b) → b.next ≡ nexts.Gave w → IsOwn w × (is_end w ≡ false) × GaveAt code w b.frames.value (stands code limits u.start u.depth u.answers)
gave_by code limits h b w u e = gave_at code limits w b.frames.value _ (subst (λ n. NextIs code limits n b.frames.value (stands code limits u.start u.depth u.answers)) e u.next)

-- the next ask of a point whose ask was given
pub gave_asks : (code : Parts) (limits : Limits) (w : What) (f : Frames) (p : Point) → GaveAt code w f p → asked_of code limits p ≡ Some (record { what = w; depth = place w (limits.depth - f.top.room) })
gave_asks code limits w f p g = ap (asked_of code limits) g.1 ∙ ap (asked_at limits) g.2

-- it is the next ask of the body on top
abbrev pub gave_next : (code : Parts) (limits : Limits) (h : List Entry) (b : Body) (w : What) → IsUp code limits h b → b.next ≡ nexts.Gave w → IsNext (code_program code limits) (record { past = h; top = Some b.number }) w
gave_next code limits h b w u e =
    let g = gave_by code limits h b w u e in
    record {
      body = b.number;
      on_top = refl;
      own = g.0;
      asks = (place w (limits.depth - b.frames.value.top.room), ap (asked (code_program code limits)) u.is ∙ gave_asks code limits w b.frames.value (stands code limits u.start u.depth u.answers) g.2);
    }

-- what is known of an end that a body gave
pub ends_by : (code : Parts) (limits : Limits) (h : List Entry) (b : Body) (e e' : End) (u : IsUp code limits h b) → b.next ≡ nexts.Ends e e' → (l : ℕ) × (asked_of code limits (stands code limits u.start u.depth u.answers) ≡ Some (record { what = Ended e; depth = l })) × (e' ≡ e)
ends_by code limits h b e e' u i = subst (λ n. NextIs code limits n b.frames.value (stands code limits u.start u.depth u.answers)) i u.next

-- the end that a body gave is its next ask
abbrev pub ends_next : (code : Parts) (limits : Limits) (h : List Entry) (b : Body) (e e' : End) → IsUp code limits h b → b.next ≡ nexts.Ends e e' → IsNext (code_program code limits) (record { past = h; top = Some b.number }) (Ended e)
ends_next code limits h b e e' u i =
    let g = ends_by code limits h b e e' u i in
    record { body = b.number; on_top = refl; own = tt; asks = (g.0, ap (asked (code_program code limits)) u.is ∙ g.1) }

-- one more answer
pub stands_more : (code : Parts) (limits : Limits) (s : Start) (d : ℕ) (rs : List End) (r : End) → stands code limits s d (rs ++ r ∷ []) ≡ point_replied code (stands code limits s d rs) r
stands_more code limits s d rs r = points_more code (point_of (begins code limits s d)) rs r

-- where a body stands once the ask that it gave is answered
pub replied_at : (code : Parts) (w : What) (f : Frames) (p : Point) (r : End) → GaveAt code w f p → point_replied code p r ≡ reply (waiting_of f) r
replied_at code w f p r g = ap (λ z. point_replied code z r) g.1 ∙ ap (λ z. reply_to z r) g.2

-- an own entry that answers its ask lets the body go on with that answer
own_answered : (p : Program) (n : ℕ) (w : What) (m : ℕ → Option ℕ) (g : ℕ → Doing) (d : Doing) (v : Value) → answer_of n w ≡ Some v → own p n w m g d ≡ and_then (Gives v) d
own_answered p n (Made c) m g d v e = (let z : ◌≡◌ {A = Option Value} (Some (a_value.Ref (record { number = n; class = c }))) (Some v) = e in let y : a_value.Ref (record { number = n; class = c }) ≡ v = cc in ap (λ x. and_then (Gives x) d) y)
own_answered p n (Sent o j vs) m g d v e = (let z : ◌≡◌ {A = Option Value} (Some a_value.Unit) (Some v) = e in let y : a_value.Unit ≡ v = cc in ap (λ x. and_then (Gives x) d) y)
own_answered p n (Printed t) m g d v e = (let z : ◌≡◌ {A = Option Value} (Some a_value.Unit) (Some v) = e in let y : a_value.Unit ≡ v = cc in ap (λ x. and_then (Gives x) d) y)
own_answered p n (Called o j vs) m g d v e = (let z : ◌≡◌ {A = Option Value} None (Some v) = e in cc)
own_answered p n Begun m g d v e = (let z : ◌≡◌ {A = Option Value} None (Some v) = e in cc)
own_answered p n (Fired k o ms vs) m g d v e = (let z : ◌≡◌ {A = Option Value} None (Some v) = e in cc)
own_answered p n (Ended x) m g d v e = (let z : ◌≡◌ {A = Option Value} None (Some v) = e in cc)

-- the body with the answer to its ask
own_ready : (code : Parts) (limits : Limits) (h : List Entry) (b : Body) (n : ℕ) (w : What) (v : Value) (u : IsUp code limits h b) → answer_of n w ≡ Some v → doing (code_program code limits) (entry n b.number w ∷ h) b.number ≡ Ready u.start u.depth (u.answers ++ Gives v ∷ [])
own_ready code limits h b n w v u a =
    let p = code_program code limits in
    let i : (b.number == b.number) ≡ true = eq-eqb b.number b.number refl in
    let s : doing p (entry n b.number w ∷ h) b.number ≡ own p n w (λ q. maker q h) (doing p h) (doing p h b.number) = rw i refl in
    s ∙ own_answered p n w (λ q. maker q h) (doing p h) (doing p h b.number) v a ∙ ap (and_then (Gives v)) u.is

-- a body whose ask became an entry that answers it may make its next entry
pub up_more : (code : Parts) (limits : Limits) (h : List Entry) (b b' : Body) (n : ℕ) (w : What) (v : Value) (u : IsUp code limits h b) → b.next ≡ nexts.Gave w → answer_of n w ≡ Some v → b'.number ≡ b.number → b'.next ≡ nexts.Runs → with_answer (machine_of b.frames.value) b.frames.value.awaited v ≡ Some (machine_of b'.frames.value) → IsUp code limits (entry n b.number w ∷ h) b'
up_more code limits h b b' n w v u e a i r f =
    let g = gave_by code limits h b w u e in
    let point : stands code limits u.start u.depth (u.answers ++ Gives v ∷ []) ≡ At (machine_of b'.frames.value) =
    stands_more code limits u.start u.depth u.answers (Gives v)
    ∙ replied_at code w b.frames.value (stands code limits u.start u.depth u.answers) (Gives v) g.2
    ∙ ap point_of f
    in
    record {
      start = u.start;
      depth = u.depth;
      answers = u.answers ++ Gives v ∷ [];
      is = ap (doing (code_program code limits) (entry n b.number w ∷ h)) i ∙ own_ready code limits h b n w v u a;
      next = subst (λ x. NextIs code limits x b'.frames.value (stands code limits u.start u.depth (u.answers ++ Gives v ∷ []))) (sym r) point;
    }

-- what is there is not missing
some_none : {A : Type 0} (o : Option A) → IsSome o → o ≡ None → ⊥
some_none None s e = cc
some_none (Some x) s e = cc

-- where the trace stays defined, the machine takes the answer
pub noted_answer_fits : (code : Parts) (limits : Limits) (h : List Entry) (b : Body) (n : ℕ) (w : What) (v : Value) (u : IsUp code limits h b) → b.next ≡ nexts.Gave w → answer_of n w ≡ Some v → IsDefined (code_program code limits) (doing (code_program code limits) (entry n b.number w ∷ h) b.number) → with_answer (machine_of b.frames.value) b.frames.value.awaited v ≡ None → ⊥
noted_answer_fits code limits h b n w v u e a d none =
    let g = gave_by code limits h b w u e in
    let s = subst (λ (x : Doing). IsDefined (code_program code limits) x) (own_ready code limits h b n w v u a) d in
    some_none (asked_of code limits (stands code limits u.start u.depth (u.answers ++ Gives v ∷ []))) s
    (ap (asked_of code limits)
    (stands_more code limits u.start u.depth u.answers (Gives v)
    ∙ replied_at code w b.frames.value (stands code limits u.start u.depth u.answers) (Gives v) g.2
    ∙ ap point_of none))

-- the body that calls
pub parks : (code : Parts) → IsForward code → (limits : Limits) (h : List Entry) (b b' : Body) (n : ℕ) (o : Object) (j : ℕ) (vs : List Value) → IsUp code limits h b → b.next ≡ nexts.Gave (Called o j vs) → b'.number ≡ b.number → b'.next ≡ nexts.Waits n → b'.frames.value ≡ b.frames.value → IsReady b.frames.value.awaited b.frames.value → IsParked code limits (entry n b.number (Called o j vs) ∷ h) b' n
parks code fwd limits h b b' n o j vs u e i r f ready =
    let p = code_program code limits in
    let g = gave_by code limits h b (Called o j vs) u e in
    let next = gave_asks code limits (Called o j vs) b.frames.value (stands code limits u.start u.depth u.answers) g.2 in
    let awaited : b.frames.value.awaited ≡ ForValue = run_asked code fwd (Called o j vs) (waiting_of b.frames.value) (suc (weight code g.2.0)) g.2.0 g.2.2 in
    let same : (b.number == b.number) ≡ true = eq-eqb b.number b.number refl in
    let s : doing p (entry n b.number (Called o j vs) ∷ h) b.number ≡ waiting p n (doing p h b.number) = rw same refl in
    record {
      start = u.start;
      depth = u.depth;
      answers = u.answers;
      machine = g.2.0;
      what = Called o j vs;
      waits = r;
      is =
          ap (doing p (entry n b.number (Called o j vs) ∷ h)) i ∙ s ∙ ap (waiting p n) u.is
          ∙ ap (λ z. Waits u.start u.depth u.answers n (ask_depth z)) next
          ∙ ap (λ (z : Frames). Waits u.start u.depth u.answers n (limits.depth - z.top.room)) (sym f);
      at = g.2.1;
      comes = g.2.2 ∙ ap (λ z. Asking (Called o j vs) (waiting_of z)) (sym f);
      awaited = ap (λ (z : Frames). z.awaited) f ∙ awaited;
      ready = subst (λ z. IsReady ForValue z) (sym f) (subst (λ z. IsReady z b.frames.value) awaited ready);
    }

-- the caller after the end of the body that it called
pub called_back : (code : Parts) (limits : Limits) (h : List Entry) (b c c' : Body) (n q : ℕ) (x : End) → (b.number == c.number) ≡ false → serves (code_program code limits) b.number h ≡ Some q → IsParked code limits h c q → CalledBack x c c' → IsUp code limits (entry n b.number (Ended x) ∷ h) c'
called_back code limits h b c c' n q (Gives v) o s k r =
    let point : stands code limits k.start k.depth (k.answers ++ Gives v ∷ []) ≡ At (machine_of c'.frames.value) =
    stands_more code limits k.start k.depth k.answers (Gives v)
    ∙ replied_at code k.what c.frames.value (stands code limits k.start k.depth k.answers) (Gives v) (k.machine, k.at, k.comes)
    ∙ ap point_of r.1.1
    in
    record {
      start = k.start;
      depth = k.depth;
      answers = k.answers ++ Gives v ∷ [];
      is =
          ap (doing (code_program code limits) (entry n b.number (Ended (Gives v)) ∷ h)) r.0
          ∙ caller_ready (code_program code limits) (record { past = h; top = None }) n b.number c.number q (limits.depth - c.frames.value.top.room) k.depth (Gives v) k.start k.answers o s k.is;
      next = subst (λ z. NextIs code limits z c'.frames.value (stands code limits k.start k.depth (k.answers ++ Gives v ∷ []))) (sym r.1.0) point;
    }
called_back code limits h b c c' n q (Traps t) o s k r =
    let point : stands code limits k.start k.depth (k.answers ++ Traps t ∷ []) ≡ FailsBy t =
    stands_more code limits k.start k.depth k.answers (Traps t)
    ∙ replied_at code k.what c.frames.value (stands code limits k.start k.depth k.answers) (Traps t) (k.machine, k.at, k.comes)
    ∙ ap (λ z. failed z t) k.awaited
    in
    record {
      start = k.start;
      depth = k.depth;
      answers = k.answers ++ Traps t ∷ [];
      is =
          ap (doing (code_program code limits) (entry n b.number (Ended (Traps t)) ∷ h)) r.0
          ∙ caller_ready (code_program code limits) (record { past = h; top = None }) n b.number c.number q (limits.depth - c.frames.value.top.room) k.depth (Traps t) k.start k.answers o s k.is;
      next = subst (λ z. NextIs code limits z c'.frames.value (stands code limits k.start k.depth (k.answers ++ Traps t ∷ []))) (sym r.1) point;
    }

-- a body that does what it did
pub parked_more : (code : Parts) (limits : Limits) (e : Entry) (h : List Entry) (b : Body) (q : ℕ) → doing (code_program code limits) (e ∷ h) b.number ≡ doing (code_program code limits) h b.number → IsParked code limits h b q → IsParked code limits (e ∷ h) b q
parked_more code limits e h b q s k =
    record { start = k.start; depth = k.depth; answers = k.answers; machine = k.machine; what = k.what; waits = k.waits; is = s ∙ k.is; at = k.at; comes = k.comes; awaited = k.awaited; ready = k.ready }

-- the bodies below, after an entry that changes none of them
pub all_parked : (code : Parts) (limits : Limits) (e : Entry) (h : List Entry) (call : Option ℕ) (above : ℕ) (bs : List Body) → above ≤ e.number → ((b : Body) (q : ℕ) → b.number < above → IsParked code limits h b q → doing (code_program code limits) (e ∷ h) b.number ≡ doing (code_program code limits) h b.number) → AreParked code limits h call above bs → AreParked code limits (e ∷ h) call above bs
all_parked code limits e h call above [] l s k = k
all_parked code limits e h call above (b ∷ bs) l s k =
    let less : b.number < above = k.1 in
    let o : (e.number == b.number) ≡ false = ne_eqb e.number b.number (λ i. omega (arith, i, l, less)) in
    let same : serves (code_program code limits) b.number (e ∷ h) ≡ serves (code_program code limits) b.number h = rw o refl in
    let rest = all_parked code limits e h (serves (code_program code limits) b.number h) b.number bs (omega (arith, l, less)) (λ c q m. s c q (omega (arith, m, less))) k.2 in
    ((k.0.0, k.0.1, parked_more code limits e h b k.0.0 (s b k.0.0 less k.0.2) k.0.2), less, subst (λ z. AreParked code limits (e ∷ h) z b.number bs) (sym same) rest)

-- the body has an entry
abbrev Seen : Doing → Type 0
Seen d = IsSeen d

-- a ready body has an entry
ready_seen : (s : Start) (d : ℕ) (rs : List End) (x : Doing) → x ≡ Ready s d rs → IsSeen x
ready_seen s d rs x e = subst (λ (y : Doing). IsSeen y) (sym e) tt

-- a body that waits has an entry
waits_seen : (s : Start) (d : ℕ) (rs : List End) (q l : ℕ) (x : Doing) → x ≡ Waits s d rs q l → IsSeen x
waits_seen s d rs q l x e = subst (λ (y : Doing). IsSeen y) (sym e) tt

-- the number of a body that is there is below a number that is above all
pub seen_under : (p : Program) (n b : ℕ) (h : List Entry) → IsTold p h → AllBelow n h → IsSeen (doing p h b) → b < n
seen_under p n b h t a s = known_under n b h a (body_known p h b t s)

-- a body that may make its next entry is older than a new number
pub up_under : (code : Parts) (limits : Limits) (n : ℕ) (h : List Entry) (b : Body) → IsTold (code_program code limits) h → AllBelow n h → IsUp code limits h b → b.number < n
up_under code limits n h b t a u = seen_under (code_program code limits) n b.number h t a (ready_seen u.start u.depth u.answers _ u.is)

-- a body that waits is older than a new number
pub parked_under : (code : Parts) (limits : Limits) (n q : ℕ) (h : List Entry) (b : Body) → IsTold (code_program code limits) h → AllBelow n h → IsParked code limits h b q → b.number < n
parked_under code limits n q h b t a k = seen_under (code_program code limits) n b.number h t a (waits_seen k.start k.depth k.answers q _ _ k.is)

-- the maker of the call that a body waits for
pub parked_maker : (code : Parts) (limits : Limits) (q : ℕ) (h : List Entry) (b : Body) → IsTold (code_program code limits) h → IsParked code limits h b q → maker q h ≡ Some b.number
parked_maker code limits q h b t k = subst (λ (d : Doing). WaitsOn (λ i. maker i h ≡ Some b.number) d) k.is (told_waits (code_program code limits) h b.number t)
