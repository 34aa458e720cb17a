-- What an entry makes of the bodies of a run of a code.
use Rattle.std.proofs.Common.{◌≡◌, ℕ, ◌-◌, ◌<◌, ◌≤◌, Bool, true, false, ◌==◌, List, [], ◌∷◌, ◌++◌, length, Option, Some, None, refl, sym, ap, ◌∙◌, subst, arith, inl, inr, set, reverse, length-append, if◌then◌else◌}
use Rattle.std.specs.Prelude.{slice_get, option_to_list, is_none}
use Rattle.std.proofs.lemmas.List.{length-set, length-append, reverse-append, append-nil, append_assoc}
use Rattle.std.proofs.lemmas.Bool.{eq-eqb, eqb-true, eqb-false}
use Rattle.chord_base.specs.declared.value.Object.{Object}
use Rattle.chord_base.specs.declared.value.Value.{Value}
use Rattle.chord_base.specs.declared.value.Value.TheVariants as a_value
use Rattle.chord_base.specs.declared.event.End.{End}
use Rattle.chord_base.specs.declared.event.End.TheVariants.{Gives, Traps}
use Rattle.chord_base.specs.declared.event.What.{What}
use Rattle.chord_base.specs.declared.event.What.TheVariants.{Begun, Made, Sent, Called, Printed, Fired, Ended}
use Rattle.chord_base.specs.declared.event.Entry.{Entry}
use Rattle.chord_base.specs.declared.event.Limits.{Limits}
use Rattle.chord_base.specs.Meaning.{Program, Start, Asked}
use Rattle.chord_base.specs.Messages.{Message, message_of, members_of, has, pending}
use Rattle.chord_base.specs.Bodies.{Doing, Absent, Unplaced, Ready, Waits, Over, doing, asked, Asks}
use Rattle.chord_base.specs.Machine.{IsPast, MayFollow}
use Rattle.chord_base.specs.Story.{IsMerged, IsTold, IsOwn, IsDefined, HasKind, IsSound, AllBelow, kept, grown}
use Rattle.chord_base.specs.Bounds.{AreWithin, IsWhatWithin, IsObjectWithin, IsValueWithin, AreValuesWithin, IsEndWithin}
use Rattle.chord_base.specs.Objects.{ValueAmong, ValuesAmong, EndAmong, WhatAmong, makes, was_made}
use Rattle.chord_base.proofs.Objects.{objects_were_made}
use Rattle.chord_base.proofs.Waits.{either}
use Rattle.chord_base.proofs.Merge.{asked_placed, placed_seen}
use Rattle.chord_base.proofs.Merged.{past_below, merged_note, merged_story, merged_asks}
use Rattle.chord_base.proofs.Final.{own_comes}
use Rattle.chord_base.proofs.Places.{kept_below}
use Rattle.chord_code.specs.declared.parts.Parts.{Parts}
use Rattle.chord_code.specs.Meaning.{code_program}
use Rattle.chord_code.specs.Valid.{IsValid}
use Rattle.chord_code.proofs.Validity.{valid_within, valid_methods}
use Rattle.chord_code.specs.Within.{IsAskWithin}
use Rattle.chord_code.proofs.Tame.{code_is_tame, code_asks_within}
use Rattle.chord_code.proofs.Places.{set_same, set_other}
use Rattle.chord_task.specs.declared.task.Task.{Task}
use Rattle.chord_task.specs.Stacks.{IsNext, StaysDefined}
use Rattle.chord_task.specs.Standing.{view_of, IsTaskOf, is_ready_of, waits_of}
use Rattle.chord_task.proofs.Standing.{seen_under}
use Rattle.chord_lists.specs.Engine.{IsRunOfLength}
use Rattle.chord_lists.specs.declared.engine.Turn.{Turn}
use Rattle.chord_lists.specs.declared.code_bodies.CodeBodies.{CodeBodies}
use Rattle.chord_task.specs.Past.{AddsOne}
use Rattle.chord_task.specs.Turning.{MayTurn, Turned}
use Rattle.chord_lists.specs.CodeStands.{past_of, views, home_in, home, IsCut, ready_in, ready_at, AreReady, AreOver, Awaits, StandsWith, StandsAfter, turn_of, WentAt}
use Rattle.chord_lists.proofs.Spots.{end_at, before_end, one_some, nothing_some}
use Rattle.chord_lists.proofs.CodeTasks.{ready_not_waiting, call_waits}
use Rattle.chord_lists.proofs.OverTasks.{over_turned}

-- ---- the run in its tasks

-- what a place keeps tells each later entry as the next ask of its body
pub told_at : (code : Parts) (limits : Limits) (tasks : List Task) → ((i : ℕ) (t : Task) → slice_get tasks i ≡ Some t → IsTaskOf code limits t) → (i : ℕ) (o : Option Task) → slice_get tasks i ≡ o → IsTold (code_program code limits) (past_of o)
told_at code limits tasks f i None e = tt
told_at code limits tasks f i (Some t) e = (f i t e).task.told

-- the run is kept in the tasks, each entry in its home
abbrev pub stands_merged : {over : List ℕ} (code : Parts) (limits : Limits) (bodies : CodeBodies) (h : List Entry) → StandsWith code limits bodies over h → IsMerged (code_program code limits) (views bodies.tasks.items) h
stands_merged code limits bodies h s =
    record {
      past = s.past;
      at = home bodies.homes.items;
      keeps = s.keeps;
      told = λ i. told_at code limits bodies.tasks.items s.tasks i (slice_get bodies.tasks.items i) refl;
    }

-- a place keeps the past of its task
view_at : (tasks : List Task) (i : ℕ) (t : Task) → slice_get tasks i ≡ Some t → views tasks i ≡ (view_of t).past
view_at tasks i t e = ap past_of e

-- a task's entries have numbers below the next one
pub task_below : {over : List ℕ} (code : Parts) (limits : Limits) (bodies : CodeBodies) (h : List Entry) (i : ℕ) → StandsWith code limits bodies over h → AllBelow (length h) (views bodies.tasks.items i)
task_below code limits bodies h i s =
    subst (λ (l : List Entry). AllBelow (length h) l) (s.keeps i)
    (kept_below (length h) (λ n. home bodies.homes.items n == i) h (past_below (code_program code limits) h (length h) s.past (omega arith)))

-- in a sound program a task that notes its next ask stays defined
note_defined : (code : Parts) (limits : Limits) (bodies : CodeBodies) (h : List Entry) (i : ℕ) (w : What) (t : Task) → IsSound (code_program code limits) → StandsAfter code limits bodies h → slice_get bodies.tasks.items i ≡ Some t → IsNext (code_program code limits) (view_of t) w → StaysDefined (code_program code limits) (view_of t) (length h) w
note_defined code limits bodies h i w t sound s g a = λ c top b.
    let p = code_program code limits in
    let v = views bodies.tasks.items in
    let e : Entry = record { number = length h; body = a.body; what = w } in
    let here : v i ≡ (view_of t).past = view_at bodies.tasks.items i t g in
    let asks : Asks p (v i) a.body w = subst (λ x. Asks p x a.body w) (sym here) a.asks in
    let m = merged_note p v h i a.body w (stands_merged code limits bodies h s) a.own asks in
    let d : IsDefined p (doing p (grown v i e i) b) = (merged_story p (grown v i e) (e ∷ h) sound m i).is_defined b in
    let grown_is : grown v i e i ≡ e ∷ (view_of t).past = rw (eq-eqb i i refl, here) in
    let z : Some a.body ≡ Some c = sym a.on_top ∙ top in
    let body_is : a.body ≡ c = cc in
    let e_is : e ∷ (view_of t).past ≡ record { number = length h; body = c; what = w } ∷ (view_of t).past = rw body_is in
    subst (λ (l : List Entry). IsDefined p (doing p l b)) (grown_is ∙ e_is) d

-- in a sound program each task may note its next ask as the next entry
pub may_turn : (code : Parts) (limits : Limits) (bodies : CodeBodies) (h : List Entry) (n i : ℕ) (t : Task) → IsSound (code_program code limits) → StandsAfter code limits bodies h → length h ≡ n → slice_get bodies.tasks.items i ≡ Some t → MayTurn (code_program code limits) (view_of t) n
may_turn code limits bodies h n i t sound s so_long g =
    subst (λ k. MayTurn (code_program code limits) (view_of t) k) so_long (record {
      stays = λ w a. note_defined code limits bodies h i w t sound s g a;
      above = subst (λ (l : List Entry). AllBelow (length h) l) (view_at bodies.tasks.items i t g) (task_below code limits bodies h i s);
    })

-- ---- bounds

-- an object that was made in a run within bounds is within its bounds
made_within : (h : List Entry) (o : Object) → AreWithin h → length h ≤ 65536 → was_made h o ≡ true → IsObjectWithin o
made_within [] o w l m = (let z : false ≡ true = m in cc)
made_within (e ∷ h) o w l m =
    elim (either (e.number == o.number)) [
      | inl y ↦ here e.what w.3 (rw y at m) (eqb-true e.number o.number y)
      | inr f ↦ made_within h o w.0 (omega (arith, l)) (rw f at m)
    ]
  where
    here : (x : What) → IsWhatWithin x → makes o.class x ≡ true → e.number ≡ o.number → IsObjectWithin o
    here (Made c) i k n = record { number = omega (arith, n, w.1, l); class = (let q = eqb-true c o.class k in omega (arith, q, i)) }
    here Begun i k n = (let z : false ≡ true = k in cc)
    here (Sent o' j vs) i k n = (let z : false ≡ true = k in cc)
    here (Called o' j vs) i k n = (let z : false ≡ true = k in cc)
    here (Printed t) i k n = (let z : false ≡ true = k in cc)
    here (Fired c o' ms vs) i k n = (let z : false ≡ true = k in cc)
    here (Ended x') i k n = (let z : false ≡ true = k in cc)

-- a value of objects that were made is within its bounds
value_within : (h : List Entry) (v : Value) → AreWithin h → length h ≤ 65536 → ValueAmong (was_made h) v → IsValueWithin v
value_within h (a_value.Ref o) w l a = made_within h o w l a
value_within h a_value.Unit w l a = tt
value_within h (a_value.Int n) w l a = tt
value_within h (a_value.Flag b) w l a = tt
value_within h (a_value.Text t) w l a = tt

-- so are all values of a list
values_within : (h : List Entry) (vs : List Value) → AreWithin h → length h ≤ 65536 → ValuesAmong (was_made h) vs → AreValuesWithin vs
values_within h [] w l a = tt
values_within h (v ∷ vs) w l a = (value_within h v w l a.0, values_within h vs w l a.1)

-- so is an end
end_within : (h : List Entry) (x : End) → AreWithin h → length h ≤ 65536 → EndAmong (was_made h) x → IsEndWithin x
end_within h (Gives v) w l a = value_within h v w l a
end_within h (Traps t) w l a = tt

-- an ask of made objects, within the bounds of a code
what_within : (h : List Entry) (x : What) → IsOwn x → AreWithin h → length h ≤ 65536 → WhatAmong (was_made h) x → IsAskWithin x → IsWhatWithin x
what_within h (Made c) o w l a k = k
what_within h (Sent o' j vs) o w l a k = record { object = made_within h o' w l a.0; method = k.0; few = k.1; values = values_within h vs w l a.1 }
what_within h (Called o' j vs) o w l a k = record { object = made_within h o' w l a.0; method = k.0; few = k.1; values = values_within h vs w l a.1 }
what_within h (Printed t) o w l a k = tt
what_within h (Ended x) o w l a k = end_within h x w l a
what_within h Begun o w l a k = absurd o
what_within h (Fired c o' ms vs) o w l a k = absurd o

-- what a body asks is what the program's meaning says
asked_next : (p : Program) (d : Doing) (a : Asked) → asked p d ≡ Some a → (s : Start) × (k : ℕ) × (rs : List End) × (p.next s k rs ≡ Some a)
asked_next p (Ready s k rs) a e = (s, k, rs, e)
asked_next p (Waits s k rs q l) a e = nothing_some a e
asked_next p Absent a e = nothing_some a e
asked_next p Unplaced a e = nothing_some a e
asked_next p (Over x) a e = nothing_some a e

-- a body's own ask takes no messages
own_members : (w : What) → IsOwn w → members_of w ≡ []
own_members (Made c) o = refl
own_members (Sent o' j vs) o = refl
own_members (Called o' j vs) o = refl
own_members (Printed t) o = refl
own_members (Ended x) o = refl
own_members Begun o = absurd o
own_members (Fired k o' ms vs) o = absurd o

-- ---- where the entries stand

-- what is kept depends on the numbers of the entries alone
pub kept_same : (f g : ℕ → Bool) (n : ℕ) (h : List Entry) → AllBelow n h → ((i : ℕ) → i < n → f i ≡ g i) → kept f h ≡ kept g h
kept_same f g n [] a s = refl
kept_same f g n (e ∷ h) a s =
    elim (either (g e.number)) [
      | inl y ↦ rw (s e.number a.0, y, kept_same f g n h a.1 s)
      | inr o ↦ rw (s e.number a.0, o, kept_same f g n h a.1 s)
    ]

-- the homes of all entries and of one more, which this task made
pub record OneMore (homes after : List ℕ) (n at : ℕ) : Type 0 where
  pub old : (i : ℕ) → i < n → home after i ≡ home homes i
  pub here : home after n ≡ at

-- one more home at the end
pub more_home : (homes after : List ℕ) (at n : ℕ) → length homes ≡ n → after ≡ homes ++ at ∷ [] → OneMore homes after n at
more_home homes after at n long is =
    record {
      old = λ i l. ap (λ z. home z i) is ∙ ap home_in (before_end homes at i (λ d. omega (arith, d, l, long)));
      here = ap (λ z. home z n) is ∙ subst (λ i. home (homes ++ at ∷ []) i ≡ at) long (ap home_in (end_at homes at));
    }

-- with one more entry each place keeps what it kept, and its home the entry too
pub keeps_more : (p : Program) (homes after : List ℕ) (v : ℕ → List Entry) (h : List Entry) (e : Entry) (at : ℕ) → IsPast p h → e.number ≡ length h → OneMore homes after (length h) at → ((i : ℕ) → kept (λ n. home homes n == i) h ≡ v i) → (i : ℕ) → kept (λ n. home after n == i) (e ∷ h) ≡ grown v at e i
keeps_more p homes after v h e at past number m keeps i =
    let old : kept (λ n. home after n == i) h ≡ v i =
    kept_same (λ n. home after n == i) (λ n. home homes n == i) (length h) h (past_below p h (length h) past (omega arith)) (λ n l. ap (λ z. z == i) (m.old n l)) ∙ keeps i
    in
    let there : home after e.number ≡ at = ap (home after) number ∙ m.here in
    elim (either (at == i)) [ inl y ↦ rw (there, y, old) | inr o ↦ rw (there, o, old) ]

-- a task that has one more entry is set: the places keep what they kept and that entry
pub views_set : (tasks : List Task) (i : ℕ) (t u : Task) (e : Entry) → slice_get tasks i ≡ Some u → (view_of t).past ≡ e ∷ (view_of u).past → (j : ℕ) → grown (views tasks) i e j ≡ views (set tasks i t) j
views_set tasks i t u e s p j =
    elim (either (i == j)) [
      | inl y ↦
          (let k = eqb-true i j y in
          let there : slice_get tasks j ≡ Some u = subst (λ z. slice_get tasks z ≡ Some u) k s in
          let here : slice_get (set tasks i t) j ≡ Some t = subst (λ z. slice_get (set tasks i t) z ≡ Some t) k (set_same tasks i t u s) in
          rw (y, there, here) (sym p))
      | inr o ↦ rw (o, set_other tasks i j t (eqb-false i j o))
    ]

-- a task of the code is set in the place of another
pub tasks_set : (code : Parts) (limits : Limits) (tasks : List Task) (i : ℕ) (t u : Task) → slice_get tasks i ≡ Some u → IsTaskOf code limits t → ((j : ℕ) (x : Task) → slice_get tasks j ≡ Some x → IsTaskOf code limits x) → (j : ℕ) (x : Task) → slice_get (set tasks i t) j ≡ Some x → IsTaskOf code limits x
tasks_set code limits tasks i t u s k f j x e =
    elim (either (i == j)) [
      | inl y ↦
          (let here : slice_get (set tasks i t) j ≡ Some t = subst (λ z. slice_get (set tasks i t) z ≡ Some t) (eqb-true i j y) (set_same tasks i t u s) in
          subst (λ (q : Task). IsTaskOf code limits q) (one_some t x (slice_get (set tasks i t) j) here e) k)
      | inr o ↦ f j x (sym (set_other tasks i j t (eqb-false i j o)) ∙ e)
    ]

-- a task that may not go on is taken off the list
pub ready_popped : (tasks : List Task) (xs ys : List ℕ) (o : Option ℕ) (at : ℕ) → xs ≡ ys ++ option_to_list o → Some at ≡ slice_get xs (length xs - 1) → ready_at tasks at ≡ false → AreReady tasks (reverse xs) → AreReady tasks (reverse ys)
ready_popped tasks xs ys None at split last not r = subst (λ zs. AreReady tasks (reverse zs)) (split ∙ append-nil ys) r
ready_popped tasks xs ys (Some x) at split last not r =
    let whole : reverse xs ≡ x ∷ reverse ys = ap reverse split ∙ reverse-append ys (x ∷ []) in
    let long : length xs - 1 ≡ length ys = ap (λ zs. length zs - 1) split ∙ (let l = length-append ys (x ∷ []) in omega (arith, l)) in
    let here : at ≡ x = one_some at x (slice_get xs (length xs - 1)) (sym last) (ap (slice_get xs) long ∙ ap (λ zs. slice_get zs (length ys)) split ∙ end_at ys x) in record {
      all = λ i goes.
          let there : has i (x ∷ reverse ys) ≡ true = ap (has i) (sym whole) ∙ r.all i goes in
          elim (either (i == x)) [
            | inl y ↦ (let z : false ≡ true = sym not ∙ subst (λ k. ready_at tasks k ≡ true) (eqb-true i x y ∙ sym here) goes in cc)
            | inr o ↦ rw o at there
          ];
    }

-- one more place goes
pub cut_more : (xs ys zs : List ℕ) (o : Option ℕ) → ys ≡ zs ++ option_to_list o → IsCut xs ys → IsCut xs zs
cut_more xs ys zs o split c = record { gone = option_to_list o ++ c.gone; is = c.is ∙ ap (λ z. z ++ c.gone) split ∙ append_assoc zs (option_to_list o) c.gone }

-- a list of ready tasks serves while no other task becomes ready
ready_set : (tasks : List Task) (i : ℕ) (t u : Task) (ready : List ℕ) → slice_get tasks i ≡ Some u → is_ready_of u ≡ true → AreReady tasks ready → AreReady (set tasks i t) ready
unfolding ready_at
ready_set tasks i t u ready s r a =
    record {
      all =
          λ j e.
          elim (either (i == j)) [
            | inl y ↦ a.all j (subst (λ z. ready_in (slice_get tasks z) ≡ true) (eqb-true i j y) (ap ready_in s ∙ r))
            | inr o ↦ a.all j (sym (ap ready_in (set_other tasks i j t (eqb-false i j o))) ∙ e)
          ];
    }

-- the task of a place that may go on
pub ready_task : (tasks : List Task) (i : ℕ) → ready_at tasks i ≡ true → (t : Task) × (slice_get tasks i ≡ Some t) × (is_ready_of t ≡ true)
unfolding ready_at
ready_task tasks i e = by_task (slice_get tasks i) refl e
  where
    by_task : (o : Option Task) → slice_get tasks i ≡ o → ready_in o ≡ true → (t : Task) × (slice_get tasks i ≡ Some t) × (is_ready_of t ≡ true)
    by_task None g r = (let z : false ≡ true = r in cc)
    by_task (Some t) g r = (t, g, r)

-- ---- what is pending

-- a pending message has a number below that of the next entry
pub pending_under : (p : Program) (h : List Entry) (n : ℕ) (m : Message) → IsPast p h → pending n h ≡ Some m → n < length h
pending_under p [] n m past e = nothing_some m e
pending_under p (x ∷ h) n m past e =
    elim (either (x.number == n)) [
      | inl y ↦ (let k = eqb-true x.number n y in omega (arith, k, past.1.numbered))
      | inr o ↦
          elim (either (has n (members_of x.what))) [
            | inl y ↦ nothing_some m (rw (o, y) at e)
            | inr a ↦ (let l = pending_under p h n m past.0 (rw (o, a) at e) in omega (arith, l))
          ]
    ]

-- what a past and the list of all entries got is the newest entry of that past
pub listed_one : (past past' list list' : List Entry) (e : Entry) → AddsOne past past' list list' → reverse past' ≡ e ∷ reverse past → list' ≡ list ++ e ∷ []
listed_one past past' list list' e a is =
    let z : a.entry ∷ reverse past ≡ e ∷ reverse past = sym (reverse-append past (a.entry ∷ [])) ∙ sym (ap reverse a.past) ∙ is in
    let same : a.entry ≡ e = cc in
    a.list ∙ ap (λ x. list ++ x ∷ []) same

-- the list of all entries, which got one more
pub journal_more : (entries after h : List Entry) (e : Entry) → reverse entries ≡ h → after ≡ entries ++ e ∷ [] → reverse after ≡ e ∷ h
journal_more entries after h e is more = ap reverse more ∙ reverse-append entries (e ∷ []) ∙ ap (λ l. e ∷ l) is

-- ---- a task makes an entry

-- what waits in another task waits on
pub awaits_set : (tasks : List Task) (i : ℕ) (t u : Task) (q j : ℕ) → slice_get tasks i ≡ Some u → (waits_of q u ≡ true → ⊥) → Awaits tasks q j → Awaits (set tasks i t) q j
awaits_set tasks i t u q j s d a =
    elim (either (i == j)) [
      | inl y ↦
          (let e : slice_get tasks j ≡ Some u = subst (λ z. slice_get tasks z ≡ Some u) (eqb-true i j y) s in
          absurd (d (subst (λ (x : Task). waits_of q x ≡ true) (one_some a.0 u (slice_get tasks j) a.1 e) a.2)))
      | inr o ↦ (a.0, set_other tasks i j t (eqb-false i j o) ∙ a.1, a.2)
    ]

-- a synchronous message is a call
sync_called : (p : Program) (w : What) (m : Message) → message_of w ≡ Some m → HasKind p w → p.is_sync m.object.class m.method ≡ true → w ≡ Called m.object m.method m.arguments
sync_called p (Called o j vs) m e k s = (let z : record { object = o; method = j; arguments = vs } ≡ m = cc in ap (λ (x : Message). Called x.object x.method x.arguments) z)
sync_called p (Sent o j vs) m e k s =
    (let z : record { object = o; method = j; arguments = vs } ≡ m = cc in
    let y : true ≡ false = sym s ∙ sym (ap (λ (x : Message). p.is_sync x.object.class x.method) z) ∙ k in cc)
sync_called p Begun m e k s = nothing_some m e
sync_called p (Made c) m e k s = nothing_some m e
sync_called p (Printed t) m e k s = nothing_some m e
sync_called p (Fired c o ms vs) m e k s = nothing_some m e
sync_called p (Ended x) m e k s = nothing_some m e

-- the past of a task after its turn: the entry has the number and the body on top
pub noted_body : (code : Parts) (limits : Limits) (t t' : Task) (n : ℕ) (w : What) (u : Turned code limits t t' n w) → (view_of t').past ≡ record { number = n; body = u.next.body; what = w } ∷ (view_of t).past
noted_body code limits t t' n w u =
    let z : Some u.noted.0 ≡ Some u.next.body = sym u.noted.1 ∙ u.next.on_top in
    let b : u.noted.0 ≡ u.next.body = cc in
    rw b at u.noted.2

-- a task noted its next ask, and the entry came to the list of all: it may follow, and the bodies stand after it
pub went_at : (code : Parts) (limits : Limits) (before after : CodeBodies) (h : List Entry) (n at : ℕ) (t t' : Task) (w : What) (turn : Turn) → IsValid code → IsSound (code_program code limits) → n < 65536 → IsRunOfLength (code_program code limits) n h → StandsAfter code limits before h → slice_get before.tasks.items at ≡ Some t → is_ready_of t ≡ true → Turned code limits t t' n w → AddsOne t.past t'.past before.entries.items after.entries.items → after.homes.items ≡ before.homes.items ++ at ∷ [] → turn ≡ turn_of w → after.tasks.items ≡ set before.tasks.items at t' → after.ready.items ≡ before.ready.items → reverse after.over.items ≡ (if is_none (view_of t').top then at ∷ reverse before.over.items else reverse before.over.items) → WentAt (code_program code limits) before.tasks.items at (StandsAfter code limits after) h turn
went_at code limits before after h n at t t' w turn valid sound room played s g r u listed homes is tasks ready over =
    let p = code_program code limits in
    let v = views before.tasks.items in
    let b = u.next.body in
    let e : Entry = record { number = n; body = b; what = w } in
    let here : v at ≡ (view_of t).past = view_at before.tasks.items at t g in
    let asks : Asks p (v at) b w = subst (λ x. Asks p x b w) (sym here) u.next.asks in
    let asks_h : Asks p h b w = merged_asks p v h at b w (stands_merged code limits before h s) asks in
    let follows : MayFollow p h e = record { numbered = sym played.so_long; comes = own_comes p h n b w u.next.own asks_h } in
    let past : IsPast p (e ∷ h) = (s.past, follows) in
    let number : n ≡ length h = sym played.so_long in
    let below : b < length h =
    seen_under p (length h) b (v at) (told_at code limits before.tasks.items s.tasks at (slice_get before.tasks.items at) refl) (task_below code limits before h at s)
    (placed_seen (doing p (v at) b) (asked_placed p (doing p (v at) b) (record { what = w; depth = asks.0 }) asks.1))
    in
    let next = asked_next p (doing p h b) (record { what = w; depth = asks_h.0 }) asks_h.1 in
    let fits : IsAskWithin w = code_asks_within code limits (valid_within code valid) next.0 next.1 next.2 (record { what = w; depth = asks_h.0 }) next.3 in
    let among : WhatAmong (was_made h) w = objects_were_made p e h (code_is_tame code limits (valid_within code valid)) (valid_methods code limits valid) past in
    let within : IsWhatWithin w = what_within h w u.next.own played.within (omega (arith, number, room)) among fits in
    let note = noted_body code limits t t' n w u in
    let one : OneMore before.homes.items after.homes.items (length h) at = more_home before.homes.items after.homes.items at (length h) s.homed homes in
    let grows : (i : ℕ) → grown v at e i ≡ views after.tasks.items i = λ i. views_set before.tasks.items at t' t e g note i ∙ ap (λ x. views x i) (sym tasks) in
    record {
      entry = e;
      made =
          record {
            follows = follows;
            within = (played.within, number, omega (arith, below, number, room), within);
            after =
                record {
                  past = past;
                  journal = journal_more before.entries.items after.entries.items h e s.journal (listed_one t.past t'.past before.entries.items after.entries.items e listed note);
                  keeps = λ i. keeps_more p before.homes.items after.homes.items v h e at s.past number one s.keeps i ∙ grows i;
                  tasks = subst (λ x. (i : ℕ) (y : Task) → slice_get x i ≡ Some y → IsTaskOf code limits y) (sym tasks) (tasks_set code limits before.tasks.items at t' t g u.task s.tasks);
                  ready = subst (λ x. AreReady x (reverse after.ready.items)) (sym tasks) (subst (λ (x : List ℕ). AreReady (set before.tasks.items at t') (reverse x)) (sym ready) (ready_set before.tasks.items at t' t (reverse before.ready.items) g r s.ready));
                  calls =
                      λ q m is sync.
                      subst (λ x. Awaits x q (home after.homes.items q)) (sym tasks)
                      (elim (either (n == q)) [
                        | inl y ↦
                            (let i : n ≡ q = eqb-true n q y in
                            let sent : message_of w ≡ Some m = rw y at is in
                            let called = sync_called p w m sent (sound.kinds h e past) sync in
                            let waits : waits_of n t' ≡ true = call_waits code limits t t' n m.object m.method m.arguments (subst (λ x. Turned code limits t t' n x) called u) in
                            let there : at ≡ home after.homes.items q = sym one.here ∙ ap (home after.homes.items) (sym number ∙ i) in
                            subst (λ k. Awaits (set before.tasks.items at t') q k) there (t', set_same before.tasks.items at t' t g, subst (λ k. waits_of k t' ≡ true) i waits))
                        | inr o ↦
                            (let old : pending q h ≡ Some m = rw (o, own_members w u.next.own) at is in
                            let l = pending_under p h q m s.past old in
                            let k = s.calls q m old sync in
                            subst (λ j. Awaits (set before.tasks.items at t') q j) (sym (one.old q l)) (awaits_set before.tasks.items at t' t q (home before.homes.items q) g (ready_not_waiting q t r) k))
                      ]);
                  homed = ap length homes ∙ length-append before.homes.items (at ∷ []) ∙ omega (arith, s.homed);
                  few = (let i = ap length tasks in let k = length-set before.tasks.items at t' in omega (arith, i, k, s.few));
                  over = subst (λ x. AreOver x (reverse after.over.items)) (sym tasks) (subst (λ (x : List ℕ). AreOver (set before.tasks.items at t') x) (sym over) (over_turned before.tasks.items at t' t (reverse before.over.items) g s.over));
                };
            no_firing = own_members w u.next.own;
          };
      own = u.next.own;
      top = (t, g, u.next.on_top);
      is = is;
    }
