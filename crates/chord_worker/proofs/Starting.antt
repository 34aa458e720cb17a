-- A worker that begins: the first one with `Main`, another one with nothing, and one that starts a firing.
use Rattle.std.proofs.Common.{◌≡◌, ℕ, Bool, true, false, not, ◌==◌, List, [], ◌∷◌, Option, Some, None, IsSome, reverse, refl, sym, ap, ◌∙◌, subst, inl, inr, ⊎_elim, arith, if◌then◌else◌}
use Rattle.std.proofs.lemmas.Bool.{eq-eqb, eqb-true, eqb-false, ne_eqb}
use mathlib.Core.Path.{Path}
use Rattle.chord_base.specs.declared.event.End.{End}
use Rattle.chord_base.specs.declared.event.What.{What}
use Rattle.chord_base.specs.declared.event.What.TheVariants.{Begun, Made, Sent, Called, Printed, Fired, Ended}
use Rattle.chord_base.specs.declared.event.Entry.{Entry}
use Rattle.chord_base.specs.declared.event.Limits.{Limits}
use Rattle.chord_base.specs.Meaning.{Program, Start, Chord}
use Rattle.chord_base.specs.Messages.{maker}
use Rattle.chord_base.specs.Bodies.{Doing, Absent, Unplaced, Ready, Waits, Over, placed, begun_by, begun, answered, heard, own, served, serves, doing, asked, Asks}
use Rattle.chord_base.specs.Story.{kept, IsTold, IsSound, IsRising, IsIn, IsDefined, AllBelow, Tells, together}
use Rattle.chord_base.proofs.Waits.{either}
use Rattle.chord_base.proofs.Merge.{asked_placed, placed_seen, body_known}
use Rattle.chord_base.proofs.Places.{told_below, known_under}
use Rattle.chord_code.specs.declared.parts.Parts.{Parts}
use Rattle.chord_code.specs.Meaning.{code_program}
use Rattle.chord_rule.specs.Coming.{ComesWithFiring, ArePlaces}
use Rattle.chord_rule.specs.Closing.{AreQuiet}
use Rattle.chord_rule.specs.Kinds.{entry, left_by, played, saw, firing_started}
use Rattle.chord_rule.specs.declared.view.View.{View}
use Rattle.chord_space.specs.declared.space.Desk.{Desk}
use Rattle.chord_space.specs.declared.space.Space.{Space}
use Rattle.chord_space.specs.Desks.{view, space_code, space_limits, program_of, IsSameDesk}
use Rattle.chord_word.specs.declared.cells.Word.{Word}
use Rattle.chord_worker.specs.declared.worker.Worker.{Worker}
use Rattle.chord_rule.specs.Parcels.{BeginsThere}
use Rattle.chord_rule.proofs.Lists.{together_left, together_right}
use Rattle.chord_task.specs.declared.body.Body.{Body}
use Rattle.chord_task.specs.declared.body.Next.{Next}
use Rattle.chord_task.specs.declared.body.Next.TheVariants as nexts
use Rattle.chord_task.specs.declared.parcel.Opened.{Opened as Parcel}
use Rattle.chord_task.specs.declared.task.Task.{Task}
use Rattle.chord_task.specs.Parcels.{past_in, TaskIn, entries_of, IsParcelOf}
use Rattle.chord_task.specs.Standing.{view_of, body_number, may_go, body_may_go, is_ready_of, IsTop, IsBodyStack, IsTaskOf, MainBegins}
use Rattle.chord_worker.specs.Parted.{IsParted, with_part, two}
use Rattle.chord_worker.specs.Resting.{IsInMemory, MayContinue, IsHandFree, IsAtRest, IsSameRole, AreListed}
use Rattle.chord_worker.specs.Stepping.{PlaysFiring}
use Rattle.chord_worker.proofs.Parts.{kept_agree, kept_nothing, all_kept, none_kept, left_is, part_goes, part_came, parts_told}

-- ## Bodies that may go on

-- the body may make its next entry
abbrev IsUp : Doing → Type 0
IsUp (Ready s k rs) = Unit {0}
IsUp Absent = ⊥
IsUp Unplaced = ⊥
IsUp (Waits s k rs q l) = ⊥
IsUp (Over x) = ⊥

-- a body that is up asks, where that is defined
up_asks : (p : Program) (d : Doing) → IsUp d → IsDefined p d → asked p d ≡ None → ⊥
up_asks p (Ready s k rs) u d e = let z : false ≡ true = subst IsSome e d in cc
up_asks p Absent u d e = u
up_asks p Unplaced u d e = u
up_asks p (Waits s k rs q l) u d e = u
up_asks p (Over x) u d e = u

-- a body on top that is up may go on
next_up : (code : Parts) (limits : Limits) (h : List Entry) (b : Body) (n : Next) → IsTop code limits h n b → IsUp (doing (code_program code limits) h b.number) → may_go n ≡ true
next_up code limits h b nexts.Runs t u = refl
next_up code limits h b (nexts.Gave w) t u = refl
next_up code limits h b (nexts.Ends x y) t u = refl
next_up code limits h b (nexts.Fails x) t u = refl
next_up code limits h b (nexts.Waits q) t u = absurd (subst IsUp t.is u)

-- a task with a body that is up may go on
pub up_goes : (code : Parts) (limits : Limits) (t : Task) → IsTaskOf code limits t → (b : ℕ) → IsUp (doing (code_program code limits) (view_of t).past b) → is_ready_of t ≡ true
up_goes code limits t is b up = cases t.top refl is.stack
  where
    not_other : ((view_of t).top ≡ Some b → ⊥) → ⊥
    not_other o = up_asks (code_program code limits) (doing (code_program code limits) (view_of t).past b) up (is.is_defined b) (is.task.quiet b o)

    cases : (x : Option Body) → t.top ≡ x → IsBodyStack code limits (view_of t).past t.top (reverse t.below.items) → is_ready_of t ≡ true
    cases None e s = absurd (not_other (λ q. let z : Path (Option ℕ) None (Some b) = sym (ap body_number e) ∙ q in cc))
    cases (Some y) e s = elim (either (y.number == b)) [
      | inl same ↦ ap body_may_go e ∙ next_up code limits (view_of t).past y y.next
          (subst (λ (x : Option Body). IsBodyStack code limits (view_of t).past x (reverse t.below.items)) e s).0
          (subst (λ (k : ℕ). IsUp (doing (code_program code limits) (view_of t).past k)) (sym (eqb-true y.number b same)) up)
      | inr o ↦ absurd (not_other (λ q. let z : Some y.number ≡ Some b = sym (ap body_number e) ∙ q in let k : y.number ≡ b = cc in eqb-false y.number b o k))
    ]

-- and the body is on top of it
up_is_top : (code : Parts) (limits : Limits) (t : Task) → IsTaskOf code limits t → (b : ℕ) → IsUp (doing (code_program code limits) (view_of t).past b) → (view_of t).top ≡ Some b
up_is_top code limits t is b up = cases t.top refl
  where
    not_other : ((view_of t).top ≡ Some b → ⊥) → ⊥
    not_other o = up_asks (code_program code limits) (doing (code_program code limits) (view_of t).past b) up (is.is_defined b) (is.task.quiet b o)

    cases : (x : Option Body) → t.top ≡ x → (view_of t).top ≡ Some b
    cases None e = absurd (not_other (λ q. let z : Path (Option ℕ) None (Some b) = sym (ap body_number e) ∙ q in cc))
    cases (Some y) e = elim (either (y.number == b)) [
      | inl same ↦ ap body_number e ∙ ap (λ (n : ℕ). Some n) (eqb-true y.number b same)
      | inr o ↦ absurd (not_other (λ q. let z : Some y.number ≡ Some b = sym (ap body_number e) ∙ q in let k : y.number ≡ b = cc in eqb-false y.number b o k))
    ]

-- the body is up, or lacks its call
abbrev IsFresh : Doing → Type 0
IsFresh (Ready s k rs) = Unit {0}
IsFresh Unplaced = Unit {0}
IsFresh Absent = ⊥
IsFresh (Waits s k rs q l) = ⊥
IsFresh (Over x) = ⊥

-- a body that begins is fresh
begun_fresh : (s : Start) (c : Option ℕ) (m : ℕ → Option ℕ) (f : ℕ → Doing) → IsFresh (begun s c m f)
begun_fresh s None m f = tt
begun_fresh s (Some q) m f = by_maker (m q)
  where
    by_place : (d : Doing) → IsFresh (placed s q d)
    by_place (Waits s' k rs c l) = elim (either (q == c)) [ inl y ↦ rw y tt | inr o ↦ rw o tt ]
    by_place (Ready s' k rs) = tt
    by_place Absent = tt
    by_place Unplaced = tt
    by_place (Over x) = tt

    by_maker : (o : Option ℕ) → IsFresh (begun_by s q o f)
    by_maker None = tt
    by_maker (Some b) = by_place (f b)

-- a fresh body stays so after an entry of another
answered_fresh : (x : End) (c : Option ℕ) (d : Doing) → IsFresh d → IsFresh (answered x c d)
answered_fresh x None d f = f
answered_fresh x (Some c) (Ready s k rs) f = tt
answered_fresh x (Some c) Unplaced f = tt
answered_fresh x (Some c) Absent f = f
answered_fresh x (Some c) (Waits s k rs q l) f = absurd f
answered_fresh x (Some c) (Over y) f = f

-- a fresh body stays so after any entry of another
heard_fresh : (w : What) (c : Option ℕ) (d : Doing) → IsFresh d → IsFresh (heard w c d)
heard_fresh (Ended x) c d f = answered_fresh x c d f
heard_fresh Begun c d f = f
heard_fresh (Made k) c d f = f
heard_fresh (Sent o j vs) c d f = f
heard_fresh (Called o j vs) c d f = f
heard_fresh (Printed t) c d f = f
heard_fresh (Fired k o ms vs) c d f = f

-- no body of a number above all asks
no_new_asks : (p : Program) (h : List Entry) (n : ℕ) (w : What) → IsTold p h → AllBelow n h → Asks p h n w → ⊥
no_new_asks p h n w told below a = let l = known_under n n h below (body_known p h n told (placed_seen (doing p h n) (asked_placed p (doing p h n) _ a.1))) in omega (arith, l)

-- the first entry of a body makes it fresh
first_fresh : (p : Program) (h : List Entry) (n : ℕ) (w : What) (m : ℕ → Option ℕ) → IsTold p h → AllBelow n h → Tells p h n n w → IsFresh (own p n w m (doing p h) (doing p h n))
first_fresh p h n Begun m told below t = tt
first_fresh p h n (Fired k o ms vs) m told below t = begun_fresh (Chord k o vs) (served p (Fired k o ms vs)) m (doing p h)
first_fresh p h n (Made c) m told below t = absurd (no_new_asks p h n (Made c) told below t)
first_fresh p h n (Sent o j vs) m told below t = absurd (no_new_asks p h n (Sent o j vs) told below t)
first_fresh p h n (Called o j vs) m told below t = absurd (no_new_asks p h n (Called o j vs) told below t)
first_fresh p h n (Printed x) m told below t = absurd (no_new_asks p h n (Printed x) told below t)
first_fresh p h n (Ended x) m told below t = absurd (no_new_asks p h n (Ended x) told below t)

-- a body whose first entry is its only one is fresh
only_fresh : (p : Program) (es : List Entry) (f : ℕ) → IsTold p es → BeginsThere f es → ((e : Entry) → IsIn e es → e.body ≡ f → e.number ≡ f) → IsFresh (doing p es f)
only_fresh p [] f told b only = absurd b.1
only_fresh p (x ∷ es) f told b only =
    elim (either (x.body == f)) [
      | inl y ↦
          (let here = eqb-true x.body f y in
          let number = only x (inl refl) here in
          rw y (subst (λ (n : ℕ). IsFresh (own p n x.what (λ q. maker q es) (doing p es) (doing p es f))) (sym number)
          (first_fresh p es f x.what (λ q. maker q es) told.0 (subst (λ (n : ℕ). AllBelow n es) number (told_below p x.number es told.0 told.1))
          (subst (λ (n : ℕ). Tells p es n f x.what) number (subst (λ (k : ℕ). Tells p es x.number k x.what) here told.2)))))
      | inr o ↦
          rw o (heard_fresh x.what (serves p x.body es) (doing p es f)
          (only_fresh p es f told.0 (⊎_elim (λ q. absurd (eqb-false x.body f o (ap (λ (z : Entry). z.body) (sym q) ∙ b.3))) (λ k. (b.0, k, b.2, b.3)) b.1) (λ e i. only e (inr i))))
    ]

-- a fresh body that does not lack its call is up
fresh_up : (d : Doing) → IsFresh d → (d ≡ Unplaced → ⊥) → IsUp d
fresh_up (Ready s k rs) f u = tt
fresh_up Unplaced f u = u refl
fresh_up Absent f u = f
fresh_up (Waits s k rs q l) f u = f
fresh_up (Over x) f u = f

-- a task that comes with a firing may go on
pub started_goes : (code : Parts) (limits : Limits) (t : Task) → IsTaskOf code limits t → (f : ℕ) → BeginsThere f (view_of t).past → ((e : Entry) → IsIn e (view_of t).past → e.body ≡ f → e.number ≡ f) → is_ready_of t ≡ true
started_goes code limits t is f b only = up_goes code limits t is f
    (fresh_up (doing (code_program code limits) (view_of t).past f) (only_fresh (code_program code limits) (view_of t).past f is.task.told b only) (is.task.placed f))

-- the body of the firing is on top of the task that comes with it
started_top : (code : Parts) (limits : Limits) (es : List Entry) (x : Option Task) (f : ℕ) → TaskIn code limits x → ComesWithFiring (code_program code limits) es f (past_in x) → (t : Task) × (x ≡ Some t) × ((view_of t).top ≡ Some f)
started_top code limits es None f keeps comes = absurd comes.begins.1
started_top code limits es (Some t) f keeps comes = (
  t,
  refl,
  up_is_top code limits t keeps.0 f
      (fresh_up (doing (code_program code limits) (view_of t).past f) (only_fresh (code_program code limits) (view_of t).past f keeps.0.task.told comes.begins comes.only) (keeps.0.task.placed f)),
)

-- ## What is in memory

-- of any two nothings one is nothing
no_part : (b : Bool) → ◌≡◌ {A = List Entry} (if b then [] else []) []
no_part true = refl
no_part false = refl

-- a told list is a part of its own
alone_parted : (p : Program) (es : List Entry) → IsRising es → IsTold p es → IsParted p (two es []) es
alone_parted p es rises told = record {
  rises = rises;
  at = λ n. 0;
  keeps = λ c. elim (either (c == 0)) [
    | inl y ↦ rw y (subst (λ (d : ℕ). kept (λ n. 0 == d) es ≡ es) (sym (eqb-true c 0 y)) (all_kept es))
    | inr o ↦ rw o (kept_agree (λ n. 0 == c) (λ n. false) es (λ e i. ne_eqb 0 c (λ q. eqb-false c 0 o (sym q))) ∙ kept_nothing es ∙ sym (no_part (c == 1)))
  ];
  told = λ c. elim (either (c == 0)) [ inl y ↦ rw y told | inr o ↦ rw o (subst (IsTold p) (sym (no_part (c == 1))) tt) ];
}

-- of two parts, what one leaves is the other
pub left_other : (p : Program) (part : ℕ → List Entry) (es : List Entry) (m : IsParted p part es) (a b : ℕ) → (a ≡ b → ⊥) → ((d : ℕ) → (a == d) ≡ false → (b == d) ≡ false → part d ≡ []) → left_by (part b) es ≡ part a
left_other p part es m a b apart none =
    ap (λ (ps : List Entry). left_by ps es) (sym (m.keeps b)) ∙ left_is (λ n. m.at n == b) es
    ∙ kept_agree (λ n. not (m.at n == b)) (λ n. m.at n == a) es cases ∙ m.keeps a
  where
    cases : (e : Entry) → IsIn e es → not (m.at e.number == b) ≡ (m.at e.number == a)
    cases e i =
        elim (either (m.at e.number == b)) [
          | inl y ↦ rw y (sym (ne_eqb (m.at e.number) a (λ q. apart (sym q ∙ eqb-true (m.at e.number) b y))))
          | inr o ↦
              elim (either (m.at e.number == a)) [
                | inl y ↦ rw (o, y) refl
                | inr z ↦
                    (let empty = none (m.at e.number) (ne_eqb a (m.at e.number) (λ q. eqb-false (m.at e.number) a z (sym q))) (ne_eqb b (m.at e.number) (λ q. eqb-false (m.at e.number) b o (sym q))) in
                    let f : (m.at e.number == m.at e.number) ≡ false = none_kept (λ n. m.at n == m.at e.number) es e (m.keeps (m.at e.number) ∙ empty) i in
                    let g : true ≡ false = sym (eq-eqb (m.at e.number) (m.at e.number) refl) ∙ f in absurd (cc))
              ]
        ]

-- what comes with a firing is in memory with the task that came
pub started_memory : (code : Parts) (limits : Limits) (es : List Entry) (t : Task) → IsInMemory code limits es false None → IsTaskOf code limits t → ArePlaces (code_program code limits) es (view_of t).past
    → IsInMemory code limits (together es (view_of t).past) false (Some t)
started_memory code limits es t m is places = record {
  rises = parted.rises;
  told = parts_told p (with_part (two es []) 1 ps) (together es ps) parted;
  played = (is, part_goes p (with_part (two es []) 1 ps) (together es ps) parted 1);
  quiet = λ e. subst (AreQuiet p) (sym left) (m.quiet e);
}
  where
    p : Program
    p = code_program code limits

    ps : List Entry
    ps = (view_of t).past

    parted : IsParted p (with_part (two es []) 1 ps) (together es ps)
    parted = part_came p (two es []) es (alone_parted p es m.rises m.told) places.run places.view places.merged places.place places.is places.other places.apart ps places.other_is 1 refl

    left : left_by ps (together es ps) ≡ es
    left = left_other p (with_part (two es []) 1 ps) (together es ps) parted 0 1 (λ q. omega (arith, q))
        (λ d z o. rw (o, ne_eqb d 0 (λ q. eqb-false 0 d z (sym q))) (no_part (d == 1)))

-- a parcel that brings an entry has a task
pub some_task : (x : Option Task) (f : ℕ) → BeginsThere f (past_in x) → (t : Task) × (x ≡ Some t)
some_task None f b = absurd b.1
some_task (Some t) f b = (t, refl)

-- what a firing's parcel brings is in memory with its task, which may go on
started_with : (code : Parts) (limits : Limits) (es : List Entry) (x : Option Task) (f : ℕ) → IsInMemory code limits es false None → TaskIn code limits x → ComesWithFiring (code_program code limits) es f (past_in x)
    → IsInMemory code limits (together es (past_in x)) false x × MayContinue x
started_with code limits es None f m keeps comes = absurd comes.begins.1
started_with code limits es (Some t) f m keeps comes = (started_memory code limits es t m keeps.0 comes.places, started_goes code limits t keeps.0 f comes.begins comes.only)

module _ (s : Space Parcel) (w : Worker) (r : IsAtRest s w) (none : w.task ≡ None) (room : (view w.desk).spent ≡ false) (d : Desk Parcel) (same : IsSameDesk w.desk d) (q : Parcel) (f : ℕ) (c : Word)
    (view_is : view d ≡ played (saw (firing_started (view w.desk) f (entries_of q)) f c)) (keeps : IsParcelOf q (space_code s) (space_limits s)) (comes : ComesWithFiring (program_of s) (view w.desk).kept f (entries_of q)) where
  -- a worker that started a firing is at rest
  pub rest_started : IsAtRest s (record w { desk = d; task = q.task })
  rest_started =
      let memory : IsInMemory (space_code s) (space_limits s) (view w.desk).kept false None = subst (λ (x : Option Task). IsInMemory (space_code s) (space_limits s) (view w.desk).kept false x) none
      (subst (λ (b : Bool). IsInMemory (space_code s) (space_limits s) (view w.desk).kept b w.task) room r.memory) in
      let with_it = started_with (space_code s) (space_limits s) (view w.desk).kept q.task f memory keeps.1 comes in
      let spent : (view d).spent ≡ false = ap (λ (z : View). z.spent) view_is ∙ room in record {
        desk = same.0 ∙ r.desk;
        told = r.told ∙ room ∙ sym spent;
        free = subst IsHandFree (sym view_is) (record { claims = r.free.claims; flight = r.free.flight; fresh = r.free.fresh });
        duties = λ e. ap (λ (z : View). z.duties) view_is ∙ r.duties room;
        memory = subst (λ (b : Bool). IsInMemory (space_code s) (space_limits s) (view d).kept b q.task) (sym spent)
            (subst (λ (es : List Entry). IsInMemory (space_code s) (space_limits s) es false q.task) (sym (ap (λ (z : View). z.kept) view_is)) with_it.0);
        goes_on = with_it.1;
        stock = r.stock;
        listed = subst (AreListed w.draws.items w.taken.items) (sym (ap (λ (z : View). z.draws) view_is)) r.listed;
      }

  -- and has its role still
  pub role_started : IsSameRole (view w.desk) (view d)
  role_started = record {
    first = ap (λ (z : View). z.first) view_is;
    lent = ap (λ (z : View). z.lent) view_is;
    splits = ap (λ (z : View). z.splits) view_is;
    drawn = λ e. ap (λ (z : View). z.drawn) view_is ∙ e;
  }

  -- and plays it, once the gate knows
  pub plays_started : (knows : ℕ → Type 0) → knows f → PlaysFiring knows (view w.desk).kept w.task (record w { desk = d; task = q.task }) f
  plays_started knows known =
      let now : (view d).kept ≡ together (view w.desk).kept (entries_of q) = ap (λ (z : View). z.kept) view_is in record {
        idle = none;
        known = known;
        on_top = started_top (space_code s) (space_limits s) (view w.desk).kept q.task f keeps.1 comes;
        fired = comes.begins.0;
        numbered = comes.begins.2;
        there = subst (IsIn comes.begins.0) (sym now) (together_right comes.begins.0 (view w.desk).kept (entries_of q) comes.begins.1);
        stay = λ e i. subst (IsIn e) (sym now) (together_left e (view w.desk).kept (entries_of q) i);
      }

-- `Main` begins in a sound program
pub main_starts : (code : Parts) (limits : Limits) → IsSound (code_program code limits) → MainBegins code limits
main_starts code limits s = s.is_defined (entry 0 0 Begun ∷ []) 0 (tt, record { numbered = refl; comes = (refl, refl) })
