-- The next ask of the body on top.
use Rattle.std.proofs.Common.{◌≡◌, ℕ, suc, ◌-◌, true, false, ◌==◌, ◌⊎◌, inl, inr, List, Option, Some, None, refl, sym, ap, ◌∙◌, subst}
use Rattle.std.specs.Prelude.{reverse, IsSome}
use Rattle.chord_base.specs.declared.event.End.{End}
use Rattle.chord_base.specs.declared.event.End.TheVariants.{Traps}
use Rattle.chord_base.specs.declared.event.Entry.{Entry}
use Rattle.chord_base.specs.declared.event.Limits.{Limits}
use Rattle.chord_base.specs.declared.event.What.{What}
use Rattle.chord_base.specs.declared.event.What.TheVariants.{Begun, Made, Sent, Called, Printed, Fired, Ended}
use Rattle.chord_base.specs.Bodies.{serves, Doing, Ready, Waits, doing, asked as asks_of}
use Rattle.chord_base.specs.Meaning.{Asked as AnAsk, Start}
use Rattle.chord_base.specs.Story.{IsOwn, IsDefined as StaysDefinedAt}
use Rattle.chord_code.specs.declared.parts.Parts.{Parts}
use Rattle.chord_code.specs.Machine.{Machine, Waiting, Did, Goes, Asking, Bad, ComesTo, IsForward}
use Rattle.chord_code.specs.Fuel.{comes_to, weight}
use Rattle.chord_code.specs.Meaning.{IsAsked, Point, At, FailsBy, Lost, code_program, stands, place, asked_at, asked_of}
use Rattle.chord_code.proofs.Asks.{found_comes, comes_found, run_asked}
use Rattle.chord_code.specs.declared.awaited.Awaited.{Awaited}
use Rattle.chord_vm.specs.Frames.{machine_of, waiting_of, what_of_ask, Advanced}
use Rattle.chord_vm.specs.declared.ask.Ask.{Ask}
use Rattle.chord_vm.specs.declared.ask.Ask.TheVariants as ask
use Rattle.chord_task.specs.declared.body.Next.{Next}
use Rattle.chord_task.specs.declared.body.Next.TheVariants as nexts
use Rattle.chord_task.specs.declared.body.Body.{Body}
use Rattle.chord_task.specs.declared.task.Task.{Task}
use Rattle.chord_task.specs.Stacks.{IsTask, IsNext, CanAsk, AsksNothing, TopWaitsFor}
use Rattle.chord_task.specs.Standing.{waiting_bodies, body_number, view_of, NextIs, IsUp, IsParked, IsTop, AreParked, IsTaskOf, IsRunnable, GivenBy, AskedBy, AskedBody, given_of, given_by, may_go, body_may_go, is_ready_of, waits_on, body_waits, waits_of, HasGiven}
use Rattle.chord_task.proofs.Standing.{gave_next, ends_next}
use Rattle.chord_task.proofs.Notes.{stack_view, gave_up, ends_up}
use Rattle.chord_task.proofs.Tasks.{stack_at, task_at}
use Rattle.std.proofs.lemmas.Bool.{eq-eqb, eqb-true}

-- where the ask of what a machine came to is defined, it came to an ask
some_did : (limits : Limits) (d : Did) → IsSome (asked_at limits d) → (a : What) × (w : Waiting) × (d ≡ Asking a w)
some_did limits (Asking a w) s = (a, w, refl)
some_did limits (Goes m) s = cc
some_did limits Bad s = cc

-- a body that may make its next entry has a next ask
pub up_defined : (code : Parts) (limits : Limits) (h : List Entry) (b : Body) (u : IsUp code limits h b) → ((c : ℕ) → StaysDefinedAt (code_program code limits) (doing (code_program code limits) h c)) → IsSome (asked_of code limits (stands code limits u.start u.depth u.answers))
up_defined code limits h b u d = subst (λ (x : Doing). StaysDefinedAt (code_program code limits) x) u.is (d b.number)

-- the frames of a body that runs come to an ask
pub may_run : (code : Parts) (limits : Limits) (t : Task) (b : Body) → IsTaskOf code limits t → t.top ≡ Some b → is_ready_of t ≡ true → IsRunnable code b
may_run code limits t b k top ready = (
  λ e.
      let s = stack_at code limits t b k top in
      let u : IsUp code limits (view_of t).past b = subst (λ n. IsTop code limits (view_of t).past n b) e s.0 in
      let i : stands code limits u.start u.depth u.answers ≡ At (machine_of b.frames.value) = subst (λ n. NextIs code limits n b.frames.value (stands code limits u.start u.depth u.answers)) e u.next in
      let d : IsSome (asked_at limits (comes_to code (machine_of b.frames.value))) = subst (λ z. IsSome (asked_of code limits z)) i (up_defined code limits (view_of t).past b u k.is_defined) in
      let f = some_did limits (comes_to code (machine_of b.frames.value)) d in
      record { ask = f.0; waiting = f.1; comes = found_comes code (machine_of b.frames.value) f.0 f.1 f.2 },
  λ q e. let z : false ≡ true = sym (ap body_may_go top ∙ ap may_go e) ∙ ready in cc,
)

-- a body that may make its next entry still may where its number is the same and its new state fits its point
up_again : (code : Parts) (limits : Limits) (h : List Entry) (b b' : Body) (n : Next) (u : IsUp code limits h b) → b'.number ≡ b.number → b'.next ≡ n → NextIs code limits n b'.frames.value (stands code limits u.start u.depth u.answers) → IsUp code limits h b'
up_again code limits h b b' n u i e next =
    record {
      start = u.start;
      depth = u.depth;
      answers = u.answers;
      is = ap (doing (code_program code limits) h) i ∙ u.is;
      next = subst (λ z. NextIs code limits z b'.frames.value (stands code limits u.start u.depth u.answers)) (sym e) next;
    }

-- a machine that comes to an ask waits for an answer of its kind
not_own : (code : Parts) → IsForward code → (m : Machine) (a : What) (w : Waiting) → ComesTo code m a w → (IsAsked a w.awaited → ⊥) → ⊥
not_own code fwd m a w c f = f (run_asked code fwd a w c.count m c.by)

-- the body that ran to its ask
ran : (code : Parts) → IsForward code → (limits : Limits) (h : List Entry) (b b' : Body) (u : IsUp code limits h b) → b'.number ≡ b.number → stands code limits u.start u.depth u.answers ≡ At (machine_of b.frames.value) → (a : Ask) → Advanced code (machine_of b.frames.value) a b'.frames.value → GivenBy (what_of_ask a) b'.next → IsUp code limits h b'
ran code fwd limits h b b' u i at (ask.End e) a g =
    up_again code limits h b b' (nexts.Ends e e) u i g (0, ap (asked_of code limits) at ∙ ap (asked_at limits) (comes_found code fwd (machine_of b.frames.value) (Ended e) a.0 a.1), refl)
ran code fwd limits h b b' u i at (ask.Make c) a g = up_again code limits h b b' (nexts.Gave (Made c)) u i g (machine_of b.frames.value, at, comes_found code fwd (machine_of b.frames.value) (Made c) (waiting_of b'.frames.value) a)
ran code fwd limits h b b' u i at (ask.Send o j vs) a g = up_again code limits h b b' (nexts.Gave (Sent o j vs)) u i g (machine_of b.frames.value, at, comes_found code fwd (machine_of b.frames.value) (Sent o j vs) (waiting_of b'.frames.value) a)
ran code fwd limits h b b' u i at (ask.Call o j vs) a g = up_again code limits h b b' (nexts.Gave (Called o j vs)) u i g (machine_of b.frames.value, at, comes_found code fwd (machine_of b.frames.value) (Called o j vs) (waiting_of b'.frames.value) a)
ran code fwd limits h b b' u i at (ask.Print t) a g = up_again code limits h b b' (nexts.Gave (Printed t)) u i g (machine_of b.frames.value, at, comes_found code fwd (machine_of b.frames.value) (Printed t) (waiting_of b'.frames.value) a)

-- a body that came to its ask may make its next entry
asked_up : (code : Parts) → IsForward code → (limits : Limits) (h : List Entry) (b b' : Body) (n : Next) → b.next ≡ n → b'.number ≡ b.number → AskedBy code n b b' → IsTop code limits h n b → IsUp code limits h b'
asked_up code fwd limits h b b' nexts.Runs e i a u = ran code fwd limits h b b' u i (subst (λ n. NextIs code limits n b.frames.value (stands code limits u.start u.depth u.answers)) e u.next) a.0 a.1 a.2
asked_up code fwd limits h b b' (nexts.Gave w) e i a u = subst (λ (z : Body). IsUp code limits h z) (sym a) u
asked_up code fwd limits h b b' (nexts.Ends x y) e i a u = subst (λ (z : Body). IsUp code limits h z) (sym a) u
asked_up code fwd limits h b b' (nexts.Fails t) e i a u =
    let at : stands code limits u.start u.depth u.answers ≡ FailsBy t = subst (λ n. NextIs code limits n b.frames.value (stands code limits u.start u.depth u.answers)) e u.next in
    up_again code limits h b b' (nexts.Ends (Traps t) (Traps t)) u i a (0, ap (asked_of code limits) at, refl)
asked_up code fwd limits h b b' (nexts.Waits q) e i a u = absurd a

-- a body that gave an ask and may make its next entry is known so on top
up_is_top : (code : Parts) (limits : Limits) (h : List Entry) (b : Body) (n : Next) (w : What) → given_of n ≡ Some w → b.next ≡ n → IsUp code limits h b → IsTop code limits h n b
up_is_top code limits h b nexts.Runs w g e u = u
up_is_top code limits h b (nexts.Gave v) w g e u = u
up_is_top code limits h b (nexts.Ends x y) w g e u = u
up_is_top code limits h b (nexts.Fails t) w g e u = u
up_is_top code limits h b (nexts.Waits q) w g e u = (let z : ◌≡◌ {A = Option What} None (Some w) = g in cc)

-- a body that gave an ask does not wait for a call
not_waiting : (n : Next) (w : What) (q : ℕ) → given_of n ≡ Some w → n ≡ nexts.Waits q → ⊥
not_waiting n w q g e = (let z : ◌≡◌ {A = Option What} None (Some w) = sym (ap given_of e) ∙ g in cc)

-- the task with the ask of its body on top
pub task_asked : (code : Parts) (limits : Limits) (t : Task) (b b' : Body) (w : What) → IsTaskOf code limits t → t.top ≡ Some b → AskedBody code b b' → given_of b'.next ≡ Some w → IsTaskOf code limits (record { past = t.past; top = Some b'; below = t.below; spare = t.spare; ended = t.ended; values = t.values; limits = t.limits; enclosed = t.enclosed })
task_asked code limits t b b' w k top a g =
    let p = code_program code limits in
    let h = (view_of t).past in
    let s = stack_at code limits t b k top in
    let u = asked_up code k.forward limits h b b' b.next refl a.number a.by s.0 in
    record {
      forward = k.forward;
      kept = k.kept;
      kept_values = k.kept_values;
      limited = k.limited;
      task = subst (λ z. IsTask p (stack_view h (Some z))) (sym a.number) (task_at code limits t b k top);
      is_defined = k.is_defined;
      stack = (
        up_is_top code limits h b' b'.next w g refl u,
        subst (λ z. AreParked code limits h (serves p z h) z (waiting_bodies (reverse t.below.items))) (sym a.number) s.1,
      );
      room = λ q e. absurd (not_waiting b'.next w q g e);
    }

-- a task whose body on top may make its next entry has a next ask
up_can : (code : Parts) (limits : Limits) (t : Task) (b : Body) → IsTaskOf code limits t → t.top ≡ Some b → (u : IsUp code limits (view_of t).past b) → CanAsk (code_program code limits) (view_of t)
up_can code limits t b k top u =
    let p = code_program code limits in
    let a = some_asked (asked_of code limits (stands code limits u.start u.depth u.answers)) (up_defined code limits (view_of t).past b u k.is_defined) in
    (a.0.what, record { body = b.number; on_top = ap body_number top; own = asked_own code limits u.start u.depth u.answers k.forward a.0 a.1; asks = (a.0.depth, ap (asks_of p) u.is ∙ a.1) })
  where
    some_asked : (o : Option AnAsk) → IsSome o → (a : AnAsk) × (o ≡ Some a)
    some_asked None s = cc
    some_asked (Some a) s = (a, refl)

    own_of : (w : What) (p : Awaited) → IsAsked w p → IsOwn w
    own_of (Made c) p h = tt
    own_of (Sent o j vs) p h = tt
    own_of (Called o j vs) p h = tt
    own_of (Printed t) p h = tt
    own_of (Ended e) p h = tt
    own_of Begun p h = absurd h
    own_of (Fired k o ms vs) p h = absurd h

    did_own : (code : Parts) → IsForward code → (limits : Limits) (m : Machine) (d : Did) → comes_to code m ≡ d → (a : AnAsk) → asked_at limits d ≡ Some a → IsOwn a.what
    did_own code fwd limits m (Asking w v) e a i =
        let z : record { what = w; depth = place w (limits.depth - v.machine.top.room) } ≡ a = cc in
        subst (λ (x : AnAsk). IsOwn x.what) z (own_of w v.awaited (run_asked code fwd w v (suc (weight code m)) m e))
    did_own code fwd limits m (Goes m') e a i = (let z : ◌≡◌ {A = Option AnAsk} None (Some a) = i in cc)
    did_own code fwd limits m Bad e a i = (let z : ◌≡◌ {A = Option AnAsk} None (Some a) = i in cc)

    point_own : (code : Parts) → IsForward code → (limits : Limits) (x : Point) (a : AnAsk) → asked_of code limits x ≡ Some a → IsOwn a.what
    point_own code fwd limits (At m) a i = did_own code fwd limits m (comes_to code m) refl a i
    point_own code fwd limits (FailsBy t) a i = (let z : record { what = Ended (Traps t); depth = 0 } ≡ a = cc in subst (λ (x : AnAsk). IsOwn x.what) z tt)
    point_own code fwd limits Lost a i = (let z : ◌≡◌ {A = Option AnAsk} None (Some a) = i in cc)

    asked_own : (code : Parts) (limits : Limits) (s : Start) (d : ℕ) (rs : List End) → IsForward code → (a : AnAsk) → asked_of code limits (stands code limits s d rs) ≡ Some a → IsOwn a.what
    asked_own code limits s d rs fwd a i = point_own code fwd limits (stands code limits s d rs) a i

-- a task whose body on top is parked waits for that body's call
parked_waits : (code : Parts) (limits : Limits) (t : Task) (b : Body) (q : ℕ) → t.top ≡ Some b → IsParked code limits (view_of t).past b q → TopWaitsFor (code_program code limits) (view_of t) q
parked_waits code limits t b q top k =
    record { body = b.number; on_top = ap body_number top; start = k.start; depth = k.depth; answers = k.answers; place = limits.depth - b.frames.value.top.room; is = k.is }

-- the body on top is up, or it is parked
top_is : (code : Parts) (limits : Limits) (h : List Entry) (b : Body) (n : Next) → b.next ≡ n → IsTop code limits h n b → (IsUp code limits h b × (may_go n ≡ true)) ⊎ ((q : ℕ) × IsParked code limits h b q × (n ≡ nexts.Waits q))
top_is code limits h b nexts.Runs e u = inl (u, refl)
top_is code limits h b (nexts.Gave w) e u = inl (u, refl)
top_is code limits h b (nexts.Ends x y) e u = inl (u, refl)
top_is code limits h b (nexts.Fails t) e u = inl (u, refl)
top_is code limits h b (nexts.Waits q) e k = inr (q, k, refl)

-- a task that may go on has a next ask
pub ready_can : (code : Parts) (limits : Limits) (t : Task) → IsTaskOf code limits t → is_ready_of t ≡ true → CanAsk (code_program code limits) (view_of t)
ready_can code limits t k r = by_top t.top refl
  where
    by_top : (o : Option Body) → t.top ≡ o → CanAsk (code_program code limits) (view_of t)
    by_top None e = (let z : false ≡ true = sym (ap body_may_go e) ∙ r in cc)
    by_top (Some b) e =
        elim (top_is code limits (view_of t).past b b.next refl (stack_at code limits t b k e).0) [
          | inl u ↦ up_can code limits t b k e u.0
          | inr w ↦ (let z : false ≡ true = sym (ap body_may_go e ∙ ap may_go w.2) ∙ r in cc)
        ]

-- a task that may not go on asks nothing
pub not_ready_nothing : (code : Parts) (limits : Limits) (t : Task) → IsTaskOf code limits t → is_ready_of t ≡ false → AsksNothing (code_program code limits) (view_of t)
not_ready_nothing code limits t k r = by_top t.top refl
  where
    by_top : (o : Option Body) → t.top ≡ o → AsksNothing (code_program code limits) (view_of t)
    by_top None e = λ c i. let z : ◌≡◌ {A = Option ℕ} None (Some c) = sym (ap body_number e) ∙ i in cc
    by_top (Some b) e =
        λ c i.
        elim (top_is code limits (view_of t).past b b.next refl (stack_at code limits t b k e).0) [
          | inl u ↦ (let z : true ≡ false = sym (ap body_may_go e ∙ u.1) ∙ r in cc)
          | inr w ↦
              (let y : Some b.number ≡ Some c = sym (ap body_number e) ∙ i in
              let j : b.number ≡ c = cc in
              ap (λ m. asks_of (code_program code limits) (doing (code_program code limits) (view_of t).past m)) (sym j) ∙ ap (asks_of (code_program code limits)) w.1.is)
        ]

-- a task that says that it waits does
pub waits_yes : (code : Parts) (limits : Limits) (t : Task) (q : ℕ) → IsTaskOf code limits t → waits_of q t ≡ true → TopWaitsFor (code_program code limits) (view_of t) q
waits_yes code limits t q k r = by_top t.top refl
  where
    goes_waits : (n : Next) (q : ℕ) → may_go n ≡ true → waits_on q n ≡ true → ⊥
    goes_waits nexts.Runs q g w = (let z : false ≡ true = w in cc)
    goes_waits (nexts.Gave x) q g w = (let z : false ≡ true = w in cc)
    goes_waits (nexts.Ends x y) q g w = (let z : false ≡ true = w in cc)
    goes_waits (nexts.Fails x) q g w = (let z : false ≡ true = w in cc)
    goes_waits (nexts.Waits x) q g w = (let z : false ≡ true = g in cc)

    by_top : (o : Option Body) → t.top ≡ o → TopWaitsFor (code_program code limits) (view_of t) q
    by_top None e = (let z : false ≡ true = sym (ap (body_waits q) e) ∙ r in cc)
    by_top (Some b) e =
        elim (top_is code limits (view_of t).past b b.next refl (stack_at code limits t b k e).0) [
          | inl u ↦ absurd (goes_waits b.next q u.1 (sym (ap (body_waits q) e) ∙ r))
          | inr w ↦
              (let z : (w.0 == q) ≡ true = sym (ap (body_waits q) e ∙ ap (waits_on q) w.2) ∙ r in
              subst (λ m. TopWaitsFor (code_program code limits) (view_of t) m) (eqb-true w.0 q z) (parked_waits code limits t b w.0 e w.1))
        ]

-- a task that says that it does not wait does not
pub waits_no : (code : Parts) (limits : Limits) (t : Task) (q : ℕ) → IsTaskOf code limits t → waits_of q t ≡ false → TopWaitsFor (code_program code limits) (view_of t) q → ⊥
waits_no code limits t q k r w = by_top t.top refl
  where
    by_top : (o : Option Body) → t.top ≡ o → ⊥
    by_top None e = (let z : ◌≡◌ {A = Option ℕ} None (Some w.body) = sym (ap body_number e) ∙ w.on_top in cc)
    by_top (Some b) e =
        let y : Some b.number ≡ Some w.body = sym (ap body_number e) ∙ w.on_top in
        let j : w.body ≡ b.number = cc in
        let i : doing (code_program code limits) (view_of t).past b.number ≡ Waits w.start w.depth w.answers q w.place = ap (doing (code_program code limits) (view_of t).past) (sym j) ∙ w.is in
        elim (top_is code limits (view_of t).past b b.next refl (stack_at code limits t b k e).0) [
          | inl u ↦ (let z : Ready u.0.start u.0.depth u.0.answers ≡ Waits w.start w.depth w.answers q w.place = sym u.0.is ∙ i in cc)
          | inr v ↦
              (let c = v.1 in
              let z : Waits c.start c.depth c.answers v.0 (limits.depth - b.frames.value.top.room) ≡ Waits w.start w.depth w.answers q w.place = sym c.is ∙ i in
              let m : v.0 ≡ q = cc in
              let x : true ≡ false = sym (ap (body_waits q) e ∙ ap (waits_on q) v.2 ∙ eq-eqb v.0 q m) ∙ r in cc)
        ]

-- the ask that a task gave is the next ask of its body on top
pub given_next : (code : Parts) (limits : Limits) (t : Task) (w : What) → IsTaskOf code limits t → HasGiven t w → IsNext (code_program code limits) (view_of t) w
given_next code limits t w k g = by_top t.top refl
  where
    by_next : (b : Body) → t.top ≡ Some b → (n : Next) → b.next ≡ n → given_of n ≡ Some w → IsNext (code_program code limits) (stack_view (view_of t).past (Some b.number)) w
    by_next b e nexts.Runs i x = (let z : ◌≡◌ {A = Option What} None (Some w) = x in cc)
    by_next b e (nexts.Gave v) i x =
        let z : v ≡ w = cc in
        let u = gave_up code limits (view_of t).past b v i (stack_at code limits t b k e).0 in
        subst (λ y. IsNext (code_program code limits) (stack_view (view_of t).past (Some b.number)) y) z (gave_next code limits (view_of t).past b v u i)
    by_next b e (nexts.Ends y y') i x =
        let z : Ended y ≡ w = cc in
        let u = ends_up code limits (view_of t).past b y y' i (stack_at code limits t b k e).0 in
        subst (λ v. IsNext (code_program code limits) (stack_view (view_of t).past (Some b.number)) v) z (ends_next code limits (view_of t).past b y y' u i)
    by_next b e (nexts.Fails x') i x = (let z : ◌≡◌ {A = Option What} None (Some w) = x in cc)
    by_next b e (nexts.Waits q) i x = (let z : ◌≡◌ {A = Option What} None (Some w) = x in cc)

    by_top : (o : Option Body) → t.top ≡ o → IsNext (code_program code limits) (view_of t) w
    by_top None e = (let z : ◌≡◌ {A = Option What} None (Some w) = sym (ap given_by e) ∙ g in cc)
    by_top (Some b) e = subst (λ z. IsNext (code_program code limits) (stack_view (view_of t).past z) w) (sym (ap body_number e)) (by_next b e b.next refl (sym (ap given_by e) ∙ g))

-- a body that came to an ask gave it
pub given_is : (w : What) (n : Next) → GivenBy w n → given_of n ≡ Some w
given_is (Ended e) n g = ap given_of g
given_is Begun n g = ap given_of g
given_is (Made c) n g = ap given_of g
given_is (Sent o j vs) n g = ap given_of g
given_is (Called o j vs) n g = ap given_of g
given_is (Printed t) n g = ap given_of g
given_is (Fired k o ms vs) n g = ap given_of g

-- a body that came to its ask has given it
pub asked_gives : (code : Parts) (b b' : Body) (n : Next) → b.next ≡ n → AskedBy code n b b' → (w : What) × (given_of b'.next ≡ Some w)
asked_gives code b b' nexts.Runs e a = (what_of_ask a.0, given_is (what_of_ask a.0) b'.next a.2)
asked_gives code b b' (nexts.Gave w) e a = (w, ap (λ (x : Body). given_of x.next) a ∙ ap given_of e)
asked_gives code b b' (nexts.Ends x y) e a = (Ended x, ap (λ (z : Body). given_of z.next) a ∙ ap given_of e)
asked_gives code b b' (nexts.Fails t) e a = (Ended (Traps t), ap given_of a)
asked_gives code b b' (nexts.Waits q) e a = absurd a

-- asked again, a body gives what it gave
pub asked_again : (code : Parts) (b b' : Body) (n : Next) (w : What) → b.next ≡ n → AskedBy code n b b' → given_of n ≡ Some w → given_of b'.next ≡ Some w
asked_again code b b' nexts.Runs w e a g = (let z : ◌≡◌ {A = Option What} None (Some w) = g in cc)
asked_again code b b' (nexts.Gave v) w e a g = ap (λ (x : Body). given_of x.next) a ∙ ap given_of e ∙ g
asked_again code b b' (nexts.Ends x y) w e a g = ap (λ (z : Body). given_of z.next) a ∙ ap given_of e ∙ g
asked_again code b b' (nexts.Fails t) w e a g = (let z : ◌≡◌ {A = Option What} None (Some w) = g in cc)
asked_again code b b' (nexts.Waits q) w e a g = absurd a

-- what a task gave it gives again
pub same_given : (code : Parts) (t : Task) (b b' : Body) (w v : What) → t.top ≡ Some b → AskedBody code b b' → HasGiven t w → given_of b'.next ≡ Some v → w ≡ v
same_given code t b b' w v top a has g =
    (let before : given_of b.next ≡ Some w = sym (ap given_by top) ∙ has in
    let z : Some w ≡ Some v = sym (asked_again code b b' b.next w refl a.by before) ∙ g in
    cc)

-- the ask is the next ask of the body on top
pub view_asked : (code : Parts) (limits : Limits) (t : Task) (b b' : Body) (w : What) → IsTaskOf code limits t → t.top ≡ Some b → AskedBody code b b' → given_of b'.next ≡ Some w → IsNext (code_program code limits) (view_of t) w
view_asked code limits t b b' w k top a g =
    let e : Some b'.number ≡ body_number t.top = ap Some a.number ∙ sym (ap body_number top) in
    subst (λ z. IsNext (code_program code limits) (stack_view (view_of t).past z) w) e
    (given_next code limits (record { past = t.past; top = Some b'; below = t.below; spare = t.spare; ended = t.ended; values = t.values; limits = t.limits; enclosed = t.enclosed }) w (task_asked code limits t b b' w k top a g) g)
