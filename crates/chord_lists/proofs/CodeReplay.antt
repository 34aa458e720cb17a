-- A run of a code is made again, entry by entry.
use Rattle.std.proofs.Common.{◌≡◌, ℕ, ◌<◌, true, List, ◌∷◌, length, Option, Some, None, refl, sym, ap, ◌∙◌, subst, arith, ◌⊎◌, inl, inr}
use Rattle.std.specs.Prelude.{slice_get}
use Rattle.chord_base.specs.declared.value.Object.{Object}
use Rattle.chord_base.specs.declared.value.Value.{Value}
use Rattle.chord_base.specs.declared.event.What.{What}
use Rattle.chord_base.specs.declared.event.What.TheVariants.{Begun, Made, Sent, Called, Printed, Fired, Ended}
use Rattle.chord_base.specs.declared.event.Entry.{Entry}
use Rattle.chord_base.specs.declared.event.Limits.{Limits}
use Rattle.chord_base.specs.Meaning.{Program, Asked}
use Rattle.chord_base.specs.Bodies.{Absent, Unplaced, doing, asked, Asks}
use Rattle.chord_base.specs.Machine.{MayFollow, Comes, Fires}
use Rattle.chord_base.specs.Story.{IsOwn}
use Rattle.chord_base.proofs.Merge.{asked_placed, placed_seen}
use Rattle.chord_base.proofs.Merged.{past_below, place_knows}
use Rattle.chord_base.proofs.Parting.{run_is_told}
use Rattle.chord_code.specs.declared.parts.Parts.{Parts}
use Rattle.chord_code.specs.Meaning.{code_program}
use Rattle.chord_task.specs.declared.task.Task.{Task}
use Rattle.chord_task.specs.Standing.{view_of, is_ready_of}
use Rattle.chord_task.proofs.Standing.{seen_under}
use Rattle.chord_lists.specs.Engine.{fired}
use Rattle.chord_lists.specs.declared.engine.Turn.{Turn}
use Rattle.chord_lists.specs.declared.code_bodies.CodeBodies.{CodeBodies}
use Rattle.chord_lists.specs.CodeStands.{past_of, views, home, ready_in, ready_at, StandsAfter, WentAt}
use Rattle.chord_lists.proofs.Spots.{one_some, nothing_some}
use Rattle.chord_lists.proofs.CodeTasks.{asks_ready}
use Rattle.chord_lists.proofs.CodeSteps.{stands_merged}

-- an own entry that comes is the next ask of its body
pub own_asks : (p : Program) (h : List Entry) (n b : ℕ) (w : What) → IsOwn w → Comes p h n b w → Asks p h b w
own_asks p h n b (Made c) o a = a
own_asks p h n b (Sent o' j vs) o a = a
own_asks p h n b (Called o' j vs) o a = a
own_asks p h n b (Printed t) o a = a
own_asks p h n b (Ended x) o a = a
own_asks p h n b Begun o a = absurd o
own_asks p h n b (Fired k o' ms vs) o a = absurd o

-- the task in which a body asks: the body is on top, and the task may go on
pub record AsksIn (tasks : List Task) (at b n : ℕ) : Type 0 where
  pub task : Task
  pub there : slice_get tasks at ≡ Some task
  pub top : (view_of task).top ≡ Some b
  pub ready : is_ready_of task ≡ true
  pub known : b < n

-- a body that asks in a run asks in its home, and its task may go on
pub asks_in : (code : Parts) (limits : Limits) (bodies : CodeBodies) (h : List Entry) (b : ℕ) (a : Asked) → StandsAfter code limits bodies h → asked (code_program code limits) (doing (code_program code limits) h b) ≡ Some a → AsksIn bodies.tasks.items (home bodies.homes.items b) b (length h)
asks_in code limits bodies h b a s e = by_task (slice_get bodies.tasks.items (home bodies.homes.items b)) refl (place_knows p (views bodies.tasks.items) h b (stands_merged code limits bodies h s))
  where
    p : Program
    p = code_program code limits

    known : b < length h
    known =
        seen_under (code_program code limits) (length h) b h (run_is_told (code_program code limits) h s.past) (past_below (code_program code limits) h (length h) s.past (omega arith))
        (placed_seen (doing (code_program code limits) h b) (asked_placed (code_program code limits) (doing (code_program code limits) h b) a e))

    by_task : (o : Option Task) → slice_get bodies.tasks.items (home bodies.homes.items b) ≡ o → (doing (code_program code limits) (past_of o) b ≡ Unplaced) ⊎ (doing (code_program code limits) (past_of o) b ≡ doing (code_program code limits) h b) → AsksIn bodies.tasks.items (home bodies.homes.items b) b (length h)
    by_task None g (inl u) = (let z : Absent ≡ Unplaced = u in cc)
    by_task None g (inr same) = nothing_some a (ap (asked (code_program code limits)) same ∙ e)
    by_task (Some t) g (inl u) = absurd ((s.tasks (home bodies.homes.items b) t g).task.placed b u)
    by_task (Some t) g (inr same) =
        let r = asks_ready code limits t b a (s.tasks (home bodies.homes.items b) t g) (ap (asked (code_program code limits)) same ∙ e) in
        record { task = t; there = g; top = r.0; ready = r.1; known = known }

-- the place of a task that may go on may go on
pub ready_there : (tasks : List Task) (i : ℕ) (t : Task) → slice_get tasks i ≡ Some t → is_ready_of t ≡ true → ready_at tasks i ≡ true
unfolding ready_at
ready_there tasks i t g r = ap ready_in g ∙ r

-- what an own entry says of the task that makes it
pub entry_asks_in : (code : Parts) (limits : Limits) (bodies : CodeBodies) (h : List Entry) (e : Entry) → StandsAfter code limits bodies h → IsOwn e.what → MayFollow (code_program code limits) h e → AsksIn bodies.tasks.items (home bodies.homes.items e.body) e.body (length h)
entry_asks_in code limits bodies h e s o f =
    let a = own_asks (code_program code limits) h e.number e.body e.what o f.comes in
    asks_in code limits bodies h e.body (record { what = e.what; depth = a.0 }) s a.1

-- entries of the same number, body and word are one
same_entry : (x y : Entry) → x.number ≡ y.number → x.body ≡ y.body → x.what ≡ y.what → x ≡ y
same_entry x y n b w =
    ap (λ i. record { number = i; body = x.body; what = x.what }) n
    ∙ ap (λ i. record { number = y.number; body = i; what = x.what }) b
    ∙ ap (λ i. record { number = y.number; body = y.body; what = i }) w

-- two next asks of one body are one
same_ask : (p : Program) (h : List Entry) (b : ℕ) (v w : What) → Asks p h b v → Asks p h b w → v ≡ w
same_ask p h b v w x y = ap (λ (a : Asked). a.what) (one_some (record { what = v; depth = x.0 }) (record { what = w; depth = y.0 }) (asked p (doing p h b)) x.1 y.1)

-- the task whose body is to make the entry made it
pub made_again : (code : Parts) (limits : Limits) (before after : CodeBodies) (h : List Entry) (e : Entry) (at : ℕ) (turn : Turn) → StandsAfter code limits before h → IsOwn e.what → MayFollow (code_program code limits) h e → at ≡ home before.homes.items e.body → WentAt (code_program code limits) before.tasks.items at (StandsAfter code limits after) h turn → StandsAfter code limits after (e ∷ h)
made_again code limits before after h e at turn s o f i w =
    let p = code_program code limits in
    let x = entry_asks_in code limits before h e s o f in
    let t = one_some w.top.0 x.task (slice_get before.tasks.items at) w.top.1 (ap (slice_get before.tasks.items) i ∙ x.there) in
    let body : w.entry.body ≡ e.body = one_some w.entry.body e.body (view_of w.top.0).top w.top.2 (ap (λ (z : Task). (view_of z).top) t ∙ x.top) in
    let a = own_asks p h w.entry.number w.entry.body w.entry.what w.own w.made.follows.comes in
    let b = own_asks p h e.number e.body e.what o f.comes in
    let what : w.entry.what ≡ e.what = same_ask p h e.body w.entry.what e.what (subst (λ z. Asks p h z w.entry.what) body a) b in
    let same : w.entry ≡ e = same_entry w.entry e (w.made.follows.numbered ∙ sym f.numbered) body what in
    subst (λ z. StandsAfter code limits after (z ∷ h)) same w.made.after

-- a firing that may follow
pub fired_again : (p : Program) (h : List Entry) (e : Entry) (k : ℕ) (o : Object) (ms : List ℕ) (vs : List Value) → e.what ≡ Fired k o ms vs → MayFollow p h e → Fires p h k o ms vs × (fired e.number k o ms vs ≡ e)
fired_again p h e k o ms vs is f =
    let c : Comes p h e.number e.body (Fired k o ms vs) = subst (λ w. Comes p h e.number e.body w) is f.comes in
    (c.1, same_entry (fired e.number k o ms vs) e refl (sym c.0) (sym is))
