-- What a worker draws in a step: an ask of the body on top, the end of this body, and a firing.
use Rattle.std.specs.Prelude.{IfNone, IfSome}
use Rattle.std.proofs.Common.{◌≡◌, ◌≢◌, ℕ, length, true, false, List, [], ◌∷◌, ◌++◌, Option, Some, None, refl, sym, ap, ◌∙◌, subst, ◌⊎◌, inl, inr, arith, append_assoc, length-append}
use Rattle.chord_base.specs.declared.event.Entry.{Entry}
use Rattle.chord_base.specs.declared.event.Limits.{Limits}
use Rattle.chord_base.specs.declared.event.What.{What}
use Rattle.chord_base.specs.declared.value.Object.{Object}
use Rattle.chord_base.specs.Meaning.{Program}
use Rattle.chord_base.specs.Printed.{is_end}
use Rattle.chord_code.specs.declared.parts.Parts.{Parts}
use Rattle.chord_match.specs.Fires.{firing_entry, IsFired}
use Rattle.chord_rule.specs.declared.view.View.{View}
use Rattle.chord_rule.specs.Kinds.{entry}
use Rattle.chord_space.specs.declared.space.Space.{Space}
use Rattle.chord_space.specs.Desks.{space_code, space_limits}
use Rattle.chord_task.specs.declared.parcel.Opened.{Opened as Parcel}
use Rattle.chord_task.specs.declared.task.Task.{Task}
use Rattle.chord_task.specs.Parcels.{entries_of, arguments_of}
use Rattle.chord_task.specs.Stacks.{TaskView}
use Rattle.chord_task.specs.Standing.{view_of}
use Rattle.chord_task.specs.Turning.{HasCome}
use Rattle.chord_vm.specs.declared.ask.Ask.{Ask}
use Rattle.chord_vm.specs.Frames.{what_of_ask}
use Rattle.chord_worker.specs.Playing.{IsNotedAs, IsNotedFrom, HeardOfLimit}
use Rattle.chord_worker.specs.declared.worker.Worker.{Worker}
use Rattle.chord_worker.specs.Stepping.{DrewFiring, DrewEnd, DrewAStep, SaysFirst, StillStocked}
use Rattle.chord_worker.proofs.Given.{value_of_some, where_none}
use Rattle.chord_worker.proofs.Stocked.{stocked_since}

-- a firing was drawn
pub fired_drew : (keeps : Parcel → Type 0) (p : Program) (n : ℕ) (v w : View) (o : Object) (chord : ℕ) (ms : List ℕ) (f : ℕ) (qs : List Parcel) → IsFired entries_of arguments_of keeps p n v w o chord ms f qs → DrewFiring v.draws w.draws
fired_drew keeps p n v w o chord ms f qs fired = inr (firing_entry arguments_of o chord ms f qs, ap (λ (z : View). z.draws) fired.view, tt, refl)

-- so it is after what was drawn before
pub drew_since : (before before' now : List Entry) → before' ≡ before → DrewFiring before' now → DrewFiring before now
drew_since before before' now same drew = subst (λ (es : List Entry). DrewFiring es now) same drew

-- ## What is drawn first

-- no entries are as many with more before them
none_first : (os : List Entry) (e : Entry) (before : List Entry) → before ≡ os ++ e ∷ before → ⊥
none_first os e before is =
    let as_many = ap (λ (es : List Entry). length es) is ∙ length-append os (e ∷ before) in
    omega (arith, as_many)

-- of what was drawn after these entries one is the first
same_first : (os os' : List Entry) (e e' : Entry) (before : List Entry) → os ++ e ∷ before ≡ os' ++ e' ∷ before → e ≡ e'
same_first [] [] e e' before is = let z : e ∷ before ≡ e' ∷ before = is in cc
same_first [] (o' ∷ os') e e' before is = absurd (none_first os' e' before (let z : e ∷ before ≡ o' ∷ (os' ++ e' ∷ before) = is in cc))
same_first (o ∷ os) [] e e' before is = absurd (none_first os e before (let z : e' ∷ before ≡ o ∷ (os ++ e ∷ before) = sym is in cc))
same_first (o ∷ os) (o' ∷ os') e e' before is = same_first os os' e e' before (let z : o ∷ (os ++ e ∷ before) ≡ o' ∷ (os' ++ e' ∷ before) = is in cc)

-- what was drawn, if it is at most a firing, stands before these entries
firing_before : (es now : List Entry) → DrewFiring es now → (os : List Entry) × (now ≡ os ++ es)
firing_before es now (inl same) = ([], same)
firing_before es now (inr f) = (f.0 ∷ [], f.1)

-- so does what was drawn, if it is at most an end and a firing
end_before : (b : ℕ) (es now : List Entry) → DrewEnd b es now → (os : List Entry) × (now ≡ os ++ es)
end_before b es now (inl drew) = firing_before es now drew
end_before b es now (inr e) =
    let f = firing_before (e.0 ∷ es) now e.3 in
    (f.0 ++ e.0 ∷ [], f.1 ∙ sym (append_assoc f.0 (e.0 ∷ []) es))

-- an entry was drawn first, and then at most an end and a firing
says_first : (x : Entry) (b : ℕ) (before es now : List Entry) → es ≡ x ∷ before → DrewEnd b es now → SaysFirst x.what before now
says_first x b before es now is drew = λ e first.
    let d = end_before b es now drew in
    ap (λ (z : Entry). z.what) (same_first first.0 d.0 e x before (sym first.1 ∙ d.1 ∙ ap (λ (zs : List Entry). d.0 ++ zs) is))

-- where nothing was drawn, nothing was drawn first
pub nothing_first : (what : What) (before now : List Entry) → now ≡ before → SaysFirst what before now
nothing_first what before now same = λ e first. absurd (none_first first.0 e before (sym same ∙ first.1))

-- ## What a worker draws

module _ (code : Parts) (limits : Limits) (v u : View) (t t' : Task) (n : ℕ) (what : What) (noted : IsNotedAs code limits v u t t' n what) where
  -- an entry was drawn
  noted_draws : u.draws ≡ entry n noted.body what ∷ v.draws
  noted_draws = ap (λ (z : View). z.draws) noted.drawn

  -- the ask of the body on top was drawn, and what follows from it
  ask_drew : (task : Task) → view_of task ≡ view_of t → (es now : List Entry) → es ≡ u.draws → DrewEnd noted.body es now → DrewAStep task v.draws now
  ask_drew task same es now is drew = inr (
    entry n noted.body what,
    ap (λ (x : TaskView). x.top) same ∙ noted.on_top,
    subst (λ (ds : List Entry). DrewEnd noted.body ds now) (is ∙ noted_draws) drew,
  )

  -- the end of the body on top was drawn, and what follows from the message before it
  end_drew : (b : ℕ) → (view_of t).top ≡ Some b → is_end what ≡ true → (now : List Entry) → DrewFiring u.draws now → DrewEnd b v.draws now
  end_drew b top ends now drew =
      let same : Some noted.body ≡ Some b = sym noted.on_top ∙ top in
      let k : noted.body ≡ b = cc in
      inr (entry n noted.body what, k, ends, subst (λ (ds : List Entry). DrewFiring ds now) noted_draws drew)

-- the ask with which a task came became an entry, if a number is there
module _ (s : Space Parcel) (v u : View) (asked : Option Ask) (task task' : Task) (number : Option ℕ) (n : ℕ) (is : number ≡ Some n) (each : IfSome number (IsNotedFrom s v u asked task task')) (a : Ask) (t : Task) (there : asked ≡ Some a) (came : HasCome (space_code s) (space_limits s) t task (what_of_ask a)) where
  -- what the entry is
  pub was_noted : IsNotedAs (space_code s) (space_limits s) v u t task' n (what_of_ask a)
  was_noted = value_of_some number n (IsNotedFrom s v u asked task task') is each a t there came

  -- it was drawn, and what follows from it
  pub step_drew : (es now : List Entry) → es ≡ u.draws → ((b : ℕ) → (is_end (what_of_ask a) ≡ false → (view_of task').top ≡ Some b) → DrewEnd b es now) → DrewAStep task v.draws now
  step_drew es now same drew = ask_drew (space_code s) (space_limits s) v u t task' n (what_of_ask a) was_noted task came.view es now same (drew was_noted.body was_noted.top)

  -- it was drawn first
  pub step_says : (es now : List Entry) → es ≡ u.draws → ((b : ℕ) → (is_end (what_of_ask a) ≡ false → (view_of task').top ≡ Some b) → DrewEnd b es now) → SaysFirst (what_of_ask a) v.draws now
  step_says es now same drew =
      says_first (entry n was_noted.body (what_of_ask a)) was_noted.body v.draws es now (same ∙ noted_draws (space_code s) (space_limits s) v u t task' n (what_of_ask a) was_noted) (drew was_noted.body was_noted.top)

  -- the stock after it, and after what follows from it
  pub step_stocked : (p : Program) (es : List Entry) (x y : Option Task) (w : Worker) → es ≡ u.draws → (x ≢ None → y ≡ x) → StillStocked p es y w → StillStocked p v.draws x w
  step_stocked p es x y w same stays still =
      stocked_since p v.draws es x y w stays still (entry n was_noted.body (what_of_ask a)) (same ∙ noted_draws (space_code s) (space_limits s) v u t task' n (what_of_ask a) was_noted)

  -- it was the end of the body on top, and what follows from the message before it
  pub last_drew : (b : ℕ) → (view_of t).top ≡ Some b → is_end (what_of_ask a) ≡ true → (now : List Entry) → DrewFiring u.draws now → DrewEnd b v.draws now
  last_drew = end_drew (space_code s) (space_limits s) v u t task' n (what_of_ask a) was_noted

-- where no number is there, since the limit is reached, nothing was drawn
pub none_drew : (v u : View) (number : Option ℕ) → number ≡ None → IfNone number (HeardOfLimit v u) → (now : List Entry) → now ≡ u.draws → now ≡ v.draws
none_drew v u number none told now same = same ∙ ap (λ (z : View). z.draws) (where_none number (HeardOfLimit v u) none told).1

-- so it is in a step of a task that is seen alike
pub drew_alike : (before now : List Entry) (t t' : Task) → view_of t' ≡ view_of t → DrewAStep t' before now → DrewAStep t before now
drew_alike before now t t' same drew = subst (λ (x : TaskView). (now ≡ before) ⊎ ((e : Entry) × (x.top ≡ Some e.body) × DrewEnd e.body (e ∷ before) now)) same drew
