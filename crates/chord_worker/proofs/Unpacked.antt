-- What stands in the parcels of a firing's members: their values, and one task at most, that of the caller.
use Rattle.std.proofs.Common.{◌≡◌, ◌≢◌, ◌⊎◌, inl, inr, ⊎_elim, ℕ, Bool, true, false, suc, List, [], ◌∷◌, ◌++◌, length, map, Option, Some, None, refl, sym, ap, ◌∙◌, subst}
use Rattle.chord_base.specs.declared.event.Entry.{Entry}
use Rattle.chord_base.specs.declared.event.Limits.{Limits}
use Rattle.chord_base.specs.declared.value.Object.{Object}
use Rattle.chord_base.specs.declared.value.Value as value
use Rattle.chord_base.specs.Meaning.{Program, NoneSync, OneSync, HasOneSync}
use Rattle.chord_base.specs.Bodies.{served_among}
use Rattle.chord_base.specs.Story.{IsIn, IsSound, AllBelow, together}
use Rattle.chord_base.proofs.Waits.{either}
use Rattle.chord_code.specs.declared.parts.Parts.{Parts}
use Rattle.chord_code.specs.Meaning.{code_program}
use Rattle.chord_match.specs.Fires.{all_together, laid_together, AreOlder, IsComing, AreComing}
use Rattle.chord_rule.specs.declared.view.Claim.{Claim}
use Rattle.chord_rule.specs.Coming.{ComesWithMessage}
use Rattle.chord_task.specs.declared.args.Args.{Args}
use Rattle.chord_task.specs.declared.parcel.Opened.{Opened as Parcel}
use Rattle.chord_task.specs.declared.task.Task.{Task}
use Rattle.chord_task.specs.Arguments.{for_entry, AreTwice}
use Rattle.chord_task.specs.Gathering.{AreGathered}
use Rattle.chord_task.specs.Parcels.{past_in, entries_of, arguments_of, TaskIn, IsParcelOf}
use Rattle.chord_task.specs.Standing.{view_of, IsTaskOf}
use Rattle.chord_vm.specs.Frames.{laid}
use Rattle.chord_worker.specs.Beginning.{first_of, first_task, arguments_in, HasUnpacked}
use Rattle.chord_worker.proofs.Fitting.{letter_alone}

-- the parcels to these methods for these members have no task, so that the firing serves no call
pub record HasNone (sync : ℕ → Bool) (es : List Entry) (js ms : List ℕ) (qs : List Parcel) : Type 0 where
  pub task : first_task qs ≡ None
  pub all : all_together es (map entries_of qs) ≡ es
  pub serves : served_among sync js ms ≡ None

-- one of the parcels has a task, which came with the call that the firing serves
pub record HasCaller (code : Parts) (limits : Limits) (sync : ℕ → Bool) (f : ℕ) (es : List Entry) (js ms : List ℕ) (qs : List Parcel) : Type 0 where
  pub caller : Task
  pub claim : Claim
  pub task : first_task qs ≡ Some caller
  pub all : all_together es (map entries_of qs) ≡ together es (view_of caller).past
  pub serves : served_among sync js ms ≡ Some claim.number
  pub comes : ComesWithMessage (code_program code limits) es claim (view_of caller).past
  pub is_task : IsTaskOf code limits caller
  pub left : (view_of caller).top ≢ None
  pub below : AllBelow f (view_of caller).past

-- the values of a firing are those in the parcels
pub values_in : (qs : List Parcel) → laid_together arguments_of qs ≡ laid (for_entry (arguments_in qs))
values_in [] = refl
values_in (q ∷ qs) = ap (λ (vs : List value.Value). q.arguments.first ++ vs) (values_in qs)

module _ (code : Parts) (limits : Limits) where
  -- the parcels' arguments are held twice
  pub held_twice : (f : ℕ) (qs : List Parcel) → AreOlder entries_of (λ q. IsParcelOf q code limits) f qs → AreTwice (arguments_in qs)
  held_twice f [] older = tt
  held_twice f (q ∷ qs) older = (older.1.0, held_twice f qs older.2)

  module _ (sound : IsSound (code_program code limits)) (one : HasOneSync (code_program code limits)) (o : Object) (f : ℕ) where
    -- the program that is played
    abbrev p : Program
    p = code_program code limits

    -- whether callers of a method of the object wait
    abbrev sync : ℕ → Bool
    sync = p.is_sync o.class

    -- a parcel to an asynchronous method has no task
    no_task : (es : List Entry) (j i : ℕ) (x : Option Task) → TaskIn code limits x → IsComing p o es j i (past_in x) → sync j ≡ false → x ≡ None
    no_task es j i None task coming plain = refl
    no_task es j i (Some t) task coming plain =
        let c = coming.0 in
        absurd (letter_alone code limits sound one t task.0 es c coming.4 task.1
        (ap (λ (x : Object). p.is_sync x.class c.method) coming.2 ∙ ap sync coming.3 ∙ plain))

    -- one parcel without a task more
    none_more : (es : List Entry) (j i : ℕ) (q : Parcel) (js ms : List ℕ) (qs : List Parcel) → sync j ≡ false → q.task ≡ None → HasNone sync es js ms qs → HasNone sync es (j ∷ js) (i ∷ ms) (q ∷ qs)
    none_more es j i q js ms qs plain none k = record {
      task = ap (λ x. first_of x (first_task qs)) none ∙ k.task;
      all = ap (λ x. all_together (together es (past_in x)) (map entries_of qs)) none ∙ k.all;
      serves = rw plain k.serves;
    }

    -- and where another one has a task
    caller_more : (es : List Entry) (j i : ℕ) (q : Parcel) (js ms : List ℕ) (qs : List Parcel) → sync j ≡ false → q.task ≡ None → HasCaller code limits sync f es js ms qs → HasCaller code limits sync f es (j ∷ js) (i ∷ ms) (q ∷ qs)
    caller_more es j i q js ms qs plain none k = record {
      caller = k.caller;
      claim = k.claim;
      task = ap (λ x. first_of x (first_task qs)) none ∙ k.task;
      all = ap (λ x. all_together (together es (past_in x)) (map entries_of qs)) none ∙ k.all;
      serves = rw plain k.serves;
      comes = k.comes;
      is_task = k.is_task;
      left = k.left;
      below = k.below;
    }

    -- behind a parcel without a task the rest comes to the same entries
    same_rest : (es : List Entry) (js ms : List ℕ) (q : Parcel) (qs : List Parcel) → q.task ≡ None → AreComing p entries_of o (together es (entries_of q)) js ms qs → AreComing p entries_of o es js ms qs
    same_rest es js ms q qs none coming = subst (λ (x : Option Task). AreComing p entries_of o (together es (past_in x)) js ms qs) none coming

    -- parcels to asynchronous methods
    letters : (es : List Entry) (js ms : List ℕ) (qs : List Parcel) → NoneSync sync js → AreOlder entries_of (λ q. IsParcelOf q code limits) f qs → AreComing p entries_of o es js ms qs → HasNone sync es js ms qs
    letters es [] [] [] plain older coming = record { task = refl; all = refl; serves = refl }
    letters es [] [] (q ∷ qs) plain older coming = absurd coming
    letters es [] (i ∷ ms) qs plain older coming = absurd coming
    letters es (j ∷ js) [] qs plain older coming = absurd coming
    letters es (j ∷ js) (i ∷ ms) [] plain older coming = absurd coming
    letters es (j ∷ js) (i ∷ ms) (q ∷ qs) plain older coming =
        let none = no_task es j i q.task older.1.1 coming.0 plain.0 in
        none_more es j i q js ms qs plain.0 none (letters es js ms qs plain.1 older.2 (same_rest es js ms q qs none coming.1))

    -- the parcel to the synchronous method has a task
    of_call : (es : List Entry) (j i : ℕ) (q : Parcel) (js ms : List ℕ) (qs : List Parcel) → sync j ≡ true → AllBelow f (entries_of q) → IsComing p o es j i (entries_of q) → HasNone sync (together es (entries_of q)) js ms qs
        → (x : Option Task) → q.task ≡ x → TaskIn code limits x → HasCaller code limits sync f es (j ∷ js) (i ∷ ms) (q ∷ qs)
    of_call es j i q js ms qs waits below coming rest None is task =
        let c = coming.0 in
        let e = coming.4.call (ap (λ (x : Object). p.is_sync x.class c.method) coming.2 ∙ ap sync coming.3 ∙ waits) in
        absurd (subst (λ x. IsIn e.0 (past_in x)) is e.1)
    of_call es j i q js ms qs waits below coming rest (Some t) is task = record {
      caller = t;
      claim = coming.0;
      task = ap (λ x. first_of x (first_task qs)) is;
      all = rest.all ∙ ap (λ x. together es (past_in x)) is;
      serves = rw waits (ap Some (sym coming.1));
      comes = subst (λ x. ComesWithMessage p es coming.0 (past_in x)) is coming.4;
      is_task = task.0;
      left = task.1;
      below = subst (λ x. AllBelow f (past_in x)) is below;
    }

    -- of the parcels of a chord's members at most one has a task
    pub one_caller : (es : List Entry) (js ms : List ℕ) (qs : List Parcel) → OneSync sync js → AreOlder entries_of (λ q. IsParcelOf q code limits) f qs → AreComing p entries_of o es js ms qs → HasNone sync es js ms qs ⊎ HasCaller code limits sync f es js ms qs
    one_caller es [] [] [] only older coming = inl (record { task = refl; all = refl; serves = refl })
    one_caller es [] [] (q ∷ qs) only older coming = absurd coming
    one_caller es [] (i ∷ ms) qs only older coming = absurd coming
    one_caller es (j ∷ js) [] qs only older coming = absurd coming
    one_caller es (j ∷ js) (i ∷ ms) [] only older coming = absurd coming
    one_caller es (j ∷ js) (i ∷ ms) (q ∷ qs) only older coming =
        elim (either (sync j)) [
          | inl y ↦ inr (of_call es j i q js ms qs y older.0 coming.0 (letters (together es (entries_of q)) js ms qs (only.0 y) older.2 coming.1) q.task refl older.1.1)
          | inr z ↦
              (let none = no_task es j i q.task older.1.1 coming.0 z in
              ⊎_elim (λ k. inl (none_more es j i q js ms qs z none k)) (λ k. inr (caller_more es j i q js ms qs z none k))
              (one_caller es js ms qs only.1 older.2 (same_rest es js ms q qs none coming.1)))
        ]

-- ## One parcel more

-- its arguments come behind the others
arguments_more : (qs : List Parcel) (q : Parcel) → arguments_in (qs ++ q ∷ []) ≡ arguments_in qs ++ q.arguments ∷ []
arguments_more [] q = refl
arguments_more (x ∷ qs) q = ap (λ (xs : List Args). x.arguments ∷ xs) (arguments_more qs q)

-- the first of three tasks
first_of_three : (t u x : Option Task) → first_of t (first_of u x) ≡ first_of (first_of t u) x
first_of_three None u x = refl
first_of_three (Some t) u x = refl

-- a task and none
first_alone : (t : Option Task) → first_of t None ≡ t
first_alone None = refl
first_alone (Some t) = refl

-- its task is the first one where the others have none
task_more : (qs : List Parcel) (q : Parcel) → first_task (qs ++ q ∷ []) ≡ first_of (first_task qs) q.task
task_more [] q = first_alone q.task
task_more (x ∷ qs) q = ap (first_of x.task) (task_more qs q) ∙ first_of_three x.task (first_task qs) q.task

-- the parcels with one more hold what they held and what is in it
pub unpacked_more : (one one' : Args) (more more' : Option (List Args)) (caller : Option Task) (qs : List Parcel) (q : Parcel) → ((all : List Args) → AreGathered one more all → AreGathered one' more' (all ++ q.arguments ∷ [])) → HasUnpacked one more caller qs → HasUnpacked one' more' (first_of caller q.task) (qs ++ q ∷ [])
unpacked_more one one' more more' caller qs q added u = record {
  gathered = subst (AreGathered one' more') (sym (arguments_more qs q)) (added (arguments_in qs) u.gathered);
  caller_is = ap (λ (t : Option Task). first_of t q.task) u.caller_is ∙ sym (task_more qs q);
}

-- there are as many arguments as parcels
pub as_many : (qs : List Parcel) → length (arguments_in qs) ≡ length qs
as_many [] = refl
as_many (q ∷ qs) = ap suc (as_many qs)
