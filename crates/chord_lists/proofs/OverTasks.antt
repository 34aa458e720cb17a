-- The list of tasks that are over, as tasks go on and bodies begin.
use Rattle.std.proofs.Common.{◌≡◌, ℕ, true, false, Bool, ◌==◌, List, [], ◌∷◌, ◌++◌, length, Some, sym, ap, ◌∙◌, subst, inl, inr, set, if◌then◌else◌}
use Rattle.std.specs.Prelude.{slice_get, is_none}
use Rattle.std.proofs.lemmas.Bool.{eqb-true, eqb-false}
use Rattle.std.proofs.lemmas.List.{append-nil, append_assoc}
use Rattle.chord_base.specs.Messages.{has}
use Rattle.chord_base.proofs.Waits.{either}
use Rattle.chord_code.proofs.Places.{set_same, set_other}
use Rattle.chord_task.specs.declared.task.Task.{Task}
use Rattle.chord_task.specs.Standing.{view_of}
use Rattle.chord_lists.specs.CodeStands.{IsCut, over_in, over_at, with_over, AreOver}
use Rattle.chord_lists.proofs.Spots.{end_at, before_end, has_first, has_later, has_other}

-- where no task is over each list will do
pub none_over : (tasks : List Task) (over : List ℕ) → ((i : ℕ) → over_at tasks i ≡ false) → AreOver tasks over
none_over tasks over none = record { all = λ i e. let z : false ≡ true = sym (none i) ∙ e in cc }

-- a list with one more place will do
pub over_later : (tasks : List Task) (at : ℕ) (over : List ℕ) → AreOver tasks over → AreOver tasks (at ∷ over)
over_later tasks at over a = record { all = λ i e. has_later i at over (a.all i e) }

-- the other tasks are over as before
others_over : (tasks : List Task) (at j : ℕ) (t : Task) → (at == j) ≡ false → over_at (set tasks at t) j ≡ true → over_at tasks j ≡ true
unfolding over_at
others_over tasks at j t o e = sym (ap over_in (set_other tasks at j t (eqb-false at j o))) ∙ e

-- the place of the task that was set is over if this task is
set_over : (tasks : List Task) (at j : ℕ) (t u : Task) → slice_get tasks at ≡ Some u → (at == j) ≡ true → over_at (set tasks at t) j ≡ is_none (view_of t).top
unfolding over_at
set_over tasks at j t u s y = ap over_in (subst (λ z. slice_get (set tasks at t) z ≡ Some t) (eqb-true at j y) (set_same tasks at t u s))

-- a task with a body on top is not over, and its place is taken off the list
pub over_begun : (tasks : List Task) (at b : ℕ) (t u : Task) (over : List ℕ) → slice_get tasks at ≡ Some u → (view_of t).top ≡ Some b → AreOver tasks (at ∷ over) → AreOver (set tasks at t) over
over_begun tasks at b t u over s top a =
    record {
      all =
          λ j e.
          elim (either (at == j)) [
            | inl y ↦ (let z : false ≡ true = sym (ap is_none top) ∙ sym (set_over tasks at j t u s y) ∙ e in cc)
            | inr o ↦ has_other j at over (λ same. eqb-false at j o (sym same)) (a.all j (others_over tasks at j t o e))
          ];
    }

-- a task went on, and its place is put on the list if no body is left in it
pub over_turned : (tasks : List Task) (at : ℕ) (t u : Task) (over : List ℕ) → slice_get tasks at ≡ Some u → AreOver tasks over → AreOver (set tasks at t) (if is_none (view_of t).top then at ∷ over else over)
over_turned tasks at t u over s a = elim (either (is_none (view_of t).top)) [ inl y ↦ rw y ends | inr n ↦ rw n (goes n) ]
  where
    ends : AreOver (set tasks at t) (at ∷ over)
    ends =
        record {
          all =
              λ j e.
              elim (either (at == j)) [
                | inl k ↦ subst (λ z. has z (at ∷ over) ≡ true) (eqb-true at j k) (has_first at over)
                | inr o ↦ has_later j at over (a.all j (others_over tasks at j t o e))
              ];
        }

    goes : is_none (view_of t).top ≡ false → AreOver (set tasks at t) over
    goes n =
        record {
          all =
              λ j e.
              elim (either (at == j)) [
                | inl k ↦ (let z : false ≡ true = sym n ∙ sym (set_over tasks at j t u s k) ∙ e in cc)
                | inr o ↦ a.all j (others_over tasks at j t o e)
              ];
        }

-- one more task, with a body on top, is not over
pub over_more : (tasks : List Task) (t : Task) (b : ℕ) (over : List ℕ) → (view_of t).top ≡ Some b → AreOver tasks over → AreOver (tasks ++ t ∷ []) over
unfolding over_at
over_more tasks t b over top a =
    record {
      all =
          λ j e.
          elim (either (length tasks == j)) [
            | inl y ↦
                (let here = ap over_in (subst (λ z. slice_get (tasks ++ t ∷ []) z ≡ Some t) (eqb-true (length tasks) j y) (end_at tasks t)) in
                let z : false ≡ true = sym (ap is_none top) ∙ sym here ∙ e in cc)
            | inr o ↦ a.all j (sym (ap over_in (before_end tasks t j (eqb-false (length tasks) j o))) ∙ e)
          ];
    }

-- the first task, with a body on top, is not over
pub first_over : (t : Task) (b : ℕ) (over : List ℕ) → (view_of t).top ≡ Some b → AreOver (t ∷ []) over
unfolding over_at
first_over t b over top = over_more [] t b over top (record { all = λ j e. let z : false ≡ true = e in cc })

-- the task that went on is over if it has no body left
pub over_went : (tasks : List Task) (i : ℕ) (t u : Task) (over : List ℕ) → slice_get tasks i ≡ Some u → with_over (set tasks i t) i over ≡ (if is_none (view_of t).top then i ∷ over else over)
unfolding over_at
over_went tasks i t u over s = ap (λ (b : Bool). if b then i ∷ over else over) (ap over_in (set_same tasks i t u s))

-- no place went
pub none_went : (old new : List ℕ) → new ≡ old → IsCut old new
none_went old new e = record { gone = []; is = sym e ∙ sym (append-nil new) }

-- one place more went
pub last_went : (i : ℕ) (old left new : List ℕ) → new ≡ left → IsCut old (left ++ i ∷ []) → IsCut old new
last_went i old left new e c =
    record { gone = i ∷ c.gone; is = c.is ∙ append_assoc left (i ∷ []) c.gone ∙ ap (λ z. z ++ i ∷ c.gone) (sym e) }

-- all places went
pub all_went : (old new : List ℕ) → new ≡ [] → IsCut old new
all_went old new e = record { gone = old; is = ap (λ z. z ++ old) (sym e) }
