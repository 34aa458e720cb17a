-- What a place that keeps a task may rely on.
use Rattle.std.proofs.Common.{◌≡◌, ℕ, false, ◌==◌, List, ◌∷◌, Option, Some, None, refl, sym, ap, ◌∙◌, inl, inr}
use Rattle.chord_base.specs.declared.event.Entry.{Entry}
use Rattle.chord_base.specs.declared.event.Limits.{Limits}
use Rattle.chord_base.specs.Bodies.{Unplaced, doing, asked, serves}
use Rattle.chord_base.specs.Story.{IsStory}
use Rattle.chord_code.specs.declared.parts.Parts.{Parts}
use Rattle.chord_code.specs.Meaning.{code_program}
use Rattle.chord_task.specs.declared.body.Body.{Body}
use Rattle.chord_task.specs.declared.task.Task.{Task}
use Rattle.chord_task.specs.Stacks.{AsksNothing}
use Rattle.chord_task.specs.Standing.{view_of, IsParked, AreParked, IsTaskOf, is_ready_of}
use Rattle.chord_task.proofs.Asking.{not_ready_nothing}
use Rattle.chord_base.proofs.Waits.{either}
use Rattle.std.proofs.lemmas.Bool.{eqb-true, eqb-false}

-- the past of a task is a story
pub task_story : (code : Parts) (limits : Limits) (t : Task) → IsTaskOf code limits t → IsStory (code_program code limits) (view_of t).past
task_story code limits t k = record { told = k.task.told; is_defined = k.is_defined }

-- where the body on top asks nothing, no body of the task does, whether there is one on top or not
by_top : (code : Parts) (limits : Limits) (t : Task) → IsTaskOf code limits t → AsksNothing (code_program code limits) (view_of t) → (b : ℕ) (o : Option ℕ) → (view_of t).top ≡ o → asked (code_program code limits) (doing (code_program code limits) (view_of t).past b) ≡ None
by_top code limits t k f b None e = k.task.quiet b (λ i. let z : ◌≡◌ {A = Option ℕ} None (Some b) = sym e ∙ i in cc)
by_top code limits t k f b (Some c) e =
    elim (either (c == b)) [
      | inl y ↦ f b (e ∙ ap Some (eqb-true c b y))
      | inr n ↦ k.task.quiet b (λ i. let z : Some c ≡ Some b = sym e ∙ i in let w : c ≡ b = cc in eqb-false c b n w)
    ]

-- no body of a task that is parked or over asks anything, and each one's call is there
pub parked_quiet : (code : Parts) (limits : Limits) (t : Task) → IsTaskOf code limits t → is_ready_of t ≡ false → (b : ℕ) → (asked (code_program code limits) (doing (code_program code limits) (view_of t).past b) ≡ None) × (doing (code_program code limits) (view_of t).past b ≡ Unplaced → ⊥)
parked_quiet code limits t k r b = (by_top code limits t k (not_ready_nothing code limits t k r) b (view_of t).top refl, k.task.placed b)

-- each body below the top waits for a call that the body above it serves
pub below_served : (code : Parts) (limits : Limits) (h : List Entry) (call : Option ℕ) (above : ℕ) (b : Body) (bs : List Body) → call ≡ serves (code_program code limits) above h → AreParked code limits h call above (b ∷ bs) → (q : ℕ) × (serves (code_program code limits) above h ≡ Some q) × IsParked code limits h b q
below_served code limits h call above b bs e k = (k.0.0, sym e ∙ k.0.1, k.0.2)
