-- The bodies of a run of a code in which `Main` has just begun.
use Rattle.std.proofs.Common.{◌≡◌, ℕ, zero, suc, true, false, ◌==◌, List, [], ◌∷◌, length, Some, refl, sym, ap, ◌∙◌, subst, arith, inl, inr, reverse}
use Rattle.std.specs.Prelude.{slice_get}
use Rattle.std.proofs.lemmas.Bool.{eqb-true}
use Rattle.chord_base.specs.declared.event.Limits.{Limits}
use Rattle.chord_base.specs.Messages.{Message, has, pending}
use Rattle.chord_base.specs.Story.{IsSound, kept}
use Rattle.chord_base.proofs.Waits.{either}
use Rattle.chord_code.specs.declared.parts.Parts.{Parts}
use Rattle.chord_code.specs.Meaning.{code_program}
use Rattle.chord_task.specs.declared.task.Task.{Task}
use Rattle.chord_task.specs.Standing.{view_of, IsTaskOf, MainBegins}
use Rattle.chord_lists.specs.Engine.{main_begun}
use Rattle.chord_lists.specs.declared.code_bodies.CodeBodies.{CodeBodies}
use Rattle.chord_lists.specs.CodeStands.{views, home, ready_in, ready_at, AreReady, AreOver, StandsAfter}
use Rattle.chord_lists.proofs.Spots.{one_some, nothing_some}
use Rattle.chord_lists.proofs.OverTasks.{first_over}

-- Main begins in a sound program
pub main_begins : (code : Parts) (limits : Limits) → IsSound (code_program code limits) → MainBegins code limits
main_begins code limits s = s.is_defined main_begun 0 (tt, record { numbered = refl; comes = (refl, refl) })

-- no message is pending when `Main` has just begun
none_pending : (i : ℕ) (m : Message) → pending i main_begun ≡ Some m → ⊥
none_pending i m e =
    elim (either (0 == i)) [
      | inl y ↦ nothing_some m (rw y at e)
      | inr o ↦ nothing_some m (rw o at e)
    ]

-- the one task keeps the one entry
first_keeps : (t : Task) → (view_of t).past ≡ main_begun → (i : ℕ) → kept (λ n. home (0 ∷ []) n == i) main_begun ≡ views (t ∷ []) i
first_keeps t e zero = sym e
first_keeps t e (suc i) = elim (either (0 == suc i)) [ inl y ↦ (let f = eqb-true 0 (suc i) y in absurd (omega (arith, f))) | inr o ↦ rw o refl ]

-- the one task is one of the code
first_task : (code : Parts) (limits : Limits) (t : Task) → IsTaskOf code limits t → (i : ℕ) (u : Task) → slice_get (t ∷ []) i ≡ Some u → IsTaskOf code limits u
first_task code limits t k zero u e = subst (λ (v : Task). IsTaskOf code limits v) (one_some t u (Some t) refl e) k
first_task code limits t k (suc i) u e = nothing_some u e

-- the one task stands in the list of the ready ones
first_ready : (t : Task) → AreReady (t ∷ []) (0 ∷ [])
unfolding ready_at
first_ready t = record { all = λ i e. by_place i e }
  where
    by_place : (i : ℕ) → ready_in (slice_get (t ∷ []) i) ≡ true → has i (0 ∷ []) ≡ true
    by_place zero e = refl
    by_place (suc i) e = (let z : false ≡ true = e in cc)

-- a task in which `Main` has just begun stands after that entry
pub started : (code : Parts) (limits : Limits) (bodies : CodeBodies) (t : Task) → IsSound (code_program code limits) → IsTaskOf code limits t → (view_of t).past ≡ main_begun → (view_of t).top ≡ Some 0 → bodies.tasks.items ≡ t ∷ [] → bodies.ready.items ≡ 0 ∷ [] → bodies.entries.items ≡ main_begun → bodies.homes.items ≡ 0 ∷ [] → StandsAfter code limits bodies main_begun
started code limits bodies t sound k past top tasks ready entries homes =
    record {
      past = (tt, record { numbered = refl; comes = (refl, refl) });
      journal = ap reverse entries;
      keeps = λ i. ap (λ z. kept (λ n. home z n == i) main_begun) homes ∙ first_keeps t past i ∙ ap (λ z. views z i) (sym tasks);
      tasks = subst (λ z. (i : ℕ) (u : Task) → slice_get z i ≡ Some u → IsTaskOf code limits u) (sym tasks) (first_task code limits t k);
      ready = subst (λ z. AreReady z (reverse bodies.ready.items)) (sym tasks) (subst (λ (z : List ℕ). AreReady (t ∷ []) (reverse z)) (sym ready) (first_ready t));
      calls = λ q m e s. absurd (none_pending q m e);
      homed = ap length homes;
      few = (let l = ap length tasks in omega (arith, l));
      over = subst (λ z. AreOver z (reverse bodies.over.items)) (sym tasks) (first_over t 0 (reverse bodies.over.items) top);
    }
