use Rattle.std.proofs.Common.{◌≡◌, ◌∙◌, ◌++◌, ◌∷◌, [], sym, ap, refl, reverse, take, List, ℕ, Some}
use Rattle.std.specs.Prelude.{slice_get}
use Rattle.chord_lists.proofs.Spots.{one_some, nothing_some}
use Rattle.chord_lists.proofs.CodeOver.{stands_ready, went_over}
use Rattle.chord_lists.proofs.code_bodies.go_on.Goals as goal

pub make-requires-clause-may : goal.make-requires-clause-may
make-requires-clause-may c =
    let m = c.requires.may in
    (m.0, m.1, stands_ready c.args.code.now c.args.limits.now c.args.bodies.now c.next_ready.new.ready m.0 m.2 (rw c.deref.ensures.value at c.next_ready.ensures.ready))

pub returns-in-None-clause-went : goal.returns-in-None-clause-went
returns-in-None-clause-went c =
    λ h played s. went_over c.args.code.now c.args.limits.now c.args.bodies.now c.next_ready.new.ready h s (rw (c.in-None.is, c.deref.ensures.value) at c.next_ready.ensures.none) (rw c.deref.ensures.value at c.next_ready.ensures.ready)

pub returns-in-None-clause-over : goal.returns-in-None-clause-over
returns-in-None-clause-over c = rw (sym c.next_ready.ensures.top ∙ c.in-None.is) refl

pub returns-in_ok-turn-in-Some-clause-over : goal.returns-in_ok-turn-in-Some-clause-over
returns-in_ok-turn-in-Some-clause-over c =
    let top = ap (λ places. slice_get (reverse places) 0) c.in_ok-turn-in-Some.ensures.ready ∙ sym c.next_ready.ensures.top ∙ c.in-Some.is in
    rw top c.in_ok-turn-in-Some.ensures.over

pub returns-in_ok-turn-in-Some-clause-turned : goal.returns-in_ok-turn-in-Some-clause-turned
returns-in_ok-turn-in-Some-clause-turned c =
    let top = ap (λ places. slice_get (reverse places) 0) c.in_ok-turn-in-Some.ensures.ready ∙ sym c.next_ready.ensures.top ∙ c.in-Some.is in
    rw top c.in_ok-turn-in-Some.ensures.turned

pub returns-in-None-clause-turned : goal.returns-in-None-clause-turned
returns-in-None-clause-turned c = rw (sym c.next_ready.ensures.top ∙ c.in-None.is) refl

pub returns-in_ok-turn-in-Some-clause-top : goal.returns-in_ok-turn-in-Some-clause-top
returns-in_ok-turn-in-Some-clause-top c =
    let homes = c.args.bodies.now.homes.items in
    let top = ap (λ places. slice_get (reverse places) 0) c.in_ok-turn-in-Some.ensures.ready ∙ sym c.next_ready.ensures.top ∙ c.in-Some.is in
    c.in_ok-turn-in-Some.ensures.homed ∙ ap (λ z. homes ++ z) (sym (first_taken (reverse c.make.new.bodies.ready.items) c.in-Some.at top))
  where
    first_taken : (list : List ℕ) (at : ℕ) → slice_get list 0 ≡ Some at → take 1 list ≡ at ∷ []
    first_taken [] at e = nothing_some at e
    first_taken (i ∷ list) at e = ap (λ z. z ∷ []) (one_some i at (slice_get (i ∷ list) 0) refl e)
