-- The status of a run: of a code it is that of the same run of its source, and none is that of a failure.
use Rattle.std.proofs.Common.{◌≡◌, ◌≤◌, ◌||◌, ◌&&◌, ◌∷◌, [], ℕ, Bool, true, false, not, List, inl, inr, length, refl, reverse, arith}
use Rattle.std.specs.List.{list_any}
use Rattle.chord_base.specs.Agreement.{AgreeInRuns, SameRuns}
use Rattle.chord_base.specs.Machine.{IsComplete, IsRun, MayFollow}
use Rattle.chord_base.specs.Meaning.{Program}
use Rattle.chord_base.specs.Printed.{has_failed, is_trap, serves_caller}
use Rattle.chord_base.specs.declared.event.Entry.{Entry}
use Rattle.chord_run.specs.Due.{HasStatus}
use Rattle.chord_run.specs.Reports.{due_status}
use Rattle.chord_run.proofs.Causes.{status_cases}

-- two programs that agree in their runs give a journal the same status
pub same_status : SameRuns → (p q : Program) (events : ℕ) (journal : List Entry) (status : ℕ) → AgreeInRuns p q → HasStatus p events journal status → HasStatus q events journal status
same_status law p q events journal status agree (inl c) =
    inl (record { complete = (law p q (reverse journal) agree).1.0 c.complete; within = c.within; status_is = c.status_is })
same_status law p q events journal status agree (inr f) =
    let longer = (law p q (f.0.next ∷ reverse journal) agree).0.0 (f.0.run, f.0.follows) in
    inr (record { run = longer.0; filled = f.0.filled; next = f.0.next; follows = longer.1 }, f.1)

-- where one or another is not, neither is
neither : (a b : Bool) → (a || b) ≡ false → (a ≡ false) × (b ≡ false)
neither true b none = cc
neither false b none = (refl, none)

-- where none has one property, none has that one and another
none_of_both : (p q : Entry → Bool) (es : List Entry) → list_any p es ≡ false → list_any (λ e. p e && q e) es ≡ false
none_of_both p q [] none = refl
none_of_both p q (e ∷ es) none =
    let parts = neither (p e) (list_any p es) none in
    rw (parts.0, none_of_both p q es parts.1) refl

-- where no body ended by a trap, neither did one that serves no caller
pub none_failed : (es : List Entry) → list_any (λ e. is_trap e.what) es ≡ false → has_failed es ≡ false
none_failed es none = none_of_both (λ e. is_trap e.what) (λ e. not (serves_caller es e.body)) es none

-- a run of fewer entries than are allowed has the journal's own status
pub short_status : (program : Program) (events : ℕ) (journal : List Entry) → IsComplete program journal → length journal ≤ events → HasStatus program events journal (due_status false journal)
short_status program events journal complete within = inl (record { complete = complete; within = within; status_is = refl })

-- a run of as many entries as are allowed has the status that is due, by whether an entry may follow
pub filled_status : (program : Program) (events : ℕ) (journal : List Entry) (full : Bool) → IsRun program journal → length journal ≡ events
    → (full ≡ true → (e : Entry) × MayFollow program (reverse journal) e) → (full ≡ false → IsComplete program journal) → HasStatus program events journal (due_status full journal)
filled_status program events journal true run filled follows ends =
    let next = follows refl in
    inr (record { run = run; filled = filled; next = next.0; follows = next.1 }, refl)
filled_status program events journal false run filled follows ends = inl (record { complete = ends refl; within = omega (arith, filled); status_is = refl })

-- the status that is due for a run is not that of arguments that are not accepted
pub not_two : (full : Bool) (journal : List Entry) → due_status full journal ≡ 2 → ⊥
not_two true journal two = omega (arith, two)
not_two false journal two = elim (status_cases journal) [
  | inl a ↦ omega (arith, a, two)
  | inr (inl a) ↦ omega (arith, a, two)
  | inr (inr a) ↦ omega (arith, a, two)
]

-- nor that of a failed write
pub not_five : (full : Bool) (journal : List Entry) → due_status full journal ≡ 5 → ⊥
not_five true journal five = omega (arith, five)
not_five false journal five = elim (status_cases journal) [
  | inl a ↦ omega (arith, a, five)
  | inr (inl a) ↦ omega (arith, a, five)
  | inr (inr a) ↦ omega (arith, a, five)
]
