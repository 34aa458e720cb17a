-- What a trap does in a run: it ends its own body, those that wait for this body ask the same end, and it changes no other. A journal has its oldest entry first.
use Rattle.std.specs.Prelude.{◌≡◌, ◌⊎◌, ◌↔◌, ℕ, List, [], ◌∷◌, ◌++◌, reverse, Some}
use Rattle.chord_base.specs.Bodies.{Asks, Over, Ready, WaitsFor, doing, serves}
use Rattle.chord_base.specs.Machine.{IsRun}
use Rattle.chord_base.specs.Meaning.{Program, Start}
use Rattle.chord_base.specs.Messages.{IsCall}
use Rattle.chord_base.specs.Served.{IsServed, later}
use Rattle.chord_base.specs.Story.{IsIn}
use Rattle.chord_base.specs.declared.event.End.{End}
use Rattle.chord_base.specs.declared.event.End.TheVariants.{Gives, Traps}
use Rattle.chord_base.specs.declared.event.Entry.{Entry}
use Rattle.chord_base.specs.declared.event.Limits.{Limits}
use Rattle.chord_base.specs.declared.event.Trap.{Trap}
use Rattle.chord_base.specs.declared.event.What.{What}
use Rattle.chord_base.specs.declared.event.What.TheVariants.{Called, Ended}
use Rattle.chord_base.specs.declared.value.Object.{Object}
use Rattle.chord_base.specs.declared.value.Value.{Value}
use Rattle.chord_bodies.specs.Resolved.{Resolved}
use Rattle.chord_source.specs.Source.{source_program}

-- A machine hands traps on: a body whose call is answered by a trap asks its own end by that trap.
pub record HandsTrapsOn (program : Program) : Type 0 where
  pub next : (start : Start) (depth : ℕ) (answers : List End) (object : Object) (method : ℕ) (values : List Value) (place : ℕ) (trap : Trap) →
      program.next start depth answers ≡ Some (record { what = Called object method values; depth = place }) →
      program.next start depth (answers ++ Traps trap ∷ []) ≡ Some (record { what = Ended (Traps trap); depth = 0 })

-- The join machine of a source does, whatever its limits.
abbrev pub SourcesHandTrapsOn : Type 0
SourcesHandTrapsOn = (p : Resolved) (limits : Limits) → HandsTrapsOn (source_program p limits)

-- the first of two bodies waits for the call that the second one serves
abbrev pub WaitsForBody : Program → List Entry → ℕ → ℕ → Type 0
WaitsForBody program history caller body = (call : ℕ) × (serves program body history ≡ Some call) × WaitsFor call (doing program history caller)

-- none of these ends is a trap
abbrev pub HaveNoTrap : List End → Type 0
HaveNoTrap [] = Unit {0}
HaveNoTrap (Gives value ∷ ends) = HaveNoTrap ends
HaveNoTrap (Traps trap ∷ ends) = ⊥

-- a body traps by itself: none of the answers that it got is a trap
pub record TrapsByItself (program : Program) (history : List Entry) (body : ℕ) : Type 0 where
  pub start : Start
  pub depth : ℕ
  pub answers : List End
  pub got : doing program history body ≡ Ready start depth answers
  pub none : HaveNoTrap answers

-- a body traps by its call: its newest entry is a call, and the body of the firing that took this call has ended by the trap
pub record TrapsByCall (history : List Entry) (body : ℕ) (trap : Trap) : Type 0 where
  pub call : Entry
  pub before : List Entry
  pub newest : later body history ≡ call ∷ before
  pub calls : IsCall call.number call
  pub served : IsServed call.number (Traps trap) history

-- An entry between these parts of a journal ends its body by a trap, which changes this body and those that wait for it alone.
pub record StaysWithCallers (program : Program) (before : List Entry) (entry : Entry) (after : List Entry) (trap : Trap) : Type 0 where
  -- where the trap comes from
  pub cause : TrapsByItself program (reverse before) entry.body ⊎ TrapsByCall (reverse before) entry.body trap
  -- the body is over by it, and has no later entry
  pub over : doing program (reverse (before ++ entry ∷ [])) entry.body ≡ Over (Traps trap)
  pub last : (e : Entry) → IsIn e after → e.body ≡ entry.body → ⊥
  -- a body that waits for the call which it serves asks its own end by the same trap, and nothing else
  pub asks : (caller : ℕ) → WaitsForBody program (reverse before) caller entry.body → (what : What) → Asks program (reverse (before ++ entry ∷ [])) caller what ↔ (what ≡ Ended (Traps trap))
  -- and has no later entry but this end
  pub ends : (caller : ℕ) → WaitsForBody program (reverse before) caller entry.body → (e : Entry) → IsIn e after → e.body ≡ caller → e.what ≡ Ended (Traps trap)
  -- what every other body does stays as it was
  pub others : (body : ℕ) → (entry.body ≡ body → ⊥) → (WaitsForBody program (reverse before) body entry.body → ⊥) → doing program (reverse (before ++ entry ∷ [])) body ≡ doing program (reverse before) body

-- each trap in a journal stays with its body and that body's callers
pub record KeepsTraps (program : Program) (journal : List Entry) : Type 0 where
  pub each : (before after : List Entry) (entry : Entry) (trap : Trap) → journal ≡ before ++ entry ∷ after → entry.what ≡ Ended (Traps trap) → StaysWithCallers program before entry after trap

-- So it is in each run of a machine that hands traps on.
abbrev pub RunsKeepTraps : Type 0
RunsKeepTraps = (program : Program) (journal : List Entry) → HandsTrapsOn program → IsRun program journal → KeepsTraps program journal
