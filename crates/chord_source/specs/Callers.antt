-- What a run says of its messages and of its callers. A journal has its oldest entry first.
use Rattle.std.specs.Prelude.{◌≡◌, ℕ, List, [], ◌∷◌, ◌++◌, reverse, true}
use Rattle.chord_base.specs.Bodies.{Ready, Waits, WaitsFor, doing}
use Rattle.chord_base.specs.Machine.{IsRun}
use Rattle.chord_base.specs.Meaning.{Program, Start}
use Rattle.chord_base.specs.Messages.{AreDifferent, IsCall, has, members_of}
use Rattle.chord_base.specs.Served.{IsServed}
use Rattle.chord_base.specs.Story.{IsIn}
use Rattle.chord_base.specs.declared.event.End.{End}
use Rattle.chord_base.specs.declared.event.Entry.{Entry}
use Rattle.chord_base.specs.declared.event.What.TheVariants.{Ended}
use Rattle.chord_source.specs.Laws.{IsSoundMachine}

-- A caller waits for its call until the body that this firing began comes to this end, and goes on with it.
pub record GoesOnWith (program : Program) (journal : List Entry) (caller call : ℕ) (firing : Entry) (end : End) : Type 0 where
  pub before : List Entry
  pub entry : Entry
  pub after : List Entry
  pub parts : journal ≡ before ++ entry ∷ after
  pub body : entry.body ≡ firing.number
  pub ended : entry.what ≡ Ended end
  pub start : Start
  pub depth : ℕ
  pub place : ℕ
  pub answers : List End
  -- until that entry
  pub waits : doing program (reverse before) caller ≡ Waits start depth answers call place
  -- from it on: the end is the newest answer
  pub goes_on : doing program (reverse (before ++ entry ∷ [])) caller ≡ Ready start depth (answers ++ end ∷ [])

-- In a journal no message is taken twice, each caller that is served goes on with the end of the body of the firing that took its call, and each other caller waits.
pub record ServesCallers (program : Program) (journal : List Entry) : Type 0 where
  -- not by two firings
  pub one_firing : (f g : Entry) (message : ℕ) → IsIn f journal → IsIn g journal → has message (members_of f.what) ≡ true → has message (members_of g.what) ≡ true → f ≡ g
  -- and not twice by one
  pub once : (f : Entry) → IsIn f journal → AreDifferent (members_of f.what)
  pub served : (c : Entry) (call : ℕ) (end : End) → IsIn c journal → IsCall call c → (s : IsServed call end journal) → GoesOnWith program journal c.body call s.firing end
  pub others : (c : Entry) (call : ℕ) → IsIn c journal → IsCall call c → ((end : End) → IsServed call end journal → ⊥) → WaitsFor call (doing program (reverse journal) c.body)

-- Each run of a sound machine serves its callers so.
abbrev pub RunsServeCallers : Type 0
RunsServeCallers = (program : Program) (journal : List Entry) → IsSoundMachine program → IsRun program journal → ServesCallers program journal
