-- The statuses of the top call, one by one: what each says. A request, and not a number, says what is allowed and what is due.
use Rattle.std.specs.Prelude.{◌≡◌, ℕ, ◌≤◌, ◌⊎◌, List, length, Option, Some, None}
use Rattle.chord_base.specs.Machine.{IsComplete}
use Rattle.chord_base.specs.Meaning.{Program}
use Rattle.chord_base.specs.Printed.{status_of}
use Rattle.chord_base.specs.declared.event.Entry.{Entry}
use Rattle.chord_io.specs.Faults.{Rose}
use Rattle.chord_io.specs.Pieces.{Took, TookProperPrefix}
use Rattle.chord_run.specs.Due.{IsDue, IsFull, IsStatusOf, IsTextOf, source_contents, text_due}
use Rattle.chord_run.specs.Refusals.{IsCause, IsLine}
use Rattle.chord_run.specs.Sources.{IsAccepted, IsMachine}
use Rattle.chord_run.specs.Written.{Due, IsGiven, IsSpecified}
use Rattle.chord_run.specs.declared.command.Mode.{Mode}
use Rattle.chord_run.specs.declared.command.Request.{Request}
use Rattle.chord_run.specs.declared.refusal.Refusal.{Refusal}
use Rattle.chord_run.specs.declared.report.Report.{Report}

-- 0, 4 and 8: the journal is a complete run of the source's machine, of no more entries than are allowed, this is its status,
-- and the text that is due for it was written
pub record Finishes (request : Request) (left : Option (List ℕ)) (report : Report) (before after : Option (List ℕ)) (status : ℕ) : Type 0 where
  pub source : List ℕ
  pub given : IsGiven (source_contents request left) source
  pub program : Program
  pub machine : IsMachine source request.limits program
  pub journal : List Entry
  pub reported : report.journal ≡ Some journal
  pub complete : IsComplete program journal
  pub within : length journal ≤ request.limits.events
  pub status_is : status_of journal ≡ status
  pub written : Took before (text_due request journal) after

-- 0, in a mode that makes no run: the mode's text was written, and the report has neither a journal nor a refusal
pub record WritesText (request : Request) (left : Option (List ℕ)) (report : Report) (before after : Option (List ℕ)) : Type 0 where
  pub source : List ℕ
  pub given : IsGiven (source_contents request left) source
  pub journal : report.journal ≡ None
  pub refusal : report.refusal ≡ None
  pub text : List ℕ
  pub is_text : IsTextOf request.mode source text
  pub written : Took before text after

-- 0: either of the two
abbrev pub Succeeds : Request → Option (List ℕ) → Report → Option (List ℕ) → Option (List ℕ) → Type 0
Succeeds request left report before after = Finishes request left report before after 0 ⊎ WritesText request left report before after

-- 1: the source is refused for this cause, it is not accepted, and the refusal's line was written
pub record Refuses (request : Request) (left : Option (List ℕ)) (report : Report) (before after : Option (List ℕ)) : Type 0 where
  pub source : List ℕ
  pub given : IsGiven (source_contents request left) source
  pub refusal : Refusal
  pub reported : report.refusal ≡ Some refusal
  pub cause : IsCause source refusal
  pub not_accepted : IsAccepted source → ⊥
  pub line : List ℕ
  pub is_line : IsLine source refusal line
  pub written : Took before line after

-- 5: of the text that is due, a proper prefix was written, and the report says for what it was due
pub record CutsShort (request : Request) (left : Option (List ℕ)) (report : Report) (before after : Option (List ℕ)) : Type 0 where
  pub source : List ℕ
  pub given : IsGiven (source_contents request left) source
  pub due : Due
  pub is_due : IsDue request source report.journal report.refusal due
  pub written : TookProperPrefix before due.text after

-- 6: the journal is a run of as many entries as are allowed, some entry may follow it, and the text that is due was written
pub record Fills (request : Request) (left : Option (List ℕ)) (report : Report) (before after : Option (List ℕ)) : Type 0 where
  pub source : List ℕ
  pub given : IsGiven (source_contents request left) source
  pub program : Program
  pub machine : IsMachine source request.limits program
  pub journal : List Entry
  pub reported : report.journal ≡ Some journal
  pub full : IsFull program request.limits.events journal
  pub written : Took before (text_due request journal) after

-- the contents of the request's source and of the sink are specified
abbrev pub AreSpecified : Request → Option (List ℕ) → Option (List ℕ) → Type 0
AreSpecified request left before = IsSpecified (source_contents request left) × IsSpecified before

-- each of the causes above has its status: what is due was written whole, so the status is the one that is due, and not 5
pub record IsExact (request : Request) (left : Option (List ℕ)) (report : Report) (before after : Option (List ℕ)) : Type 0 where
  pub finishes : (status : ℕ) → Finishes request left report before after status → report.status ≡ status
  pub fills : Fills request left report before after → report.status ≡ 6
  pub refuses : Refuses request left report before after → report.status ≡ 1
  pub writes_text : WritesText request left report before after → report.status ≡ 0

-- no I/O call failed: neither count of faults rose
pub record NoneFailed (read_before read_after write_before write_after : ℕ) : Type 0 where
  pub read : Rose read_before read_after → ⊥
  pub write : Rose write_before write_after → ⊥

-- an accepted source has a status of its mode, or the call ran out of memory
abbrev pub RunsAccepted : Mode → Option (List ℕ) → ℕ → Type 0
RunsAccepted asked None status = Unit {0}
RunsAccepted asked (Some source) status = IsAccepted source → IsStatusOf asked status ⊎ (status ≡ 7)

-- every other source is refused, or the call ran out of memory
abbrev pub RefusesOthers : Option (List ℕ) → ℕ → Type 0
RefusesOthers None status = Unit {0}
RefusesOthers (Some source) status = (IsAccepted source → ⊥) → (status ≡ 1) ⊎ (status ≡ 7)
