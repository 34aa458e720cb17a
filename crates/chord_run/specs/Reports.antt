-- What the private functions of the top call report: a run, a refusal, or that memory ran out.
use Rattle.std.specs.Prelude.{◌≡◌, ℕ, Bool, List, Option, None, Some, codes, if◌then◌else◌}
use Rattle.chord_base.specs.Meaning.{Program}
use Rattle.chord_base.specs.Printed.{status_of}
use Rattle.chord_base.specs.declared.event.Entry.{Entry}
use Rattle.chord_code.specs.Meaning.{code_program}
use Rattle.chord_code.specs.declared.parts.Parts.{Parts}
use Rattle.chord_gen.specs.Listing.{listing_text}
use Rattle.chord_run.specs.Answers.{WritesNothing}
use Rattle.chord_run.specs.Due.{HasStatus, text_due}
use Rattle.chord_run.specs.Refusals.{IsLine}
use Rattle.chord_run.specs.Written.{IsWritten}
use Rattle.chord_run.specs.declared.command.Mode.{Mode}
use Rattle.chord_run.specs.declared.command.Mode.TheVariants.{Run, Rules, Code, Load}
use Rattle.chord_run.specs.declared.command.Request.{Request}
use Rattle.chord_run.specs.declared.refusal.Refusal.{Refusal}
use Rattle.chord_run.specs.declared.report.Report.{Report}

-- the call ran out of memory, and nothing is written
pub record ReportsNoMemory (report : Report) (before after : Option (List ℕ)) : Type 0 where
  pub status_is : report.status ≡ 7
  pub nothing : WritesNothing report before after

-- the status of a run: 6 where it is full, else its journal's own
abbrev pub due_status : Bool → List Entry → ℕ
due_status full journal = if full then 6 else status_of journal

-- the report has a journal of this program, and what is due for it was written
pub record ReportsRun (request : Request) (program : Program) (report : Report) (before after : Option (List ℕ)) : Type 0 where
  pub journal : List Entry
  pub reported : report.journal ≡ Some journal
  pub refusal : report.refusal ≡ None
  pub status : ℕ
  pub has_status : HasStatus program request.limits.events journal status
  pub written : IsWritten (record { status = status; text = text_due request journal }) report.status before after

-- the report has this journal, and the text that is due for it, with this status, was written
pub record ReportsPlayed (request : Request) (journal : List Entry) (due : ℕ) (report : Report) (before after : Option (List ℕ)) : Type 0 where
  pub reported : report.journal ≡ Some journal
  pub refusal : report.refusal ≡ None
  pub written : IsWritten (record { status = due; text = text_due request journal }) report.status before after

-- the report has neither a journal nor a refusal, and this text, which is due with status 0, was written
pub record ReportsText (text : List ℕ) (report : Report) (before after : Option (List ℕ)) : Type 0 where
  pub journal : report.journal ≡ None
  pub refusal : report.refusal ≡ None
  pub written : IsWritten (record { status = 0; text = text }) report.status before after

-- what is reported for a code in a mode: of a run its journal, of `rules` that the source is accepted, of `code` the listing
abbrev pub ReportsBy : Mode → Request → Parts → Report → Option (List ℕ) → Option (List ℕ) → Type 0
ReportsBy Run request code report before after = ReportsRun request (code_program code request.limits) report before after
ReportsBy Rules request code report before after = ReportsText (codes "ok\n") report before after
ReportsBy Code request code report before after = ReportsText (listing_text code) report before after
ReportsBy (Load k) request code report before after = ReportsRun request (code_program code request.limits) report before after

-- what is reported for a code in the mode of a request
abbrev pub ReportsCode : Request → Parts → Report → Option (List ℕ) → Option (List ℕ) → Type 0
ReportsCode request code report before after = ReportsBy request.mode request code report before after

-- the report has a refusal, and what is due for it was written
pub record ReportsRefusal (source : List ℕ) (refusal : Refusal) (report : Report) (before after : Option (List ℕ)) : Type 0 where
  pub journal : report.journal ≡ None
  pub reported : report.refusal ≡ Some refusal
  pub line : List ℕ
  pub is_line : IsLine source refusal line
  pub written : IsWritten (record { status = 1; text = line }) report.status before after
