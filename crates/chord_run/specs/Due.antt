-- What is due for a source that a request is about: a status and a text.
use Rattle.std.specs.Prelude.{◌≡◌, ℕ, ◌≤◌, ◌⊎◌, Bool, true, false, List, [], ◌++◌, codes, length, reverse, Option, Some, None}
use Rattle.chord_base.specs.Machine.{IsRun, IsComplete, MayFollow}
use Rattle.chord_base.specs.Meaning.{Program}
use Rattle.chord_base.specs.Printed.{lines, status_of}
use Rattle.chord_base.specs.declared.event.Entry.{Entry}
use Rattle.chord_classes.specs.Plan.{resolved_program}
use Rattle.chord_gen.specs.Listing.{listing_text}
use Rattle.chord_gen.specs.Translation.{code_of}
use Rattle.chord_journal.specs.Counts.{counts_text}
use Rattle.chord_journal.specs.Text.{journal_text}
use Rattle.chord_run.specs.Command.{made_from}
use Rattle.chord_run.specs.Load.{load_text}
use Rattle.chord_run.specs.Refusals.{IsCause, IsLine}
use Rattle.chord_run.specs.Sources.{IsAccepted, IsAcceptedAs, IsMachine}
use Rattle.chord_run.specs.Written.{Due}
use Rattle.chord_run.specs.declared.command.Mode.{Mode}
use Rattle.chord_run.specs.declared.command.Mode.TheVariants.{Run, Rules, Code, Load}
use Rattle.chord_run.specs.declared.command.Request.{Request}
use Rattle.chord_run.specs.declared.refusal.Refusal.{Refusal}
use Rattle.chord_tree.specs.Tree.{ProgramTree}

-- ## By the request

-- the contents of a source: of one that is made from a number its text, else those that are left to read
abbrev pub contents_by : Option ℕ → Option (List ℕ) → Option (List ℕ)
contents_by None left = left
contents_by (Some k) left = Some (load_text k)

-- the contents of the source that a request is about
abbrev pub source_contents : Request → Option (List ℕ) → Option (List ℕ)
source_contents request left = contents_by (made_from request.mode) left

-- the line of counts of a journal, where the source was made from a number
abbrev pub summary_due : Option ℕ → List Entry → List ℕ
summary_due None journal = []
summary_due (Some k) journal = counts_text journal

-- the text of a journal, where it is requested
abbrev pub journal_due : Bool → List Entry → List ℕ
journal_due false journal = []
journal_due true journal = journal_text journal

-- the text that is due for a journal: its lines, then of `load` its line of counts, then the journal's text if it is requested
abbrev pub text_due : Request → List Entry → List ℕ
text_due request journal = lines journal ++ (summary_due (made_from request.mode) journal ++ journal_due request.journal journal)

-- the mode makes a run
abbrev pub MakesRun : Mode → Type 0
MakesRun Run = Unit {0}
MakesRun Rules = ⊥
MakesRun Code = ⊥
MakesRun (Load k) = Unit {0}

-- the listing of the code of an accepted source
pub record IsListing (source text : List ℕ) : Type 0 where
  pub program : ProgramTree
  pub accepted : IsAcceptedAs source program
  pub text_is : text ≡ listing_text (code_of (resolved_program program))

-- the text that is due for an accepted source in a mode that makes no run: of `rules` the line `ok`, of `code` the listing
abbrev pub IsTextOf : Mode → List ℕ → List ℕ → Type 0
IsTextOf Run source text = ⊥
IsTextOf Rules source text = IsAccepted source × (text ≡ codes "ok\n")
IsTextOf Code source text = IsListing source text
IsTextOf (Load k) source text = ⊥

-- the status of a run: 0, 4, 6 or 8
abbrev pub IsRunStatus : ℕ → Type 0
IsRunStatus status = (status ≡ 0) ⊎ (status ≡ 4) ⊎ (status ≡ 6) ⊎ (status ≡ 8)

-- the status of an accepted source in this mode: that of a run, or 0 where the mode makes none
abbrev pub IsStatusOf : Mode → ℕ → Type 0
IsStatusOf Run status = IsRunStatus status
IsStatusOf Rules status = status ≡ 0
IsStatusOf Code status = status ≡ 0
IsStatusOf (Load k) status = IsRunStatus status

-- ## A journal

-- a complete run of the machine, of no more entries than are allowed: its status is the journal's
pub record Completes (program : Program) (events : ℕ) (journal : List Entry) (status : ℕ) : Type 0 where
  pub complete : IsComplete program journal
  pub within : length journal ≤ events
  pub status_is : status ≡ status_of journal

-- a run that met its limit: as many entries as are allowed, and some entry may follow
pub record IsFull (program : Program) (events : ℕ) (journal : List Entry) : Type 0 where
  pub run : IsRun program journal
  pub filled : length journal ≡ events
  pub next : Entry
  pub follows : MayFollow program (reverse journal) next

-- the status of a journal: its own where it is complete, 6 where it is full
abbrev pub HasStatus : Program → ℕ → List Entry → ℕ → Type 0
HasStatus program events journal status = Completes program events journal status ⊎ (IsFull program events journal × (status ≡ 6))

-- ## What is due

-- what is due for a journal of the source's machine
pub record IsRunDue (request : Request) (source : List ℕ) (journal : List Entry) (due : Due) : Type 0 where
  pub mode : MakesRun request.mode
  pub program : Program
  pub machine : IsMachine source request.limits program
  pub has_status : HasStatus program request.limits.events journal due.status
  pub text : due.text ≡ text_due request journal

-- what is due for a refusal of the source: status 1 and the refusal's line
pub record IsRefusalDue (source : List ℕ) (refusal : Refusal) (due : Due) : Type 0 where
  pub cause : IsCause source refusal
  pub status_is : due.status ≡ 1
  pub text : IsLine source refusal due.text

-- what is due in a mode that makes no run: status 0 and the mode's text
pub record IsTextDue (request : Request) (source : List ℕ) (due : Due) : Type 0 where
  pub status_is : due.status ≡ 0
  pub text : IsTextOf request.mode source due.text

-- what is due: a run where the report has a journal, a refusal where it has a refusal, the mode's text where it has neither
abbrev pub IsDue : Request → List ℕ → Option (List Entry) → Option Refusal → Due → Type 0
IsDue request source (Some journal) None due = IsRunDue request source journal due
IsDue request source None (Some refusal) due = IsRefusalDue source refusal due
IsDue request source None None due = IsTextDue request source due
IsDue request source (Some journal) (Some refusal) due = ⊥
