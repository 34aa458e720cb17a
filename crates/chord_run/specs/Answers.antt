-- The headline: what the top call answers, by its arguments, its source and its report.
use Rattle.std.specs.Prelude.{◌≡◌, ℕ, ◌⊎◌, List, Option, None}
use Rattle.chord_run.specs.Command.{Requests}
use Rattle.chord_run.specs.Due.{IsDue, source_contents}
use Rattle.chord_run.specs.Written.{Due, IsGiven, IsWritten}
use Rattle.chord_run.specs.declared.command.Request.{Request}
use Rattle.chord_run.specs.declared.report.Report.{Report}

-- what is due for the source was written, and the report says so
pub record AnswersSource (request : Request) (source : List ℕ) (report : Report) (before after : Option (List ℕ)) : Type 0 where
  pub due : Due
  pub is_due : IsDue request source report.journal report.refusal due
  pub written : IsWritten due report.status before after

-- a source with these contents, where they are specified, is answered
pub record AnswersContents (request : Request) (contents : Option (List ℕ)) (report : Report) (before after : Option (List ℕ)) : Type 0 where
  pub source : List ℕ
  pub given : IsGiven contents source
  pub answered : AnswersSource request source report before after

-- the arguments request something, and the source that the request is about is answered
pub record Answers (arguments : List (List ℕ)) (left : Option (List ℕ)) (report : Report) (before after : Option (List ℕ)) : Type 0 where
  pub request : Request
  pub requested : Requests arguments request
  pub source : List ℕ
  pub given : IsGiven (source_contents request left) source
  pub answered : AnswersSource request source report before after

-- the statuses with which nothing is written: 2, the arguments are not accepted; 3, a read failed; 7, out of memory
abbrev pub IsSilent : ℕ → Type 0
IsSilent status = (status ≡ 2) ⊎ (status ≡ 3) ⊎ (status ≡ 7)

-- nothing is written, and the report has no journal, no refusal and no table
pub record WritesNothing (report : Report) (before after : Option (List ℕ)) : Type 0 where
  pub journal : report.journal ≡ None
  pub refusal : report.refusal ≡ None
  pub table : report.table ≡ None
  pub written : after ≡ before

-- one of these statuses, and nothing is written
pub record IsSilence (report : Report) (before after : Option (List ℕ)) : Type 0 where
  pub silent : IsSilent report.status
  pub nothing : WritesNothing report before after
