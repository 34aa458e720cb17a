-- What holds of each source, of its join machine and the runs of it, and of the tokens that a program spells.
use Rattle.std.specs.Prelude.{◌≡◌, ℕ, ◌⊎◌, List, Option, Some, map, reverse}
use Rattle.chord_base.specs.Machine.{IsRun}
use Rattle.chord_base.specs.Meaning.{Program, Start}
use Rattle.chord_base.specs.Story.{IsIn}
use Rattle.chord_base.specs.declared.event.End.{End}
use Rattle.chord_base.specs.declared.event.Entry.{Entry}
use Rattle.chord_base.specs.declared.event.Limits.{Limits}
use Rattle.chord_base.specs.declared.static_type.StaticType.{StaticType}
use Rattle.chord_classes.specs.Plan.{resolved_program}
use Rattle.chord_classes.specs.Types.{signatures_of}
use Rattle.chord_lexer.specs.declared.token.Token.{Token}
use Rattle.chord_parser.specs.Answers.{IsAnswer, IsNotTall}
use Rattle.chord_parser.specs.declared.parser.ParseFault.{ParseFault}
use Rattle.chord_parser.specs.declared.parser.ParseFault.TheVariants as faults
use Rattle.chord_run.specs.Answers.{Answers, IsSilence}
use Rattle.chord_run.specs.BodyEnds.{AnswersEachAsk, BodyBegins, ComesToEnd}
use Rattle.chord_run.specs.Command.{Requests}
use Rattle.chord_run.specs.Due.{source_contents}
use Rattle.chord_run.specs.Refusals.{IsCause, IsLine}
use Rattle.chord_run.specs.Sources.{IsAccepted, IsMachine, IsProgramOf}
use Rattle.chord_run.specs.Written.{IsGiven}
use Rattle.chord_run.specs.declared.command.Request.{Request}
use Rattle.chord_run.specs.declared.refusal.Refusal.{Refusal}
use Rattle.chord_run.specs.declared.refusal.Refusal.TheVariants.{Rule}
use Rattle.chord_run.specs.declared.report.Report.{Report}
use Rattle.chord_code.specs.Runs.{IsResultType}
use Rattle.chord_source.specs.Callers.{ServesCallers}
use Rattle.chord_source.specs.Laws.{IsSoundMachine}
use Rattle.chord_source.specs.Traps.{KeepsTraps}
use Rattle.chord_source.specs.TypedRuns.{KeepsTypes, PlaysWell, begins_as}
use Rattle.chord_tree.specs.Program.{IsProgram, spelling, token_kinds, without_span}
use Rattle.chord_tree.specs.Tree.{ProgramTree}

-- a source has at most one program
abbrev pub HasOneProgram : Type 0
HasOneProgram = (source : List ℕ) (p q : ProgramTree) → IsProgramOf source p → IsProgramOf source q → p ≡ q

-- a source that has a program is refused by a rule alone
abbrev pub IsRefusedByRule : Type 0
IsRefusedByRule = (source : List ℕ) (program : ProgramTree) (refusal : Refusal) → IsProgramOf source program → IsCause source refusal → (rule : ℕ) × (token : ℕ) × (refusal ≡ Rule rule token)

-- within its limits a source has at most one join machine
abbrev pub HasOneMachine : Type 0
HasOneMachine = (source : List ℕ) (limits : Limits) (p q : Program) → IsMachine source limits p → IsMachine source limits q → p ≡ q

-- an accepted source has a join machine, whatever its limits
abbrev pub AcceptedHasMachine : Type 0
AcceptedHasMachine = (source : List ℕ) (limits : Limits) → IsAccepted source → (program : Program) × IsMachine source limits program

-- a source with a join machine is accepted
abbrev pub MachineIsOfAccepted : Type 0
MachineIsOfAccepted = (source : List ℕ) (limits : Limits) (program : Program) → IsMachine source limits program → IsAccepted source

-- a source has at most one cause of a refusal
abbrev pub HasOneCause : Type 0
HasOneCause = (source : List ℕ) (r s : Refusal) → IsCause source r → IsCause source s → r ≡ s

-- a cause of a refusal has a line
abbrev pub CauseHasLine : Type 0
CauseHasLine = (source : List ℕ) (refusal : Refusal) → IsCause source refusal → (line : List ℕ) × IsLine source refusal line

-- a refusal of a source has at most one line
abbrev pub HasOneLine : Type 0
HasOneLine = (source : List ℕ) (refusal : Refusal) (l m : List ℕ) → IsLine source refusal l → IsLine source refusal m → l ≡ m

-- a source is accepted, or it has a cause of a refusal
abbrev pub IsAcceptedOrHasCause : Type 0
IsAcceptedOrHasCause = (source : List ℕ) → IsAccepted source ⊎ ((refusal : Refusal) × IsCause source refusal)

-- a source with a cause of a refusal is not accepted
abbrev pub RefusedIsNotAccepted : Type 0
RefusedIsNotAccepted = (source : List ℕ) (refusal : Refusal) → IsCause source refusal → IsAccepted source → ⊥

-- a join machine of a source is a sound machine
abbrev pub MachineIsSound : Type 0
MachineIsSound = (source : List ℕ) (limits : Limits) (program : Program) → IsMachine source limits program → IsSoundMachine program

-- each run of a join machine of a source takes no message twice, and serves its callers
abbrev pub MachineServesCallers : Type 0
MachineServesCallers = (source : List ℕ) (limits : Limits) (program : Program) (journal : List Entry) → IsMachine source limits program → IsRun program journal → ServesCallers program journal

-- in each run of a join machine of a source each trap stays with its body and that body's callers
abbrev pub MachineKeepsTraps : Type 0
MachineKeepsTraps = (source : List ℕ) (limits : Limits) (program : Program) (journal : List Entry) → IsMachine source limits program → IsRun program journal → KeepsTraps program journal

-- each run of a join machine of a source keeps to the types that the source's classes declare
abbrev pub MachineKeepsTypes : Type 0
MachineKeepsTypes =
    (source : List ℕ) (limits : Limits) (program : Program) (tree : ProgramTree) (journal : List Entry) → IsMachine source limits program → IsProgramOf source tree → IsRun program journal →
    KeepsTypes (resolved_program tree) program (signatures_of tree) journal

-- each body of such a run plays well, with the result type that it has there
abbrev pub MachinePlaysWell : Type 0
MachinePlaysWell =
    (source : List ℕ) (limits : Limits) (program : Program) (tree : ProgramTree) (journal : List Entry) (entry : Entry) (start : Start) →
    IsMachine source limits program → IsProgramOf source tree → IsRun program journal → IsIn entry journal → begins_as entry.what ≡ Some start →
    (result : Option StaticType) × IsResultType program (signatures_of tree) (reverse journal) entry.body result × ((depth : ℕ) → PlaysWell (signatures_of tree) (resolved_program tree) limits start depth result)

-- each body of a join machine of a source, begun on values of the types that the source's classes declare, comes to its end after finitely many asks, whatever fits they are answered
abbrev pub MachineEndsBodies : Type 0
MachineEndsBodies =
    (source : List ℕ) (limits : Limits) (program : Program) (tree : ProgramTree) (start : Start) (depth : ℕ) (result : Option StaticType) (supply : ℕ → End) →
    IsMachine source limits program → IsProgramOf source tree → BodyBegins program (signatures_of tree) start result → AnswersEachAsk program (signatures_of tree) start depth supply →
    ComesToEnd program (signatures_of tree) start depth result supply

-- a journal is a run of a join machine of the source that these arguments are about, takes no message twice, serves its callers, keeps traps to them, and keeps to the types that the source's classes declare
pub record IsReportedRun (arguments : List (List ℕ)) (left : Option (List ℕ)) (journal : List Entry) : Type 0 where
  pub request : Request
  pub requested : Requests arguments request
  pub source : List ℕ
  pub given : IsGiven (source_contents request left) source
  pub program : Program
  pub machine : IsMachine source request.limits program
  pub run : IsRun program journal
  pub serves : ServesCallers program journal
  pub traps : KeepsTraps program journal
  pub tree : ProgramTree
  pub of_source : IsProgramOf source tree
  pub types : KeepsTypes (resolved_program tree) program (signatures_of tree) journal

-- where the headline holds, the journal of the report is such a run
abbrev pub ReportIsRun : Type 0
ReportIsRun =
    (arguments : List (List ℕ)) (left : Option (List ℕ)) (report : Report) (before after : Option (List ℕ)) (journal : List Entry) →
    IsSilence report before after ⊎ Answers arguments left report before after → report.journal ≡ Some journal → IsReportedRun arguments left journal

-- These tokens are read as this program: it spells their kinds, no other program does, and none of them is wrong or too deep.
pub record AreReadAs (tokens : List Token) (program : ProgramTree) : Type 0 where
  pub spelled : spelling program ≡ token_kinds tokens
  pub only : (other : ProgramTree) → IsProgram other → spelling other ≡ token_kinds tokens → other ≡ program
  pub unrefused : (fault : ParseFault) → IsAnswer (token_kinds tokens) fault → fault ≡ faults.Memory

-- the tokens that a program spells are read as that program, if none of them is too deep
abbrev pub SpellingIsReadAgain : Type 0
SpellingIsReadAgain = (program : ProgramTree) → IsProgram program → IsNotTall program → AreReadAs (map without_span (spelling program)) program
