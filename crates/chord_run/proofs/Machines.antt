-- The join machine of a source is sound, its bodies come to their ends, and its runs, with the journals of reports, serve their callers, keep traps to them and keep to types, and their bodies play well.
use Rattle.std.proofs.Common.{◌≡◌, ◌∙◌, ℕ, Bool, List, Option, Some, None, ap, refl, reverse, subst, sym, inl, inr}
use Rattle.chord_base.specs.Machine.{IsRun}
use Rattle.chord_base.specs.Meaning.{Program}
use Rattle.chord_base.specs.declared.event.Entry.{Entry}
use Rattle.chord_base.specs.declared.event.Limits.{Limits}
use Rattle.chord_bodies.specs.Planned.{IsPlanned}
use Rattle.chord_classes.specs.Breaks.{KeepsEveryRule}
use Rattle.chord_classes.specs.Laws.{PlanKept, TypesKept}
use Rattle.chord_classes.specs.Plan.{resolved_program}
use Rattle.chord_classes.specs.Rules.{IsFree, is_plan_rule, is_type_rule}
use Rattle.chord_classes.specs.Types.{signatures_of}
use Rattle.chord_run.proofs.BodyEnds.{body_ends}
use Rattle.chord_run.proofs.Causes.{one_program}
use Rattle.chord_run.specs.Due.{HasStatus, IsDue, IsRunDue}
use Rattle.chord_run.specs.Laws.{MachineEndsBodies, MachineIsSound, MachineKeepsTraps, MachineKeepsTypes, MachinePlaysWell, MachineServesCallers, ReportIsRun}
use Rattle.chord_run.specs.Sources.{IsMachine, IsProgramOf}
use Rattle.chord_run.specs.Written.{Due}
use Rattle.chord_run.specs.declared.command.Request.{Request}
use Rattle.chord_run.specs.declared.refusal.Refusal.{Refusal}
use Rattle.chord_code.specs.Runs.{IsResultType}
use Rattle.chord_source.specs.Callers.{RunsServeCallers}
use Rattle.chord_source.specs.Laws.{AreWellTyped, EachEnds, IsSoundMachine, MachinesAreSound}
use Rattle.chord_source.specs.Source.{source_program}
use Rattle.chord_source.specs.Traps.{HandsTrapsOn, RunsKeepTraps, SourcesHandTrapsOn}
use Rattle.chord_source.specs.TypedRuns.{KeepsTypes, RunsKeepTypes, RunsPlayWell}
use Rattle.chord_tree.specs.Tree.{ProgramTree}

-- a program that breaks no rule breaks none of these
kept_among : (p : ProgramTree) (mine : ℕ → Bool) → KeepsEveryRule p → IsFree mine p
kept_among p mine kept rule token is broken = kept rule token refl broken

-- the machine is the meaning of a program whose bodies, and whose plan, keep to the types that its classes declare
record IsTypedMeaning (limits : Limits) (program : Program) (tree : ProgramTree) : Type 0 where
  typed : AreWellTyped (signatures_of tree) (resolved_program tree)
  planned : IsPlanned (signatures_of tree) (resolved_program tree)
  is_meaning : program ≡ source_program (resolved_program tree) limits

-- the join machine of a source is the meaning of the source's program, which keeps to them
typed_meaning : TypesKept → PlanKept → (source : List ℕ) (limits : Limits) (program : Program) (tree : ProgramTree) → IsMachine source limits program → IsProgramOf source tree → IsTypedMeaning limits program tree
typed_meaning types plan source limits program tree m g =
    let same : m.0 ≡ tree = one_program source m.0 tree m.1.of_source g in
    let kept : KeepsEveryRule tree = subst KeepsEveryRule same m.1.kept in
    record {
      typed = types tree g.is_program (kept_among tree is_type_rule kept);
      planned = plan tree g.is_program (kept_among tree is_plan_rule kept);
      is_meaning = m.2 ∙ ap (λ (z : ProgramTree). source_program (resolved_program z) limits) same;
    }

-- the join machine of a source is sound
pub machine_is_sound : TypesKept → PlanKept → MachinesAreSound → MachineIsSound
machine_is_sound types plan sound source limits program m =
    let k = typed_meaning types plan source limits program m.0 m m.1.of_source in
    subst IsSoundMachine (sym k.is_meaning) (sound (signatures_of m.0) (resolved_program m.0) k.typed k.planned limits)

-- each run of it serves its callers
pub run_serves : MachineIsSound → RunsServeCallers → MachineServesCallers
run_serves sound serve source limits program journal m run = serve program journal (sound source limits program m) run

-- in each run of it each trap stays with its body and that body's callers
pub run_keeps_traps : SourcesHandTrapsOn → RunsKeepTraps → MachineKeepsTraps
run_keeps_traps hand keep source limits program journal m run = keep program journal (subst HandsTrapsOn (sym m.2) (hand (resolved_program m.0) limits)) run

-- each run of it keeps to the types that the source's classes declare
pub run_keeps_types : TypesKept → PlanKept → RunsKeepTypes → MachineKeepsTypes
run_keeps_types types plan keep source limits program tree journal m g run =
    let k = typed_meaning types plan source limits program tree m g in
    let kept = keep (signatures_of tree) (resolved_program tree) k.typed k.planned limits journal (subst (λ (z : Program). IsRun z journal) k.is_meaning run) in
    subst (λ (z : Program). KeepsTypes (resolved_program tree) z (signatures_of tree) journal) (sym k.is_meaning) kept

-- each body of such a run plays well
pub run_plays_well : TypesKept → PlanKept → RunsPlayWell → MachinePlaysWell
run_plays_well types plan play source limits program tree journal entry start m g run in_journal begins =
    let k = typed_meaning types plan source limits program tree m g in
    let well = play (signatures_of tree) (resolved_program tree) k.typed k.planned limits journal (subst (λ (z : Program). IsRun z journal) k.is_meaning run) entry start in_journal begins in
    (well.0, subst (λ (z : Program). IsResultType z (signatures_of tree) (reverse journal) entry.body well.0) (sym k.is_meaning) well.1, well.2)

-- each body of it comes to its end
pub machine_ends_bodies : TypesKept → PlanKept → EachEnds → MachineEndsBodies
machine_ends_bodies types plan ends source limits program tree start depth result supply m g begins answers =
    let k = typed_meaning types plan source limits program tree m g in
    body_ends ends (signatures_of tree) (resolved_program tree) k.typed k.planned limits program k.is_meaning start depth result supply begins answers

-- a journal that has a status is a run
is_run : (program : Program) (events : ℕ) (journal : List Entry) (status : ℕ) → HasStatus program events journal status → IsRun program journal
is_run program events journal status (inl c) = c.complete.past
is_run program events journal status (inr f) = f.0.run

-- where the report has a journal, a run is due
run_due : (request : Request) (source : List ℕ) (j : Option (List Entry)) (r : Option Refusal) (due : Due) (journal : List Entry) → j ≡ Some journal → IsDue request source j r due → IsRunDue request source journal due
run_due request source (Some found) None due journal e d =
    let same : found ≡ journal = cc in
    subst (λ (z : List Entry). IsRunDue request source z due) same d
run_due request source (Some found) (Some refusal) due journal e d = absurd d
run_due request source None (Some refusal) due journal e d = absurd (cc)
run_due request source None None due journal e d = absurd (cc)

-- the journal of a report is a run that serves its callers, keeps traps to them and keeps to types
pub report_is_run : MachineServesCallers → MachineKeepsTraps → MachineKeepsTypes → ReportIsRun
report_is_run serves traps types arguments left report before after journal (inl silence) reported = absurd (let none = silence.nothing.journal in cc)
report_is_run serves traps types arguments left report before after journal (inr a) reported =
    let due = run_due a.request a.source report.journal report.refusal a.answered.due journal reported a.answered.is_due in
    let run = is_run due.program a.request.limits.events journal a.answered.due.status due.has_status in
    record {
      request = a.request;
      requested = a.requested;
      source = a.source;
      given = a.given;
      program = due.program;
      machine = due.machine;
      run = run;
      serves = serves a.source a.request.limits due.program journal due.machine run;
      traps = traps a.source a.request.limits due.program journal due.machine run;
      tree = due.machine.0;
      of_source = due.machine.1.of_source;
      types = types a.source a.request.limits due.program due.machine.0 journal due.machine due.machine.1.of_source run;
    }
