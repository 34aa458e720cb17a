-- Where no I/O call failed, an accepted source is run, and every other one is refused.
use Rattle.std.proofs.Common.{◌≡◌, ℕ, List, Option, Some, None, refl, sym, subst, ◌∙◌, inl, inr}
use Rattle.std.specs.Prelude.{◌⊎◌}
use Rattle.chord_io.specs.Faults.{Rose}
use Rattle.chord_run.specs.Answers.{Answers, IsSilence}
use Rattle.chord_run.specs.Command.{AreAccepted, Requests}
use Rattle.chord_run.specs.Due.{IsStatusOf, IsTextOf, MakesRun, source_contents}
use Rattle.chord_run.specs.Rows.{NoneFailed, RefusesOthers, RunsAccepted}
use Rattle.chord_run.specs.Sources.{IsAccepted}
use Rattle.chord_run.specs.Written.{IsGiven}
use Rattle.chord_run.specs.declared.command.Mode.{Mode}
use Rattle.chord_run.specs.declared.command.Mode.TheVariants.{Run, Rules, Code, Load}
use Rattle.chord_run.specs.declared.command.Request.{Request}
use Rattle.chord_run.specs.declared.report.Report.{Report}
use Rattle.chord_run.proofs.Causes.{cause_refuses, due_cases, run_status, text_accepted}

-- the causes of the silent answers and of the answer 5
pub record IsCaused (arguments : List (List ℕ)) (status read_before read_after write_before write_after : ℕ) : Type 0 where
  pub words : status ≡ 2 → AreAccepted arguments → ⊥
  pub read : status ≡ 3 → Rose read_before read_after
  pub write : status ≡ 5 → Rose write_before write_after

-- two values that one answer gives are one
one_value : {X : Type 0} {o : Option X} {x y : X} → o ≡ Some x → o ≡ Some y → x ≡ y
one_value a b = cc

-- arguments request at most one thing
pub one_request : (arguments : List (List ℕ)) (r s : Request) → Requests arguments r → Requests arguments s → r ≡ s
one_request arguments r s a b =
    let mode : r.mode ≡ s.mode = one_value a.says.mode b.says.mode in
    let limits : r.limits ≡ s.limits = one_value a.says.limits b.says.limits in
    let workers : r.workers ≡ s.workers = one_value a.says.workers b.says.workers in
    let one : r.one ≡ s.one = a.says.one ∙ sym b.says.one in
    let journal : r.journal ≡ s.journal = a.says.journal ∙ sym b.says.journal in
    same_request r s mode limits workers one journal
  where
    same_request : (r s : Request) → r.mode ≡ s.mode → r.limits ≡ s.limits → r.workers ≡ s.workers → r.one ≡ s.one → r.journal ≡ s.journal → r ≡ s
    same_request r s mode limits workers one journal = rw (mode, limits, workers, one, journal) refl

-- where no I/O call failed, a silent call ran out of memory
silent_is_memory : {arguments : List (List ℕ)} {r r' w w' : ℕ} (report : Report) (before after : Option (List ℕ)) → IsCaused arguments report.status r r' w w' → AreAccepted arguments → NoneFailed r r' w w' → IsSilence report before after → report.status ≡ 7
silent_is_memory report before after c a o s = elim s.silent [
  | inl two ↦ absurd (c.words two a)
  | inr (inl three) ↦ absurd (o.read (c.read three))
  | inr (inr seven) ↦ seven
]

-- the status of a run is one of a mode that makes runs
status_of_run : (mode : Mode) (status : ℕ) → MakesRun mode → (status ≡ 0) ⊎ ((status ≡ 4) ⊎ ((status ≡ 6) ⊎ (status ≡ 8))) → IsStatusOf mode status
status_of_run Run status m s = s
status_of_run Rules status m s = absurd m
status_of_run Code status m s = absurd m
status_of_run (Load k) status m s = s

-- 0 is the status of a mode that makes no run
status_of_text : (mode : Mode) (source text : List ℕ) (status : ℕ) → IsTextOf mode source text → status ≡ 0 → IsStatusOf mode status
status_of_text Run source text status x zero = absurd x
status_of_text Rules source text status x zero = zero
status_of_text Code source text status x zero = zero
status_of_text (Load k) source text status x zero = absurd x

-- what is answered where no write failed: a status of the mode for an accepted source, or 1
answer_of : {arguments : List (List ℕ)} {r r' w w' : ℕ} (left : Option (List ℕ)) (report : Report) (before after : Option (List ℕ)) → IsCaused arguments report.status r r' w w' → NoneFailed r r' w w' → (a : Answers arguments left report before after) → IsStatusOf a.request.mode report.status × IsAccepted a.source ⊎ (report.status ≡ 1) × (IsAccepted a.source → ⊥)
answer_of left report before after c o a = elim a.answered.written [
  | inl written ↦ elim (due_cases a.request a.source report.journal report.refusal a.answered.due a.answered.is_due) [
    | inl p ↦ inl (
      subst (λ s. IsStatusOf a.request.mode s) (sym written.0) (status_of_run a.request.mode a.answered.due.status p.2.mode (run_status p.2.program a.request.limits.events p.0 a.answered.due.status p.2.has_status)),
      (p.2.machine.0, p.2.machine.1),
    )
    | inr (inl q) ↦ inr (written.0 ∙ q.2.status_is, cause_refuses a.source q.0 q.2.cause)
    | inr (inr t) ↦ inl (
      status_of_text a.request.mode a.source a.answered.due.text report.status t.2.text (written.0 ∙ t.2.status_is),
      text_accepted a.request.mode a.source a.answered.due.text t.2.text,
    )
  ]
  | inr written ↦ absurd (o.write (c.write written.0))
]

-- the source that was answered is the one that a request is about
is_about : (left : Option (List ℕ)) (source found : List ℕ) (r request : Request) → r ≡ request → source_contents request left ≡ Some source → IsGiven (source_contents r left) found → found ≡ source
is_about left source found r request same contents given =
    sym (subst (λ z. IsGiven z found) contents (subst (λ (z : Request). IsGiven (source_contents z left) found) same given))

-- an accepted source has a status of the mode
pub runs_accepted : {arguments : List (List ℕ)} {r r' w w' : ℕ} (left : Option (List ℕ)) (report : Report) (before after : Option (List ℕ)) → IsCaused arguments report.status r r' w w' → IsSilence report before after ⊎ Answers arguments left report before after → (request : Request) → Requests arguments request → NoneFailed r r' w w' → RunsAccepted request.mode (source_contents request left) report.status
runs_accepted {arguments = arguments} left report before after c h request asks o = of_contents (source_contents request left) refl h
  where
    of_contents : (contents : Option (List ℕ)) → source_contents request left ≡ contents → IsSilence report before after ⊎ Answers arguments left report before after → RunsAccepted request.mode contents report.status
    of_contents None e h = tt
    of_contents (Some source) e (inl s) = λ accepted. inr (silent_is_memory report before after c (request, asks) o s)
    of_contents (Some source) e (inr a) = λ accepted.
        let same = one_request arguments a.request request a.requested asks in
        elim (answer_of left report before after c o a) [
          | inl run ↦ inl (subst (λ (z : Request). IsStatusOf z.mode report.status) same run.0)
          | inr refused ↦ absurd (refused.1 (subst IsAccepted (sym (is_about left source a.source a.request request same e a.given)) accepted))
        ]

-- every other source is refused
pub refuses_others : {arguments : List (List ℕ)} {r r' w w' : ℕ} (left : Option (List ℕ)) (report : Report) (before after : Option (List ℕ)) → IsCaused arguments report.status r r' w w' → IsSilence report before after ⊎ Answers arguments left report before after → (request : Request) → Requests arguments request → NoneFailed r r' w w' → RefusesOthers (source_contents request left) report.status
refuses_others {arguments = arguments} left report before after c h request asks o = of_contents (source_contents request left) refl h
  where
    of_contents : (contents : Option (List ℕ)) → source_contents request left ≡ contents → IsSilence report before after ⊎ Answers arguments left report before after → RefusesOthers contents report.status
    of_contents None e h = tt
    of_contents (Some source) e (inl s) = λ other. inr (silent_is_memory report before after c (request, asks) o s)
    of_contents (Some source) e (inr a) = λ other.
        let same = one_request arguments a.request request a.requested asks in
        elim (answer_of left report before after c o a) [
          | inl run ↦ absurd (other (subst IsAccepted (is_about left source a.source a.request request same e a.given) run.1))
          | inr refused ↦ inl refused.0
        ]
