-- Each status by its row: from the headline to the statuses one by one.
use Rattle.std.proofs.Common.{◌≡◌, ℕ, List, Option, Some, None, refl, sym, ap, subst, ◌∙◌, inl, inr, arith, true, false}
use Rattle.std.specs.Prelude.{◌⊎◌, Bool, if◌then◌else◌}
use Rattle.chord_base.specs.Meaning.{Program}
use Rattle.chord_base.specs.Printed.{has_failed, main_ended, status_of}
use Rattle.chord_base.specs.declared.event.Entry.{Entry}
use Rattle.chord_classes.specs.Breaks.{KeepsEveryRule}
use Rattle.chord_classes.specs.Rules.{Broken}
use Rattle.chord_lexer.proofs.Chains.{not_both, one_list}
use Rattle.chord_parser.proofs.Whole.{never_tall, not_wrong}
use Rattle.chord_parser.specs.declared.parser.ParseFault.TheVariants as parser
use Rattle.chord_tree.proofs.BackClasses.{only_one}
use Rattle.chord_tree.specs.Program.{token_kinds}
use Rattle.chord_tree.specs.Tree.{ProgramTree}
use Rattle.chord_run.specs.Answers.{Answers, AnswersSource, IsSilence, IsSilent}
use Rattle.chord_run.specs.Command.{Requested}
use Rattle.chord_run.specs.Due.{HasStatus, IsDue, IsRefusalDue, IsRunDue, IsTextDue, IsTextOf}
use Rattle.chord_run.specs.Refusals.{IsAnsweredBy, IsBroken, IsCause}
use Rattle.chord_run.specs.Rows.{CutsShort, Fills, Finishes, Refuses, Succeeds, WritesText}
use Rattle.chord_run.specs.Sources.{IsAccepted, IsProgramOf}
use Rattle.chord_run.specs.Written.{Due}
use Rattle.chord_run.specs.declared.command.Mode.{Mode}
use Rattle.chord_run.specs.declared.command.Mode.TheVariants.{Run, Rules, Code, Load}
use Rattle.chord_run.specs.declared.command.Request.{Request}
use Rattle.chord_run.specs.declared.refusal.Refusal.{Refusal}
use Rattle.chord_run.specs.declared.refusal.Refusal.TheVariants.{Long, Bad, Syntax, Tall, Rule}
use Rattle.chord_run.specs.declared.report.Report.{Report}

-- a source has one program
pub one_program : (source : List ℕ) (p q : ProgramTree) → IsProgramOf source p → IsProgramOf source q → p ≡ q
one_program source p q a b =
    let same : a.tokens ≡ b.tokens = one_list source a.tokens b.tokens a.read b.read in
    only_one p q a.is_program b.is_program (a.spelled ∙ ap token_kinds same ∙ sym b.spelled)

-- a source with a program has no token that fits none
pub syntax_not_program :
    (source : List ℕ) (program : ProgramTree) (k : ℕ) → IsAnsweredBy source (parser.At k) → IsProgramOf source program → ⊥
syntax_not_program source program k a g =
    let same = one_list source a.tokens g.tokens a.read g.read in
    not_wrong (token_kinds a.tokens) program a.answer.0 g.is_program (rw same g.spelled) a.answer.2

-- nor one that is too deep
pub tall_not_program :
    (source : List ℕ) (program : ProgramTree) (k : ℕ) → IsAnsweredBy source (parser.Tall k) → IsProgramOf source program → ⊥
tall_not_program source program k a g =
    let same = one_list source a.tokens g.tokens a.read g.read in
    never_tall (token_kinds a.tokens) program a.answer.0 g.is_program g.not_tall (rw same g.spelled) a.answer.2

-- a source whose program breaks a rule has none that keeps all
pub broken_not_kept :
    (source : List ℕ) (program : ProgramTree) (rule k : ℕ) → IsBroken source rule k → IsProgramOf source program → KeepsEveryRule program → ⊥
broken_not_kept source program rule k b g kept =
    kept rule k refl (subst (λ z. Broken z rule k) (one_program source b.program program b.of_source g) b.first.broken)

-- a source with a cause of a refusal is not accepted
pub cause_refuses : (source : List ℕ) (refusal : Refusal) → IsCause source refusal → IsAccepted source → ⊥
cause_refuses source Long long a = let s = a.1.of_source.short in omega arith
cause_refuses source (Bad k) bad a = not_both source a.1.of_source.tokens k a.1.of_source.read bad.1
cause_refuses source (Syntax k) c a = syntax_not_program source a.0 k c a.1.of_source
cause_refuses source (Tall k) c a = tall_not_program source a.0 k c a.1.of_source
cause_refuses source (Rule r k) c a = broken_not_kept source a.0 r k c a.1.of_source a.1.kept

-- the status of a journal by whether a body has failed and whether `Main` has ended
abbrev status_by : Bool → Bool → ℕ
status_by failed ended = if failed then 8 else if ended then 0 else 4

-- it is 0, 4 or 8
pick_cases : (failed ended : Bool) → (status_by failed ended ≡ 0) ⊎ (status_by failed ended ≡ 4) ⊎ (status_by failed ended ≡ 8)
pick_cases true ended = inr (inr refl)
pick_cases false true = inl refl
pick_cases false false = inr (inl refl)

-- the status of a journal is 0, 4 or 8
pub status_cases : (journal : List Entry) → (status_of journal ≡ 0) ⊎ (status_of journal ≡ 4) ⊎ (status_of journal ≡ 8)
status_cases journal = pick_cases (has_failed journal) (main_ended journal)

-- and so not 6
status_not_six : (journal : List Entry) → status_of journal ≡ 6 → ⊥
status_not_six journal six = elim (status_cases journal) [
  | inl a ↦ omega arith
  | inr (inl a) ↦ omega arith
  | inr (inr a) ↦ omega arith
]

-- nor 1
status_not_one : (journal : List Entry) → status_of journal ≡ 1 → ⊥
status_not_one journal one = elim (status_cases journal) [
  | inl a ↦ omega arith
  | inr (inl a) ↦ omega arith
  | inr (inr a) ↦ omega arith
]

-- the text of a mode that makes no run is due for an accepted source alone
pub text_accepted : (mode : Mode) (source text : List ℕ) → IsTextOf mode source text → IsAccepted source
text_accepted Run source text x = absurd x
text_accepted Rules source text x = x.0
text_accepted Code source text x = (x.program, x.accepted)
text_accepted (Load k) source text x = absurd x

-- what is due is due for the journal of the report, or for its refusal, or it is the text of a mode that makes no run
pub due_cases : (request : Request) (source : List ℕ) (j : Option (List Entry)) (r : Option Refusal) (due : Due) → IsDue request source j r due → ((journal : List Entry) × (j ≡ Some journal) × IsRunDue request source journal due) ⊎ (((refusal : Refusal) × (r ≡ Some refusal) × IsRefusalDue source refusal due) ⊎ ((j ≡ None) × (r ≡ None) × IsTextDue request source due))
due_cases request source (Some journal) None due d = inl (journal, refl, d)
due_cases request source None (Some refusal) due d = inr (inl (refusal, refl, d))
due_cases request source None None due d = inr (inr (refl, refl, d))
due_cases request source (Some journal) (Some refusal) due d = absurd d

-- the statuses with which something is written
abbrev pub IsLoud : ℕ → Type 0
IsLoud status = (status ≡ 0) ⊎ ((status ≡ 1) ⊎ ((status ≡ 4) ⊎ ((status ≡ 5) ⊎ ((status ≡ 6) ⊎ (status ≡ 8)))))

-- a run has the status 0, 4, 6 or 8
pub run_status : (program : Program) (events : ℕ) (journal : List Entry) (status : ℕ) → HasStatus program events journal status → (status ≡ 0) ⊎ ((status ≡ 4) ⊎ ((status ≡ 6) ⊎ (status ≡ 8)))
run_status program events journal status (inl complete) = elim (status_cases journal) [
  | inl a ↦ inl (complete.status_is ∙ a)
  | inr (inl a) ↦ inr (inl (complete.status_is ∙ a))
  | inr (inr a) ↦ inr (inr (inr (complete.status_is ∙ a)))
]
run_status program events journal status (inr full) = inr (inr (inl full.1))

-- what is due has one of the statuses 0, 1, 4, 6 and 8
pub due_status : (request : Request) (source : List ℕ) (j : Option (List Entry)) (r : Option Refusal) (due : Due) → IsDue request source j r due → (due.status ≡ 1) ⊎ ((due.status ≡ 0) ⊎ ((due.status ≡ 4) ⊎ ((due.status ≡ 6) ⊎ (due.status ≡ 8))))
due_status request source j r due d = elim (due_cases request source j r due d) [
  | inl p ↦ inr (run_status p.2.program request.limits.events p.0 due.status p.2.has_status)
  | inr (inl q) ↦ inl q.2.status_is
  | inr (inr t) ↦ inr (inl t.2.status_is)
]

-- and so not 5
due_not_five : (request : Request) (source : List ℕ) (j : Option (List Entry)) (r : Option Refusal) (due : Due) → IsDue request source j r due → due.status ≡ 5 → ⊥
due_not_five request source j r due d five = elim (due_status request source j r due d) [
  | inl a ↦ omega (arith, a, five)
  | inr (inl a) ↦ omega (arith, a, five)
  | inr (inr (inl a)) ↦ omega (arith, a, five)
  | inr (inr (inr (inl a))) ↦ omega (arith, a, five)
  | inr (inr (inr (inr a))) ↦ omega (arith, a, five)
]

-- an answered source has a status with which something is written
pub answers_loud : (request : Request) (source : List ℕ) (report : Report) (before after : Option (List ℕ)) → AnswersSource request source report before after → IsLoud report.status
answers_loud request source report before after a = elim a.written [
  | inl w ↦ elim (due_status request source report.journal report.refusal a.due a.is_due) [
    | inl s ↦ inr (inl (w.0 ∙ s))
    | inr (inl s) ↦ inl (w.0 ∙ s)
    | inr (inr (inl s)) ↦ inr (inr (inl (w.0 ∙ s)))
    | inr (inr (inr (inl s))) ↦ inr (inr (inr (inr (inl (w.0 ∙ s)))))
    | inr (inr (inr (inr s))) ↦ inr (inr (inr (inr (inr (w.0 ∙ s)))))
  ]
  | inr w ↦ inr (inr (inr (inl w.0)))
]

-- a number that is none of 2, 3 and 7 is no silent status
not_silent : (n k : ℕ) → n ≡ k → (k ≡ 2 → ⊥) → (k ≡ 3 → ⊥) → (k ≡ 7 → ⊥) → IsSilent n → ⊥
not_silent n k e two three seven (inl s) = two (sym e ∙ s)
not_silent n k e two three seven (inr (inl s)) = three (sym e ∙ s)
not_silent n k e two three seven (inr (inr s)) = seven (sym e ∙ s)

-- no status is both
pub loud_not_silent : (n : ℕ) → IsLoud n → IsSilent n → ⊥
loud_not_silent n l s = elim l [
  | inl e ↦ not_silent n 0 e (λ x. omega (arith, x)) (λ x. omega (arith, x)) (λ x. omega (arith, x)) s
  | inr (inl e) ↦ not_silent n 1 e (λ x. omega (arith, x)) (λ x. omega (arith, x)) (λ x. omega (arith, x)) s
  | inr (inr (inl e)) ↦ not_silent n 4 e (λ x. omega (arith, x)) (λ x. omega (arith, x)) (λ x. omega (arith, x)) s
  | inr (inr (inr (inl e))) ↦ not_silent n 5 e (λ x. omega (arith, x)) (λ x. omega (arith, x)) (λ x. omega (arith, x)) s
  | inr (inr (inr (inr (inl e)))) ↦ not_silent n 6 e (λ x. omega (arith, x)) (λ x. omega (arith, x)) (λ x. omega (arith, x)) s
  | inr (inr (inr (inr (inr e)))) ↦ not_silent n 8 e (λ x. omega (arith, x)) (λ x. omega (arith, x)) (λ x. omega (arith, x)) s
]

-- by the headline, a call with such a status answers
pub answers_of : (arguments : List (List ℕ)) (left : Option (List ℕ)) (report : Report) (before after : Option (List ℕ)) → IsSilence report before after ⊎ Answers arguments left report before after → IsLoud report.status → Answers arguments left report before after
answers_of arguments left report before after (inl s) l = absurd (loud_not_silent report.status l s.silent)
answers_of arguments left report before after (inr a) l = a

-- and with a silent status nothing is written
pub silence_of : (arguments : List (List ℕ)) (left : Option (List ℕ)) (report : Report) (before after : Option (List ℕ)) → IsSilence report before after ⊎ Answers arguments left report before after → IsSilent report.status → IsSilence report before after
silence_of arguments left report before after (inl s) l = s
silence_of arguments left report before after (inr a) l = absurd (loud_not_silent report.status (answers_loud a.request a.source report before after a.answered) l)

-- 0, 4 and 8: the journal is complete, or it is 0 and the mode makes no run
finishes_or : (arguments : List (List ℕ)) (left : Option (List ℕ)) (report : Report) (before after : Option (List ℕ)) (status : ℕ) → (status ≡ 1 → ⊥) → (status ≡ 5 → ⊥) → (status ≡ 6 → ⊥) → (a : Answers arguments left report before after) → report.status ≡ status → Finishes a.request left report before after status ⊎ ((status ≡ 0) × WritesText a.request left report before after)
finishes_or arguments left report before after status no1 no5 no6 a e = elim a.answered.written [
  | inl w ↦ elim (due_cases a.request a.source report.journal report.refusal a.answered.due a.answered.is_due) [
    | inl p ↦ elim p.2.has_status [
      | inl complete ↦ inl (record {
        source = a.source;
        given = a.given;
        program = p.2.program;
        machine = p.2.machine;
        journal = p.0;
        reported = p.1;
        complete = complete.complete;
        within = complete.within;
        status_is = sym complete.status_is ∙ sym w.0 ∙ e;
        written = rw p.2.text at w.1;
      })
      | inr full ↦ absurd (no6 (sym e ∙ w.0 ∙ full.1))
    ]
    | inr (inl q) ↦ absurd (no1 (sym e ∙ w.0 ∙ q.2.status_is))
    | inr (inr t) ↦ inr (
      sym e ∙ w.0 ∙ t.2.status_is,
      record {
        source = a.source;
        given = a.given;
        journal = t.0;
        refusal = t.1;
        text = a.answered.due.text;
        is_text = t.2.text;
        written = w.1;
      },
    )
  ]
  | inr w ↦ absurd (no5 (sym e ∙ w.0))
]

-- 0
pub succeeds : (arguments : List (List ℕ)) (left : Option (List ℕ)) (report : Report) (before after : Option (List ℕ)) → Answers arguments left report before after → report.status ≡ 0 → Requested arguments (λ request. Succeeds request left report before after)
succeeds arguments left report before after a e = (a.request, a.requested, elim (finishes_or arguments left report before after 0 (λ x. omega (arith, x)) (λ x. omega (arith, x)) (λ x. omega (arith, x)) a e) [ inl f ↦ inl f | inr t ↦ inr t.1 ])

-- 4 and 8
pub finishes_with : (arguments : List (List ℕ)) (left : Option (List ℕ)) (report : Report) (before after : Option (List ℕ)) (status : ℕ) → (status ≡ 0 → ⊥) → (status ≡ 1 → ⊥) → (status ≡ 5 → ⊥) → (status ≡ 6 → ⊥) → Answers arguments left report before after → report.status ≡ status → Requested arguments (λ request. Finishes request left report before after status)
finishes_with arguments left report before after status no0 no1 no5 no6 a e = (a.request, a.requested, elim (finishes_or arguments left report before after status no1 no5 no6 a e) [ inl f ↦ f | inr t ↦ absurd (no0 t.0) ])

-- 6
pub fills : (arguments : List (List ℕ)) (left : Option (List ℕ)) (report : Report) (before after : Option (List ℕ)) → Answers arguments left report before after → report.status ≡ 6 → Requested arguments (λ request. Fills request left report before after)
fills arguments left report before after a e = filled (λ x. omega (arith, x)) (λ x. omega (arith, x)) (λ x. omega (arith, x))
  where
    filled : (◌≡◌ {A = ℕ} 6 1 → ⊥) → (◌≡◌ {A = ℕ} 6 0 → ⊥) → (◌≡◌ {A = ℕ} 6 5 → ⊥) → Requested arguments (λ request. Fills request left report before after)
    filled no1 no0 no5 = (
      a.request,
      a.requested,
      elim a.answered.written [
        | inl w ↦ elim (due_cases a.request a.source report.journal report.refusal a.answered.due a.answered.is_due) [
          | inl p ↦ elim p.2.has_status [
            | inl complete ↦ absurd (status_not_six p.0 (sym complete.status_is ∙ sym w.0 ∙ e))
            | inr full ↦ record {
              source = a.source;
              given = a.given;
              program = p.2.program;
              machine = p.2.machine;
              journal = p.0;
              reported = p.1;
              full = full.0;
              written = rw p.2.text at w.1;
            }
          ]
          | inr (inl q) ↦ absurd (no1 (sym e ∙ w.0 ∙ q.2.status_is))
          | inr (inr t) ↦ absurd (no0 (sym e ∙ w.0 ∙ t.2.status_is))
        ]
        | inr w ↦ absurd (no5 (sym e ∙ w.0))
      ],
    )

-- 1
pub refuses : (arguments : List (List ℕ)) (left : Option (List ℕ)) (report : Report) (before after : Option (List ℕ)) → Answers arguments left report before after → report.status ≡ 1 → Requested arguments (λ request. Refuses request left report before after)
refuses arguments left report before after a e = refused (λ x. omega (arith, x)) (λ x. omega (arith, x)) (λ x. omega (arith, x))
  where
    refused : (◌≡◌ {A = ℕ} 1 6 → ⊥) → (◌≡◌ {A = ℕ} 1 0 → ⊥) → (◌≡◌ {A = ℕ} 1 5 → ⊥) → Requested arguments (λ request. Refuses request left report before after)
    refused no6 no0 no5 = (
      a.request,
      a.requested,
      elim a.answered.written [
        | inl w ↦ elim (due_cases a.request a.source report.journal report.refusal a.answered.due a.answered.is_due) [
          | inl p ↦ elim p.2.has_status [
            | inl complete ↦ absurd (status_not_one p.0 (sym complete.status_is ∙ sym w.0 ∙ e))
            | inr full ↦ absurd (no6 (sym e ∙ w.0 ∙ full.1))
          ]
          | inr (inl q) ↦ record {
            source = a.source;
            given = a.given;
            refusal = q.0;
            reported = q.1;
            cause = q.2.cause;
            not_accepted = cause_refuses a.source q.0 q.2.cause;
            line = a.answered.due.text;
            is_line = q.2.text;
            written = w.1;
          }
          | inr (inr t) ↦ absurd (no0 (sym e ∙ w.0 ∙ t.2.status_is))
        ]
        | inr w ↦ absurd (no5 (sym e ∙ w.0))
      ],
    )

-- 5
pub cuts_short : (arguments : List (List ℕ)) (left : Option (List ℕ)) (report : Report) (before after : Option (List ℕ)) → Answers arguments left report before after → report.status ≡ 5 → Requested arguments (λ request. CutsShort request left report before after)
cuts_short arguments left report before after a e = (
  a.request,
  a.requested,
  elim a.answered.written [
    | inl w ↦ absurd (due_not_five a.request a.source report.journal report.refusal a.answered.due a.answered.is_due (sym w.0 ∙ e))
    | inr w ↦ record { source = a.source; given = a.given; due = a.answered.due; is_due = a.answered.is_due; written = w.1 }
  ],
)
