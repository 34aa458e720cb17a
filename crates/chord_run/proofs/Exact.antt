-- Answers are exact: a source has one machine, a refusal has one line, and what was taken whole comes with the status that is due.
use Rattle.std.proofs.Common.{◌≡◌, ℕ, ◌<◌, List, ◌∷◌, ◌++◌, Option, Some, None, sym, ap, subst, ◌∙◌, inl, inr, codes, arith, length-append}
use Rattle.std.specs.Prelude.{◌⊎◌, length}
use Rattle.chord_base.specs.Machine.{IsComplete}
use Rattle.chord_base.specs.Meaning.{Program}
use Rattle.chord_base.specs.Printed.{status_of}
use Rattle.chord_base.specs.declared.event.Limits.{Limits}
use Rattle.chord_base.specs.declared.event.Entry.{Entry}
use Rattle.chord_io.specs.Pieces.{Took}
use Rattle.chord_io.proofs.Joined.{not_whole}
use Rattle.chord_lexer.proofs.Chains.{one_list}
use Rattle.chord_lexer.specs.Reading.{after_byte_order_mark}
use Rattle.chord_bodies.specs.Resolved.{Resolved}
use Rattle.chord_classes.specs.Plan.{resolved_program}
use Rattle.chord_gen.specs.Listing.{class_listed, listing_text, numbered}
use Rattle.chord_gen.specs.Translation.{code_of}
use Rattle.chord_run.specs.Answers.{Answers, IsSilence}
use Rattle.chord_run.specs.Command.{Requests}
use Rattle.chord_run.specs.Due.{HasStatus, IsDue, IsFull, IsRefusalDue, IsTextDue, IsTextOf, source_contents, text_due}
use Rattle.chord_run.specs.Refusals.{IsLine, IsTokenAt, rule_front, token_start, with_position}
use Rattle.chord_run.specs.Positions.{position_of}
use Rattle.chord_run.specs.Rows.{AreSpecified, IsExact}
use Rattle.chord_run.specs.Sources.{IsMachine}
use Rattle.chord_run.specs.Written.{Due, IsGiven, IsSpecified, IsWritten}
use Rattle.chord_run.specs.declared.command.Mode.{Mode}
use Rattle.chord_run.specs.declared.command.Mode.TheVariants.{Run, Rules, Code, Load}
use Rattle.chord_run.specs.declared.command.Request.{Request}
use Rattle.chord_run.specs.declared.refusal.Refusal.{Refusal}
use Rattle.chord_run.specs.declared.refusal.Refusal.TheVariants.{Long, Bad, Syntax, Tall, Rule}
use Rattle.chord_run.specs.declared.report.Report.{Report}
use Rattle.chord_run.proofs.Causes.{one_program}
use Rattle.chord_run.proofs.Complete.{one_request}
use Rattle.chord_source.specs.Source.{source_program}

-- a source has at most one machine
pub one_machine : (source : List ℕ) (limits : Limits) (p q : Program) → IsMachine source limits p → IsMachine source limits q → p ≡ q
one_machine source limits p q a b =
    let same = one_program source a.0 b.0 a.1.of_source b.1.of_source in
    a.2 ∙ ap (λ program. source_program (resolved_program program) limits) same ∙ sym b.2

-- a token of a source begins at one byte
one_start : (source : List ℕ) (k i j : ℕ) → IsTokenAt source k i → IsTokenAt source k j → i ≡ j
one_start source k i j a b =
    a.at ∙ ap (λ tokens. token_start tokens k (length (after_byte_order_mark source))) (one_list source a.tokens b.tokens a.read b.read) ∙ sym b.at

-- a refusal of a source has one line
pub one_line : (source : List ℕ) (refusal : Refusal) (l m : List ℕ) → IsLine source refusal l → IsLine source refusal m → l ≡ m
one_line source Long l m a b = a ∙ sym b
one_line source (Bad k) l m a b =
    a.2 ∙ ap (λ byte. with_position (codes "refused byte ") (position_of (after_byte_order_mark source) byte)) (a.1.1 ∙ sym b.1.1) ∙ sym b.2
one_line source (Syntax k) l m a b =
    let same = one_start source k a.0 b.0 a.1.1 b.1.1 in
    a.2 ∙ ap (λ byte. with_position (codes "refused syntax ") (position_of (after_byte_order_mark source) byte)) same ∙ sym b.2
one_line source (Tall k) l m a b =
    let same = one_start source k a.0 b.0 a.1.1 b.1.1 in
    a.2 ∙ ap (λ byte. with_position (codes "refused tall ") (position_of (after_byte_order_mark source) byte)) same ∙ sym b.2
one_line source (Rule r k) l m a b =
    let same = one_start source k a.0 b.0 a.1.1 b.1.1 in
    a.2 ∙ ap (λ byte. with_position (rule_front r) (position_of (after_byte_order_mark source) byte)) same ∙ sym b.2

-- a mode that makes no run has one text of a source
one_text : (mode : Mode) (source l m : List ℕ) → IsTextOf mode source l → IsTextOf mode source m → l ≡ m
one_text Run source l m a b = absurd a
one_text Rules source l m a b = a.1 ∙ sym b.1
one_text Code source l m a b =
    let same = one_program source a.program b.program a.accepted.of_source b.accepted.of_source in
    a.text_is ∙ ap (λ p. listing_text (code_of (resolved_program p))) same ∙ sym b.text_is
one_text (Load k) source l m a b = absurd a

-- a text with a byte in it is not empty
not_empty : (xs : List ℕ) (b : ℕ) (ys : List ℕ) → 0 < length (xs ++ b ∷ ys)
not_empty xs b ys = let l = length-append xs (b ∷ ys) in omega (arith, l)

-- a listing has the lines of the block of `Main`
some_listing : (p : Resolved) → 0 < length (listing_text (code_of p))
some_listing p = not_empty (numbered class_listed 0 (code_of p).classes) 98 _

-- the text of a mode that makes no run is not empty
some_text : (mode : Mode) (source text : List ℕ) → IsTextOf mode source text → 0 < length text
some_text Run source text x = absurd x
some_text Rules source text x = rw x.1 (omega arith)
some_text Code source text x = rw x.text_is (some_listing (resolved_program x.program))
some_text (Load k) source text x = absurd x

-- where a text that is not empty was taken, something was
something_taken : (bytes text : List ℕ) (after : Option (List ℕ)) → 0 < length text → Took (Some bytes) text after → after ≡ Some bytes → ⊥
something_taken bytes text after some took same =
    let e : bytes ++ text ≡ bytes = cc in
    let l = length-append bytes text in
    omega (arith, some, l, ap length e)

-- what is due was written whole, so the status is the one that is due
whole_is_due :
    (bytes : List ℕ) (after : Option (List ℕ)) (due : Due) (status : ℕ) → IsWritten due status (Some bytes) after →
    Took (Some bytes) due.text after → status ≡ due.status
whole_is_due bytes after due status (inl written) whole = written.0
whole_is_due bytes after due status (inr cut) whole = absurd (not_whole bytes after due.text whole cut.1)

-- a complete run has its own status
complete_has :
    (program : Program) (events : ℕ) (journal : List Entry) (status : ℕ) → IsComplete program journal →
    HasStatus program events journal status → status ≡ status_of journal
complete_has program events journal status complete (inl c) = c.status_is
complete_has program events journal status complete (inr full) = absurd (complete.nothing full.0.next full.0.follows)

-- a run that is full has 6
full_has :
    (program : Program) (events most : ℕ) (journal : List Entry) (status : ℕ) → IsFull program most journal →
    HasStatus program events journal status → status ≡ 6
full_has program events most journal status full (inl c) = absurd (c.complete.nothing full.next full.follows)
full_has program events most journal status full (inr f) = f.1

-- what is due where the report has a journal of the source's machine
record IsDueFor (request : Request) (program : Program) (journal : List Entry) (due : Due) : Type 0 where
  pub has_status : HasStatus program request.limits.events journal due.status
  pub text : due.text ≡ text_due request journal

-- where the report has a journal, this is due
due_for :
    (request : Request) (source : List ℕ) (program : Program) (journal : List Entry) (j : Option (List Entry)) (r : Option Refusal) (due : Due) →
    IsMachine source request.limits program → j ≡ Some journal → IsDue request source j r due → IsDueFor request program journal due
due_for request source program journal (Some found) None due machine e d =
    let same : found ≡ journal = cc in
    let one : d.program ≡ program = one_machine source request.limits d.program program d.machine machine in
    record { has_status = rw (one, same) at d.has_status; text = d.text ∙ ap (text_due request) same }
due_for request source program journal None (Some refusal) due machine e d = absurd (cc)
due_for request source program journal None None due machine e d = absurd (cc)
due_for request source program journal (Some found) (Some refusal) due machine e d = absurd d

-- what is due where the report has a refusal
due_refusal :
    (request : Request) (source : List ℕ) (refusal : Refusal) (j : Option (List Entry)) (r : Option Refusal) (due : Due) → r ≡ Some refusal →
    IsDue request source j r due → IsRefusalDue source refusal due
due_refusal request source refusal None (Some found) due e d =
    let same : found ≡ refusal = cc in
    rw same at d
due_refusal request source refusal (Some journal) None due e d = absurd (cc)
due_refusal request source refusal None None due e d = absurd (cc)
due_refusal request source refusal (Some journal) (Some found) due e d = absurd d

-- what is due where the report has neither a journal nor a refusal
due_text :
    (request : Request) (source : List ℕ) (j : Option (List Entry)) (r : Option Refusal) (due : Due) → j ≡ None → r ≡ None →
    IsDue request source j r due → IsTextDue request source due
due_text request source None None due e h d = d
due_text request source (Some journal) None due e h d = absurd (cc)
due_text request source None (Some refusal) due e h d = absurd (cc)
due_text request source (Some journal) (Some refusal) due e h d = absurd d

-- specified contents are those of one source
one_source : (contents : Option (List ℕ)) (l m : List ℕ) → IsSpecified contents → IsGiven contents l → IsGiven contents m → l ≡ m
one_source None l m specified a b = absurd specified
one_source (Some bytes) l m specified a b = sym a ∙ b

-- where the text of a journal of the source's machine was written, the journal has the status
given_by :
    (arguments : List (List ℕ)) (left : Option (List ℕ)) (bytes : List ℕ) (report : Report) (after : Option (List ℕ)) (program : Program) (journal : List Entry) →
    (a : Answers arguments left report (Some bytes) after) → IsMachine a.source a.request.limits program → report.journal ≡ Some journal →
    Took (Some bytes) (text_due a.request journal) after → HasStatus program a.request.limits.events journal report.status
given_by arguments left bytes report after program journal a machine reported written =
    let due = due_for a.request a.source program journal _ _ a.answered.due machine reported a.answered.is_due in
    rw (whole_is_due bytes after a.answered.due report.status a.answered.written (rw due.text written)) due.has_status

-- the causes have their statuses, where something was answered
exact_answers :
    (arguments : List (List ℕ)) (left : Option (List ℕ)) (bytes : List ℕ) (report : Report) (after : Option (List ℕ)) →
    (a : Answers arguments left report (Some bytes) after) → IsSpecified (source_contents a.request left) → IsExact a.request left report (Some bytes) after
exact_answers arguments left bytes report after a specified = record {
  finishes = λ status f.
      let machine = subst (λ z. IsMachine z a.request.limits f.program) (is_of f.source f.given) f.machine in
      let has = given_by arguments left bytes report after f.program f.journal a machine f.reported f.written in
      complete_has f.program a.request.limits.events f.journal report.status f.complete has ∙ f.status_is;
  fills = λ f.
      let machine = subst (λ z. IsMachine z a.request.limits f.program) (is_of f.source f.given) f.machine in
      let has = given_by arguments left bytes report after f.program f.journal a machine f.reported f.written in
      full_has f.program a.request.limits.events a.request.limits.events f.journal report.status f.full has;
  refuses = λ f.
      let due = due_refusal a.request a.source f.refusal _ _ a.answered.due f.reported a.answered.is_due in
      let line = subst (λ z. IsLine z f.refusal f.line) (is_of f.source f.given) f.is_line in
      let same = one_line a.source f.refusal a.answered.due.text f.line due.text line in
      let whole : Took (Some bytes) a.answered.due.text after = rw same f.written in
      whole_is_due bytes after a.answered.due report.status a.answered.written whole ∙ due.status_is;
  writes_text = λ f.
      let due = due_text a.request a.source _ _ a.answered.due f.journal f.refusal a.answered.is_due in
      let text = subst (λ z. IsTextOf a.request.mode z f.text) (is_of f.source f.given) f.is_text in
      let same = one_text a.request.mode a.source a.answered.due.text f.text due.text text in
      let whole : Took (Some bytes) a.answered.due.text after = rw same f.written in
      whole_is_due bytes after a.answered.due report.status a.answered.written whole ∙ due.status_is;
}
  where
    is_of : (source : List ℕ) → IsGiven (source_contents a.request left) source → source ≡ a.source
    is_of source given = one_source (source_contents a.request left) source a.source specified given a.given

-- where nothing is reported, no cause is there
exact_silence :
    (request : Request) (left : Option (List ℕ)) (bytes : List ℕ) (report : Report) (after : Option (List ℕ)) → IsSilence report (Some bytes) after →
    IsExact request left report (Some bytes) after
exact_silence request left bytes report after s = record {
  finishes = λ status f. absurd (let none = s.nothing.journal in let some = f.reported in cc);
  fills = λ f. absurd (let none = s.nothing.journal in let some = f.reported in cc);
  refuses = λ f. absurd (let none = s.nothing.refusal in let some = f.reported in cc);
  writes_text = λ f. absurd (something_taken bytes f.text after (some_text request.mode f.source f.text f.is_text) f.written s.nothing.written);
}

-- where the contents of source and sink are specified, each cause has its status
pub exact :
    (arguments : List (List ℕ)) (left : Option (List ℕ)) (report : Report) (before after : Option (List ℕ)) →
    IsSilence report before after ⊎ Answers arguments left report before after → (request : Request) → Requests arguments request →
    AreSpecified request left before → IsExact request left report before after
exact arguments left report None after h request asks specified = absurd specified.1
exact arguments left report (Some bytes) after (inl silence) request asks specified = exact_silence request left bytes report after silence
exact arguments left report (Some bytes) after (inr a) request asks specified =
    let same = one_request arguments a.request request a.requested asks in
    let given = subst (λ (z : Request). IsSpecified (source_contents z left)) (sym same) specified.0 in
    subst (λ (z : Request). IsExact z left report (Some bytes) after) same (exact_answers arguments left bytes report after a given)
