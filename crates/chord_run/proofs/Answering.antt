-- A source that gave too many bytes is answered by its refusal, and an accepted one by a run of its code.
use Rattle.std.proofs.Common.{◌≡◌, ℕ, ◌<◌, List, ◌++◌, inl, inr, length, length-append, Option, Some, None, codes, refl, ap, arith}
use Rattle.std.specs.Prelude.{◌⊎◌}
use Rattle.chord_base.specs.Agreement.{SameRuns}
use Rattle.chord_classes.specs.Plan.{resolved_program}
use Rattle.chord_code.specs.Meaning.{code_program}
use Rattle.chord_code.specs.declared.parts.Parts.{Parts}
use Rattle.chord_io.specs.Pieces.{Gave}
use Rattle.chord_run.proofs.Statuses.{same_status}
use Rattle.chord_run.specs.Answers.{Answers, AnswersContents, AnswersSource, IsSilence}
use Rattle.chord_run.specs.Command.{Requests}
use Rattle.chord_run.specs.Compiled.{IsCompiledSource}
use Rattle.chord_gen.specs.Listing.{listing_text}
use Rattle.chord_run.specs.Due.{IsTextOf, MakesRun, source_contents, text_due}
use Rattle.chord_run.specs.Reports.{ReportsBy, ReportsCode, ReportsNoMemory, ReportsRefusal, ReportsRun, ReportsText}
use Rattle.chord_run.specs.Written.{IsGiven}
use Rattle.chord_run.specs.declared.command.Mode.{Mode}
use Rattle.chord_run.specs.declared.command.Mode.TheVariants.{Run, Rules, Code, Load}
use Rattle.chord_run.specs.declared.command.Request.{Request}
use Rattle.chord_run.specs.declared.refusal.Refusal.TheVariants.{Long}
use Rattle.chord_run.specs.declared.report.Report.{Report}
use Rattle.chord_source.specs.Source.{source_program}

-- the source that gave these bytes, and maybe more
pub source_of : (left after : Option (List ℕ)) (given : List ℕ) → Gave left given after → (source : List ℕ) × IsGiven left source × (1048576 < length given → 1048576 < length source)
source_of None after given g = (given, tt, λ h. h)
source_of (Some bytes) None given g = cc
source_of (Some bytes) (Some rest) given g =
    let e : bytes ≡ given ++ rest = cc in
    (bytes, refl, λ h. omega (arith, ap length e, length-append given rest))

-- where a source has too many bytes, the refusal `long` is its answer
pub long_answers : (request : Request) (none source : List ℕ) (report : Report) (before after : Option (List ℕ)) → 1048576 < length source → ReportsRefusal none Long report before after → AnswersSource request source report before after
long_answers request none source report before after long r = record {
  due = record { status = 1; text = r.line };
  is_due = rw (r.journal, r.reported) (record { cause = long; status_is = refl; text = r.is_line });
  written = r.written;
}

-- where a source is answered, contents that are its own are
pub contents_answered : (request : Request) (contents : Option (List ℕ)) (source : List ℕ) (report : Report) (before after : Option (List ℕ)) → IsGiven contents source → ReportsNoMemory report before after ⊎ AnswersSource request source report before after → IsSilence report before after ⊎ AnswersContents request contents report before after
contents_answered request contents source report before after given (inl memory) = inl (record { silent = inr (inr memory.status_is); nothing = memory.nothing })
contents_answered request contents source report before after given (inr answered) = inr (record { source = source; given = given; answered = answered })

-- where the contents of the source that is requested are answered, the arguments are
pub request_answered : (arguments : List (List ℕ)) (left : Option (List ℕ)) (request : Request) (report : Report) (before after : Option (List ℕ)) → Requests arguments request → IsSilence report before after ⊎ AnswersContents request (source_contents request left) report before after → IsSilence report before after ⊎ Answers arguments left report before after
request_answered arguments left request report before after requested (inl silence) = inl silence
request_answered arguments left request report before after requested (inr a) = inr (record { request = request; requested = requested; source = a.source; given = a.given; answered = a.answered })

-- a run of the code of an accepted source is its answer
run_answers : SameRuns → (request : Request) (source : List ℕ) (code : Parts) (report : Report) (before after : Option (List ℕ)) → IsCompiledSource source code → MakesRun request.mode → ReportsRun request (code_program code request.limits) report before after → AnswersSource request source report before after
run_answers law request source code report before after c makes r =
    let agree = c.code_of.runs request.limits in
    record {
      due = record { status = r.status; text = text_due request r.journal };
      is_due = rw (r.reported, r.refusal) (record {
        mode = makes;
        program = source_program (resolved_program c.program) request.limits;
        machine = (c.program, c.accepted, refl);
        has_status = same_status law (code_program code request.limits) (source_program (resolved_program c.program) request.limits) request.limits.events r.journal r.status agree r.has_status;
        text = refl;
      });
      written = r.written;
    }

-- the text of a mode that makes no run is its answer
text_answers : (request : Request) (source text : List ℕ) (report : Report) (before after : Option (List ℕ)) → IsTextOf request.mode source text → ReportsText text report before after → AnswersSource request source report before after
text_answers request source text report before after is r = record {
  due = record { status = 0; text = text };
  is_due = rw (r.journal, r.refusal) (record { status_is = refl; text = is });
  written = r.written;
}

-- what is reported for the code of an accepted source is the source's answer
pub code_answers : SameRuns → (request : Request) (source : List ℕ) (code : Parts) (report : Report) (before after : Option (List ℕ)) → IsCompiledSource source code → ReportsCode request code report before after → AnswersSource request source report before after
code_answers law request source code report before after c r = by_mode request.mode refl r
  where
    by_mode : (mode : Mode) → request.mode ≡ mode → ReportsBy mode request code report before after → AnswersSource request source report before after
    by_mode Run e r = run_answers law request source code report before after c (rw e tt) r
    by_mode Rules e r = text_answers request source (codes "ok\n") report before after (rw e ((c.program, c.accepted), refl)) r
    by_mode Code e r = text_answers request source (listing_text code) report before after (rw e (record { program = c.program; accepted = c.accepted; text_is = ap listing_text c.code_of.is_code })) r
    by_mode (Load k) e r = run_answers law request source code report before after c (rw e tt) r
