use Rattle.std.proofs.Common.{sym, ap, ◌∙◌, inl, inr}
use Rattle.chord_run.proofs.Statuses.{not_five}
use Rattle.chord_run.proofs.top.write_run.Goals as goal

pub returns-in-Ok-clause-played : goal.returns-in-Ok-clause-played
returns-in-Ok-clause-played g c =
    record { reported = ap (λ r. r.journal) c.played.ensures; refusal = ap (λ r. r.refusal) c.played.ensures; written = inl (ap (λ r. r.status) c.played.ensures ∙ c.status_of_run-status.ensures, c.in-Ok.ensures.whole) }

pub returns-in-Ok-clause-fault : goal.returns-in-Ok-clause-fault
returns-in-Ok-clause-fault g c five = absurd (not_five c.args.full c.args.played.journal (sym (ap (λ r. r.status) c.played.ensures ∙ c.status_of_run-status.ensures) ∙ five))

pub returns-in-Err-clause-played : goal.returns-in-Err-clause-played
returns-in-Err-clause-played g c =
    record { reported = ap (λ r. r.journal) c.played-in-Err.ensures; refusal = ap (λ r. r.refusal) c.played-in-Err.ensures; written = inr (ap (λ r. r.status) c.played-in-Err.ensures, c.in-Err.ensures.prefix) }
