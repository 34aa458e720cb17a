use Rattle.std.proofs.Common.{sym, ◌∙◌, inl, inr, arith}
use Rattle.chord_run.specs.Reports.{due_status}
use Rattle.chord_run.proofs.Statuses.{not_two}
use Rattle.chord_run.proofs.top.run.Goals as goal

pub returns-in-Ok-is_full-clause-answered : goal.returns-in-Ok-is_full-clause-answered
returns-in-Ok-is_full-clause-answered g c =
    let p = c.write_run.ensures.played in
    inr (record { journal = c.in-Ok.played.journal; reported = p.reported; refusal = p.refusal; status = due_status c.in-Ok-is_full.full c.in-Ok.played.journal; has_status = c.in-Ok-is_full.ensures.gives; written = p.written })

pub returns-in-Ok-is_full-clause-no_words_refused : goal.returns-in-Ok-is_full-clause-no_words_refused
returns-in-Ok-is_full-clause-no_words_refused g c two = elim c.write_run.ensures.played.written [
  | inl w ↦ not_two c.in-Ok-is_full.full c.in-Ok.played.journal (sym w.0 ∙ two)
  | inr w ↦ omega (arith, w.0, two)
]
