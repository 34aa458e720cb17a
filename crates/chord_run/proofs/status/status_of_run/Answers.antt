-- Where no entry is an end by a trap, the end of `Main` decides.
use Rattle.std.proofs.Common.{sym, ◌∙◌, ap, refl}
use Rattle.chord_base.specs.Printed.{main_ended}
use Rattle.chord_run.proofs.Statuses.{none_failed}
use Rattle.chord_run.proofs.status.status_of_run.Goals as goal

pub returns-then-has_main_end : goal.returns-then-has_main_end
returns-then-has_main_end c =
    let ended = ap main_ended (sym c.entries.ensures.entries) ∙ sym c.has_main_end.ensures ∙ c.if-has_main_end.true in
    rw (c.if-full.false, none_failed c.args.journal.now (sym c.requires ∙ c.if-trapped.false), ended) refl

pub returns-else-has_main_end : goal.returns-else-has_main_end
returns-else-has_main_end c =
    let ended = ap main_ended (sym c.entries.ensures.entries) ∙ sym c.has_main_end.ensures ∙ c.if-has_main_end.false in
    rw (c.if-full.false, none_failed c.args.journal.now (sym c.requires ∙ c.if-trapped.false), ended) refl
