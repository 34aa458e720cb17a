-- The lines before an entry were taken, and then a front of its line, or its line.
use Rattle.std.proofs.lemmas.List.{take_all}
use Rattle.std.proofs.lemmas.Result.{err_from_is_err_and}
use Rattle.chord_base.specs.Printed.{line_of}
use Rattle.chord_io.proofs.Joined.{TookProperPrefix-next}
use Rattle.chord_journal.proofs.Printed.{lines_one_by_one}
use Rattle.chord_journal.proofs.lines.write_and_look.Goals as goal

pub returns-in_err-traps-clause-prefix : goal.returns-in_err-traps-clause-prefix
returns-in_err-traps-clause-prefix g c =
    let failed = err_from_is_err_and c.from_residual.result c.from_residual.ensures.1 in
    rw (failed.1, lines_one_by_one, ← c.entries-entry-items.ensures.entries)
    (TookProperPrefix-next (λ e. line_of e.what) _ c.loop-entry.entry-index c.entry-item.result _ _ _ _ c.loop-entry-test.true c.entry-item.is
    c.loop-entry.invariant.took c.in_err-traps.ensures.prefix)

pub returns-clause-whole : goal.returns-clause-whole
returns-clause-whole g c =
    rw (lines_one_by_one, ← c.entries-entry-items.ensures.entries, ← take_all _ _ c.loop-entry-test.false) c.loop-entry.invariant.took
