use Rattle.std.proofs.Common.{sym, ◌∙◌}
use Rattle.chord_lexer.proofs.Reserved.{entry_here, entry_not_here}
use Rattle.chord_lexer.proofs.identifier.find.Goals as goal

pub returns-then-same : goal.returns-then-same
returns-then-same c = sym (c.loop-text.invariant ∙ entry_here (λ entry. (entry.0.now, entry.1)) c.args.table.now c.args.identifier.now c.loop-text.text-index _ c.loop-text-test.true (sym c.if-same.ensures))

pub loop-text-preserved : goal.loop-text-preserved
loop-text-preserved c = c.loop-text.invariant ∙ entry_not_here (λ entry. (entry.0.now, entry.1)) c.args.table.now c.args.identifier.now c.loop-text.text-index _ c.loop-text-test.true (sym c.if-same.ensures)
