-- The lines before an entry, and then its line.
use Rattle.chord_io.proofs.Pens.{Writes-next}
use Rattle.chord_journal.proofs.Types.{entries_next}
use Rattle.chord_journal.specs.Text.{entry_text}
use Rattle.chord_journal.proofs.write.put_entries.Goals as goal

pub loop-entry-preserved : goal.loop-entry-preserved
loop-entry-preserved g c = record {
  written =
      Writes-next entry_text _ c.loop-entry.entry-index c.entry-item.result _ c.loop-entry-test.true c.entry-item.is c.loop-entry.invariant.written
      c.put_entry.ensures.written;
  typed =
      entries_next _ c.loop-entry.entry-index c.entry-item.result _ c.loop-entry-test.true c.entry-item.is c.loop-entry.invariant.typed
      c.put_entry.ensures.typed;
}
