use Rattle.std.proofs.Common.{take}
use Rattle.std.specs.List.{flat_map}
use Rattle.chord_io.specs.Pen.{Writes}
use Rattle.chord_journal.specs.Text.{entry_text}
use Rattle.chord_journal.specs.Typed.{AreTyped}
use Rattle.chord_journal.proofs.write.put_entries.Given as goal

abbrev pub invariant-loop-entry : goal.invariant-loop-entry
invariant-loop-entry g l = record {
  written :
      Writes (g.K.Sink.taken l.initial.sink) (g.K.Sink.faults l.initial.sink) l.initial.pen (flat_map entry_text (take l.entry-index l.entries))
      (g.K.Sink.taken l.sink) (g.K.Sink.faults l.sink) l.pen;
  typed : AreTyped (take l.entry-index l.entries);
}
