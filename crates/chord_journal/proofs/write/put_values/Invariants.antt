use Rattle.std.proofs.Common.{take, ◌++◌}
use Rattle.std.specs.List.{flat_map}
use Rattle.std.specs.Prelude.{codes}
use Rattle.chord_io.specs.Pen.{Writes}
use Rattle.chord_journal.specs.Text.{value_text}
use Rattle.chord_journal.specs.Typed.{AreTypedValues}
use Rattle.chord_journal.proofs.write.put_values.Given as goal

abbrev pub invariant-loop-value : goal.invariant-loop-value
invariant-loop-value g l = record {
  written :
      Writes (g.K.Sink.taken l.initial.sink) (g.K.Sink.faults l.initial.sink) l.initial.pen
      (flat_map (λ v. codes " " ++ value_text v) (take l.value-index l.value-items)) (g.K.Sink.taken l.sink) (g.K.Sink.faults l.sink) l.pen;
  typed : AreTypedValues (take l.value-index l.value-items);
}
