-- A blank, and then the value.
use Rattle.std.proofs.Common.{◌++◌}
use Rattle.std.specs.Prelude.{codes}
use Rattle.chord_io.proofs.Pens.{Writes-join, Writes-next}
use Rattle.chord_journal.proofs.Types.{values_next}
use Rattle.chord_journal.specs.Text.{value_text}
use Rattle.chord_journal.proofs.write.put_values.Goals as goal

pub loop-value-preserved : goal.loop-value-preserved
loop-value-preserved g c = record {
  written =
      Writes-next (λ v. codes " " ++ value_text v) _ c.loop-value.value-index c.value-item.result _ c.loop-value-test.true c.value-item.is
      c.loop-value.invariant.written (Writes-join c.put.ensures c.put_value.ensures.written);
  typed =
      values_next _ c.loop-value.value-index c.value-item.result _ c.loop-value-test.true c.value-item.is c.loop-value.invariant.typed
      c.put_value.ensures.typed;
}
