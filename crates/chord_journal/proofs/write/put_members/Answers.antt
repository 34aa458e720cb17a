-- A blank, and then the number.
use Rattle.std.proofs.Common.{◌++◌, refl}
use Rattle.std.specs.Prelude.{codes, decimal}
use Rattle.chord_io.proofs.Pens.{Writes-join, Writes-next}
use Rattle.chord_journal.proofs.write.put_members.Goals as goal

pub loop-number-preserved : goal.loop-number-preserved
loop-number-preserved g c =
    Writes-next (λ n. codes " " ++ decimal n) _ c.loop-number.number-index _ _ c.loop-number-test.true refl c.loop-number.invariant
    (Writes-join c.put.ensures c.put_number.ensures)
