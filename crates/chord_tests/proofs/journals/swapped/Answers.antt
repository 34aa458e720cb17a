use Rattle.std.proofs.Common.{refl, arith}
use Rattle.chord_tests.proofs.TwoEntries.{later_first}
use Rattle.chord_tests.proofs.journals.swapped.Goals as goal

pub returns : goal.returns
returns c =
    rw (c.in_ok-push-2.ensures.items, c.in_ok-push.ensures.items, c.new-entries.ensures.items, c.made.ensures, c.begun.ensures)
    (later_first _ _ (record { body = omega arith; what = omega arith }) (record { body = omega arith; what = tt }) refl refl)
