use Rattle.std.proofs.Common.{refl, arith}
use Rattle.chord_tests.proofs.TwoEntries.{later_first}
use Rattle.chord_tests.proofs.journals.parted.Goals as goal

pub returns : goal.returns
returns c =
    rw (c.in_ok-push-2.ensures.items, c.in_ok-push.ensures.items, c.new-lists.ensures.items, c.in_ok-later.ensures, c.in_ok-first.ensures, c.made.ensures, c.begun.ensures)
    (later_first _ _ (record { body = omega arith; what = omega arith }) (record { body = omega arith; what = tt }) refl refl)
