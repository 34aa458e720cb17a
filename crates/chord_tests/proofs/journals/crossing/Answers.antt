use Rattle.std.proofs.Common.{refl, arith}
use Rattle.chord_tests.proofs.Crossing.{inner_first}
use Rattle.chord_tests.proofs.journals.crossing.Goals as goal

pub returns : goal.returns
returns c =
    rw (c.in_ok-push-3.ensures.items, c.in_ok-push-2.ensures.items, c.in_ok-push.ensures.items, c.new-lists.ensures.items, c.new.ensures.items, c.in_ok-inner.ensures, c.in_ok-outer.ensures, c.made.ensures, c.made-2.ensures, c.made-3.ensures, c.begun.ensures)
    (inner_first _ _ _ _ (record { body = omega arith; what = omega arith }) (record { body = omega arith; what = omega arith }) (record { body = omega arith; what = tt }) (record { body = omega arith; what = omega arith }) refl refl refl refl)
