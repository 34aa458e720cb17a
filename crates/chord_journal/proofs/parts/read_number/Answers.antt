-- The digits that stand at the front are digits.
use Rattle.chord_journal.proofs.Digits.{front_digits}
use Rattle.chord_journal.proofs.parts.read_number.Goals as goal

pub value_below-requires-clause-digits : goal.value_below-requires-clause-digits
value_below-requires-clause-digits c =
    rw (c.split_at.ensures.front, c.count_digits.ensures.count) (front_digits c.args.bytes.now)
