use Rattle.std.proofs.Common.{◌≡◌, ◌-◌, length}
use Rattle.chord_journal.specs.Reading.{with_prefix, many, begins_digit, byte_at}
use Rattle.chord_journal.proofs.parts.read_text.Given as goal

abbrev pub invariant-loop-text : goal.invariant-loop-text
invariant-loop-text l =
    with_prefix l.text.items (many begins_digit byte_at (1024 - length l.text.items) l.rest) ≡ many begins_digit byte_at 1024 l.fn.bytes

abbrev pub decreases-loop-text : goal.decreases-loop-text
decreases-loop-text l = 1024 - length l.text.items
