use Rattle.std.proofs.Common.{◌≡◌, ◌-◌, length}
use Rattle.chord_journal.specs.Reading.{with_prefix, numbers_at}
use Rattle.chord_journal.proofs.values.read_members.Given as goal

abbrev pub invariant-loop : goal.invariant-loop
invariant-loop l = record {
  counted : length l.members ≡ l.counter;
  read : with_prefix l.members (numbers_at (l.count - length l.members) l.rest) ≡ numbers_at l.count l.fn.bytes;
}
