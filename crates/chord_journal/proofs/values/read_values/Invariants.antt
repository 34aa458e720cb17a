use Rattle.std.proofs.Common.{◌≡◌, ◌≤◌, ◌-◌, length}
use Rattle.chord_journal.specs.Reading.{with_prefix, many, begins_blank, next_value_at}
use Rattle.chord_journal.proofs.values.read_values.Given as goal

abbrev pub invariant-loop-alloc : goal.invariant-loop-alloc
invariant-loop-alloc l = record {
  few : length l.values.items ≤ l.most;
  read :
      with_prefix l.values.items (many begins_blank next_value_at (l.most - length l.values.items) l.rest) ≡
      many begins_blank next_value_at l.most l.fn.bytes;
}

abbrev pub decreases-loop-alloc : goal.decreases-loop-alloc
decreases-loop-alloc l = l.most - length l.values.items
