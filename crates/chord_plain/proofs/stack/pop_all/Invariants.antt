use Rattle.std.proofs.Common.{◌≡◌, ◌-◌, [], length, reverse}
use Rattle.chord_code.specs.Machine.{pops}
use Rattle.chord_plain.proofs.stack.pop_all.Given as goal

abbrev pub invariant-loop : goal.invariant-loop
invariant-loop l = record {
  popped : pops l.n [] (reverse l.initial.stack.items) ≡ pops (l.n - l.counter) (reverse l.values.items) (reverse l.stack.items);
  counted : length l.values.items ≡ l.counter;
}
