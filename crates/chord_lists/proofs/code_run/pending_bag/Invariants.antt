use Rattle.std.proofs.Common.{reverse, length, ◌≤◌}
use Rattle.chord_base.specs.Messages.{pending}
use Rattle.chord_lists.specs.Bag.{Lists, numbers_of}
use Rattle.chord_lists.proofs.Going.{early}
use Rattle.chord_lists.proofs.code_run.pending_bag.Given as goal

abbrev pub invariant-loop-i : goal.invariant-loop-i
invariant-loop-i l = Lists (early l.i (λ i. pending i (reverse l.entries))) l.i (numbers_of l.bag) × (l.i ≤ length l.entries)
