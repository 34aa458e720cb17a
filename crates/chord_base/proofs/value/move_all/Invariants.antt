use Rattle.std.proofs.Common.{◌≡◌, ◌+◌, ◌++◌, length, vec_len, vec_capacity}
use Rattle.chord_base.proofs.value.move_all.Given as goal

abbrev pub invariant-loop-value : goal.invariant-loop-value
invariant-loop-value l = (l.list.items ++ l.value-iterator.rest.items ≡ l.fn.list.items ++ l.fn.values.items) × (vec_len l.list + length l.value-iterator.rest.items ≡ vec_len l.fn.list + length l.fn.values.items) × (vec_capacity l.list ≡ vec_capacity l.fn.list)
