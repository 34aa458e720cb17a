use Rattle.std.proofs.Common.{◌≡◌, ◌+◌, ◌++◌, take, vec_len, vec_capacity}
use Rattle.chord_vm.proofs.frames.lay_copies.Given as goal

abbrev pub invariant-loop-value : goal.invariant-loop-value
invariant-loop-value l = (l.slots.items ≡ l.fn.slots.items ++ take l.value-index l.values) × (vec_len l.slots ≡ vec_len l.fn.slots + l.value-index) × (vec_capacity l.slots ≡ vec_capacity l.fn.slots)
