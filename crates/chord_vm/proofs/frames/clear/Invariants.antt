use Rattle.std.proofs.Common.{◌≡◌, vec_len, vec_capacity}
use Rattle.chord_vm.proofs.frames.clear.Given as goal

abbrev pub invariant-loop-slots : goal.invariant-loop-slots
invariant-loop-slots l = vec_capacity l.slots ≡ vec_capacity l.fn.slots

abbrev pub decreases-loop-slots : goal.decreases-loop-slots
decreases-loop-slots l = vec_len l.slots
