use Rattle.std.proofs.Common.{◌≡◌, ℕ, ◌-◌, ◌<◌, ◌≤◌, true, false, slice_index_or}
use Rattle.chord_space.proofs.closed.free.Given as goal

abbrev pub invariant-loop-i : goal.invariant-loop-i
invariant-loop-i g l = ((k : ℕ) → l.i ≤ k → k < l.slots.slots.len → slice_index_or l.slots.slots.filled k false ≡ true) × ((k : ℕ) → k < l.i → slice_index_or l.slots.slots.filled k false ≡ false)

abbrev pub decreases-loop-i : goal.decreases-loop-i
decreases-loop-i g l = l.slots.slots.len - l.i
