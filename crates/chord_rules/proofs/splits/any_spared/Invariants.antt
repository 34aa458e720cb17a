use Rattle.std.proofs.Common.{◌≡◌, ◌≤◌, slice_index}
use Rattle.chord_rules.specs.SplitHeaders.{spared_below}
use Rattle.chord_rules.proofs.splits.any_spared.Given as goal

abbrev pub invariant-loop-left : goal.invariant-loop-left
invariant-loop-left l = record { within : l.left ≤ l.count; rest : spared_below (slice_index l.labels) l.taken l.label l.left ≡ spared_below (slice_index l.labels) l.taken l.label l.count }

abbrev pub decreases-loop-left : goal.decreases-loop-left
decreases-loop-left l = l.left
