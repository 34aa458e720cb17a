use Rattle.std.proofs.Common.{◌≡◌, ◌≤◌, ◌-◌, length}
use Rattle.std.specs.Vec.{vec_capacity}
use Rattle.chord_journal.specs.Gathered.{in_places}
use Rattle.chord_journal.proofs.merged.leave_holes.Given as goal

abbrev pub invariant-loop-entries : goal.invariant-loop-entries
invariant-loop-entries l =
    (in_places 0 l.entries.items ≡ in_places 0 l.fn.entries.items) × (length l.entries.items ≤ l.place) × (vec_capacity l.entries ≡ vec_capacity l.fn.entries)

abbrev pub decreases-loop-entries : goal.decreases-loop-entries
decreases-loop-entries l = l.place - length l.entries.items
