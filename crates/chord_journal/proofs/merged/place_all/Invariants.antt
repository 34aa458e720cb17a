-- The entries in their places, the strays and those that are left in the lists are those that were there.
use Rattle.std.proofs.Common.{◌++◌, ◌-◌, IsPermutation}
use Rattle.std.specs.List.{flat_map}
use Rattle.chord_journal.specs.Gathered.{in_places}
use Rattle.chord_journal.proofs.merged.place_all.Given as goal

abbrev pub invariant-loop-reach : goal.invariant-loop-reach
invariant-loop-reach l =
    IsPermutation (in_places 0 l.fn.entries.items ++ (l.fn.strays.items ++ flat_map (λ rest. rest.items) l.fn.rests.items)) (in_places 0 l.entries.items ++ (l.strays.items ++ flat_map (λ rest. rest.items) l.rests.items))

abbrev pub decreases-loop-reach : goal.decreases-loop-reach
decreases-loop-reach l = l.count - l.reach
