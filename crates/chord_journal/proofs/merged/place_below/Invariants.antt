use Rattle.std.proofs.Common.{◌++◌, length, IsPermutation}
use Rattle.chord_journal.specs.Gathered.{in_places}
use Rattle.chord_journal.proofs.merged.place_below.Given as goal

abbrev pub invariant-loop-place : goal.invariant-loop-place
invariant-loop-place l =
    IsPermutation (in_places 0 l.fn.entries.items ++ (l.fn.strays.items ++ l.fn.rest.items)) (in_places 0 l.entries.items ++ (l.strays.items ++ l.rest.items))

abbrev pub decreases-loop-place : goal.decreases-loop-place
decreases-loop-place l = length l.rest.items
