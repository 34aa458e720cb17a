-- The entries in their places, the strays and those that are left in the lists are those that were there.
use Rattle.std.proofs.Common.{◌++◌, IsPermutation}
use Rattle.std.specs.List.{flat_map}
use Rattle.chord_journal.specs.Gathered.{in_places}
use Rattle.chord_journal.proofs.merged.place_stretch.Given as goal

abbrev pub invariant-loop-rest : goal.invariant-loop-rest
invariant-loop-rest l =
    IsPermutation (in_places 0 l.fn.entries.items ++ (l.fn.strays.items ++ flat_map (λ rest. rest.items) l.fn.rests)) (in_places 0 l.entries.items ++ (l.strays.items ++ flat_map (λ rest. rest.items) l.rests))
