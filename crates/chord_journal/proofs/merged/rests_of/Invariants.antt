-- The lists that were taken over and those that are left have the entries of all.
use Rattle.std.proofs.Common.{◌≡◌, ◌++◌}
use Rattle.std.specs.List.{flat_map}
use Rattle.std.specs.Vec.Iter.{into_iter_items}
use Rattle.chord_journal.proofs.merged.rests_of.Given as goal

abbrev pub invariant-loop-list : goal.invariant-loop-list
invariant-loop-list l =
    flat_map (λ rest. rest.items) l.rests.items ++ flat_map (λ list. list.items) (into_iter_items l.list-iterator) ≡ flat_map (λ list. list.items) l.fn.lists.items
