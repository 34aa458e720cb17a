-- The strays and what is left of the lists.
use Rattle.std.proofs.Common.{◌≡◌, ◌++◌}
use Rattle.std.specs.List.{flat_map}
use Rattle.std.specs.Vec.Iter.{into_iter_items}
use Rattle.chord_journal.proofs.merged.set_all_aside.Given as goal

abbrev pub invariant-loop-rest : goal.invariant-loop-rest
invariant-loop-rest l = l.strays.items ++ flat_map (λ rest. rest.items) (into_iter_items l.rest-iterator) ≡ l.fn.strays.items ++ flat_map (λ rest. rest.items) l.fn.rests.items
