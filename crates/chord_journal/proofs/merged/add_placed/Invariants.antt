use Rattle.std.proofs.Common.{◌≡◌, ◌+◌, ◌++◌, length}
use Rattle.std.specs.Vec.Iter.{into_iter_items}
use Rattle.chord_journal.specs.Gathered.{in_places}
use Rattle.chord_journal.proofs.merged.add_placed.Given as goal

abbrev pub invariant-loop-entry : goal.invariant-loop-entry
invariant-loop-entry l =
    (l.strays.items ++ in_places l.place (into_iter_items l.entry-iterator) ≡ l.fn.strays.items ++ in_places 0 l.fn.entries.items)
    × (l.place + length (into_iter_items l.entry-iterator) ≡ length l.fn.entries.items)
