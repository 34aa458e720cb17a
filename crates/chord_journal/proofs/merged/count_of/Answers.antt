use Rattle.std.proofs.Common.{rules}
use Rattle.std.proofs.lemmas.List.Folds.{length-flat_map-take}
use Rattle.chord_journal.proofs.merged.count_of.Goals as goal

pub overflow_add-count : goal.overflow_add-count
overflow_add-count c =
    let few = length-flat_map-take (λ list. list.items) c.args.lists.now c.loop-list.list-index c.list-item.result c.loop-list-test.true in
    search (rules, few, c.loop-list.invariant, c.len-count.ensures, c.list-item.is, c.requires.few)
