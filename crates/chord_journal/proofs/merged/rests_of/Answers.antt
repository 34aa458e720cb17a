use Rattle.std.proofs.Common.{refl}
use Rattle.std.specs.List.{flat_map}
use Rattle.std.specs.Vec.Iter.{into_iter_items}
use Rattle.chord_journal.proofs.Merging.{one_rest_more}
use Rattle.chord_journal.proofs.merged.rests_of.Goals as goal

pub loop-list-init : goal.loop-list-init
loop-list-init c = rw (c.new-rests.ensures.items, c.into_iter-list-iterator.ensures.into_iter_gives.0) refl

pub loop-list-preserved : goal.loop-list-preserved
loop-list-preserved c =
    rw c.in_ok-push.ensures.items
    (one_rest_more (λ rest. rest.items) (λ list. list.items) c.loop-list.rests.items c.from_vec.result c.in-Some.list (into_iter_items c.loop-list.list-iterator) (into_iter_items c.next.new.self)
    (flat_map (λ list. list.items) c.args.lists.items) c.loop-list.invariant c.in-Some.ensures.steps.0 c.from_vec.ensures.items)
