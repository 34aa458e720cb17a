use Rattle.std.specs.Vec.Iter.{into_iter_items}
use Rattle.chord_journal.proofs.Merging.{one_list_aside}
use Rattle.chord_journal.proofs.merged.set_all_aside.Goals as goal

pub loop-rest-preserved : goal.loop-rest-preserved
loop-rest-preserved c =
    one_list_aside (λ rest. rest.items) (into_iter_items c.loop-rest.rest-iterator) (into_iter_items c.next.new.self) c.in-Some.rest c.loop-rest.strays.items c.set_rest_aside.new.strays.items _
    c.loop-rest.invariant c.in-Some.ensures.steps.0 c.in_ok-set_rest_aside.ensures
