use Rattle.std.proofs.Common.{rules}
use Rattle.std.proofs.lemmas.List.Sorted.{IsPermutation-trans}
use Rattle.chord_journal.specs.Gathered.{in_places}
use Rattle.chord_journal.proofs.Merging.{one_list_less}
use Rattle.chord_journal.proofs.merged.place_stretch.Goals as goal

pub loop-rest-preserved : goal.loop-rest-preserved
loop-rest-preserved c =
    let less = one_list_less (λ rest. rest.items) c.loop-rest.rests c.loop-rest.rest-index c.place_below.new.rest c.rest-item.result (in_places 0 c.loop-rest.entries.items) (in_places 0 c.place_below.new.entries.items) c.loop-rest.strays.items c.place_below.new.strays.items (search (rules, c.loop-rest-test.true)) c.in_ok-place_below.ensures in
    IsPermutation-trans _ _ _ c.loop-rest.invariant less
