use Rattle.std.proofs.lemmas.List.Sorted.{IsPermutation-trans}
use Rattle.chord_journal.proofs.Gathering.{sorted_in_place}
use Rattle.chord_journal.proofs.gathered.arrange.Goals as goal

pub returns-in_err-sort-clause-moved : goal.returns-in_err-sort-clause-moved
returns-in_err-sort-clause-moved c = IsPermutation-trans _ _ _ c.put_in_place.ensures.moved c.sort.ensures.moved

pub returns-clause-moved : goal.returns-clause-moved
returns-clause-moved c = IsPermutation-trans _ _ _ c.put_in_place.ensures.moved c.sort.ensures.moved

pub returns-clause-placed : goal.returns-clause-placed
returns-clause-placed c =
    sorted_in_place c.args.entries.now c.sort.new.entries c.requires (IsPermutation-trans _ _ _ c.put_in_place.ensures.moved c.sort.ensures.moved) c.in_ok-sort.ensures.ok
