use Rattle.std.proofs.Common.{◌≡◌, [], length, arith}
use Rattle.std.specs.List.{flat_map}
use Rattle.std.specs.List.Sorted.{IsPermutation}
use Rattle.std.proofs.lemmas.List.{nil_from_length}
use Rattle.chord_journal.specs.Gathered.{StandInPlace}
use Rattle.chord_journal.proofs.Merging.{complete, apart}
use Rattle.chord_journal.proofs.merged.merged.Goals as goal

-- none of the places is a hole
whole : (c : goal.After-drop-strays-then-len-count) → IsPermutation (flat_map (λ list. list.items) c.args.lists.items) c.place_all.new.entries.items × StandInPlace (length c.place_all.new.entries.items) c.place_all.new.entries.items
whole c =
    let no_stray : c.place_all.new.strays.items ≡ [] = nil_from_length _ (grind (arith, c.if-is_empty.ensures, c.place_all.new.strays.ok.0)) in
    let counted = rw c.deref.ensures.value at c.count_of-count.ensures in
    let long : length c.place_all.new.entries.items ≡ length (flat_map (λ list. list.items) c.args.lists.items) = omega (arith, counted, c.if-len-count.true, c.len.ensures, c.place_all.new.entries.ok.0) in
    let came = rw (c.in_ok-entries.ensures.items, c.new-strays.ensures.items, c.in_ok-rests.ensures) at c.in_ok-place_all.ensures in
    complete (flat_map (λ list. list.items) c.args.lists.items) c.place_all.new.entries.items c.place_all.new.strays.items long no_stray came

pub returns-then-len-count-clause-moved : goal.returns-then-len-count-clause-moved
returns-then-len-count-clause-moved c = (whole c).0

pub returns-then-len-count-clause-placed : goal.returns-then-len-count-clause-placed
returns-then-len-count-clause-placed c = λ i d within. (whole c).1 i d (omega (arith, within, c.if-len-count.true, c.len.ensures, c.place_all.new.entries.ok.0))

pub returns-clause-moved : goal.returns-clause-moved
returns-clause-moved c =
    let came = rw (c.in_ok-entries.ensures.items, c.new-strays.ensures.items, c.in_ok-rests.ensures) at c.in_ok-place_all.ensures in
    apart (flat_map (λ list. list.items) c.args.lists.items) c.place_all.new.entries.items c.place_all.new.strays.items c.add_placed.new.strays.items c.in_ok-add_placed.ensures came
