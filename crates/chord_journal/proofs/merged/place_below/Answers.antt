use Rattle.std.proofs.Common.{◌++◌, ap, ◌∙◌}
use Rattle.std.proofs.lemmas.List.Sorted.{IsPermutation-trans}
use Rattle.chord_journal.specs.Gathered.{in_places}
use Rattle.chord_journal.proofs.Merging.{beside_between, beside_between_same}
use Rattle.chord_journal.proofs.merged.place_below.Goals as goal

pub loop-place-preserved-then-is_hole : goal.loop-place-preserved-then-is_hole
loop-place-preserved-then-is_hole c =
    let next = beside_between (in_places 0 c.loop-place.entries.items) (in_places 0 c.fill.new.entries.items) c.loop-place.rest.items c.fill.new.rest.items c.loop-place.strays.items c.fill.ensures.moved in
    IsPermutation-trans _ _ _ c.loop-place.invariant next

pub loop-place-preserved-then-place-capacity : goal.loop-place-preserved-then-place-capacity
loop-place-preserved-then-place-capacity c =
    let same = c.append_run.ensures.moved ∙ ap (λ l. l ++ c.loop-place.rest.items) c.leave_holes.ensures.same in
    let next = beside_between_same (in_places 0 c.loop-place.entries.items) (in_places 0 c.append_run.new.entries.items) c.loop-place.rest.items c.append_run.new.rest.items c.loop-place.strays.items same in
    IsPermutation-trans _ _ _ c.loop-place.invariant next
