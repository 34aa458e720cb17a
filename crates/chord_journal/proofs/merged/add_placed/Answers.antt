use Rattle.std.proofs.Common.{◌≡◌, ◌==◌, ◌+◌, [], false, length, ap, ◌∙◌, arith}
use Rattle.std.specs.Vec.Iter.{into_iter_items}
use Rattle.std.proofs.lemmas.List.{append-nil, nil_from_length}
use Rattle.chord_journal.proofs.Merging.{placed_kept, without_hole_kept}
use Rattle.chord_journal.proofs.merged.add_placed.Goals as goal
use Rattle.chord_journal.proofs.merged.add_placed.Goals.{then-entry-place+in_ok-push, else-entry-place}

pub loop-entry-preserved : goal.loop-entry-preserved
loop-entry-preserved c =
    let (had, long) = c.loop-entry.invariant in
    let is = c.in-Some.ensures.steps.0 in
    let count : length (into_iter_items c.loop-entry.entry-iterator) ≡ length (into_iter_items c.next.new.self) + 1 = rw is (omega arith) in
    let next : c.loop-entry.place + 1 + length (into_iter_items c.next.new.self) ≡ length c.args.entries.items = omega (arith, long, count) in
    elim c.if-entry-place.branch [
      | then-entry-place+in_ok-push w ↦ (placed_kept c.loop-entry.strays.items c.if-entry-place.strays.items _ c.loop-entry.place c.in-Some.entry _ _ had is w.if-entry-place.true (ap (λ s. s.items) w.strays-is ∙ w.in_ok-push.ensures.items), next)
      | else-entry-place w ↦ (
        let other : (c.in-Some.entry.number == c.loop-entry.place) ≡ false = grind (arith, w.if-entry-place.false) in
            rw w.strays-is (without_hole_kept c.loop-entry.strays.items _ c.loop-entry.place c.in-Some.entry _ _ had is other),
        next,
      )
    ]

pub returns : goal.returns
returns c =
    let none : into_iter_items c.loop-entry.entry-iterator ≡ [] = nil_from_length _ (omega (arith, c.loop-entry.entry-iterator.rest.ok.0, c.in-None.ensures.steps.0)) in
    rw (none, append-nil c.loop-entry.strays.items) at c.loop-entry.invariant.0
