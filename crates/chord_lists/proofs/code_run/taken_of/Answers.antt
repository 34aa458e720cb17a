use Rattle.std.proofs.Common.{◌≡◌, ◌<◌, ◌∙◌, length, reverse, take, subst, sym, arith, Some}
use Rattle.std.specs.Prelude.{slice_get}
use Rattle.chord_lists.specs.CodeGoes.{MarksTaken}
use Rattle.chord_lists.proofs.Spots.{got}
use Rattle.chord_lists.proofs.Taken.{marked_next}
use Rattle.chord_lists.proofs.Going.{number_at, more_is, first_length}
use Rattle.chord_lists.proofs.code_run.taken_of.Goals as goal

pub loop-entry-preserved : goal.loop-entry-preserved
loop-entry-preserved c =
    let es = c.args.entries.now in
    let k = c.loop-entry.entry-index in
    let e = c.entry-item.result in
    let lt : k < length es = omega (arith, c.loop-entry-test.true) in
    let h = reverse (take k es) in
    let long : length h ≡ k = first_length es k (omega (arith, lt)) in
    let number : e.number ≡ length h = number_at es k e lt c.entry-item.is c.requires ∙ sym long in
    let there = subst (λ i. slice_get es i ≡ Some e) (sym long) (got es k e lt c.entry-item.is) in
    subst (λ g. MarksTaken c.take_next.new.taken.items es g) (sym (more_is es k e lt c.entry-item.is)) (marked_next c.loop-entry.taken.items c.take_next.new.taken.items es h e c.loop-entry.invariant number there c.in_ok-take_next.ensures)
