use Rattle.std.proofs.Common.{◌≡◌, ◌++◌, length, take, drop, arith, ◌∙◌}
use Rattle.std.proofs.lemmas.List.{take_all, take-append-le}
use Rattle.std.proofs.lemmas.List.Sorted.{IsPermutation-trans}
use Rattle.chord_journal.proofs.merged.place_all.Goals as goal

pub loop-reach-preserved : goal.loop-reach-preserved
loop-reach-preserved c =
    let was = c.loop-reach.rests in
    let now = c.place_stretch.new.rests in
    let long = rw c.deref_mut.ensures.value at c.place_stretch.ensures.count in
    let whole : take was.len (now ++ drop (length now) was.items) ≡ now =
    take-append-le _ now _ (omega (arith, long, was.ok.0)) ∙ take_all _ now (omega (arith, long, was.ok.0)) in
    rw whole (IsPermutation-trans _ _ _ c.loop-reach.invariant (rw c.deref_mut.ensures.value at c.in_ok-place_stretch.ensures.moved))
