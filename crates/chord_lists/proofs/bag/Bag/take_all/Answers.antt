use Rattle.std.proofs.Common.{◌≡◌, ◌+◌, ◌<◌, ◌∷◌, length, drop, get_or, arith, add-one, drop-cons, refl}
use Rattle.std.proofs.lemmas.List.{take_more}
use Rattle.chord_lists.proofs.Taking.{taking_turn}
use Rattle.chord_lists.proofs.bag.Bag.take_all.Goals as goal

pub loop-method-preserved : goal.loop-method-preserved
loop-method-preserved c =
    let js = c.args.methods.now in
    let k = c.loop-method.method-index in
    let j = get_or js k 0 in
    let lt : k < length js = omega (arith, c.loop-method-test.true) in
    let more : drop k js ≡ j ∷ drop (k + 1) js = rw (add-one, drop-cons js k 0) in
    let taking = rw more at c.loop-method.invariant in
    rw (c.push.ensures, take_more js k 0 lt) (taking_turn _ _ _ _ _ _ _ j c.take.result taking c.take.ensures)

pub loop-method-init : goal.loop-method-init
loop-method-init c = rw c.requires.none (record { taken = λ k. refl; all = c.requires.there; different = c.requires.different; as_many = refl })
