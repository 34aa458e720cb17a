use Rattle.std.proofs.Common.{◌<◌, length, take, get_or, arith}
use Rattle.std.proofs.lemmas.List.{take_more}
use Rattle.chord_lists.specs.Bag.{numbers_of}
use Rattle.chord_lists.proofs.Taking.{has_all_more}
use Rattle.chord_lists.proofs.bag.Bag.has_all.Goals as goal

pub loop-method-preserved : goal.loop-method-preserved
loop-method-preserved c =
    let js = c.args.methods.now in
    let k = c.loop-method.method-index in
    let index = numbers_of c.args.self.now in
    let lt : k < length js = omega (arith, c.loop-method-test.true) in
    let has = c.has.ensures.yes c.if-not-has.false in
    rw (take_more js k 0 lt) (has_all_more c.args.object (take k js) index (get_or js k 0) c.loop-method.invariant has)
