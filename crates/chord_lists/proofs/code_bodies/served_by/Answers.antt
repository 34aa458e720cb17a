use Rattle.std.proofs.Common.{◌≡◌, ◌+◌, ◌<◌, ◌∷◌, length, drop, get_or, arith, sym, ◌∙◌, add-one, drop-cons, false, ℕ, Bool}
use Rattle.chord_base.specs.Bodies.{served_among}
use Rattle.chord_code.specs.Meaning.{method_is_sync}
use Rattle.chord_lists.proofs.code_bodies.served_by.Goals as goal

pub loop-i-preserved : goal.loop-i-preserved
loop-i-preserved c =
    let js = c.args.methods.now in
    let ms = c.args.numbers.now in
    let i = c.loop-i.i in
    let lt : i < length js = omega (arith, c.loop-i-test.true) in
    let lt' : i < length ms = omega (arith, lt, c.requires) in
    let sync : ℕ → Bool = method_is_sync c.args.code.now c.args.class in
    let a : served_among sync js ms ≡ served_among sync (drop i js) (drop i ms) = c.loop-i.invariant in
    let x : drop i js ≡ get_or js i 0 ∷ drop (i + 1) js = rw (add-one, drop-cons js i 0) in
    let y : drop i ms ≡ get_or ms i 0 ∷ drop (i + 1) ms = rw (add-one, drop-cons ms i 0) in
    let b = rw (x, y) at a in
    let f : sync (get_or js i 0) ≡ false = sym c.is_sync.ensures ∙ c.if-is_sync.false in
    rw f at b
