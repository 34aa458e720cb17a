use Rattle.std.proofs.Common.{refl}
use Rattle.chord_code.specs.Valid.{IsChordLine}
use Rattle.chord_code.proofs.Each.{each_more, each_all}
use Rattle.chord_code.proofs.valid.are_chords.Goals as goal

pub loop-chord-preserved : goal.loop-chord-preserved
loop-chord-preserved c =
    each_more (λ k x. IsChordLine c.args.parts.now c.args.class.now x) c.items-chord-items.result.now c.loop-chord.chord-index c.chord-item.result c.loop-chord.invariant c.chord-item.is (c.if-not-is_chord.ensures.0 refl)

pub returns : goal.returns
returns c =
    let all = each_all (λ k x. IsChordLine c.args.parts.now c.args.class.now x) c.items-chord-items.result.now c.loop-chord.chord-index c.loop-chord-test.false c.loop-chord.invariant in
    (λ _. rw c.items-chord-items.ensures at all, λ _. refl)
