use Rattle.chord_lists.specs.Bag.{numbers_of}
use Rattle.chord_lists.proofs.Engines.{state_begun}
use Rattle.chord_lists.proofs.engine.play_bodies.Goals as goal

pub loop-number-init : goal.loop-number-init
loop-number-init g c =
    let stands = g.P.Playable.stands c.args.program.now c.in_ok-bodies.bodies in
    state_begun _ stands (numbers_of c.new-bag.result) c.start.ensures.chords c.in_ok-bodies.ensures.bodies c.new-bag.ensures.empty
