use Rattle.chord_lists.specs.Bag.{numbers_of}
use Rattle.chord_lists.specs.Engine.{State}
use Rattle.chord_lists.proofs.engine.play_bodies.Given as goal

abbrev pub invariant-loop-number : goal.invariant-loop-number
invariant-loop-number g l = State (g.P.Playable.program l.program) (g.P.Playable.stands l.program l.bodies) (numbers_of l.bag) l.fresh l.number
