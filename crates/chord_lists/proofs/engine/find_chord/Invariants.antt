use Rattle.std.proofs.Common.{◌-◌, length}
use Rattle.chord_lists.specs.Bag.{numbers_of}
use Rattle.chord_lists.proofs.Lacking.{EachBeforeLacks}
use Rattle.chord_lists.proofs.engine.find_chord.Given as goal

abbrev pub invariant-loop-found : goal.invariant-loop-found
invariant-loop-found g l = EachBeforeLacks ((g.P.Playable.program l.program).chords l.object.class) l.object l.method (numbers_of l.bag) l.from

abbrev pub decreases-loop-found : goal.decreases-loop-found
decreases-loop-found g l = length ((g.P.Playable.program l.program).chords l.object.class) - l.from
