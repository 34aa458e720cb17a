use Rattle.std.proofs.Common.{take}
use Rattle.chord_io.specs.Pen.{Writes}
use Rattle.chord_gen.specs.Listing.{numbered, chord_listed}
use Rattle.chord_gen.proofs.listing.put_chords.Given as goal

abbrev pub invariant-loop-number : goal.invariant-loop-number
invariant-loop-number g l = Writes (g.K.Sink.taken l.initial.sink) (g.K.Sink.faults l.initial.sink) l.initial.pen (numbered chord_listed 0 (take l.number l.chords)) (g.K.Sink.taken l.sink) (g.K.Sink.faults l.sink) l.pen
