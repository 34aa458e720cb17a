use Rattle.std.proofs.Common.{take}
use Rattle.chord_io.specs.Pen.{Writes}
use Rattle.chord_gen.specs.Listing.{numbered, instruction_listed}
use Rattle.chord_gen.proofs.listing.put_instructions.Given as goal

abbrev pub invariant-loop-place : goal.invariant-loop-place
invariant-loop-place g l = Writes (g.K.Sink.taken l.initial.sink) (g.K.Sink.faults l.initial.sink) l.initial.pen (numbered instruction_listed 0 (take l.place l.instructions)) (g.K.Sink.taken l.sink) (g.K.Sink.faults l.sink) l.pen
