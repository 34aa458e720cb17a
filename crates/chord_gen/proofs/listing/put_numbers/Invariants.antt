use Rattle.std.proofs.Common.{take}
use Rattle.std.specs.List.{flat_map}
use Rattle.chord_io.specs.Pen.{Writes}
use Rattle.chord_gen.specs.Listing.{number_listed}
use Rattle.chord_gen.proofs.listing.put_numbers.Given as goal

abbrev pub invariant-loop-number : goal.invariant-loop-number
invariant-loop-number g l = Writes (g.K.Sink.taken l.initial.sink) (g.K.Sink.faults l.initial.sink) l.initial.pen (flat_map number_listed (take l.number-index l.numbers)) (g.K.Sink.taken l.sink) (g.K.Sink.faults l.sink) l.pen
