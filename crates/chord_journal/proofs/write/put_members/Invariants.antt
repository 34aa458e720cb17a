use Rattle.std.proofs.Common.{take, ◌++◌}
use Rattle.std.specs.List.{flat_map}
use Rattle.std.specs.Prelude.{codes, decimal}
use Rattle.chord_io.specs.Pen.{Writes}
use Rattle.chord_journal.proofs.write.put_members.Given as goal

abbrev pub invariant-loop-number : goal.invariant-loop-number
invariant-loop-number g l =
    Writes (g.K.Sink.taken l.initial.sink) (g.K.Sink.faults l.initial.sink) l.initial.pen (flat_map (λ n. codes " " ++ decimal n) (take l.number-index l.number-items))
    (g.K.Sink.taken l.sink) (g.K.Sink.faults l.sink) l.pen
