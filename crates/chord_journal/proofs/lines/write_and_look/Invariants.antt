use Rattle.std.proofs.Common.{◌≡◌, take}
use Rattle.std.specs.List.{flat_map, list_any}
use Rattle.chord_base.specs.Printed.{is_trap, line_of}
use Rattle.chord_io.specs.Pieces.{Took}
use Rattle.chord_journal.proofs.lines.write_and_look.Given as goal

abbrev pub invariant-loop-entry : goal.invariant-loop-entry
invariant-loop-entry g l = record {
  took :
      Took (g.K.Sink.taken l.initial.sink) (flat_map (λ e. line_of e.what) (take l.entry-index l.entry-items)) (g.K.Sink.taken l.sink);
  seen : l.trapped ≡ list_any (λ e. is_trap e.what) (take l.entry-index l.entry-items);
  unfailed : g.K.Sink.faults l.sink ≡ g.K.Sink.faults l.initial.sink;
}
