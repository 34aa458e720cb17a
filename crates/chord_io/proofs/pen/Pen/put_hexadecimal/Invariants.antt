-- The digits of the bytes before this one are written.
use Rattle.std.proofs.Common.{take}
use Rattle.std.specs.List.{flat_map}
use Rattle.chord_io.specs.Digits.{byte_text, AreBytes}
use Rattle.chord_io.specs.Pen.{Writes}
use Rattle.chord_io.proofs.pen.Pen.put_hexadecimal.Given as goal

abbrev pub invariant-loop-byte : goal.invariant-loop-byte
invariant-loop-byte g l = record {
  written :
      Writes (g.K.Sink.taken l.initial.sink) (g.K.Sink.faults l.initial.sink) l.initial.self (flat_map byte_text (take l.byte-index l.bytes))
      (g.K.Sink.taken l.sink) (g.K.Sink.faults l.sink) l.self;
  bytes : AreBytes (take l.byte-index l.bytes);
}
