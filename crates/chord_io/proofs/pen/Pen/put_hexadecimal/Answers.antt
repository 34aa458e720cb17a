-- The digits of the bytes before a byte, and then its digits.
use Rattle.std.proofs.Common.{refl, arith}
use Rattle.std.proofs.lemmas.List.{take_all}
use Rattle.chord_io.specs.Digits.{byte_text}
use Rattle.chord_io.proofs.Bytes.{bytes_next}
use Rattle.chord_io.proofs.Pens.{Writes-next}
use Rattle.chord_io.proofs.pen.Pen.put_hexadecimal.Goals as goal

pub loop-byte-preserved : goal.loop-byte-preserved
loop-byte-preserved g c =
    let here = c.type_inv.bytes c.loop-byte.byte-index in
    record {
      written =
          Writes-next byte_text _ c.loop-byte.byte-index _ _ c.loop-byte-test.true refl c.loop-byte.invariant.written
          (rw (c.digit.ensures, c.digit-in-loop-byte.ensures) at c.put.ensures);
      bytes = bytes_next _ c.loop-byte.byte-index _ 0 c.loop-byte-test.true refl c.loop-byte.invariant.bytes (omega (arith, here));
    }

pub returns-clause-written : goal.returns-clause-written
returns-clause-written g c = rw (← take_all _ _ c.loop-byte-test.false) c.loop-byte.invariant.written

pub returns-clause-typed : goal.returns-clause-typed
returns-clause-typed g c = rw (← take_all _ _ c.loop-byte-test.false) c.loop-byte.invariant.bytes
