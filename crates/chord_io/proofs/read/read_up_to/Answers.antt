-- What was read when the call gives up is lost: the bytes so far and the piece, which is no longer than the room that was left and one byte more.
use Rattle.std.proofs.Common.{◌≡◌, ◌<◌, ◌≤◌, ◌++◌, ◌+◌, length, take, length-append, arith}
use Rattle.std.proofs.lemmas.List.{length-take}
use Rattle.std.proofs.lemmas.Result.{err_from_is_err_and}
use Rattle.chord_io.proofs.Joined.{Gave-join}
use Rattle.chord_io.proofs.read.read_up_to.Goals as goal

pub returns-then-left-count-clause-too_long : goal.returns-then-left-count-clause-too_long
returns-then-left-count-clause-too_long g c _ =
    let bytes = c.loop-bytes.bytes.items in
    let count = c.in_ok-count.count in
    let long : length (bytes ++ take count c.read.new.buf) ≡ c.args.most + 1 =
    omega (
      arith,
      length-append bytes (take count c.read.new.buf),
      length-take count c.read.new.buf,
      c.read.auto.buf,
      c.in_ok-count.ensures.within,
      length-take c.min-room.result c.loop-bytes.buffer,
      c.min-room.ensures,
      c.len.ensures,
      c.if-left-count.true,
      c.loop-bytes.invariant.within,
      c.loop-bytes.bytes.ok.0,
    ) in
    (_, long, Gave-join _ _ _ _ _ c.loop-bytes.invariant.gave c.in_ok-count.ensures.gave)

pub returns-then-left-count-clause-part : goal.returns-then-left-count-clause-part
returns-then-left-count-clause-part g c =
    let bytes = c.loop-bytes.bytes.items in
    let count = c.in_ok-count.count in
    let fits : length (bytes ++ take count c.read.new.buf) ≤ c.args.most + 1 =
    omega (
      arith,
      length-append bytes (take count c.read.new.buf),
      length-take count c.read.new.buf,
      c.in_ok-count.ensures.within,
      length-take c.min-room.result c.loop-bytes.buffer,
      c.min-room.ensures,
      c.len.ensures,
      c.loop-bytes.invariant.within,
      c.loop-bytes.bytes.ok.0,
    ) in
    (_, fits, Gave-join _ _ _ _ _ c.loop-bytes.invariant.gave c.in_ok-count.ensures.gave)

pub returns-in_err-extend_from_slice-clause-memory_within : goal.returns-in_err-extend_from_slice-clause-memory_within
returns-in_err-extend_from_slice-clause-memory_within g c _ =
    let bytes = c.loop-bytes.bytes.items in
    let count = c.in_ok-count.count in
    let some : 0 < length (bytes ++ take count c.read.new.buf) =
    omega (
      arith,
      length-append bytes (take count c.read.new.buf),
      length-take count c.read.new.buf,
      c.read.auto.buf,
      c.in_ok-count.ensures.within,
      c.if-count-eq0.false,
    ) in
    let fits : length (bytes ++ take count c.read.new.buf) ≤ c.args.most =
    omega (
      arith,
      length-append bytes (take count c.read.new.buf),
      length-take count c.read.new.buf,
      c.len.ensures,
      c.if-left-count.false,
      c.loop-bytes.invariant.within,
      c.loop-bytes.bytes.ok.0,
    ) in
    (_, some, fits, Gave-join _ _ _ _ _ c.loop-bytes.invariant.gave c.in_ok-count.ensures.gave)

pub returns-in_err-extend_from_slice-clause-part : goal.returns-in_err-extend_from_slice-clause-part
returns-in_err-extend_from_slice-clause-part g c =
    let failed = err_from_is_err_and c.from_residual-in_err-extend_from_slice.result c.from_residual-in_err-extend_from_slice.ensures.1 in
    let bytes = c.loop-bytes.bytes.items in
    let count = c.in_ok-count.count in
    let fits : length (bytes ++ take count c.read.new.buf) ≤ c.args.most + 1 =
    omega (
      arith,
      length-append bytes (take count c.read.new.buf),
      length-take count c.read.new.buf,
      c.len.ensures,
      c.if-left-count.false,
      c.loop-bytes.invariant.within,
      c.loop-bytes.bytes.ok.0,
    ) in
    rw failed.1 (_, fits, Gave-join _ _ _ _ _ c.loop-bytes.invariant.gave c.in_ok-count.ensures.gave)
