-- Where the last write fails, a front of what the pen held was taken behind what it wrote before.
use Rattle.std.proofs.Common.{◌≡◌, Some, arith}
use Rattle.std.proofs.lemmas.Result.{on_err_weaker}
use Rattle.chord_io.proofs.Pens.{TookProperPrefix-finished}
use Rattle.chord_io.proofs.pen.Pen.finish.Goals as goal

pub returns-clause-prefix : goal.returns-clause-prefix
returns-clause-prefix g c =
    let held : c.args.self ≡ Some c.as_slice.result.now = grind arith in
    on_err_weaker c.write_all.result (λ front before f text written. TookProperPrefix-finished _ _ _ _ _ _ _ _ written held front) c.write_all.ensures.prefix
