-- What came first was taken, and then a front of the rest.
use Rattle.std.proofs.lemmas.Result.{err_from_is_err_and}
use Rattle.chord_io.proofs.Joined.{TookProperPrefix-second}
use Rattle.chord_run.proofs.output.write_due.Goals as goal

pub returns-in_err-write_rest-clause-prefix : goal.returns-in_err-write_rest-clause-prefix
returns-in_err-write_rest-clause-prefix g c =
    let failed = err_from_is_err_and c.from_residual-in_err-write_rest.result c.from_residual-in_err-write_rest.ensures.1 in
    rw failed.1 (TookProperPrefix-second _ _ _ _ _ c.in_ok-trapped.ensures.whole c.in_err-write_rest.ensures.prefix)
