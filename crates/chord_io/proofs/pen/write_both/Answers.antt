-- Where the second write fails, the first piece was taken and a front of the second.
use Rattle.std.proofs.lemmas.Result.{on_err_weaker}
use Rattle.chord_io.proofs.Joined.{TookProperPrefix-second}
use Rattle.chord_io.proofs.pen.write_both.Goals as goal

pub returns-clause-prefix : goal.returns-clause-prefix
returns-clause-prefix g c =
    on_err_weaker c.write_all-2.result (λ front. TookProperPrefix-second _ _ _ _ _ c.in_ok-write_all.ensures.whole front) c.write_all-2.ensures.prefix
