-- None of the entries is the end of `Main`.
use Rattle.std.proofs.Common.{sym, arith, ◌==◌, ◌&&◌}
use Rattle.std.proofs.lemmas.List.Folds.{list_any_none}
use Rattle.chord_base.specs.Printed.{is_end}
use Rattle.chord_run.proofs.status.has_main_end.Goals as goal

pub returns : goal.returns
returns c =
    let all = c.loop-i-test.false in
    sym (list_any_none (λ e. is_end e.what && (e.body == 0)) c.args.entries.now (λ k d within. c.loop-i.invariant k d (omega (arith, all)) within))
