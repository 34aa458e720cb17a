use Rattle.std.proofs.Common.{Some, refl, sym, subst}
use Rattle.chord_run.specs.Tables.{HasTable}
use Rattle.chord_run.proofs.engine.play_code.Goals as goal

pub returns-in_ok-journal-in-false-clause-table : goal.returns-in_ok-journal-in-false-clause-table
returns-in_ok-journal-in-false-clause-table g c =
    let run = c.in_ok-journal-in-false in
    subst (λ one. HasTable g.G.Gate.knows one c.args.request.now.workers (Some run.journal) (Some run.closed)) (sym c.in-false.is)
    (run.closed, refl, record { drawn = (run.ensures).closed.0; drew = (run.ensures).drew; kept = (run.ensures).closed.1; crew = (run.ensures).crew; released = (run.ensures).released }, (run.ensures).told)
