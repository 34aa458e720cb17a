use Rattle.chord_run.proofs.command.request_of.Goals as goal

pub returns-clause-refused : goal.returns-clause-refused
returns-clause-refused c = λ _ a. c.in-None.ensures.none a.0 (rw c.in_ok-matches.ensures.rows a.1.says)
