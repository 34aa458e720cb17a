use Rattle.chord_parser.specs.Runs.{more}
use Rattle.chord_parser.proofs.Chains.{leaves, stops_first, stops_later}
use Rattle.chord_parser.proofs.stmts.dot_end.Goals as goal

pub returns-in_err-first-clause-err : goal.returns-in_err-first-clause-err
returns-in_err-first-clause-err c = leaves _ _ _ c.from_residual.ensures.1 (stops_first c.in_err-first.ensures.err)

pub returns-in_err-calls-clause-err : goal.returns-in_err-calls-clause-err
returns-in_err-calls-clause-err c = leaves _ _ _ c.from_residual-in_err-calls.ensures.1 (stops_later c.in_ok-first.ensures.ok c.in_err-calls.ensures.err)

pub returns-clause-ok : goal.returns-clause-ok
returns-clause-ok c = more c.in_ok-first.ensures.ok c.in_ok-calls.ensures.ok
