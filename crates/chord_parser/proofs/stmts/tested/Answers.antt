use Rattle.chord_parser.specs.Runs.{more}
use Rattle.chord_parser.proofs.Chains.{leaves, stops_first, stops_later}
use Rattle.chord_parser.proofs.stmts.tested.Goals as goal

pub returns-in_err-bracket-clause-err : goal.returns-in_err-bracket-clause-err
returns-in_err-bracket-clause-err c = leaves _ _ _ c.from_residual.ensures.1 (stops_first c.in_err-bracket.ensures.err)

pub returns-in_err-test-clause-err : goal.returns-in_err-test-clause-err
returns-in_err-test-clause-err c = leaves _ _ _ c.from_residual-in_err-test.ensures.1 (stops_later c.in_ok-bracket.ensures.ok c.in_err-test.ensures.err)

pub returns-clause-ok : goal.returns-clause-ok
returns-clause-ok c = more c.in_ok-bracket.ensures.ok c.in_ok-test.ensures.ok
