use Rattle.chord_parser.specs.Runs.{more}
use Rattle.chord_parser.proofs.Chains.{leaves, stops_first, stops_later}
use Rattle.chord_parser.proofs.stmts.named_value.Goals as goal

pub returns-in_err-name-clause-err : goal.returns-in_err-name-clause-err
returns-in_err-name-clause-err c = leaves _ _ _ c.from_residual.ensures.1 (stops_first c.in_err-name.ensures.err)

pub returns-in_err-assign-clause-err : goal.returns-in_err-assign-clause-err
returns-in_err-assign-clause-err c = leaves _ _ _ c.from_residual-in_err-assign.ensures.1 (stops_later c.in_ok-name.ensures.ok c.in_err-assign.ensures.err)

pub returns-clause-ok : goal.returns-clause-ok
returns-clause-ok c = more c.in_ok-name.ensures.ok c.in_ok-assign.ensures.ok
