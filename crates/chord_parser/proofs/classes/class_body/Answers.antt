use Rattle.chord_parser.specs.Runs.{none, more}
use Rattle.chord_parser.proofs.Chains.{leaves, stops_first, stops_later}
use Rattle.chord_parser.proofs.classes.class_body.Goals as goal

pub returns-in_err-rest-clause-err : goal.returns-in_err-rest-clause-err
returns-in_err-rest-clause-err c = leaves _ _ _ c.from_residual.ensures.1 (stops_first c.in_err-rest.ensures.err)

pub returns-in_err-members-clause-err : goal.returns-in_err-members-clause-err
returns-in_err-members-clause-err c = leaves _ _ _ c.from_residual-in_err-members.ensures.1 (stops_later c.in_ok-rest.ensures.ok (stops_first c.in_err-members.ensures.err))

pub returns-in_err-end-clause-err : goal.returns-in_err-end-clause-err
returns-in_err-end-clause-err c = leaves _ _ _ c.from_residual-in_err-end.ensures.1 (stops_later c.in_ok-rest.ensures.ok (stops_later c.in_ok-members.ensures.ok (stops_first c.in_err-end.ensures.err)))

pub returns-clause-ok : goal.returns-clause-ok
returns-clause-ok c = more c.in_ok-rest.ensures.ok (more c.in_ok-members.ensures.ok (more c.in_ok-end.ensures.ok none))
