use Rattle.chord_parser.specs.Runs.{none, more}
use Rattle.chord_parser.proofs.Chains.{leaves, stops_first, stops_later}
use Rattle.chord_parser.proofs.classes.class_head.Goals as goal

pub returns-in_err-public-clause-err : goal.returns-in_err-public-clause-err
returns-in_err-public-clause-err c = leaves _ _ _ c.from_residual.ensures.1 (stops_first c.in_err-public.ensures.err)

pub returns-in_err-rest-clause-err : goal.returns-in_err-rest-clause-err
returns-in_err-rest-clause-err c = leaves _ _ _ c.from_residual-in_err-rest.ensures.1 (stops_later c.in_ok-public.ensures.ok (stops_first c.in_err-rest.ensures.err))

pub returns-in_err-name-clause-err : goal.returns-in_err-name-clause-err
returns-in_err-name-clause-err c = leaves _ _ _ c.from_residual-in_err-name.ensures.1 (stops_later c.in_ok-public.ensures.ok (stops_later c.in_ok-rest.ensures.ok (stops_first c.in_err-name.ensures.err)))

pub returns-clause-ok : goal.returns-clause-ok
returns-clause-ok c = more c.in_ok-public.ensures.ok (more c.in_ok-rest.ensures.ok (more c.in_ok-name.ensures.ok none))
