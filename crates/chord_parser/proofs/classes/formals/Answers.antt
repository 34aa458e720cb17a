use Rattle.chord_tree.specs.Program.{token_kinds}
use Rattle.chord_tree.proofs.Ahead.{next_small}
use Rattle.chord_parser.proofs.Reading.{step, ends}
use Rattle.chord_parser.proofs.Chains.{stops, exits}
use Rattle.chord_parser.proofs.made.MemberSteps.{formals_open, formals_open_at}
use Rattle.chord_parser.proofs.classes.formals.Goals as goal

pub returns-in_err-at-clause-err : goal.returns-in_err-at-clause-err
returns-in_err-at-clause-err c = exits _ _ _ _ _ c.from_residual.ensures.1 (stops {count = c.args.count} (formals_open (formals_open_at _ (next_small (token_kinds c.args.tokens.now)))) _ c.in_err-at.ensures.err)

pub returns-in_err-list-clause-err : goal.returns-in_err-list-clause-err
returns-in_err-list-clause-err c = exits _ _ _ _ _ c.from_residual-in_err-list.ensures.1 (stops {count = c.args.count} (step (formals_open (formals_open_at _ (next_small (token_kinds c.args.tokens.now)))) c.in_ok-at.ensures.ok) _ c.in_err-list.ensures.err)

pub returns-in_err-rest-clause-err : goal.returns-in_err-rest-clause-err
returns-in_err-rest-clause-err c = exits _ _ _ _ _ c.from_residual-in_err-rest.ensures.1 (stops {count = c.args.count} (step (step (formals_open (formals_open_at _ (next_small (token_kinds c.args.tokens.now)))) c.in_ok-at.ensures.ok) c.in_ok-list.ensures.ok) _ c.in_err-rest.ensures.err)

pub returns-clause-ok : goal.returns-clause-ok
returns-clause-ok c = ends (step (step (step (formals_open (formals_open_at _ (next_small (token_kinds c.args.tokens.now)))) c.in_ok-at.ensures.ok) c.in_ok-list.ensures.ok) c.in_ok-rest.ensures.ok)
