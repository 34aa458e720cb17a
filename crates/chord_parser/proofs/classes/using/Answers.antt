use Rattle.chord_tree.specs.Program.{token_kinds}
use Rattle.chord_tree.proofs.Ahead.{next_small}
use Rattle.chord_parser.proofs.Reading.{step, ends}
use Rattle.chord_parser.proofs.Chains.{stops, exits}
use Rattle.chord_parser.proofs.made.ClassSteps.{using_using, using_using_at}
use Rattle.chord_parser.proofs.classes.using.Goals as goal

pub returns-in_err-rest-clause-err : goal.returns-in_err-rest-clause-err
returns-in_err-rest-clause-err c = exits _ _ _ _ _ c.from_residual.ensures.1 (stops {count = c.args.count} (using_using (using_using_at _ (next_small (token_kinds c.args.tokens.now)))) _ c.in_err-rest.ensures.err)

pub returns-in_err-first-clause-err : goal.returns-in_err-first-clause-err
returns-in_err-first-clause-err c = exits _ _ _ _ _ c.from_residual-in_err-first.ensures.1 (stops {count = c.args.count} (step (using_using (using_using_at _ (next_small (token_kinds c.args.tokens.now)))) c.in_ok-rest.ensures.ok) _ c.in_err-first.ensures.err)

pub returns-in_err-more-clause-err : goal.returns-in_err-more-clause-err
returns-in_err-more-clause-err c = exits _ _ _ _ _ c.from_residual-in_err-more.ensures.1 (stops {count = c.args.count} (step (step (using_using (using_using_at _ (next_small (token_kinds c.args.tokens.now)))) c.in_ok-rest.ensures.ok) c.in_ok-first.ensures.ok) _ c.in_err-more.ensures.err)

pub returns-in_err-rest-2-clause-err : goal.returns-in_err-rest-2-clause-err
returns-in_err-rest-2-clause-err c = exits _ _ _ _ _ c.from_residual-in_err-rest-2.ensures.1 (stops {count = c.args.count} (step (step (step (using_using (using_using_at _ (next_small (token_kinds c.args.tokens.now)))) c.in_ok-rest.ensures.ok) c.in_ok-first.ensures.ok) c.in_ok-more.ensures.ok) _ c.in_err-rest-2.ensures.err)

pub returns-clause-ok : goal.returns-clause-ok
returns-clause-ok c = ends (step (step (step (step (using_using (using_using_at _ (next_small (token_kinds c.args.tokens.now)))) c.in_ok-rest.ensures.ok) c.in_ok-first.ensures.ok) c.in_ok-more.ensures.ok) c.in_ok-rest-2.ensures.ok)
