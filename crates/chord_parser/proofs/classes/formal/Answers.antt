use Rattle.chord_tree.specs.Program.{token_kinds}
use Rattle.chord_tree.proofs.Ahead.{next_small}
use Rattle.chord_parser.proofs.Reading.{step, ends}
use Rattle.chord_parser.proofs.Chains.{stops, exits}
use Rattle.chord_parser.proofs.made.MemberSteps.{formal_value_type, formal_value_type_at}
use Rattle.chord_parser.proofs.classes.formal.Goals as goal

pub returns-in_err-kind-clause-err : goal.returns-in_err-kind-clause-err
returns-in_err-kind-clause-err c = exits _ _ _ _ _ c.from_residual.ensures.1 (stops {count = c.args.count} (formal_value_type (formal_value_type_at _ (next_small (token_kinds c.args.tokens.now)))) _ c.in_err-kind.ensures.err)

pub returns-in_err-name-clause-err : goal.returns-in_err-name-clause-err
returns-in_err-name-clause-err c = exits _ _ _ _ _ c.from_residual-in_err-name.ensures.1 (stops {count = c.args.count} (step (formal_value_type (formal_value_type_at _ (next_small (token_kinds c.args.tokens.now)))) c.in_ok-kind.ensures.ok) _ c.in_err-name.ensures.err)

pub returns-clause-ok : goal.returns-clause-ok
returns-clause-ok c = ends (step (step (formal_value_type (formal_value_type_at _ (next_small (token_kinds c.args.tokens.now)))) c.in_ok-kind.ensures.ok) c.in_ok-name.ensures.ok)
