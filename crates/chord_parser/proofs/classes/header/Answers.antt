use Rattle.chord_tree.specs.Program.{token_kinds}
use Rattle.chord_tree.proofs.Ahead.{next_small}
use Rattle.chord_parser.proofs.Reading.{step}
use Rattle.chord_parser.proofs.Chains.{stops, stops_parts, reads_parts, exits}
use Rattle.chord_parser.proofs.made.MemberSteps.{header_modifiers, header_modifiers_at}
use Rattle.chord_parser.proofs.classes.header.Goals as goal

pub returns-in_err-modifiers-clause-err : goal.returns-in_err-modifiers-clause-err
returns-in_err-modifiers-clause-err c = exits _ _ _ _ _ c.from_residual.ensures.1 (stops {count = c.args.count} (header_modifiers (header_modifiers_at _ (next_small (token_kinds c.args.tokens.now)))) _ c.in_err-modifiers.ensures.err)

pub returns-in_err-kind-clause-err : goal.returns-in_err-kind-clause-err
returns-in_err-kind-clause-err c = exits _ _ _ _ _ c.from_residual-in_err-kind.ensures.1 (stops {count = c.args.count} (step (header_modifiers (header_modifiers_at _ (next_small (token_kinds c.args.tokens.now)))) c.in_ok-modifiers.ensures.ok) _ c.in_err-kind.ensures.err)

pub returns-in_err-name-clause-err : goal.returns-in_err-name-clause-err
returns-in_err-name-clause-err c = exits _ _ _ _ _ c.from_residual-in_err-name.ensures.1 (stops_parts {count = c.args.count} (step (step (header_modifiers (header_modifiers_at _ (next_small (token_kinds c.args.tokens.now)))) c.in_ok-modifiers.ensures.ok) c.in_ok-kind.ensures.ok) c.in_err-name.ensures.err)

pub returns-clause-ok : goal.returns-clause-ok
returns-clause-ok c = reads_parts (step (step (header_modifiers (header_modifiers_at _ (next_small (token_kinds c.args.tokens.now)))) c.in_ok-modifiers.ensures.ok) c.in_ok-kind.ensures.ok) c.in_ok-name.ensures.ok
