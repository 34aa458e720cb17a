use Rattle.chord_tree.specs.Program.{token_kinds}
use Rattle.chord_tree.proofs.Ahead.{next_small}
use Rattle.chord_parser.proofs.Reading.{step, ends}
use Rattle.chord_parser.proofs.Chains.{stops, exits, as_node}
use Rattle.chord_parser.proofs.ClassLists.{member_of}
use Rattle.chord_parser.proofs.made.MemberSteps.{member_modifiers, member_modifiers_at}
use Rattle.chord_parser.proofs.classes.member.Goals as goal

pub returns-in_err-modifiers-clause-err : goal.returns-in_err-modifiers-clause-err
returns-in_err-modifiers-clause-err c = exits _ _ _ _ _ c.from_residual.ensures.1 (stops {count = c.args.count} (member_modifiers (member_modifiers_at _ (next_small (token_kinds c.args.tokens.now)))) _ c.in_err-modifiers.ensures.err)

pub returns-in_err-one-clause-err : goal.returns-in_err-one-clause-err
returns-in_err-one-clause-err c = exits _ _ _ _ _ c.from_residual-in_err-one.ensures.1 (stops {count = c.args.count} (step (member_modifiers (member_modifiers_at _ (next_small (token_kinds c.args.tokens.now)))) c.in_ok-modifiers.ensures.ok) _ c.in_err-one.ensures.err)

pub returns-clause-ok : goal.returns-clause-ok
returns-clause-ok c = as_node (ends (step (step (member_modifiers (member_modifiers_at _ (next_small (token_kinds c.args.tokens.now)))) c.in_ok-modifiers.ensures.ok) c.in_ok-one.ensures.ok)) (member_of _ _ c.in_ok-one.ensures.headed)
