use Rattle.std.proofs.Common.{[], ◌∷◌}
use Rattle.chord_tree.specs.Symbols as grammar
use Rattle.chord_tree.specs.Program.{token_kinds}
use Rattle.chord_tree.proofs.Ahead.{next_small}
use Rattle.chord_parser.proofs.Reading.{step}
use Rattle.chord_parser.proofs.Chains.{stops, stops_parts, stops_sooner, step_three, reads_parts, exits}
use Rattle.chord_parser.proofs.made.ClassSteps.{class_optional_public, class_optional_public_at}
use Rattle.chord_parser.proofs.classes.class_of.Goals as goal

pub returns-in_err-public-clause-err : goal.returns-in_err-public-clause-err
returns-in_err-public-clause-err c = exits _ _ _ _ _ c.from_residual.ensures.1 (stops_parts {count = c.args.count} (class_optional_public (class_optional_public_at _ (next_small (token_kinds c.args.tokens.now)))) (stops_sooner (grammar.Optional_base ∷ grammar.OPEN_BRACE ∷ grammar.Members ∷ grammar.CLOSE_BRACE ∷ []) c.in_err-public.ensures.err))

pub returns-in_err-base-clause-err : goal.returns-in_err-base-clause-err
returns-in_err-base-clause-err c = exits _ _ _ _ _ c.from_residual-in_err-base.ensures.1 (stops {count = c.args.count} (step_three (class_optional_public (class_optional_public_at _ (next_small (token_kinds c.args.tokens.now)))) c.in_ok-public.ensures.ok) _ c.in_err-base.ensures.err)

pub returns-in_err-members-clause-err : goal.returns-in_err-members-clause-err
returns-in_err-members-clause-err c = exits _ _ _ _ _ c.from_residual-in_err-members.ensures.1 (stops_parts {count = c.args.count} (step (step_three (class_optional_public (class_optional_public_at _ (next_small (token_kinds c.args.tokens.now)))) c.in_ok-public.ensures.ok) c.in_ok-base.ensures.ok) c.in_err-members.ensures.err)

pub returns-clause-ok : goal.returns-clause-ok
returns-clause-ok c = reads_parts (step (step_three (class_optional_public (class_optional_public_at _ (next_small (token_kinds c.args.tokens.now)))) c.in_ok-public.ensures.ok) c.in_ok-base.ensures.ok) c.in_ok-members.ensures.ok
