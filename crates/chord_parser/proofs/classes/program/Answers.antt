use Rattle.chord_tree.specs.Program.{token_kinds}
use Rattle.chord_tree.proofs.Ahead.{next_small}
use Rattle.chord_parser.proofs.Reading.{step, ends}
use Rattle.chord_parser.proofs.Chains.{stops, exits, as_node}
use Rattle.chord_parser.proofs.ClassLists.{program_of}
use Rattle.chord_parser.proofs.made.ClassSteps.{whole_program_usings, whole_program_usings_at}
use Rattle.chord_parser.proofs.classes.program.Goals as goal

pub returns-in_err-usings-clause-err : goal.returns-in_err-usings-clause-err
returns-in_err-usings-clause-err c = exits _ _ _ _ _ c.from_residual.ensures.1 (stops {count = c.args.count} (whole_program_usings (whole_program_usings_at _ (next_small (token_kinds c.args.tokens.now)))) _ c.in_err-usings.ensures.err)

pub returns-in_err-first-clause-err : goal.returns-in_err-first-clause-err
returns-in_err-first-clause-err c = exits _ _ _ _ _ c.from_residual-in_err-first.ensures.1 (stops {count = c.args.count} (step (whole_program_usings (whole_program_usings_at _ (next_small (token_kinds c.args.tokens.now)))) c.in_ok-usings.ensures.ok) _ c.in_err-first.ensures.err)

pub returns-in_err-classes-clause-err : goal.returns-in_err-classes-clause-err
returns-in_err-classes-clause-err c = exits _ _ _ _ _ c.from_residual-in_err-classes.ensures.1 (stops {count = c.args.count} (step (step (whole_program_usings (whole_program_usings_at _ (next_small (token_kinds c.args.tokens.now)))) c.in_ok-usings.ensures.ok) c.in_ok-first.ensures.ok) _ c.in_err-classes.ensures.err)

pub returns-clause-ok : goal.returns-clause-ok
returns-clause-ok c = as_node (ends (step (step (step (whole_program_usings (whole_program_usings_at _ (next_small (token_kinds c.args.tokens.now)))) c.in_ok-usings.ensures.ok) c.in_ok-first.ensures.ok) c.in_ok-classes.ensures.ok)) (program_of _ _ _ c.in_ok-classes.ensures.first)
