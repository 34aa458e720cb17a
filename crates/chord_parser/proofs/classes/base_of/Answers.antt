use Rattle.std.proofs.Common.{sym, ◌∙◌}
use Rattle.chord_tree.specs.Program.{token_kinds}
use Rattle.chord_tree.proofs.Ahead.{next_small}
use Rattle.chord_parser.proofs.Reading.{step, ends}
use Rattle.chord_parser.proofs.Chains.{stops, exits}
use Rattle.chord_parser.proofs.made.ClassSteps.{optional_base_colon, optional_base_colon_at, optional_base_none, optional_base_none_at}
use Rattle.chord_parser.proofs.classes.base_of.Goals as goal

pub returns-in_err-rest-clause-err : goal.returns-in_err-rest-clause-err
returns-in_err-rest-clause-err c = exits _ _ _ _ _ c.from_residual.ensures.1 (stops {count = c.args.count} (optional_base_colon (optional_base_colon_at _ (sym c.next.ensures ∙ c.if-next-eq-COLON.true))) _ c.in_err-rest.ensures.err)

pub returns-in_err-name-clause-err : goal.returns-in_err-name-clause-err
returns-in_err-name-clause-err c = exits _ _ _ _ _ c.from_residual-in_err-name.ensures.1 (stops {count = c.args.count} (step (optional_base_colon (optional_base_colon_at _ (sym c.next.ensures ∙ c.if-next-eq-COLON.true))) c.in_ok-rest.ensures.ok) _ c.in_err-name.ensures.err)

pub returns-then-next-eq-COLON-clause-ok : goal.returns-then-next-eq-COLON-clause-ok
returns-then-next-eq-COLON-clause-ok c = ends (step (step (optional_base_colon (optional_base_colon_at _ (sym c.next.ensures ∙ c.if-next-eq-COLON.true))) c.in_ok-rest.ensures.ok) c.in_ok-name.ensures.ok)

pub returns-clause-ok : goal.returns-clause-ok
returns-clause-ok c = ends (optional_base_none (optional_base_none_at _ (next_small (token_kinds c.args.tokens.now)) (λ q. c.if-next-eq-COLON.false (c.next.ensures ∙ q))))
