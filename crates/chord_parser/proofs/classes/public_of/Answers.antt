use Rattle.std.proofs.Common.{sym, ◌∙◌}
use Rattle.chord_tree.specs.Program.{token_kinds}
use Rattle.chord_tree.proofs.Ahead.{next_small}
use Rattle.chord_parser.proofs.Reading.{step, ends}
use Rattle.chord_parser.proofs.Chains.{stops, exits}
use Rattle.chord_parser.proofs.made.ClassSteps.{optional_public_none, optional_public_none_at, optional_public_public, optional_public_public_at}
use Rattle.chord_parser.proofs.classes.public_of.Goals as goal

pub returns-in_err-at-clause-err : goal.returns-in_err-at-clause-err
returns-in_err-at-clause-err c = exits _ _ _ _ _ c.from_residual.ensures.1 (stops {count = c.args.count} (optional_public_public (optional_public_public_at _ (sym c.next.ensures ∙ c.if-next-eq-PUBLIC.true))) _ c.in_err-at.ensures.err)

pub returns-then-next-eq-PUBLIC-clause-ok : goal.returns-then-next-eq-PUBLIC-clause-ok
returns-then-next-eq-PUBLIC-clause-ok c = ends (step (optional_public_public (optional_public_public_at _ (sym c.next.ensures ∙ c.if-next-eq-PUBLIC.true))) c.in_ok-at.ensures.ok)

pub returns-clause-ok : goal.returns-clause-ok
returns-clause-ok c = ends (optional_public_none (optional_public_none_at _ (next_small (token_kinds c.args.tokens.now)) (λ q. c.if-next-eq-PUBLIC.false (c.next.ensures ∙ q))))
