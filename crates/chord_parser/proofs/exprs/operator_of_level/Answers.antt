use Rattle.std.proofs.Common.{sym, ap, subst, ◌∙◌, IfNone}
use Rattle.chord_tree.specs.Derivation.{next}
use Rattle.chord_tree.specs.Program.{token_kinds}
use Rattle.chord_parser.specs.Reading.{IsOther}
use Rattle.chord_parser.proofs.Chains.{none_next, level_told, end_other, other_told, operator_read_at, told_nil}
use Rattle.chord_parser.proofs.exprs.operator_of_level.Goals as goal

pub returns-in_err-first-clause-none : goal.returns-in_err-first-clause-none
returns-in_err-first-clause-none c = subst (λ r. IfNone r (IsOther c.args.level (token_kinds c.args.tokens.now))) (sym c.from_residual.ensures) (other_told _ _ _ (told_nil c.args.tokens.now c.in_err-first.ensures.cases) (end_other c.args.level))

pub returns-in_err-operator-clause-none : goal.returns-in_err-operator-clause-none
returns-in_err-operator-clause-none c = subst (λ r. IfNone r (IsOther c.args.level (token_kinds c.args.tokens.now))) (sym c.from_residual-in_err-operator.ensures) (none_next c.args.level _ _ _ (ap token_kinds c.in_ok-first.ensures.cases.0) (sym c.operator_of_kind.ensures ∙ c.in_err-operator.was))

pub returns-else-level_of-level-clause-none : goal.returns-else-level_of-level-clause-none
returns-else-level_of-level-clause-none c = level_told c.args.level _ _ _ c.in_ok-operator.operator (ap token_kinds c.in_ok-first.ensures.cases.0) (sym c.operator_of_kind.ensures ∙ c.in_ok-operator.was) (λ e. c.if-level_of-level.false (c.level_of.ensures ∙ e))

pub returns-then-level_of-level-clause-some : goal.returns-then-level_of-level-clause-some
returns-then-level_of-level-clause-some c = ap (λ z. next (token_kinds z)) c.in_ok-first.ensures.cases.0 ∙ operator_read_at _ c.in_ok-operator.operator (sym c.operator_of_kind.ensures ∙ c.in_ok-operator.was)
