use Rattle.std.proofs.Common.{sym, ap, subst, ◌∙◌, IfNone, arith}
use Rattle.chord_tree.specs.Derivation.{next}
use Rattle.chord_tree.specs.Program.{token_kinds}
use Rattle.chord_parser.specs.Climbing.{NoneUpTo}
use Rattle.chord_parser.proofs.Chains.{end_other, none_next, other_told, operator_read_at, told_nil}
use Rattle.chord_parser.proofs.Climb.{level_above}
use Rattle.chord_parser.proofs.exprs.operator_up_to.Goals as goal

pub returns-in_err-first-clause-none : goal.returns-in_err-first-clause-none
returns-in_err-first-clause-none c = subst (λ r. IfNone r (NoneUpTo c.args.level (token_kinds c.args.tokens.now))) (sym c.from_residual.ensures) (record { none = λ j h. other_told j _ _ (told_nil c.args.tokens.now c.in_err-first.ensures.cases) (end_other j) })

pub returns-in_err-operator-clause-none : goal.returns-in_err-operator-clause-none
returns-in_err-operator-clause-none c = subst (λ r. IfNone r (NoneUpTo c.args.level (token_kinds c.args.tokens.now))) (sym c.from_residual-in_err-operator.ensures) (record { none = λ j h. none_next j _ _ _ (ap token_kinds c.in_ok-first.ensures.cases.0) (sym c.operator_of_kind.ensures ∙ c.in_err-operator.was) })

pub returns-else-level_of-level-clause-none : goal.returns-else-level_of-level-clause-none
returns-else-level_of-level-clause-none c = level_above c.args.level _ _ _ c.in_ok-operator.operator (ap token_kinds c.in_ok-first.ensures.cases.0) (sym c.operator_of_kind.ensures ∙ c.in_ok-operator.was) (let e = c.level_of.ensures in let f = c.if-level_of-level.false in omega arith)

pub returns-then-level_of-level-clause-some : goal.returns-then-level_of-level-clause-some
returns-then-level_of-level-clause-some c = ap (λ z. next (token_kinds z)) c.in_ok-first.ensures.cases.0 ∙ operator_read_at _ c.in_ok-operator.operator (sym c.operator_of_kind.ensures ∙ c.in_ok-operator.was)
