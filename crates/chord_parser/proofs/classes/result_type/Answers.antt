use Rattle.std.proofs.Common.{refl, sym, ◌∙◌}
use Rattle.chord_tree.specs.Program.{token_kinds}
use Rattle.chord_tree.proofs.Ahead.{next_small}
use Rattle.chord_parser.specs.declared.plain.ResultKeyword.TheVariants as plains
use Rattle.chord_parser.proofs.Reading.{step, ends}
use Rattle.chord_parser.proofs.Chains.{stops, exits, as_node, stuck_at}
use Rattle.chord_parser.proofs.ClassLists.{result_begun, plain_result}
use Rattle.chord_parser.proofs.made.MemberSteps.{result_name, result_name_at, result_stuck}
use Rattle.chord_parser.proofs.classes.result_type.Goals as goal

pub returns-in_err-name-clause-err : goal.returns-in_err-name-clause-err
returns-in_err-name-clause-err c = exits _ _ _ _ _ c.from_residual.ensures.1 (stops {count = c.args.count} (result_name (result_name_at _ (sym c.next.ensures ∙ c.if-next-eq-NAME.true))) _ c.in_err-name.ensures.err)

pub returns-then-next-eq-NAME-clause-ok : goal.returns-then-next-eq-NAME-clause-ok
returns-then-next-eq-NAME-clause-ok c = ends (step (result_name (result_name_at _ (sym c.next.ensures ∙ c.if-next-eq-NAME.true))) c.in_ok-name.ensures.ok)

pub returns-in_default-clause-err : goal.returns-in_default-clause-err
returns-in_default-clause-err c = stuck_at _ _ (result_stuck _ (next_small (token_kinds c.args.tokens.now)) (λ q. c.if-next-eq-NAME.false (c.next.ensures ∙ q)) (c.in_default.ensures.none plains.Async) (c.in_default.ensures.none plains.Void) (c.in_default.ensures.none plains.Int) (c.in_default.ensures.none plains.Bool) (c.in_default.ensures.none plains.String)) refl

pub returns-in_err-kind-clause-err : goal.returns-in_err-kind-clause-err
returns-in_err-kind-clause-err c = exits _ _ _ _ _ c.from_residual-in_err-kind.ensures.1 (stops {count = c.args.count} (result_begun c.in-Some.word c.in-Some.ensures.some) _ c.in_err-kind.ensures.err)

pub returns-clause-ok : goal.returns-clause-ok
returns-clause-ok c = as_node (ends (step (result_begun c.in-Some.word c.in-Some.ensures.some) c.in_ok-kind.ensures.ok)) (plain_result _ c.in_ok-kind.ensures.plain)
