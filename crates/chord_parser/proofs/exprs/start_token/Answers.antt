use Rattle.std.proofs.Common.{refl, sym, ap, ◌∙◌}
use Rattle.chord_tree.specs.Program.{token_kinds}
use Rattle.chord_tree.specs.ExprNodes.{node_start}
use Rattle.chord_tree.proofs.Ahead.{next_small}
use Rattle.chord_parser.proofs.Reading.{step, ends}
use Rattle.chord_parser.proofs.Chains.{stops, exits, as_node, stuck_at}
use Rattle.chord_parser.proofs.made.ExprSteps.{operand_start_false, operand_start_false_at, operand_start_literal, operand_start_literal_at, operand_start_number, operand_start_number_at, operand_start_stuck, operand_start_this, operand_start_this_at, operand_start_true, operand_start_true_at}
use Rattle.chord_parser.proofs.exprs.start_token.Goals as goal

pub returns-in_err-at-clause-err : goal.returns-in_err-at-clause-err
returns-in_err-at-clause-err c = exits _ _ _ _ _ c.from_residual.ensures.1 (stops {count = c.args.count} (operand_start_this (operand_start_this_at _ (sym c.requires.ahead ∙ c.if-ahead-eq-THIS.true))) _ c.in_err-at.ensures.err)

pub returns-then-ahead-eq-THIS-clause-ok : goal.returns-then-ahead-eq-THIS-clause-ok
returns-then-ahead-eq-THIS-clause-ok c = as_node (ends (step (operand_start_this (operand_start_this_at _ (sym c.requires.ahead ∙ c.if-ahead-eq-THIS.true))) c.in_ok-at.ensures.ok)) (sym (ap node_start c.this.ensures))

pub returns-in_err-value-clause-err : goal.returns-in_err-value-clause-err
returns-in_err-value-clause-err c = exits _ _ _ _ _ c.from_residual-in_err-value.ensures.1 (stops {count = c.args.count} (operand_start_number (operand_start_number_at _ (sym c.requires.ahead ∙ c.if-ahead-eq-NUMBER.true))) _ c.in_err-value.ensures.err)

pub returns-then-ahead-eq-NUMBER-clause-ok : goal.returns-then-ahead-eq-NUMBER-clause-ok
returns-then-ahead-eq-NUMBER-clause-ok c = as_node (ends (step (operand_start_number (operand_start_number_at _ (sym c.requires.ahead ∙ c.if-ahead-eq-NUMBER.true))) c.in_ok-value.ensures.ok)) (sym (ap node_start c.number.ensures))

pub returns-in_err-bytes-clause-err : goal.returns-in_err-bytes-clause-err
returns-in_err-bytes-clause-err c = exits _ _ _ _ _ c.from_residual-in_err-bytes.ensures.1 (stops {count = c.args.count} (operand_start_literal (operand_start_literal_at _ (sym c.requires.ahead ∙ c.if-ahead-eq-LITERAL.true))) _ c.in_err-bytes.ensures.err)

pub returns-then-ahead-eq-LITERAL-clause-ok : goal.returns-then-ahead-eq-LITERAL-clause-ok
returns-then-ahead-eq-LITERAL-clause-ok c = as_node (ends (step (operand_start_literal (operand_start_literal_at _ (sym c.requires.ahead ∙ c.if-ahead-eq-LITERAL.true))) c.in_ok-bytes.ensures.ok)) (sym (ap node_start c.literal.ensures))

pub returns-in_err-at-2-clause-err : goal.returns-in_err-at-2-clause-err
returns-in_err-at-2-clause-err c = exits _ _ _ _ _ c.from_residual-in_err-at-2.ensures.1 (stops {count = c.args.count} (operand_start_true (operand_start_true_at _ (sym c.requires.ahead ∙ c.if-ahead-eq-TRUE.true))) _ c.in_err-at-2.ensures.err)

pub returns-then-ahead-eq-TRUE-clause-ok : goal.returns-then-ahead-eq-TRUE-clause-ok
returns-then-ahead-eq-TRUE-clause-ok c = as_node (ends (step (operand_start_true (operand_start_true_at _ (sym c.requires.ahead ∙ c.if-ahead-eq-TRUE.true))) c.in_ok-at-2.ensures.ok)) (sym (ap node_start c.true_word.ensures))

pub returns-in_err-at-3-clause-err : goal.returns-in_err-at-3-clause-err
returns-in_err-at-3-clause-err c = exits _ _ _ _ _ c.from_residual-in_err-at-3.ensures.1 (stops {count = c.args.count} (operand_start_false (operand_start_false_at _ (sym c.requires.ahead ∙ c.if-ahead-eq-FALSE.true))) _ c.in_err-at-3.ensures.err)

pub returns-then-ahead-eq-FALSE-clause-ok : goal.returns-then-ahead-eq-FALSE-clause-ok
returns-then-ahead-eq-FALSE-clause-ok c = as_node (ends (step (operand_start_false (operand_start_false_at _ (sym c.requires.ahead ∙ c.if-ahead-eq-FALSE.true))) c.in_ok-at-3.ensures.ok)) (sym (ap node_start c.false_word.ensures))

pub returns-clause-err : goal.returns-clause-err
returns-clause-err c = stuck_at _ _ (operand_start_stuck _ (next_small (token_kinds c.args.tokens.now)) c.requires.name c.requires.open (λ q. c.if-ahead-eq-THIS.false (c.requires.ahead ∙ q)) c.requires.new (λ q. c.if-ahead-eq-NUMBER.false (c.requires.ahead ∙ q)) (λ q. c.if-ahead-eq-LITERAL.false (c.requires.ahead ∙ q)) (λ q. c.if-ahead-eq-TRUE.false (c.requires.ahead ∙ q)) (λ q. c.if-ahead-eq-FALSE.false (c.requires.ahead ∙ q))) refl
