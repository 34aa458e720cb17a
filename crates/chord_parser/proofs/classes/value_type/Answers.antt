use Rattle.std.proofs.Common.{refl, sym, ◌∙◌}
use Rattle.chord_tree.specs.Program.{token_kinds}
use Rattle.chord_tree.proofs.Ahead.{next_small}
use Rattle.chord_parser.proofs.Reading.{step, ends}
use Rattle.chord_parser.proofs.Chains.{stops, exits, stuck_at}
use Rattle.chord_parser.proofs.made.MemberSteps.{value_type_bool, value_type_bool_at, value_type_int, value_type_int_at, value_type_name, value_type_name_at, value_type_string, value_type_string_at, value_type_stuck}
use Rattle.chord_parser.proofs.classes.value_type.Goals as goal

pub returns-in_err-at-clause-err : goal.returns-in_err-at-clause-err
returns-in_err-at-clause-err c = exits _ _ _ _ _ c.from_residual.ensures.1 (stops {count = c.args.count} (value_type_int (value_type_int_at _ (sym c.next-ahead.ensures ∙ c.if-ahead-eq-INT.true))) _ c.in_err-at.ensures.err)

pub returns-then-ahead-eq-INT-clause-ok : goal.returns-then-ahead-eq-INT-clause-ok
returns-then-ahead-eq-INT-clause-ok c = ends (step (value_type_int (value_type_int_at _ (sym c.next-ahead.ensures ∙ c.if-ahead-eq-INT.true))) c.in_ok-at.ensures.ok)

pub returns-in_err-at-2-clause-err : goal.returns-in_err-at-2-clause-err
returns-in_err-at-2-clause-err c = exits _ _ _ _ _ c.from_residual-in_err-at-2.ensures.1 (stops {count = c.args.count} (value_type_bool (value_type_bool_at _ (sym c.next-ahead.ensures ∙ c.if-ahead-eq-BOOL.true))) _ c.in_err-at-2.ensures.err)

pub returns-then-ahead-eq-BOOL-clause-ok : goal.returns-then-ahead-eq-BOOL-clause-ok
returns-then-ahead-eq-BOOL-clause-ok c = ends (step (value_type_bool (value_type_bool_at _ (sym c.next-ahead.ensures ∙ c.if-ahead-eq-BOOL.true))) c.in_ok-at-2.ensures.ok)

pub returns-in_err-at-3-clause-err : goal.returns-in_err-at-3-clause-err
returns-in_err-at-3-clause-err c = exits _ _ _ _ _ c.from_residual-in_err-at-3.ensures.1 (stops {count = c.args.count} (value_type_string (value_type_string_at _ (sym c.next-ahead.ensures ∙ c.if-ahead-eq-STRING.true))) _ c.in_err-at-3.ensures.err)

pub returns-then-ahead-eq-STRING-clause-ok : goal.returns-then-ahead-eq-STRING-clause-ok
returns-then-ahead-eq-STRING-clause-ok c = ends (step (value_type_string (value_type_string_at _ (sym c.next-ahead.ensures ∙ c.if-ahead-eq-STRING.true))) c.in_ok-at-3.ensures.ok)

pub returns-in_err-name-clause-err : goal.returns-in_err-name-clause-err
returns-in_err-name-clause-err c = exits _ _ _ _ _ c.from_residual-in_err-name.ensures.1 (stops {count = c.args.count} (value_type_name (value_type_name_at _ (sym c.next-ahead.ensures ∙ c.if-ahead-eq-NAME.true))) _ c.in_err-name.ensures.err)

pub returns-then-ahead-eq-NAME-clause-ok : goal.returns-then-ahead-eq-NAME-clause-ok
returns-then-ahead-eq-NAME-clause-ok c = ends (step (value_type_name (value_type_name_at _ (sym c.next-ahead.ensures ∙ c.if-ahead-eq-NAME.true))) c.in_ok-name.ensures.ok)

pub returns-clause-err : goal.returns-clause-err
returns-clause-err c = stuck_at _ _ (value_type_stuck _ (next_small (token_kinds c.args.tokens.now)) (λ q. c.if-ahead-eq-NAME.false (c.next-ahead.ensures ∙ q)) (λ q. c.if-ahead-eq-INT.false (c.next-ahead.ensures ∙ q)) (λ q. c.if-ahead-eq-BOOL.false (c.next-ahead.ensures ∙ q)) (λ q. c.if-ahead-eq-STRING.false (c.next-ahead.ensures ∙ q))) refl
