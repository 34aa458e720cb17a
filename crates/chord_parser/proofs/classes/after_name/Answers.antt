use Rattle.std.proofs.Common.{refl, sym, ◌∙◌}
use Rattle.chord_tree.specs.Program.{token_kinds}
use Rattle.chord_tree.proofs.Ahead.{next_small}
use Rattle.chord_parser.specs.declared.faults.Fault.TheVariants as faults
use Rattle.chord_parser.proofs.Reading.{step, ends}
use Rattle.chord_parser.proofs.Chains.{stops, stops_parts, reads_parts, ok_both, err_map, exits, as_node, stuck_at}
use Rattle.chord_parser.proofs.ClassLists.{class_chord}
use Rattle.chord_parser.proofs.made.MemberSteps.{after_formals, after_formals_at, after_name, after_name_at, after_stuck, rest_name, rest_name_at}
use Rattle.chord_parser.proofs.classes.after_name.Goals as goal

pub returns-in_err-first-clause-err : goal.returns-in_err-first-clause-err
returns-in_err-first-clause-err c = exits _ _ _ _ _ c.from_residual.ensures.1 (stops {count = c.args.count} (rest_name (rest_name_at _ c.requires.first)) _ c.in_err-first.ensures.err)

pub returns-in_err-list-clause-err : goal.returns-in_err-list-clause-err
returns-in_err-list-clause-err c = exits _ _ _ _ _ c.from_residual-in_err-list.ensures.1 (stops (step (rest_name (rest_name_at _ c.requires.first)) c.in_ok-first.ensures.ok) _ (stops_parts {count = c.args.count} (after_formals (after_formals_at _ (sym c.next-ahead.ensures ∙ c.if-ahead-eq-OPEN.true))) c.in_err-list.ensures.err))

pub returns-then-ahead-eq-OPEN-clause-ok : goal.returns-then-ahead-eq-OPEN-clause-ok
returns-then-ahead-eq-OPEN-clause-ok c = ends (step (step (rest_name (rest_name_at _ c.requires.first)) c.in_ok-first.ensures.ok) (reads_parts (after_formals (after_formals_at _ (sym c.next-ahead.ensures ∙ c.if-ahead-eq-OPEN.true))) c.in_ok-list.ensures.ok))

pub returns-then-ahead-eq-NAME-clause-ok : goal.returns-then-ahead-eq-NAME-clause-ok
returns-then-ahead-eq-NAME-clause-ok c = ok_both _ _ _ _ (λ r h k. as_node (ends (step (step (rest_name (rest_name_at _ c.requires.first)) c.in_ok-first.ensures.ok) (reads_parts (after_name (after_name_at _ (sym c.next-ahead.ensures ∙ c.if-ahead-eq-NAME.true))) h))) (class_chord _ _ k)) c.chord_named.ensures.ok c.chord_named.ensures.gives

pub returns-then-ahead-eq-NAME-clause-err : goal.returns-then-ahead-eq-NAME-clause-err
returns-then-ahead-eq-NAME-clause-err c = err_map _ _ _ (λ fault h. stops (step (rest_name (rest_name_at _ c.requires.first)) c.in_ok-first.ensures.ok) _ (stops_parts {count = c.args.count} (after_name (after_name_at _ (sym c.next-ahead.ensures ∙ c.if-ahead-eq-NAME.true))) h)) c.chord_named.ensures.err

pub returns-clause-err : goal.returns-clause-err
returns-clause-err c = stops {count = c.args.count} (step (rest_name (rest_name_at _ c.requires.first)) c.in_ok-first.ensures.ok) (faults.At _) (stuck_at _ _ (after_stuck _ (next_small (token_kinds c.in_ok-first.rest.now)) (λ q. c.if-ahead-eq-NAME.false (c.next-ahead.ensures ∙ q)) (λ q. c.if-ahead-eq-OPEN.false (c.next-ahead.ensures ∙ q))) refl)
