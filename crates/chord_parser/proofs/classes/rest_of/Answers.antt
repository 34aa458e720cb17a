use Rattle.std.proofs.Common.{refl, ◌∙◌}
use Rattle.chord_tree.specs.Program.{token_kinds}
use Rattle.chord_tree.proofs.Ahead.{next_small}
use Rattle.chord_parser.specs.declared.plain.ResultKeyword.TheVariants as plains
use Rattle.chord_parser.proofs.Reading.{step}
use Rattle.chord_parser.proofs.Chains.{stops, stops_parts, reads_parts, ok_both, err_map, exits, as_node, stuck_at}
use Rattle.chord_parser.proofs.ClassLists.{rest_begun, plain_chord}
use Rattle.chord_parser.proofs.made.MemberSteps.{rest_stuck}
use Rattle.chord_parser.proofs.classes.rest_of.Goals as goal

pub returns-in_default-clause-err : goal.returns-in_default-clause-err
returns-in_default-clause-err c = stuck_at _ _ (rest_stuck _ (next_small (token_kinds c.args.tokens.now)) (λ q. c.if-next-eq-NAME.false (c.next.ensures ∙ q)) (c.in_default.ensures.none plains.Async) (c.in_default.ensures.none plains.Void) (c.in_default.ensures.none plains.Int) (c.in_default.ensures.none plains.Bool) (c.in_default.ensures.none plains.String)) refl

pub returns-in_err-kind-clause-err : goal.returns-in_err-kind-clause-err
returns-in_err-kind-clause-err c = exits _ _ _ _ _ c.from_residual.ensures.1 (stops {count = c.args.count} (rest_begun c.in-Some.word c.in-Some.ensures.some) _ c.in_err-kind.ensures.err)

pub returns-clause-ok : goal.returns-clause-ok
returns-clause-ok c = ok_both _ _ _ _ (λ r h k. as_node (reads_parts (step (rest_begun c.in-Some.word c.in-Some.ensures.some) c.in_ok-kind.ensures.ok) h) (plain_chord _ _ c.in_ok-kind.ensures.plain k)) c.chord_named.ensures.ok c.chord_named.ensures.gives

pub returns-clause-err : goal.returns-clause-err
returns-clause-err c = err_map _ _ _ (λ fault h. stops_parts {count = c.args.count} (step (rest_begun c.in-Some.word c.in-Some.ensures.some) c.in_ok-kind.ensures.ok) h) c.chord_named.ensures.err
