use Rattle.std.proofs.Common.{◌≡◌, ◌++◌, map, drop, length, List}
use Rattle.chord_code.specs.declared.instruction.Instruction.{Instruction}
use Rattle.chord_bodies.specs.View.{view_expr, view_link, view_call, expr_list, links_on, calls_on}
use Rattle.chord_gen.specs.Emitted.{exprs_code}
use Rattle.chord_gen.specs.Emitting.{AreNarrow, GoesOnAs, AreNarrowLinks, AreNarrowCalls}
use Rattle.std.specs.Prelude.{◌+◌}
use Rattle.chord_gen.proofs.Weights.{in_all, expr_size, link_size, call_size}
use Rattle.chord_gen.proofs.expressions.+expressions.Given as goal

abbrev pub invariant-expressions-loop-expr : goal.invariant-expressions-loop-expr
invariant-expressions-loop-expr l =
    (l.code.items ++ exprs_code (expr_list (map view_expr (drop l.expr-index l.exprs))) (length l.code.items) ≡ l.initial.code.items ++ exprs_code (expr_list (map view_expr l.exprs)) (length l.initial.code.items)) × AreNarrow (expr_list (map view_expr (drop l.expr-index l.exprs)))

abbrev pub invariant-method_calls-loop-call : goal.invariant-method_calls-loop-call
invariant-method_calls-loop-call l =
    ((after : List Instruction) → GoesOnAs (λ receiver. calls_on receiver (map view_call (drop l.call-index l.calls))) l.code.items after → GoesOnAs (λ receiver. calls_on receiver (map view_call l.calls)) l.initial.code.items after) × AreNarrowCalls (map view_call (drop l.call-index l.calls))

abbrev pub invariant-operations-loop-link : goal.invariant-operations-loop-link
invariant-operations-loop-link l =
    ((after : List Instruction) → GoesOnAs (λ left. links_on left (map view_link (drop l.link-index l.links))) l.code.items after → GoesOnAs (λ left. links_on left (map view_link l.links)) l.initial.code.items after) × AreNarrowLinks (map view_link (drop l.link-index l.links))

abbrev pub decreases-expression : goal.decreases-expression
decreases-expression l = expr_size l.expr.now

abbrev pub decreases-expressions : goal.decreases-expressions
decreases-expressions l = in_all (map expr_size l.exprs.now) + 1

abbrev pub decreases-operation : goal.decreases-operation
decreases-operation l = link_size l.link.now

abbrev pub decreases-operations : goal.decreases-operations
decreases-operations l = in_all (map link_size l.links.now) + 1

abbrev pub decreases-right_of_and : goal.decreases-right_of_and
decreases-right_of_and l = expr_size l.right.now + 1

abbrev pub decreases-right_of_or : goal.decreases-right_of_or
decreases-right_of_or l = expr_size l.right.now + 1

abbrev pub decreases-method_call : goal.decreases-method_call
decreases-method_call l = call_size l.call.now

abbrev pub decreases-method_calls : goal.decreases-method_calls
decreases-method_calls l = in_all (map call_size l.calls.now) + 1
