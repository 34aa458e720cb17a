use Rattle.std.proofs.Common.{◌≡◌, ◌++◌, ◌+◌, map, drop, length}
use Rattle.chord_bodies.specs.View.{view_stmt, stmt_list}
use Rattle.chord_gen.specs.Emitted.{stmts_code}
use Rattle.chord_gen.specs.Emitting.{AreNarrowStmts}
use Rattle.chord_gen.proofs.Weights.{in_all, stmt_size}
use Rattle.chord_gen.proofs.statements.+statements.Given as goal

abbrev pub invariant-statements-loop-stmt : goal.invariant-statements-loop-stmt
invariant-statements-loop-stmt l =
    (l.code.items ++ stmts_code l.builder (stmt_list (map view_stmt (drop l.stmt-index l.stmts))) (length l.code.items) ≡ l.initial.code.items ++ stmts_code l.builder (stmt_list (map view_stmt l.stmts)) (length l.initial.code.items)) × AreNarrowStmts (stmt_list (map view_stmt (drop l.stmt-index l.stmts)))

abbrev pub decreases-statement : goal.decreases-statement
decreases-statement l = stmt_size l.stmt.now

abbrev pub decreases-statements : goal.decreases-statements
decreases-statements l = in_all (map stmt_size l.stmts.now) + 1

abbrev pub decreases-if_then : goal.decreases-if_then
decreases-if_then l = stmt_size l.first.now + 1

abbrev pub decreases-if_else : goal.decreases-if_else
decreases-if_else l = stmt_size l.first.now + stmt_size l.second.now + 1

abbrev pub decreases-while_loop : goal.decreases-while_loop
decreases-while_loop l = stmt_size l.body.now + 1
