-- What resolved bodies in memory stand for, node by node.
use Rattle.std.proofs.Common.{◌≡◌, ℕ, List, ◌∷◌, Bool, map, sym, ap, ◌∙◌}
use Rattle.std.specs.Prelude.{Vec, Box, ℤ}
use Rattle.std.specs.Global.{Global}
use Rattle.chord_bodies.specs.declared.expr.Expr.{Expr}
use Rattle.chord_bodies.specs.declared.expr.Link.{Link, out-Link}
use Rattle.chord_bodies.specs.declared.expr.Call.{Call, out-Call}
use Rattle.chord_bodies.specs.declared.expr.Expr.TheVariants as expr
use Rattle.chord_bodies.specs.declared.expr.Expr.TheOpen as open_nodes
use Rattle.chord_bodies.specs.declared.expr.Expr.TheFolds.{fold-roll-Expr, fold_out-Call, fold_out-Link}
use Rattle.chord_bodies.specs.declared.stmt.Stmt.{Stmt}
use Rattle.chord_bodies.specs.declared.stmt.Stmt.TheVariants as stmt
use Rattle.chord_bodies.specs.declared.stmt.Stmt.TheOpen as stmt_nodes
use Rattle.chord_bodies.specs.declared.stmt.Stmt.TheFolds.{fold-roll-Stmt}
use Rattle.chord_bodies.specs.Resolved as to
use Rattle.chord_bodies.specs.Resolved.{ExprOf, StmtOf}
use Rattle.chord_bodies.specs.View.{LinkOf, CallOf, view_expr, view_call, view_link, view_stmt, stmt_view_step, expr_view_step, call_view_step, link_view_step, calls_on, links_on, expr_list, stmt_list}

-- what a number in memory stands for
pub viewed_int : (value : ℤ) → view_expr (expr.Int value) ≡ to.IntOf value
viewed_int value = ap view_expr (sym (expr.rolls-Int value)) ∙ fold-roll-Expr ExprOf CallOf LinkOf expr_view_step call_view_step link_view_step (open_nodes.Int value)

-- what a truth value in memory stands for
pub viewed_flag : (value : Bool) → view_expr (expr.Flag value) ≡ to.FlagOf value
viewed_flag value = ap view_expr (sym (expr.rolls-Flag value)) ∙ fold-roll-Expr ExprOf CallOf LinkOf expr_view_step call_view_step link_view_step (open_nodes.Flag value)

-- what a text in memory stands for
pub viewed_text : (bytes : List ℕ) → view_expr (expr.Text bytes) ≡ to.TextOf bytes
viewed_text bytes = ap view_expr (sym (expr.rolls-Text bytes)) ∙ fold-roll-Expr ExprOf CallOf LinkOf expr_view_step call_view_step link_view_step (open_nodes.Text bytes)

-- what a variable in memory stands for
pub viewed_load : (slot : ℕ) → view_expr (expr.Load slot) ≡ to.Load slot
viewed_load slot = ap view_expr (sym (expr.rolls-Load slot)) ∙ fold-roll-Expr ExprOf CallOf LinkOf expr_view_step call_view_step link_view_step (open_nodes.Load slot)

-- what `this` in memory stands for
pub viewed_this : view_expr expr.This ≡ to.This
viewed_this = ap view_expr (sym expr.rolls-This) ∙ fold-roll-Expr ExprOf CallOf LinkOf expr_view_step call_view_step link_view_step open_nodes.This

-- what a negation in memory stands for
pub viewed_negate : (operand : Box Expr Global) → view_expr (expr.Negate operand) ≡ to.Negate (view_expr operand.value)
viewed_negate operand = ap view_expr (sym (expr.rolls-Negate operand)) ∙ fold-roll-Expr ExprOf CallOf LinkOf expr_view_step call_view_step link_view_step (open_nodes.Negate operand)

-- what a denial in memory stands for
pub viewed_deny : (operand : Box Expr Global) → view_expr (expr.Deny operand) ≡ to.Deny (view_expr operand.value)
viewed_deny operand = ap view_expr (sym (expr.rolls-Deny operand)) ∙ fold-roll-Expr ExprOf CallOf LinkOf expr_view_step call_view_step link_view_step (open_nodes.Deny operand)

-- what a chain of operators in memory stands for
pub viewed_chain : (first : Box Expr Global) (link : Box Link Global) (more : Vec Link Global) → view_expr (expr.Chain first link more) ≡ links_on (view_expr first.value) (view_link link.value ∷ map view_link more.items)
viewed_chain first link more = ap view_expr (sym (expr.rolls-Chain first link more)) ∙ fold-roll-Expr ExprOf CallOf LinkOf expr_view_step call_view_step link_view_step (open_nodes.Chain first link more)

-- what a new object in memory stands for
pub viewed_new : (class : ℕ) (arguments : Vec Expr Global) → view_expr (expr.New class arguments) ≡ to.New class (expr_list (map view_expr arguments.items))
viewed_new class arguments = ap view_expr (sym (expr.rolls-New class arguments)) ∙ fold-roll-Expr ExprOf CallOf LinkOf expr_view_step call_view_step link_view_step (open_nodes.New class arguments)

-- what a chain of calls in memory stands for
pub viewed_calls : (first : Box Expr Global) (call : Box Call Global) (more : Vec Call Global) → view_expr (expr.Calls first call more) ≡ calls_on (view_expr first.value) (view_call call.value ∷ map view_call more.items)
viewed_calls first call more = ap view_expr (sym (expr.rolls-Calls first call more)) ∙ fold-roll-Expr ExprOf CallOf LinkOf expr_view_step call_view_step link_view_step (open_nodes.Calls first call more)

-- what a link in memory stands for
pub viewed_link : (link : Link) → view_link link ≡ record { operator = (out-Link link).operator; operand = view_expr (out-Link link).operand }
viewed_link link = fold_out-Link ExprOf CallOf LinkOf expr_view_step call_view_step link_view_step link

-- what a call in memory stands for
pub viewed_call : (call : Call) → view_call call ≡ record { class = (out-Call call).class; method = (out-Call call).method; result = (out-Call call).result; arguments = expr_list (map view_expr (out-Call call).arguments.items) }
viewed_call call = fold_out-Call ExprOf CallOf LinkOf expr_view_step call_view_step link_view_step call

-- what a store in memory stands for
pub viewed_store : (slot : ℕ) (value : Expr) → view_stmt (stmt.Store slot value) ≡ to.Store slot (view_expr value)
viewed_store slot value = ap view_stmt (sym (stmt.rolls-Store slot value)) ∙ fold-roll-Stmt StmtOf stmt_view_step (stmt_nodes.Store slot value)

-- what a value that is dropped in memory stands for
pub viewed_do : (value : Expr) → view_stmt (stmt.Do value) ≡ to.Do (view_expr value)
viewed_do value = ap view_stmt (sym (stmt.rolls-Do value)) ∙ fold-roll-Stmt StmtOf stmt_view_step (stmt_nodes.Do value)

-- what an asynchronous call in memory stands for
pub viewed_send : (receiver : Expr) (class method : ℕ) (arguments : Vec Expr Global) → view_stmt (stmt.Send receiver class method arguments) ≡ to.Send (view_expr receiver) class method (expr_list (map view_expr arguments.items))
viewed_send receiver class method arguments = ap view_stmt (sym (stmt.rolls-Send receiver class method arguments)) ∙ fold-roll-Stmt StmtOf stmt_view_step (stmt_nodes.Send receiver class method arguments)

-- what a line in memory stands for
pub viewed_print : (value : Expr) → view_stmt (stmt.Print value) ≡ to.Print (view_expr value)
viewed_print value = ap view_stmt (sym (stmt.rolls-Print value)) ∙ fold-roll-Stmt StmtOf stmt_view_step (stmt_nodes.Print value)

-- what an `if` without `else` in memory stands for
pub viewed_if : (test : Expr) (first : Box Stmt Global) → view_stmt (stmt.If test first) ≡ to.IfThen (view_expr test) (view_stmt first.value)
viewed_if test first = ap view_stmt (sym (stmt.rolls-If test first)) ∙ fold-roll-Stmt StmtOf stmt_view_step (stmt_nodes.If test first)

-- what an `if` with `else` in memory stands for
pub viewed_if_else : (test : Expr) (first second : Box Stmt Global) → view_stmt (stmt.IfElse test first second) ≡ to.IfElse (view_expr test) (view_stmt first.value) (view_stmt second.value)
viewed_if_else test first second = ap view_stmt (sym (stmt.rolls-IfElse test first second)) ∙ fold-roll-Stmt StmtOf stmt_view_step (stmt_nodes.IfElse test first second)

-- what a `while` in memory stands for
pub viewed_while : (test : Expr) (body : Box Stmt Global) → view_stmt (stmt.While test body) ≡ to.While (view_expr test) (view_stmt body.value)
viewed_while test body = ap view_stmt (sym (stmt.rolls-While test body)) ∙ fold-roll-Stmt StmtOf stmt_view_step (stmt_nodes.While test body)

-- what a `return` without a value in memory stands for
pub viewed_return : view_stmt stmt.Return ≡ to.Return
viewed_return = ap view_stmt (sym stmt.rolls-Return) ∙ fold-roll-Stmt StmtOf stmt_view_step stmt_nodes.Return

-- what a `return` with a value in memory stands for
pub viewed_give : (value : Expr) → view_stmt (stmt.Give value) ≡ to.Give (view_expr value)
viewed_give value = ap view_stmt (sym (stmt.rolls-Give value)) ∙ fold-roll-Stmt StmtOf stmt_view_step (stmt_nodes.Give value)

-- what a block in memory stands for
pub viewed_block : (stmts : Vec Stmt Global) → view_stmt (stmt.Block stmts) ≡ to.Block (stmt_list (map view_stmt stmts.items))
viewed_block stmts = ap view_stmt (sym (stmt.rolls-Block stmts)) ∙ fold-roll-Stmt StmtOf stmt_view_step (stmt_nodes.Block stmts)
