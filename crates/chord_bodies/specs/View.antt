-- The trees and plans that resolved bodies and plans in memory stand for.
use Rattle.std.specs.Prelude.{ℕ, List, [], ◌∷◌, map, Option}
use Rattle.chord_bodies.specs.declared.expr.Expr.{Expr}
use Rattle.chord_bodies.specs.declared.expr.Link.{Link}
use Rattle.chord_bodies.specs.declared.expr.Call.{Call}
use Rattle.chord_bodies.specs.declared.expr.BinaryOperator.{BinaryOperator}
use Rattle.chord_bodies.specs.declared.expr.BinaryOperator.TheVariants.{And, Or, By}
use Rattle.chord_bodies.specs.declared.expr.Expr.TheOpen.{Expr-F, Link-F, Call-F}
use Rattle.chord_bodies.specs.declared.expr.Expr.TheOpen as parts
use Rattle.chord_bodies.specs.declared.expr.Expr.TheFolds.{fold-Expr, fold-Link, fold-Call}
use Rattle.chord_bodies.specs.declared.stmt.Stmt.{Stmt}
use Rattle.chord_bodies.specs.declared.stmt.Stmt.TheOpen.{Stmt-F}
use Rattle.chord_bodies.specs.declared.stmt.Stmt.TheOpen as stmt_parts
use Rattle.chord_bodies.specs.declared.stmt.Stmt.TheFolds.{fold-Stmt}
use Rattle.chord_base.specs.declared.static_type.StaticType.{StaticType}
use Rattle.chord_bodies.specs.declared.plan.MethodPlan.{MethodPlan}
use Rattle.chord_bodies.specs.declared.plan.ChordPlan.{ChordPlan}
use Rattle.chord_bodies.specs.declared.plan.ClassPlan.{ClassPlan}
use Rattle.chord_bodies.specs.Resolved.{ExprOf, ExprsOf, StmtOf, StmtsOf, MethodOf, ChordOf, ClassOf, NoExprs, MoreExprs, NoStmts, MoreStmts}
use Rattle.chord_bodies.specs.Resolved as to

-- arguments, of a list of them
abbrev pub expr_list : List ExprOf → ExprsOf
expr_list [] = NoExprs
expr_list (e ∷ es) = MoreExprs e (expr_list es)

-- the statements of a block, of a list of them
abbrev pub stmt_list : List StmtOf → StmtsOf
stmt_list [] = NoStmts
stmt_list (s ∷ ss) = MoreStmts s (stmt_list ss)

-- an operator and its right operand
pub record LinkOf : Type 0 where
  pub operator : BinaryOperator
  pub operand : ExprOf

-- a synchronous call on what stands before it
pub record CallOf : Type 0 where
  pub class : ℕ
  pub method : ℕ
  pub result : Option StaticType
  pub arguments : ExprsOf

-- an operator on two operands
abbrev pub binary : BinaryOperator → ExprOf → ExprOf → ExprOf
binary And left right = to.Both left right
binary Or left right = to.Either left right
binary (By operation) left right = to.Operate operation left right

-- operators, each with what stands before it as its left operand
abbrev pub links_on : ExprOf → List LinkOf → ExprOf
links_on first [] = first
links_on first (link ∷ more) = links_on (binary link.operator first link.operand) more

-- calls, each on what those before it give
abbrev pub calls_on : ExprOf → List CallOf → ExprOf
calls_on first [] = first
calls_on first (call ∷ more) = calls_on (to.Call first call.class call.method call.result call.arguments) more

-- an expression, of what its parts stand for
abbrev pub expr_view_step : Expr-F ExprOf CallOf LinkOf → ExprOf
expr_view_step (parts.Int value) = to.IntOf value
expr_view_step (parts.Flag value) = to.FlagOf value
expr_view_step (parts.Text bytes) = to.TextOf bytes
expr_view_step (parts.Load slot) = to.Load slot
expr_view_step parts.This = to.This
expr_view_step (parts.Negate operand) = to.Negate operand.value
expr_view_step (parts.Deny operand) = to.Deny operand.value
expr_view_step (parts.Chain first link more) = links_on first.value (link.value ∷ more.items)
expr_view_step (parts.New class arguments) = to.New class (expr_list arguments.items)
expr_view_step (parts.Calls first call more) = calls_on first.value (call.value ∷ more.items)

-- an operator and its right operand, of what the operand stands for
abbrev pub link_view_step : Link-F ExprOf CallOf LinkOf → LinkOf
link_view_step link = record { operator = link.operator; operand = link.operand }

-- a call, of what its arguments stand for
abbrev pub call_view_step : Call-F ExprOf CallOf LinkOf → CallOf
call_view_step call = record { class = call.class; method = call.method; result = call.result; arguments = expr_list call.arguments.items }

-- the expression that one in memory stands for
abbrev pub view_expr : Expr → ExprOf
view_expr = fold-Expr ExprOf CallOf LinkOf expr_view_step call_view_step link_view_step

-- the call that one in memory stands for
abbrev pub view_call : Call → CallOf
view_call = fold-Call ExprOf CallOf LinkOf expr_view_step call_view_step link_view_step

-- the operator and operand that a link in memory stands for
abbrev pub view_link : Link → LinkOf
view_link = fold-Link ExprOf CallOf LinkOf expr_view_step call_view_step link_view_step

-- a statement, of what its parts stand for
abbrev pub stmt_view_step : Stmt-F StmtOf → StmtOf
stmt_view_step (stmt_parts.Store slot value) = to.Store slot (view_expr value)
stmt_view_step (stmt_parts.Do value) = to.Do (view_expr value)
stmt_view_step (stmt_parts.Send receiver class method arguments) = to.Send (view_expr receiver) class method (expr_list (map view_expr arguments.items))
stmt_view_step (stmt_parts.Print value) = to.Print (view_expr value)
stmt_view_step (stmt_parts.If test first) = to.IfThen (view_expr test) first.value
stmt_view_step (stmt_parts.IfElse test first second) = to.IfElse (view_expr test) first.value second.value
stmt_view_step (stmt_parts.While test body) = to.While (view_expr test) body.value
stmt_view_step stmt_parts.Return = to.Return
stmt_view_step (stmt_parts.Give value) = to.Give (view_expr value)
stmt_view_step (stmt_parts.Block stmts) = to.Block (stmt_list stmts.items)

-- the statement that one in memory stands for
abbrev pub view_stmt : Stmt → StmtOf
view_stmt = fold-Stmt StmtOf stmt_view_step

-- the method of a plan that one in memory stands for
abbrev pub view_method_plan : MethodPlan → MethodOf
view_method_plan method = record { name = method.name; is_sync = method.is_sync; parameters = method.parameters }

-- the effective chord that one in memory stands for
abbrev pub view_chord_plan : ChordPlan → ChordOf
view_chord_plan chord = record { body = chord.body; methods = chord.methods.items }

-- the class of a plan that one in memory stands for
abbrev pub view_class_plan : ClassPlan → ClassOf
view_class_plan class = record {
  name = class.name;
  base = class.base;
  methods = map view_method_plan class.methods.items;
  chords = map view_chord_plan class.chords.items;
  own = class.own.items;
  constructor_body = class.constructor_body;
}
