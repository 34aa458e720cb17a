-- Measures by which the walks over expressions and statements end.
use Rattle.std.proofs.Common.{◌≡◌, ℕ, zero, suc, ◌+◌, ◌<◌, ◌≤◌, List, [], ◌∷◌, length, get_or, map, sym, ap, ◌∙◌, arith}
use Rattle.std.specs.Prelude.{Vec, Box}
use Rattle.std.specs.Global.{Global}
use Rattle.chord_bodies.specs.declared.expr.Expr.{Expr}
use Rattle.chord_bodies.specs.declared.expr.Link.{Link, out-Link}
use Rattle.chord_bodies.specs.declared.expr.Call.{Call, out-Call}
use Rattle.chord_bodies.specs.declared.expr.Expr.TheVariants as expr
use Rattle.chord_bodies.specs.declared.expr.Expr.TheOpen.{Expr-F, Link-F, Call-F}
use Rattle.chord_bodies.specs.declared.expr.Expr.TheOpen as nodes
use Rattle.chord_bodies.specs.declared.expr.Expr.TheFolds.{fold-Expr, fold-Link, fold-Call, fold-roll-Expr, fold_out-Call, fold_out-Link}
use Rattle.chord_bodies.specs.declared.stmt.Stmt.{Stmt}
use Rattle.chord_bodies.specs.declared.stmt.Stmt.TheVariants as stmt
use Rattle.chord_bodies.specs.declared.stmt.Stmt.TheOpen.{Stmt-F}
use Rattle.chord_bodies.specs.declared.stmt.Stmt.TheOpen as stmt_nodes
use Rattle.chord_bodies.specs.declared.stmt.Stmt.TheFolds.{fold-Stmt, fold-roll-Stmt}

-- weights added up
abbrev pub in_all : List ℕ → ℕ
in_all [] = 0
in_all (n ∷ ns) = n + in_all ns

-- the weight of an expression, where its parts are weighed
abbrev pub expr_step : Expr-F ℕ ℕ ℕ → ℕ
expr_step (nodes.Negate operand) = operand.value + 1
expr_step (nodes.Deny operand) = operand.value + 1
expr_step (nodes.Chain first link more) = first.value + link.value + in_all more.items + 3
expr_step (nodes.New class arguments) = in_all arguments.items + 2
expr_step (nodes.Calls first call more) = first.value + call.value + in_all more.items + 3
expr_step _ = 1

-- the weight of an operator and its operand, where that is weighed
abbrev pub link_step : Link-F ℕ ℕ ℕ → ℕ
link_step link = link.operand + 2

-- the weight of a call, where its arguments are weighed
abbrev pub arguments_step : Call-F ℕ ℕ ℕ → ℕ
arguments_step call = in_all call.arguments.items + 2

-- the weight of an expression
abbrev pub expr_size : Expr → ℕ
expr_size = fold-Expr ℕ ℕ ℕ expr_step arguments_step link_step

-- the weight of an operator and its operand
abbrev pub link_size : Link → ℕ
link_size = fold-Link ℕ ℕ ℕ expr_step arguments_step link_step

-- the weight of a call
abbrev pub call_size : Call → ℕ
call_size = fold-Call ℕ ℕ ℕ expr_step arguments_step link_step

-- the weight of a negation
pub size_negate : (operand : Box Expr Global) → expr_size (expr.Negate operand) ≡ expr_size operand.value + 1
size_negate operand = ap expr_size (sym (expr.rolls-Negate operand)) ∙ fold-roll-Expr ℕ ℕ ℕ expr_step arguments_step link_step (nodes.Negate operand)

-- the weight of a denial
pub size_deny : (operand : Box Expr Global) → expr_size (expr.Deny operand) ≡ expr_size operand.value + 1
size_deny operand = ap expr_size (sym (expr.rolls-Deny operand)) ∙ fold-roll-Expr ℕ ℕ ℕ expr_step arguments_step link_step (nodes.Deny operand)

-- the weight of a chain of operators
pub size_chain : (first : Box Expr Global) (link : Box Link Global) (more : Vec Link Global) → expr_size (expr.Chain first link more) ≡ expr_size first.value + link_size link.value + in_all (map link_size more.items) + 3
size_chain first link more = ap expr_size (sym (expr.rolls-Chain first link more)) ∙ fold-roll-Expr ℕ ℕ ℕ expr_step arguments_step link_step (nodes.Chain first link more)

-- the weight of a new object
pub size_new : (class : ℕ) (arguments : Vec Expr Global) → expr_size (expr.New class arguments) ≡ in_all (map expr_size arguments.items) + 2
size_new class arguments = ap expr_size (sym (expr.rolls-New class arguments)) ∙ fold-roll-Expr ℕ ℕ ℕ expr_step arguments_step link_step (nodes.New class arguments)

-- the weight of a chain of calls
pub size_calls : (first : Box Expr Global) (call : Box Call Global) (more : Vec Call Global) → expr_size (expr.Calls first call more) ≡ expr_size first.value + call_size call.value + in_all (map call_size more.items) + 3
size_calls first call more = ap expr_size (sym (expr.rolls-Calls first call more)) ∙ fold-roll-Expr ℕ ℕ ℕ expr_step arguments_step link_step (nodes.Calls first call more)

-- the weight of an operator and its operand by that of the operand
pub size_link : (link : Link) → link_size link ≡ expr_size (out-Link link).operand + 2
size_link link = fold_out-Link ℕ ℕ ℕ expr_step arguments_step link_step link

-- the weight of a call by those of its arguments
pub size_call : (call : Call) → call_size call ≡ in_all (map expr_size (out-Call call).arguments.items) + 2
size_call call = fold_out-Call ℕ ℕ ℕ expr_step arguments_step link_step call

-- one of a list weighs no more than all
pub one_in_all : {A : Type 0} (f : A → ℕ) (xs : List A) (i : ℕ) (x : A) → i < length xs → x ≡ get_or xs i x → f x ≤ in_all (map f xs)
one_in_all f [] i x l e = absurd (omega arith)
one_in_all f (a ∷ xs) zero x l e = let h : f x ≡ f a = ap f e in omega (arith, h)
one_in_all f (a ∷ xs) (suc i) x l e = let h = one_in_all f xs i x (omega arith) e in omega (arith, h)

-- the weight of a statement, where its parts are weighed
abbrev pub stmt_step : Stmt-F ℕ → ℕ
stmt_step (stmt_nodes.If test first) = first.value + 2
stmt_step (stmt_nodes.IfElse test first second) = first.value + second.value + 2
stmt_step (stmt_nodes.While test body) = body.value + 2
stmt_step (stmt_nodes.Block stmts) = in_all stmts.items + 2
stmt_step _ = 1

-- the weight of a statement
abbrev pub stmt_size : Stmt → ℕ
stmt_size = fold-Stmt ℕ stmt_step

-- the weight of an `if` without `else`
pub size_if : (test : Expr) (first : Box Stmt Global) → stmt_size (stmt.If test first) ≡ stmt_size first.value + 2
size_if test first = ap stmt_size (sym (stmt.rolls-If test first)) ∙ fold-roll-Stmt ℕ stmt_step (stmt_nodes.If test first)

-- the weight of an `if` with `else`
pub size_if_else : (test : Expr) (first second : Box Stmt Global) → stmt_size (stmt.IfElse test first second) ≡ stmt_size first.value + stmt_size second.value + 2
size_if_else test first second = ap stmt_size (sym (stmt.rolls-IfElse test first second)) ∙ fold-roll-Stmt ℕ stmt_step (stmt_nodes.IfElse test first second)

-- the weight of a loop
pub size_while : (test : Expr) (body : Box Stmt Global) → stmt_size (stmt.While test body) ≡ stmt_size body.value + 2
size_while test body = ap stmt_size (sym (stmt.rolls-While test body)) ∙ fold-roll-Stmt ℕ stmt_step (stmt_nodes.While test body)

-- the weight of a block
pub size_block : (stmts : Vec Stmt Global) → stmt_size (stmt.Block stmts) ≡ in_all (map stmt_size stmts.items) + 2
size_block stmts = ap stmt_size (sym (stmt.rolls-Block stmts)) ∙ fold-roll-Stmt ℕ stmt_step (stmt_nodes.Block stmts)
