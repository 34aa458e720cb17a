-- Bodies in memory whose chains are as long as they can be: none begins with a chain of its own kind.
use Rattle.std.specs.Prelude.{◌≡◌, ℕ, ◌+◌, List, sum, sum_by}
use Rattle.chord_bodies.specs.declared.expr.Expr.{Expr}
use Rattle.chord_bodies.specs.declared.expr.Link.{Link}
use Rattle.chord_bodies.specs.declared.expr.Call.{Call}
use Rattle.chord_bodies.specs.declared.expr.Expr.TheOpen.{Expr-F, Link-F, Call-F}
use Rattle.chord_bodies.specs.declared.expr.Expr.TheOpen as parts
use Rattle.chord_bodies.specs.declared.expr.Expr.TheFolds.{fold-Expr, fold-Link, fold-Call}
use Rattle.chord_bodies.specs.declared.stmt.Stmt.{Stmt}
use Rattle.chord_bodies.specs.declared.stmt.Stmt.TheOpen.{Stmt-F}
use Rattle.chord_bodies.specs.declared.stmt.Stmt.TheOpen as stmt_parts
use Rattle.chord_bodies.specs.declared.stmt.Stmt.TheFolds.{fold-Stmt}
use Rattle.chord_bodies.specs.declared.body.Body.{Body}

-- what is counted of an expression
pub record ChainCount : Type 0 where
  -- 1 if it is a chain of operators
  pub operators : ℕ
  -- 1 if it is a chain of calls
  pub calls : ℕ
  -- the doubled chains in it, those that begin with a chain of their own kind
  pub doubled : ℕ

-- what is counted of an expression that is no chain, of the doubled ones in its parts
abbrev pub no_chain : ℕ → ChainCount
no_chain doubled = record { operators = 0; calls = 0; doubled = doubled }

-- what is counted of expressions, of the doubled chains alone
abbrev pub all_doubled : List ChainCount → ℕ
all_doubled counts = sum_by (λ (count : ChainCount). count.doubled) counts

-- what is counted of an expression, of what is counted of its parts
abbrev pub expr_count_step : Expr-F ChainCount ℕ ℕ → ChainCount
expr_count_step (parts.Int value) = no_chain 0
expr_count_step (parts.Flag value) = no_chain 0
expr_count_step (parts.Text bytes) = no_chain 0
expr_count_step (parts.Load slot) = no_chain 0
expr_count_step parts.This = no_chain 0
expr_count_step (parts.Negate operand) = no_chain operand.value.doubled
expr_count_step (parts.Deny operand) = no_chain operand.value.doubled
expr_count_step (parts.Chain first link more) = record { operators = 1; calls = 0; doubled = first.value.operators + first.value.doubled + link.value + sum more.items }
expr_count_step (parts.New class arguments) = no_chain (all_doubled arguments.items)
expr_count_step (parts.Calls first call more) = record { operators = 0; calls = 1; doubled = first.value.calls + first.value.doubled + call.value + sum more.items }

-- the doubled chains in the operand of a link
abbrev pub link_count_step : Link-F ChainCount ℕ ℕ → ℕ
link_count_step link = link.operand.doubled

-- the doubled chains in the arguments of a call
abbrev pub call_count_step : Call-F ChainCount ℕ ℕ → ℕ
call_count_step call = all_doubled call.arguments.items

-- what is counted of an expression
abbrev pub chain_count : Expr → ChainCount
chain_count = fold-Expr ChainCount ℕ ℕ expr_count_step call_count_step link_count_step

-- how many chains in an expression begin with a chain of their own kind
abbrev pub doubled : Expr → ℕ
doubled expr = (chain_count expr).doubled

-- the same of the operand of a link
abbrev pub doubled_link : Link → ℕ
doubled_link = fold-Link ChainCount ℕ ℕ expr_count_step call_count_step link_count_step

-- the same of the arguments of a call
abbrev pub doubled_call : Call → ℕ
doubled_call = fold-Call ChainCount ℕ ℕ expr_count_step call_count_step link_count_step

-- the doubled chains in a statement, of those in its parts
abbrev pub stmt_count_step : Stmt-F ℕ → ℕ
stmt_count_step (stmt_parts.Store slot value) = doubled value
stmt_count_step (stmt_parts.Do value) = doubled value
stmt_count_step (stmt_parts.Send receiver class method arguments) = doubled receiver + sum_by doubled arguments.items
stmt_count_step (stmt_parts.Print value) = doubled value
stmt_count_step (stmt_parts.If test first) = doubled test + first.value
stmt_count_step (stmt_parts.IfElse test first second) = doubled test + first.value + second.value
stmt_count_step (stmt_parts.While test body) = doubled test + body.value
stmt_count_step stmt_parts.Return = 0
stmt_count_step (stmt_parts.Give value) = doubled value
stmt_count_step (stmt_parts.Block stmts) = sum stmts.items

-- how many chains in a statement begin with a chain of their own kind
abbrev pub doubled_stmt : Stmt → ℕ
doubled_stmt = fold-Stmt ℕ stmt_count_step

-- the same of a body
abbrev pub doubled_body : Body → ℕ
doubled_body body = sum_by doubled_stmt body.stmts.items

-- no chain in bodies begins with a chain of its own kind
abbrev pub AreFlat : List Body → Type 0
AreFlat bodies = sum_by doubled_body bodies ≡ 0
