-- The tree that an expression in memory stands for.
use Rattle.chord_tree.specs.declared.exprs.Expr.{Expr}
use Rattle.chord_tree.specs.declared.exprs.Calls.{Calls}
use Rattle.chord_tree.specs.declared.exprs.Chain.{Chain}
use Rattle.chord_tree.specs.declared.exprs.Link.{Link}
use Rattle.chord_tree.specs.declared.exprs.Start.{Start}
use Rattle.chord_tree.specs.declared.exprs.OwnCall.{OwnCall}
use Rattle.chord_tree.specs.declared.exprs.Creation.{Creation}
use Rattle.chord_tree.specs.declared.exprs.Actuals.{Actuals}
use Rattle.chord_tree.specs.declared.exprs.Dot.{Dot}
use Rattle.chord_tree.specs.declared.exprs.Expr.TheOpen.{Expr-F, Calls-F, Chain-F, Link-F, Start-F, OwnCall-F, Creation-F, Actuals-F, Dot-F}
use Rattle.chord_tree.specs.declared.exprs.Expr.TheOpen as parts
use Rattle.chord_tree.specs.declared.exprs.Expr.TheFolds.{fold-Expr, fold-Calls, fold-Chain, fold-Link, fold-Start, fold-OwnCall, fold-Creation, fold-Actuals, fold-Dot}
use Rattle.chord_tree.specs.Tree.{ExprTree, LinkTree, StartTree, ActualsTree, DotTree, MinusExpr, NotExpr, PrimaryExpr, MakeLink, VariableStart, CallStart, ThisStart, NewStart, NumberStart, LiteralStart, TrueStart, FalseStart, GroupStart, MakeActuals, MakeDot, ChainExpr, links, exprs, dots, NoDots, MoreDots}

-- an expression, where its parts are seen
abbrev pub expr_step : Expr-F ExprTree StartTree ActualsTree ExprTree ExprTree StartTree DotTree LinkTree StartTree → ExprTree
expr_step (parts.Chain chain) = chain.value
expr_step (parts.Minus at operand) = MinusExpr at operand.value
expr_step (parts.Not at operand) = NotExpr at operand.value
expr_step (parts.Start start) = PrimaryExpr start NoDots
expr_step (parts.Calls calls) = calls.value

-- a chain of operators
abbrev pub chain_step : Chain-F ExprTree StartTree ActualsTree ExprTree ExprTree StartTree DotTree LinkTree StartTree → ExprTree
chain_step chain = ChainExpr chain.first chain.link (links chain.more.items)

-- a start and the calls on it
abbrev pub calls_step : Calls-F ExprTree StartTree ActualsTree ExprTree ExprTree StartTree DotTree LinkTree StartTree → ExprTree
calls_step calls = PrimaryExpr calls.start (MoreDots calls.first (dots calls.more.items))

-- the start of an operand
abbrev pub start_step : Start-F ExprTree StartTree ActualsTree ExprTree ExprTree StartTree DotTree LinkTree StartTree → StartTree
start_step (parts.Variable name) = VariableStart name
start_step (parts.Call call) = call.value
start_step (parts.This at) = ThisStart at
start_step (parts.New creation) = creation.value
start_step (parts.Number value at) = NumberStart value at
start_step (parts.Literal at bytes) = LiteralStart bytes at
start_step (parts.True at) = TrueStart at
start_step (parts.False at) = FalseStart at
start_step (parts.ChainGroup at chain) = GroupStart at chain.value
start_step (parts.Group at inner) = GroupStart at inner.value

-- a call without receiver
abbrev pub own_call_step : OwnCall-F ExprTree StartTree ActualsTree ExprTree ExprTree StartTree DotTree LinkTree StartTree → StartTree
own_call_step call = CallStart call.name call.actuals

-- `new`, a class and the arguments of its constructor
abbrev pub creation_step : Creation-F ExprTree StartTree ActualsTree ExprTree ExprTree StartTree DotTree LinkTree StartTree → StartTree
creation_step creation = NewStart creation.at creation.name creation.actuals

-- arguments
abbrev pub actuals_step : Actuals-F ExprTree StartTree ActualsTree ExprTree ExprTree StartTree DotTree LinkTree StartTree → ActualsTree
actuals_step actuals = MakeActuals actuals.at (exprs actuals.arguments.items)

-- a call on what stands before
abbrev pub dot_step : Dot-F ExprTree StartTree ActualsTree ExprTree ExprTree StartTree DotTree LinkTree StartTree → DotTree
dot_step dot = MakeDot dot.at dot.name dot.actuals

-- an operator and its right operand
abbrev pub link_step : Link-F ExprTree StartTree ActualsTree ExprTree ExprTree StartTree DotTree LinkTree StartTree → LinkTree
link_step link = MakeLink link.operator link.at link.operand

-- the tree of an expression in memory
abbrev pub see_expr : Expr → ExprTree
see_expr = fold-Expr ExprTree StartTree ActualsTree ExprTree ExprTree StartTree DotTree LinkTree StartTree expr_step start_step actuals_step calls_step chain_step creation_step dot_step link_step own_call_step

-- the tree of a chain in memory
abbrev pub see_chain : Chain → ExprTree
see_chain = fold-Chain ExprTree StartTree ActualsTree ExprTree ExprTree StartTree DotTree LinkTree StartTree expr_step start_step actuals_step calls_step chain_step creation_step dot_step link_step own_call_step

-- the tree of a start and its calls in memory
abbrev pub see_calls : Calls → ExprTree
see_calls = fold-Calls ExprTree StartTree ActualsTree ExprTree ExprTree StartTree DotTree LinkTree StartTree expr_step start_step actuals_step calls_step chain_step creation_step dot_step link_step own_call_step

-- the tree of a start in memory
abbrev pub see_start : Start → StartTree
see_start = fold-Start ExprTree StartTree ActualsTree ExprTree ExprTree StartTree DotTree LinkTree StartTree expr_step start_step actuals_step calls_step chain_step creation_step dot_step link_step own_call_step

-- the tree of a call without receiver in memory
abbrev pub see_own_call : OwnCall → StartTree
see_own_call = fold-OwnCall ExprTree StartTree ActualsTree ExprTree ExprTree StartTree DotTree LinkTree StartTree expr_step start_step actuals_step calls_step chain_step creation_step dot_step link_step own_call_step

-- the tree of `new` and a class in memory
abbrev pub see_creation : Creation → StartTree
see_creation = fold-Creation ExprTree StartTree ActualsTree ExprTree ExprTree StartTree DotTree LinkTree StartTree expr_step start_step actuals_step calls_step chain_step creation_step dot_step link_step own_call_step

-- the tree of arguments in memory
abbrev pub see_actuals : Actuals → ActualsTree
see_actuals = fold-Actuals ExprTree StartTree ActualsTree ExprTree ExprTree StartTree DotTree LinkTree StartTree expr_step start_step actuals_step calls_step chain_step creation_step dot_step link_step own_call_step

-- the tree of a call in memory
abbrev pub see_dot : Dot → DotTree
see_dot = fold-Dot ExprTree StartTree ActualsTree ExprTree ExprTree StartTree DotTree LinkTree StartTree expr_step start_step actuals_step calls_step chain_step creation_step dot_step link_step own_call_step

-- the tree of a link in memory
abbrev pub see_link : Link → LinkTree
see_link = fold-Link ExprTree StartTree ActualsTree ExprTree ExprTree StartTree DotTree LinkTree StartTree expr_step start_step actuals_step calls_step chain_step creation_step dot_step link_step own_call_step
