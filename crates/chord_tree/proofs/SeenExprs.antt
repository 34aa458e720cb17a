-- The trees of what lies in memory, node by node: expressions.
use Rattle.std.proofs.Common.{◌≡◌, ℕ, List, map, sym, ap, ◌∙◌}
use Rattle.std.specs.Prelude.{Box}
use Rattle.std.specs.Global.{Global}
use Rattle.chord_tree.specs.declared.names.Name.{Name}
use Rattle.chord_tree.specs.declared.exprs.Expr.{Expr}
use Rattle.chord_tree.specs.declared.exprs.Start.{Start}
use Rattle.chord_tree.specs.declared.exprs.Calls.{Calls, out-Calls}
use Rattle.chord_tree.specs.declared.exprs.Chain.{Chain, out-Chain}
use Rattle.chord_tree.specs.declared.exprs.Link.{Link, out-Link}
use Rattle.chord_tree.specs.declared.exprs.OwnCall.{OwnCall, out-OwnCall}
use Rattle.chord_tree.specs.declared.exprs.Creation.{Creation, out-Creation}
use Rattle.chord_tree.specs.declared.exprs.Actuals.{Actuals, out-Actuals}
use Rattle.chord_tree.specs.declared.exprs.Dot.{Dot, out-Dot}
use Rattle.chord_tree.specs.declared.exprs.Expr.TheVariants as expr
use Rattle.chord_tree.specs.declared.exprs.Start.TheVariants as start
use Rattle.chord_tree.specs.declared.exprs.Expr.TheOpen as open_nodes
use Rattle.chord_tree.specs.declared.exprs.Expr.TheFolds.{fold-roll-Expr, fold-roll-Start, fold_out-Calls, fold_out-Chain, fold_out-Link, fold_out-OwnCall, fold_out-Creation, fold_out-Actuals, fold_out-Dot}
use Rattle.chord_tree.specs.Tree.{ExprTree, StartTree, ActualsTree, DotTree, LinkTree, ChainExpr, links, exprs, dots, MinusExpr, NotExpr, PrimaryExpr, VariableStart, CallStart, ThisStart, NewStart, NumberStart, LiteralStart, TrueStart, FalseStart, GroupStart, MakeActuals, MakeDot, MakeLink, NoDots, MoreDots}
use Rattle.chord_tree.specs.ViewExprs.{see_expr, see_start, see_actuals, see_dot, see_link, see_chain, see_calls, see_own_call, see_creation, expr_step, start_step, actuals_step, calls_step, chain_step, creation_step, dot_step, link_step, own_call_step}

-- the tree of a chain in memory, by its parts
pub seen_chain : (chain : Chain) → see_chain chain ≡ ChainExpr (see_expr (out-Chain chain).first) (see_link (out-Chain chain).link) (links (map see_link (out-Chain chain).more.items))
seen_chain chain = fold_out-Chain ExprTree StartTree ActualsTree ExprTree ExprTree StartTree DotTree LinkTree StartTree expr_step start_step actuals_step calls_step chain_step creation_step dot_step link_step own_call_step chain

-- the tree of a chained in memory, by its parts
pub seen_chained : (chain : Box Chain Global) → see_expr (expr.Chain chain) ≡ see_chain chain.value
seen_chained chain = ap see_expr (sym (expr.rolls-Chain chain)) ∙ fold-roll-Expr ExprTree StartTree ActualsTree ExprTree ExprTree StartTree DotTree LinkTree StartTree expr_step start_step actuals_step calls_step chain_step creation_step dot_step link_step own_call_step (open_nodes.Chain chain)

-- the tree of a minus in memory, by its parts
pub seen_minus : (at : ℕ) (operand : Box Expr Global) → see_expr (expr.Minus at operand) ≡ MinusExpr at (see_expr operand.value)
seen_minus at operand = ap see_expr (sym (expr.rolls-Minus at operand)) ∙ fold-roll-Expr ExprTree StartTree ActualsTree ExprTree ExprTree StartTree DotTree LinkTree StartTree expr_step start_step actuals_step calls_step chain_step creation_step dot_step link_step own_call_step (open_nodes.Minus at operand)

-- the tree of a not in memory, by its parts
pub seen_not : (at : ℕ) (operand : Box Expr Global) → see_expr (expr.Not at operand) ≡ NotExpr at (see_expr operand.value)
seen_not at operand = ap see_expr (sym (expr.rolls-Not at operand)) ∙ fold-roll-Expr ExprTree StartTree ActualsTree ExprTree ExprTree StartTree DotTree LinkTree StartTree expr_step start_step actuals_step calls_step chain_step creation_step dot_step link_step own_call_step (open_nodes.Not at operand)

-- the tree of a start in memory on which nothing is called
pub seen_alone : (start : Start) → see_expr (expr.Start start) ≡ PrimaryExpr (see_start start) NoDots
seen_alone start = ap see_expr (sym (expr.rolls-Start start)) ∙ fold-roll-Expr ExprTree StartTree ActualsTree ExprTree ExprTree StartTree DotTree LinkTree StartTree expr_step start_step actuals_step calls_step chain_step creation_step dot_step link_step own_call_step (open_nodes.Start start)

-- the tree of a start and its calls in memory, by its parts
pub seen_calls : (calls : Calls) → see_calls calls ≡ PrimaryExpr (see_start (out-Calls calls).start) (MoreDots (see_dot (out-Calls calls).first) (dots (map see_dot (out-Calls calls).more.items)))
seen_calls calls = fold_out-Calls ExprTree StartTree ActualsTree ExprTree ExprTree StartTree DotTree LinkTree StartTree expr_step start_step actuals_step calls_step chain_step creation_step dot_step link_step own_call_step calls

-- the tree of a called in memory, by its parts
pub seen_called : (calls : Box Calls Global) → see_expr (expr.Calls calls) ≡ see_calls calls.value
seen_called calls = ap see_expr (sym (expr.rolls-Calls calls)) ∙ fold-roll-Expr ExprTree StartTree ActualsTree ExprTree ExprTree StartTree DotTree LinkTree StartTree expr_step start_step actuals_step calls_step chain_step creation_step dot_step link_step own_call_step (open_nodes.Calls calls)

-- the tree of a start variable in memory, by its parts
pub seen_start_variable : (name : Name) → see_start (start.Variable name) ≡ VariableStart name
seen_start_variable name = ap see_start (sym (start.rolls-Variable name)) ∙ fold-roll-Start ExprTree StartTree ActualsTree ExprTree ExprTree StartTree DotTree LinkTree StartTree expr_step start_step actuals_step calls_step chain_step creation_step dot_step link_step own_call_step (open_nodes.Variable name)

-- the tree of a start call in memory, by its parts
pub seen_start_call : (call : Box OwnCall Global) → see_start (start.Call call) ≡ see_own_call call.value
seen_start_call call = ap see_start (sym (start.rolls-Call call)) ∙ fold-roll-Start ExprTree StartTree ActualsTree ExprTree ExprTree StartTree DotTree LinkTree StartTree expr_step start_step actuals_step calls_step chain_step creation_step dot_step link_step own_call_step (open_nodes.Call call)

-- the tree of a call without receiver in memory, by its parts
pub seen_own_call : (call : OwnCall) → see_own_call call ≡ CallStart (out-OwnCall call).name (see_actuals (out-OwnCall call).actuals)
seen_own_call call = fold_out-OwnCall ExprTree StartTree ActualsTree ExprTree ExprTree StartTree DotTree LinkTree StartTree expr_step start_step actuals_step calls_step chain_step creation_step dot_step link_step own_call_step call

-- the tree of a start this in memory, by its parts
pub seen_start_this : (at : ℕ) → see_start (start.This at) ≡ ThisStart at
seen_start_this at = ap see_start (sym (start.rolls-This at)) ∙ fold-roll-Start ExprTree StartTree ActualsTree ExprTree ExprTree StartTree DotTree LinkTree StartTree expr_step start_step actuals_step calls_step chain_step creation_step dot_step link_step own_call_step (open_nodes.This at)

-- the tree of a start new in memory, by its parts
pub seen_start_new : (creation : Box Creation Global) → see_start (start.New creation) ≡ see_creation creation.value
seen_start_new creation = ap see_start (sym (start.rolls-New creation)) ∙ fold-roll-Start ExprTree StartTree ActualsTree ExprTree ExprTree StartTree DotTree LinkTree StartTree expr_step start_step actuals_step calls_step chain_step creation_step dot_step link_step own_call_step (open_nodes.New creation)

-- the tree of `new` and a class in memory, by its parts
pub seen_creation : (creation : Creation) → see_creation creation ≡ NewStart (out-Creation creation).at (out-Creation creation).name (see_actuals (out-Creation creation).actuals)
seen_creation creation = fold_out-Creation ExprTree StartTree ActualsTree ExprTree ExprTree StartTree DotTree LinkTree StartTree expr_step start_step actuals_step calls_step chain_step creation_step dot_step link_step own_call_step creation

-- the tree of a start number in memory, by its parts
pub seen_start_number : (value at : ℕ) → see_start (start.Number value at) ≡ NumberStart value at
seen_start_number value at = ap see_start (sym (start.rolls-Number value at)) ∙ fold-roll-Start ExprTree StartTree ActualsTree ExprTree ExprTree StartTree DotTree LinkTree StartTree expr_step start_step actuals_step calls_step chain_step creation_step dot_step link_step own_call_step (open_nodes.Number value at)

-- the tree of a start literal in memory, by its parts
pub seen_start_literal : (at : ℕ) (bytes : List ℕ) → see_start (start.Literal at bytes) ≡ LiteralStart bytes at
seen_start_literal at bytes = ap see_start (sym (start.rolls-Literal at bytes)) ∙ fold-roll-Start ExprTree StartTree ActualsTree ExprTree ExprTree StartTree DotTree LinkTree StartTree expr_step start_step actuals_step calls_step chain_step creation_step dot_step link_step own_call_step (open_nodes.Literal at bytes)

-- the tree of a start true in memory, by its parts
pub seen_start_true : (at : ℕ) → see_start (start.True at) ≡ TrueStart at
seen_start_true at = ap see_start (sym (start.rolls-True at)) ∙ fold-roll-Start ExprTree StartTree ActualsTree ExprTree ExprTree StartTree DotTree LinkTree StartTree expr_step start_step actuals_step calls_step chain_step creation_step dot_step link_step own_call_step (open_nodes.True at)

-- the tree of a start false in memory, by its parts
pub seen_start_false : (at : ℕ) → see_start (start.False at) ≡ FalseStart at
seen_start_false at = ap see_start (sym (start.rolls-False at)) ∙ fold-roll-Start ExprTree StartTree ActualsTree ExprTree ExprTree StartTree DotTree LinkTree StartTree expr_step start_step actuals_step calls_step chain_step creation_step dot_step link_step own_call_step (open_nodes.False at)

-- the tree of a chain in brackets in memory, by its parts
pub seen_start_chain_group : (at : ℕ) (chain : Box Chain Global) → see_start (start.ChainGroup at chain) ≡ GroupStart at (see_chain chain.value)
seen_start_chain_group at chain = ap see_start (sym (start.rolls-ChainGroup at chain)) ∙ fold-roll-Start ExprTree StartTree ActualsTree ExprTree ExprTree StartTree DotTree LinkTree StartTree expr_step start_step actuals_step calls_step chain_step creation_step dot_step link_step own_call_step (open_nodes.ChainGroup at chain)

-- the tree of a start group in memory, by its parts
pub seen_start_group : (at : ℕ) (inner : Box Expr Global) → see_start (start.Group at inner) ≡ GroupStart at (see_expr inner.value)
seen_start_group at inner = ap see_start (sym (start.rolls-Group at inner)) ∙ fold-roll-Start ExprTree StartTree ActualsTree ExprTree ExprTree StartTree DotTree LinkTree StartTree expr_step start_step actuals_step calls_step chain_step creation_step dot_step link_step own_call_step (open_nodes.Group at inner)

-- the tree of a link in memory, by its parts
pub seen_link : (link : Link) → see_link link ≡ MakeLink (out-Link link).operator (out-Link link).at (see_expr (out-Link link).operand)
seen_link link = fold_out-Link ExprTree StartTree ActualsTree ExprTree ExprTree StartTree DotTree LinkTree StartTree expr_step start_step actuals_step calls_step chain_step creation_step dot_step link_step own_call_step link

-- the tree of a actuals in memory, by its parts
pub seen_actuals : (actuals : Actuals) → see_actuals actuals ≡ MakeActuals (out-Actuals actuals).at (exprs (map see_expr (out-Actuals actuals).arguments.items))
seen_actuals actuals = fold_out-Actuals ExprTree StartTree ActualsTree ExprTree ExprTree StartTree DotTree LinkTree StartTree expr_step start_step actuals_step calls_step chain_step creation_step dot_step link_step own_call_step actuals

-- the tree of a dot in memory, by its parts
pub seen_dot : (dot : Dot) → see_dot dot ≡ MakeDot (out-Dot dot).at (out-Dot dot).name (see_actuals (out-Dot dot).actuals)
seen_dot dot = fold_out-Dot ExprTree StartTree ActualsTree ExprTree ExprTree StartTree DotTree LinkTree StartTree expr_step start_step actuals_step calls_step chain_step creation_step dot_step link_step own_call_step dot
