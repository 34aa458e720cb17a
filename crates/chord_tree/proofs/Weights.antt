-- Measures by which the walks over expressions end.
use Rattle.std.proofs.Common.{◌≡◌, ℕ, zero, suc, ◌+◌, ◌<◌, ◌≤◌, List, [], ◌∷◌, length, get_or, map, sym, ap, ◌∙◌, arith}
use Rattle.std.specs.Prelude.{Box}
use Rattle.std.specs.Global.{Global}
use Rattle.chord_tree.specs.declared.exprs.Expr.{Expr}
use Rattle.chord_tree.specs.declared.exprs.Start.{Start}
use Rattle.chord_tree.specs.declared.exprs.Calls.{Calls, out-Calls}
use Rattle.chord_tree.specs.declared.exprs.Chain.{Chain, out-Chain}
use Rattle.chord_tree.specs.declared.exprs.Link.{Link, out-Link}
use Rattle.chord_tree.specs.declared.exprs.OwnCall.{OwnCall, out-OwnCall}
use Rattle.chord_tree.specs.declared.exprs.Creation.{Creation, out-Creation}
use Rattle.chord_tree.specs.declared.exprs.Actuals.{Actuals, out-Actuals}
use Rattle.chord_tree.specs.declared.exprs.Dot.{Dot, out-Dot}
use Rattle.chord_tree.specs.declared.exprs.Expr.TheVariants as expr
use Rattle.chord_tree.specs.declared.exprs.Start.TheVariants as start
use Rattle.chord_tree.specs.declared.exprs.Expr.TheOpen.{Expr-F, Calls-F, Chain-F, Link-F, Start-F, OwnCall-F, Creation-F, Actuals-F, Dot-F}
use Rattle.chord_tree.specs.declared.exprs.Expr.TheOpen as open_nodes
use Rattle.chord_tree.specs.declared.exprs.Expr.TheFolds.{fold-Expr, fold-Calls, fold-Chain, fold-Link, fold-Start, fold-OwnCall, fold-Creation, fold-Actuals, fold-Dot, fold-roll-Expr, fold-roll-Start, fold_out-Calls, fold_out-Chain, fold_out-Link, fold_out-OwnCall, fold_out-Creation, fold_out-Actuals, fold_out-Dot}

-- the sum of a list
abbrev pub total : List ℕ → ℕ
total [] = 0
total (x ∷ xs) = x + total xs

-- the weight of a expr, where its parts are weighed
abbrev pub expr_weight : Expr-F ℕ ℕ ℕ ℕ ℕ ℕ ℕ ℕ ℕ → ℕ
expr_weight (open_nodes.Chain chain) = chain.value + 1
expr_weight (open_nodes.Minus at operand) = operand.value + 1
expr_weight (open_nodes.Not at operand) = operand.value + 1
expr_weight (open_nodes.Start start) = start + 1
expr_weight (open_nodes.Calls calls) = calls.value + 1

-- the weight of a chain, where its parts are weighed
abbrev pub chain_weight : Chain-F ℕ ℕ ℕ ℕ ℕ ℕ ℕ ℕ ℕ → ℕ
chain_weight chain = chain.first + chain.link + total chain.more.items + 2

-- the weight of a start and its calls, where its parts are weighed
abbrev pub calls_weight : Calls-F ℕ ℕ ℕ ℕ ℕ ℕ ℕ ℕ ℕ → ℕ
calls_weight calls = calls.start + calls.first + total calls.more.items + 2

-- the weight of a start, where its parts are weighed
abbrev pub start_weight : Start-F ℕ ℕ ℕ ℕ ℕ ℕ ℕ ℕ ℕ → ℕ
start_weight (open_nodes.Call call) = call.value + 1
start_weight (open_nodes.New creation) = creation.value + 1
start_weight (open_nodes.ChainGroup at chain) = chain.value + 1
start_weight (open_nodes.Group at inner) = inner.value + 1
start_weight _ = 1

-- the weight of a call without receiver, where its parts are weighed
abbrev pub own_call_weight : OwnCall-F ℕ ℕ ℕ ℕ ℕ ℕ ℕ ℕ ℕ → ℕ
own_call_weight call = call.actuals + 1

-- the weight of `new` and a class, where its parts are weighed
abbrev pub creation_weight : Creation-F ℕ ℕ ℕ ℕ ℕ ℕ ℕ ℕ ℕ → ℕ
creation_weight creation = creation.actuals + 1

-- the weight of a actuals, where its parts are weighed
abbrev pub actuals_weight : Actuals-F ℕ ℕ ℕ ℕ ℕ ℕ ℕ ℕ ℕ → ℕ
actuals_weight actuals = total actuals.arguments.items + 2

-- the weight of a dot, where its parts are weighed
abbrev pub dot_weight : Dot-F ℕ ℕ ℕ ℕ ℕ ℕ ℕ ℕ ℕ → ℕ
dot_weight dot = dot.actuals + 1

-- the weight of a link, where its parts are weighed
abbrev pub link_weight : Link-F ℕ ℕ ℕ ℕ ℕ ℕ ℕ ℕ ℕ → ℕ
link_weight link = link.operand + 1

-- the weight of a expr
abbrev pub weigh_expr : Expr → ℕ
weigh_expr = fold-Expr ℕ ℕ ℕ ℕ ℕ ℕ ℕ ℕ ℕ expr_weight start_weight actuals_weight calls_weight chain_weight creation_weight dot_weight link_weight own_call_weight

-- the weight of a start
abbrev pub weigh_start : Start → ℕ
weigh_start = fold-Start ℕ ℕ ℕ ℕ ℕ ℕ ℕ ℕ ℕ expr_weight start_weight actuals_weight calls_weight chain_weight creation_weight dot_weight link_weight own_call_weight

-- the weight of a call without receiver
abbrev pub weigh_own_call : OwnCall → ℕ
weigh_own_call = fold-OwnCall ℕ ℕ ℕ ℕ ℕ ℕ ℕ ℕ ℕ expr_weight start_weight actuals_weight calls_weight chain_weight creation_weight dot_weight link_weight own_call_weight

-- the weight of `new` and a class
abbrev pub weigh_creation : Creation → ℕ
weigh_creation = fold-Creation ℕ ℕ ℕ ℕ ℕ ℕ ℕ ℕ ℕ expr_weight start_weight actuals_weight calls_weight chain_weight creation_weight dot_weight link_weight own_call_weight

-- the weight of a actuals
abbrev pub weigh_actuals : Actuals → ℕ
weigh_actuals = fold-Actuals ℕ ℕ ℕ ℕ ℕ ℕ ℕ ℕ ℕ expr_weight start_weight actuals_weight calls_weight chain_weight creation_weight dot_weight link_weight own_call_weight

-- the weight of a dot
abbrev pub weigh_dot : Dot → ℕ
weigh_dot = fold-Dot ℕ ℕ ℕ ℕ ℕ ℕ ℕ ℕ ℕ expr_weight start_weight actuals_weight calls_weight chain_weight creation_weight dot_weight link_weight own_call_weight

-- the weight of a link
abbrev pub weigh_link : Link → ℕ
weigh_link = fold-Link ℕ ℕ ℕ ℕ ℕ ℕ ℕ ℕ ℕ expr_weight start_weight actuals_weight calls_weight chain_weight creation_weight dot_weight link_weight own_call_weight

-- the weight of a chain
abbrev pub weigh_parts : Chain → ℕ
weigh_parts = fold-Chain ℕ ℕ ℕ ℕ ℕ ℕ ℕ ℕ ℕ expr_weight start_weight actuals_weight calls_weight chain_weight creation_weight dot_weight link_weight own_call_weight

-- the weight of a start and its calls
abbrev pub weigh_calls : Calls → ℕ
weigh_calls = fold-Calls ℕ ℕ ℕ ℕ ℕ ℕ ℕ ℕ ℕ expr_weight start_weight actuals_weight calls_weight chain_weight creation_weight dot_weight link_weight own_call_weight

-- the weight of a start and its calls by its parts
pub of_calls : (calls : Calls) → weigh_calls calls ≡ weigh_start (out-Calls calls).start + weigh_dot (out-Calls calls).first + total (map weigh_dot (out-Calls calls).more.items) + 2
of_calls calls = fold_out-Calls ℕ ℕ ℕ ℕ ℕ ℕ ℕ ℕ ℕ expr_weight start_weight actuals_weight calls_weight chain_weight creation_weight dot_weight link_weight own_call_weight calls

-- the weight of a chain by its parts
pub of_chain : (chain : Chain) → weigh_parts chain ≡ weigh_expr (out-Chain chain).first + weigh_link (out-Chain chain).link + total (map weigh_link (out-Chain chain).more.items) + 2
of_chain chain = fold_out-Chain ℕ ℕ ℕ ℕ ℕ ℕ ℕ ℕ ℕ expr_weight start_weight actuals_weight calls_weight chain_weight creation_weight dot_weight link_weight own_call_weight chain

-- the weight of a chain
pub weigh_chain : (chain : Box Chain Global) → weigh_expr (expr.Chain chain) ≡ weigh_parts chain.value + 1
weigh_chain chain = ap weigh_expr (sym (expr.rolls-Chain chain)) ∙ fold-roll-Expr ℕ ℕ ℕ ℕ ℕ ℕ ℕ ℕ ℕ expr_weight start_weight actuals_weight calls_weight chain_weight creation_weight dot_weight link_weight own_call_weight (open_nodes.Chain chain)

-- the weight of a minus
pub weigh_minus : (at : ℕ) (operand : Box Expr Global) → weigh_expr (expr.Minus at operand) ≡ weigh_expr operand.value + 1
weigh_minus at operand = ap weigh_expr (sym (expr.rolls-Minus at operand)) ∙ fold-roll-Expr ℕ ℕ ℕ ℕ ℕ ℕ ℕ ℕ ℕ expr_weight start_weight actuals_weight calls_weight chain_weight creation_weight dot_weight link_weight own_call_weight (open_nodes.Minus at operand)

-- the weight of a not
pub weigh_not : (at : ℕ) (operand : Box Expr Global) → weigh_expr (expr.Not at operand) ≡ weigh_expr operand.value + 1
weigh_not at operand = ap weigh_expr (sym (expr.rolls-Not at operand)) ∙ fold-roll-Expr ℕ ℕ ℕ ℕ ℕ ℕ ℕ ℕ ℕ expr_weight start_weight actuals_weight calls_weight chain_weight creation_weight dot_weight link_weight own_call_weight (open_nodes.Not at operand)

-- the weight of a start on which nothing is called
pub weigh_alone : (start : Start) → weigh_expr (expr.Start start) ≡ weigh_start start + 1
weigh_alone start = ap weigh_expr (sym (expr.rolls-Start start)) ∙ fold-roll-Expr ℕ ℕ ℕ ℕ ℕ ℕ ℕ ℕ ℕ expr_weight start_weight actuals_weight calls_weight chain_weight creation_weight dot_weight link_weight own_call_weight (open_nodes.Start start)

-- the weight of a start with calls
pub weigh_called : (calls : Box Calls Global) → weigh_expr (expr.Calls calls) ≡ weigh_calls calls.value + 1
weigh_called calls = ap weigh_expr (sym (expr.rolls-Calls calls)) ∙ fold-roll-Expr ℕ ℕ ℕ ℕ ℕ ℕ ℕ ℕ ℕ expr_weight start_weight actuals_weight calls_weight chain_weight creation_weight dot_weight link_weight own_call_weight (open_nodes.Calls calls)

-- the weight of a start call
pub weigh_start_call : (call : Box OwnCall Global) → weigh_start (start.Call call) ≡ weigh_own_call call.value + 1
weigh_start_call call = ap weigh_start (sym (start.rolls-Call call)) ∙ fold-roll-Start ℕ ℕ ℕ ℕ ℕ ℕ ℕ ℕ ℕ expr_weight start_weight actuals_weight calls_weight chain_weight creation_weight dot_weight link_weight own_call_weight (open_nodes.Call call)

-- the weight of a call without receiver by its arguments
pub of_own_call : (call : OwnCall) → weigh_own_call call ≡ weigh_actuals (out-OwnCall call).actuals + 1
of_own_call call = fold_out-OwnCall ℕ ℕ ℕ ℕ ℕ ℕ ℕ ℕ ℕ expr_weight start_weight actuals_weight calls_weight chain_weight creation_weight dot_weight link_weight own_call_weight call

-- the weight of a start new
pub weigh_start_new : (creation : Box Creation Global) → weigh_start (start.New creation) ≡ weigh_creation creation.value + 1
weigh_start_new creation = ap weigh_start (sym (start.rolls-New creation)) ∙ fold-roll-Start ℕ ℕ ℕ ℕ ℕ ℕ ℕ ℕ ℕ expr_weight start_weight actuals_weight calls_weight chain_weight creation_weight dot_weight link_weight own_call_weight (open_nodes.New creation)

-- the weight of `new` and a class by its arguments
pub of_creation : (creation : Creation) → weigh_creation creation ≡ weigh_actuals (out-Creation creation).actuals + 1
of_creation creation = fold_out-Creation ℕ ℕ ℕ ℕ ℕ ℕ ℕ ℕ ℕ expr_weight start_weight actuals_weight calls_weight chain_weight creation_weight dot_weight link_weight own_call_weight creation

-- the weight of a chain in brackets
pub weigh_start_chain_group : (at : ℕ) (chain : Box Chain Global) → weigh_start (start.ChainGroup at chain) ≡ weigh_parts chain.value + 1
weigh_start_chain_group at chain = ap weigh_start (sym (start.rolls-ChainGroup at chain)) ∙ fold-roll-Start ℕ ℕ ℕ ℕ ℕ ℕ ℕ ℕ ℕ expr_weight start_weight actuals_weight calls_weight chain_weight creation_weight dot_weight link_weight own_call_weight (open_nodes.ChainGroup at chain)

-- the weight of a start group
pub weigh_start_group : (at : ℕ) (inner : Box Expr Global) → weigh_start (start.Group at inner) ≡ weigh_expr inner.value + 1
weigh_start_group at inner = ap weigh_start (sym (start.rolls-Group at inner)) ∙ fold-roll-Start ℕ ℕ ℕ ℕ ℕ ℕ ℕ ℕ ℕ expr_weight start_weight actuals_weight calls_weight chain_weight creation_weight dot_weight link_weight own_call_weight (open_nodes.Group at inner)

-- the weight of a link by its operand
pub of_link : (link : Link) → weigh_link link ≡ weigh_expr (out-Link link).operand + 1
of_link link = fold_out-Link ℕ ℕ ℕ ℕ ℕ ℕ ℕ ℕ ℕ expr_weight start_weight actuals_weight calls_weight chain_weight creation_weight dot_weight link_weight own_call_weight link

-- the weight of arguments
pub of_actuals : (actuals : Actuals) → weigh_actuals actuals ≡ total (map weigh_expr (out-Actuals actuals).arguments.items) + 2
of_actuals actuals = fold_out-Actuals ℕ ℕ ℕ ℕ ℕ ℕ ℕ ℕ ℕ expr_weight start_weight actuals_weight calls_weight chain_weight creation_weight dot_weight link_weight own_call_weight actuals

-- the weight of a call by its arguments
pub of_dot : (dot : Dot) → weigh_dot dot ≡ weigh_actuals (out-Dot dot).actuals + 1
of_dot dot = fold_out-Dot ℕ ℕ ℕ ℕ ℕ ℕ ℕ ℕ ℕ expr_weight start_weight actuals_weight calls_weight chain_weight creation_weight dot_weight link_weight own_call_weight dot

-- one of a list weighs no more than all
pub one_of : {A : Type 0} (f : A → ℕ) (xs : List A) (i : ℕ) (x : A) → i < length xs → x ≡ get_or xs i x → f x ≤ total (map f xs)
one_of f [] i x l e = absurd (omega arith)
one_of f (a ∷ xs) zero x l e = let h = ap f e in omega arith
one_of f (a ∷ xs) (suc i) x l e = let h = one_of f xs i x (omega arith) e in omega arith
