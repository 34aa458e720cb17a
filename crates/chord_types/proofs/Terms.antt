-- Terms of what lies in memory: chains, links and calls.
use Rattle.std.proofs.Common.{◌≡◌, Bool, map, refl, ap, ◌∙◌}
use Rattle.chord_tree.specs.declared.exprs.Calls.{Calls, out-Calls}
use Rattle.chord_tree.specs.declared.exprs.Link.{Link, out-Link}
use Rattle.chord_tree.specs.declared.exprs.Dot.{Dot, out-Dot}
use Rattle.chord_tree.specs.declared.exprs.OwnCall.{OwnCall, out-OwnCall}
use Rattle.chord_tree.specs.declared.exprs.Creation.{Creation, out-Creation}
use Rattle.chord_tree.specs.declared.exprs.Actuals.{out-Actuals}
use Rattle.chord_tree.specs.Tree.{ExprTree, LinkTree, LinkTrees, DotTree, DotTrees, ChainExpr, MakeLink, MoreDots, MakeDot, MakeActuals, CallStart, NewStart, exprs, dots}
use Rattle.chord_tree.specs.Terms.{Term, term, terms, term_after, started, called, operated, OperationTerm, CallTerm, OwnCallTerm, NewTerm}
use Rattle.chord_tree.specs.ViewExprs.{see_expr, see_link, see_start, see_own_call, see_creation, see_calls, see_dot}
use Rattle.chord_tree.proofs.SeenExprs.{seen_link, seen_calls, seen_dot, seen_own_call, seen_creation, seen_actuals}
use Rattle.chord_types.specs.Checked.{on_link, on_dot}

-- a chain is its further operators on the first one
pub chain_term : (first : ExprTree) (link : LinkTree) (more : LinkTrees) (minus : Bool) → term_after (ChainExpr first link more) minus ≡ operated more (on_link (term first) link)
chain_term first (MakeLink operator at operand) more minus = refl

-- an operator of memory with its operands
pub link_term : (link : Link) (left : Term) → on_link left (see_link link) ≡ OperationTerm (out-Link link).operator (out-Link link).at left (term (see_expr (out-Link link).operand))
link_term link left = ap (on_link left) (seen_link link)

-- calls go on from what the first one gives
first_called_on : (first : DotTree) (more : DotTrees) (receiver : Term) → called (MoreDots first more) receiver ≡ called more (on_dot receiver first)
first_called_on (MakeDot dot name (MakeActuals at arguments)) more receiver = refl

-- calls of memory on their start
pub called_term : (calls : Calls) (minus : Bool) → term_after (see_calls calls) minus ≡ called (dots (map see_dot (out-Calls calls).more.items)) (on_dot (started (see_start (out-Calls calls).start) minus) (see_dot (out-Calls calls).first))
called_term calls minus = ap (λ z. term_after z minus) (seen_calls calls) ∙ first_called_on (see_dot (out-Calls calls).first) (dots (map see_dot (out-Calls calls).more.items)) (started (see_start (out-Calls calls).start) minus)

-- a call of memory on its receiver
pub dot_term : (dot : Dot) (receiver : Term) → on_dot receiver (see_dot dot) ≡ CallTerm receiver (out-Dot dot).at (out-Dot dot).name (out-Actuals (out-Dot dot).actuals).at (terms (exprs (map see_expr (out-Actuals (out-Dot dot).actuals).arguments.items)))
dot_term dot receiver = ap (on_dot receiver) (seen_dot dot ∙ ap (MakeDot (out-Dot dot).at (out-Dot dot).name) (seen_actuals (out-Dot dot).actuals))

-- a call without receiver of memory, with or without a minus before
pub own_call_term : (call : OwnCall) (minus : Bool) → started (see_own_call call) minus ≡ OwnCallTerm (out-OwnCall call).name (out-Actuals (out-OwnCall call).actuals).at (terms (exprs (map see_expr (out-Actuals (out-OwnCall call).actuals).arguments.items)))
own_call_term call minus = ap (λ z. started z minus) (seen_own_call call ∙ ap (CallStart (out-OwnCall call).name) (seen_actuals (out-OwnCall call).actuals))

-- `new` and a class of memory, with or without a minus before
pub creation_term : (creation : Creation) (minus : Bool) → started (see_creation creation) minus ≡ NewTerm (out-Creation creation).at (out-Creation creation).name (out-Actuals (out-Creation creation).actuals).at (terms (exprs (map see_expr (out-Actuals (out-Creation creation).actuals).arguments.items)))
creation_term creation minus = ap (λ z. started z minus) (seen_creation creation ∙ ap (NewStart (out-Creation creation).at (out-Creation creation).name) (seen_actuals (out-Creation creation).actuals))
