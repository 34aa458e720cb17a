-- A chain has the type of what its last operator or its last call gives.
use Rattle.std.proofs.Common.{◌≡◌, List, [], ◌∷◌, refl, ap, ◌∙◌, Some, map}
use Rattle.std.specs.Prelude.{Vec, Box}
use Rattle.std.specs.Global.{Global}
use Rattle.chord_bodies.specs.declared.expr.Expr.{Expr}
use Rattle.chord_bodies.specs.declared.expr.Link.{Link}
use Rattle.chord_bodies.specs.declared.expr.Call.{Call}
use Rattle.chord_bodies.specs.declared.expr.Expr.TheVariants as expr
use Rattle.chord_bodies.specs.declared.expr.BinaryOperator.{BinaryOperator}
use Rattle.chord_bodies.specs.declared.expr.BinaryOperator.TheVariants.{And, Or, By}
use Rattle.chord_bodies.specs.Resolved.{ExprOf, BodyOf}
use Rattle.chord_bodies.specs.Resolved as to
use Rattle.chord_bodies.specs.View.{LinkOf, CallOf, binary, links_on, calls_on, view_expr, view_link, view_call}
use Rattle.chord_bodies.specs.Types.{type_of}
use Rattle.chord_bodies.specs.Chains.{binary_type, last_link, last_call}
use Rattle.chord_bodies.proofs.Viewed.{viewed_chain, viewed_calls}

-- an operator on two operands has the type of what it gives
one_link : (b : BodyOf) (operator : BinaryOperator) (left right : ExprOf) → type_of b (binary operator left right) ≡ Some (binary_type operator)
one_link b And left right = refl
one_link b Or left right = refl
one_link b (By operation) left right = refl

-- operators one after the other have the type of what the last one gives
links_type : (b : BodyOf) (first : ExprOf) (link : LinkOf) (more : List LinkOf) → type_of b (links_on first (link ∷ more)) ≡ Some (binary_type (last_link link.operator more))
links_type b first link [] = one_link b link.operator first link.operand
links_type b first link (next ∷ more) = links_type b (binary link.operator first link.operand) next more

-- calls one after the other have the result of the last one
calls_type : (b : BodyOf) (first : ExprOf) (call : CallOf) (more : List CallOf) → type_of b (calls_on first (call ∷ more)) ≡ last_call call.result more
calls_type b first call [] = refl
calls_type b first call (next ∷ more) = calls_type b (to.Call first call.class call.method call.result call.arguments) next more

-- a chain of operators in memory
pub chain_type : (b : BodyOf) (first : Box Expr Global) (link : Box Link Global) (more : Vec Link Global) → type_of b (view_expr (expr.Chain first link more)) ≡ Some (binary_type (last_link (view_link link.value).operator (map view_link more.items)))
chain_type b first link more = ap (type_of b) (viewed_chain first link more) ∙ links_type b (view_expr first.value) (view_link link.value) (map view_link more.items)

-- a chain of calls in memory
pub chain_result : (b : BodyOf) (first : Box Expr Global) (call : Box Call Global) (more : Vec Call Global) → type_of b (view_expr (expr.Calls first call more)) ≡ last_call (view_call call.value).result (map view_call more.items)
chain_result b first call more = ap (type_of b) (viewed_calls first call more) ∙ calls_type b (view_expr first.value) (view_call call.value) (map view_call more.items)
