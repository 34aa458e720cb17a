-- What the last operator and the last call of a chain give.
use Rattle.std.specs.Prelude.{List, [], ◌∷◌, Option}
use Rattle.chord_bodies.specs.declared.expr.BinaryOperator.{BinaryOperator}
use Rattle.chord_bodies.specs.declared.expr.BinaryOperator.TheVariants.{And, Or, By}
use Rattle.chord_base.specs.declared.static_type.StaticType.{StaticType}
use Rattle.chord_base.specs.declared.static_type.StaticType.TheVariants as ty
use Rattle.chord_bodies.specs.View.{LinkOf, CallOf}
use Rattle.chord_bodies.specs.Types.{operation_type}

-- the type of what an operator gives
abbrev pub binary_type : BinaryOperator → StaticType
binary_type And = ty.Bool
binary_type Or = ty.Bool
binary_type (By operation) = operation_type operation

-- the operator that is the last, after this one
abbrev pub last_link : BinaryOperator → List LinkOf → BinaryOperator
last_link operator [] = operator
last_link operator (link ∷ more) = last_link link.operator more

-- the result of the call that is the last, after one of this result
abbrev pub last_call : Option StaticType → List CallOf → Option StaticType
last_call result [] = result
last_call result (call ∷ more) = last_call call.result more
