-- The rule on the types of values at one expression: the tokens at which it is broken.
use Rattle.std.specs.Prelude.{ℕ, List, [], ◌∷◌, ◌++◌, Bool, true, false, not, cond, ◌||◌, nat_eq, length, Option, Some, None, is_none}
use Rattle.chord_tree.specs.declared.names.ValueType.{ValueType}
use Rattle.chord_tree.specs.declared.exprs.Operator.{Operator}
use Rattle.chord_tree.specs.declared.exprs.Operator.TheVariants as op
use Rattle.chord_base.specs.declared.static_type.StaticType.{StaticType}
use Rattle.chord_base.specs.declared.static_type.StaticType.TheVariants as ty
use Rattle.chord_bodies.specs.Types.{fits, prints}
use Rattle.chord_classes.specs.Table.{Shape, class_named, derives}
use Rattle.chord_classes.specs.Types.{type_written, signatures}
use Rattle.chord_classes.specs.Site.{Site}
use Rattle.chord_classes.specs.TypedTerms.{Passed, TypedTerm, MinusTyped, NotTyped, OperationTyped, NewTyped, OwnCallTyped, CallTyped, PrintTyped, own_target, target_of}
use Rattle.chord_classes.specs.NameRules.{when, is_print, target_formals, named_formals}

-- a result of this type, of two ints
abbrev pub from_ints : StaticType → StaticType → StaticType → Option StaticType
from_ints result ty.Int ty.Int = Some result
from_ints result _ _ = None

-- a bool, of two bools
abbrev pub from_bools : StaticType → StaticType → Option StaticType
from_bools ty.Bool ty.Bool = Some ty.Bool
from_bools _ _ = None

-- `+` takes two ints, or a text and an int, bool or text in either order
abbrev pub sum_of : StaticType → StaticType → Option StaticType
sum_of ty.Int ty.Int = Some ty.Int
sum_of ty.Text ty.Text = Some ty.Text
sum_of ty.Text ty.Int = Some ty.Text
sum_of ty.Text ty.Bool = Some ty.Text
sum_of ty.Int ty.Text = Some ty.Text
sum_of ty.Bool ty.Text = Some ty.Text
sum_of _ _ = None

-- `==` and `!=` take two values of one type among int, bool and text, or two objects where one class is the other or a base of it
abbrev pub comparison_type : List Shape → StaticType → StaticType → Option StaticType
comparison_type table ty.Int ty.Int = Some ty.Bool
comparison_type table ty.Bool ty.Bool = Some ty.Bool
comparison_type table ty.Text ty.Text = Some ty.Bool
comparison_type table (ty.Class c) (ty.Class d) = cond (derives table c d || derives table d c) (Some ty.Bool) None
comparison_type table _ _ = None

-- the type of an operator's result, where its operands fit it
abbrev pub operator_result : List Shape → Operator → StaticType → StaticType → Option StaticType
operator_result table op.Or left right = from_bools left right
operator_result table op.And left right = from_bools left right
operator_result table op.Equal left right = comparison_type table left right
operator_result table op.NotEqual left right = comparison_type table left right
operator_result table op.Less left right = from_ints ty.Bool left right
operator_result table op.Greater left right = from_ints ty.Bool left right
operator_result table op.LessOrEqual left right = from_ints ty.Bool left right
operator_result table op.GreaterOrEqual left right = from_ints ty.Bool left right
operator_result table op.Plus left right = sum_of left right
operator_result table op.Minus left right = from_ints ty.Int left right
operator_result table op.Times left right = from_ints ty.Int left right
operator_result table op.Divide left right = from_ints ty.Int left right
operator_result table op.Remainder left right = from_ints ty.Int left right

-- a type is `int`
abbrev pub is_int : StaticType → Bool
is_int ty.Int = true
is_int _ = false

-- a type is `bool`
abbrev pub is_bool : StaticType → Bool
is_bool ty.Bool = true
is_bool _ = false

-- a value whose type is there and is not as wanted
abbrev pub when_typed : (StaticType → Bool) → Option StaticType → ℕ → List ℕ
when_typed is_wanted None at = []
when_typed is_wanted (Some t) at = when (not (is_wanted t)) at

-- a value that does not fit a variable, a parameter or a result, where both types are there
abbrev pub misfit : List Shape → Option StaticType → Option StaticType → ℕ → List ℕ
misfit table None value at = []
misfit table (Some wanted) value at = when_typed (λ t. fits (signatures table) t wanted) value at

-- the arguments that do not fit their parameters
abbrev pub misfits : List Shape → List ValueType → List Passed → List ℕ
misfits table (formal ∷ formals) (actual ∷ actuals) = misfit table (type_written table formal) actual.static_type actual.first ++ misfits table formals actuals
misfits table _ _ = []

-- arguments are looked at where their number is right
abbrev pub misfits_for : List Shape → Option (List ValueType) → List Passed → List ℕ
misfits_for table None actuals = []
misfits_for table (Some formals) actuals = cond (nat_eq (length actuals) (length formals)) (misfits table formals actuals) []

-- operands that do not fit their operator, where both have types
abbrev pub clash : List Shape → Operator → ℕ → Option StaticType → Option StaticType → List ℕ
clash table operator at (Some left) (Some right) = when (is_none (operator_result table operator left right)) at
clash table operator at _ _ = []

-- an argument of `WriteLine` that cannot be printed
abbrev pub unprintable : List Passed → List ℕ
unprintable (actual ∷ []) = when_typed prints actual.static_type actual.first
unprintable _ = []

-- a type is a class
abbrev pub is_class_type : StaticType → Bool
is_class_type (ty.Class class) = true
is_class_type _ = false

-- C15: types disagree
abbrev pub disagreeing : Site → TypedTerm → List ℕ
disagreeing site (MinusTyped at operand) = when_typed is_int operand at
disagreeing site (NotTyped at operand) = when_typed is_bool operand at
disagreeing site (OperationTyped operator at left right) = clash site.table operator at left right
disagreeing site (NewTyped name actuals) = misfits_for site.table (named_formals site.table (class_named site.table name.text)) actuals
disagreeing site (OwnCallTyped name actuals) = misfits_for site.table (target_formals (own_target site name.text)) actuals
disagreeing site (CallTyped receiver dot name actuals) = when_typed is_class_type receiver dot ++ misfits_for site.table (target_formals (target_of site (CallTyped receiver dot name actuals))) actuals
disagreeing site (PrintTyped name actuals) = cond (is_print name actuals) (unprintable actuals) []
disagreeing site _ = []
