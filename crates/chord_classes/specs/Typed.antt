-- The static type of an expression: none where a rule on names or types is broken in it.
use Rattle.std.specs.Prelude.{ℕ, List, [], ◌∷◌, ◌++◌, Bool, true, false, cond, ◌&&◌, Option, Some, None, option_map, option_and_then}
use Rattle.chord_tree.specs.Terms.{Term, Terms, VariableTerm, ThisTerm, NumberTerm, LiteralTerm, BoolTerm, GroupTerm, MinusTerm, NotTerm, OperationTerm, NewTerm, OwnCallTerm, CallTerm, NoTerms, MoreTerms, first_token}
use Rattle.chord_tree.specs.Walk.{Role, Used, Receiver}
use Rattle.chord_base.specs.declared.static_type.StaticType.{StaticType}
use Rattle.chord_base.specs.declared.static_type.StaticType.TheVariants as ty
use Rattle.chord_classes.specs.Table.{class_named}
use Rattle.chord_classes.specs.Types.{type_written, value_type}
use Rattle.chord_classes.specs.Site.{Site, Local, variable_named}
use Rattle.chord_classes.specs.TypedTerms.{Passed, TypedTerm, VariableTyped, ThisTyped, NumberTyped, LiteralTyped, BoolTyped, GroupTyped, MinusTyped, NotTyped, OperationTyped, NewTyped, OwnCallTyped, CallTyped, PrintTyped, is_console, typed_call, Target, own_target, target_of, parts_have_types}
use Rattle.chord_classes.specs.NameRules.{undeclared, unknown, inaccessible, used_valueless, miscounted}
use Rattle.chord_classes.specs.TypeRules.{operator_result, disagreeing}

-- all that the rules on names and types say of one expression; those on numbers and literals leave its type
abbrev pub faults : Site → Role → TypedTerm → List ℕ
faults site role parts = undeclared site parts ++ (unknown site role parts ++ (disagreeing site parts ++ (inaccessible site parts ++ (used_valueless site role parts ++ miscounted site parts))))

-- nothing is broken
abbrev pub is_nil : List ℕ → Bool
is_nil [] = true
is_nil (n ∷ ns) = false

-- the type of a variable
abbrev pub local_type : Option Local → Option StaticType
local_type None = None
local_type (Some local) = local.static_type

-- the type of what a method that a call names gives
abbrev pub target_type : Site → Option Target → Option StaticType
target_type site None = None
target_type site (Some target) = option_and_then (type_written site.table) (value_type target.method.result_type)

-- the type of what an operator gives, where both operands have types
abbrev pub operands_type : (StaticType → StaticType → Option StaticType) → Option StaticType → Option StaticType → Option StaticType
operands_type f (Some left) (Some right) = f left right
operands_type f _ _ = None

-- the type that an expression has where nothing in it is broken
abbrev pub natural : Site → TypedTerm → Option StaticType
natural site (VariableTyped name) = local_type (variable_named site.scope name.text)
natural site (ThisTyped at) = Some (ty.Class site.own)
natural site (NumberTyped value at after_minus) = Some ty.Int
natural site (LiteralTyped bytes at) = Some ty.Text
natural site BoolTyped = Some ty.Bool
natural site (GroupTyped inner) = inner
natural site (MinusTyped at operand) = Some ty.Int
natural site (NotTyped at operand) = Some ty.Bool
natural site (OperationTyped operator at left right) = operands_type (operator_result site.table operator) left right
natural site (NewTyped name actuals) = option_map ty.Class (class_named site.table name.text)
natural site (OwnCallTyped name actuals) = target_type site (own_target site name.text)
natural site (CallTyped receiver dot name actuals) = target_type site (target_of site (CallTyped receiver dot name actuals))
natural site (PrintTyped name actuals) = None

-- an expression in which a rule on names or types is broken has no type
abbrev pub judged : Site → Role → TypedTerm → Option StaticType
judged site role parts = cond (parts_have_types parts && is_nil (faults site role parts)) (natural site parts) None

abbrev mutual
  -- an expression with the types of its parts
  pub typed_term : Site → Term → TypedTerm
  typed_term site (VariableTerm name) = VariableTyped name
  typed_term site (ThisTerm at) = ThisTyped at
  typed_term site (NumberTerm value at after_minus) = NumberTyped value at after_minus
  typed_term site (LiteralTerm bytes at) = LiteralTyped bytes at
  typed_term site (BoolTerm value at) = BoolTyped
  typed_term site (GroupTerm at inner) = GroupTyped (judged site Used (typed_term site inner))
  typed_term site (MinusTerm at operand) = MinusTyped at (judged site Used (typed_term site operand))
  typed_term site (NotTerm at operand) = NotTyped at (judged site Used (typed_term site operand))
  typed_term site (OperationTerm operator at left right) = OperationTyped operator at (judged site Used (typed_term site left)) (judged site Used (typed_term site right))
  typed_term site (NewTerm at name brackets actuals) = NewTyped name (passed site actuals)
  typed_term site (OwnCallTerm name brackets actuals) = OwnCallTyped name (passed site actuals)
  typed_term site (CallTerm receiver dot name brackets actuals) = typed_call (is_console site receiver) (judged site Receiver (typed_term site receiver)) dot name (passed site actuals)

  -- arguments with their first tokens and types
  pub passed : Site → Terms → List Passed
  passed site NoTerms = []
  passed site (MoreTerms actual more) = record { first = first_token actual; static_type = judged site Used (typed_term site actual) } ∷ passed site more

-- the static type of an expression
abbrev pub type_of_term : Site → Role → Term → Option StaticType
type_of_term site role term = judged site role (typed_term site term)
