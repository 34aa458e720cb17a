-- One expression with the static types of its parts: what rules look at.
use Rattle.std.specs.Prelude.{ℕ, List, [], ◌∷◌, Bool, true, false, cond, ◌&&◌, bytes_eq, codes, Option, Some, None, is_some, is_none}
use Rattle.chord_tree.specs.declared.names.Name.{Name}
use Rattle.chord_tree.specs.declared.exprs.Operator.{Operator}
use Rattle.chord_tree.specs.Terms.{Term, VariableTerm}
use Rattle.chord_base.specs.declared.static_type.StaticType.{StaticType}
use Rattle.chord_base.specs.declared.static_type.StaticType.TheVariants as ty
use Rattle.chord_classes.specs.Table.{Method, Found, Shape, method_named, methods_at}
use Rattle.chord_classes.specs.Site.{Site, variable_named}

-- an argument: its first token, and its type if nothing in it is broken
pub record Passed : Type 0 where
  pub first : ℕ
  pub static_type : Option StaticType

-- an expression with the types of its parts
pub data TypedTerm : Type 0 where
  VariableTyped : (name : Name) → TypedTerm
  ThisTyped : (at : ℕ) → TypedTerm
  NumberTyped : (value at : ℕ) (after_minus : Bool) → TypedTerm
  LiteralTyped : (bytes : List ℕ) (at : ℕ) → TypedTerm
  BoolTyped : TypedTerm
  GroupTyped : (inner : Option StaticType) → TypedTerm
  MinusTyped : (at : ℕ) (operand : Option StaticType) → TypedTerm
  NotTyped : (at : ℕ) (operand : Option StaticType) → TypedTerm
  OperationTyped : (operator : Operator) (at : ℕ) (left right : Option StaticType) → TypedTerm
  NewTyped : (name : Name) → List Passed → TypedTerm
  OwnCallTyped : (name : Name) → List Passed → TypedTerm
  CallTyped : (receiver : Option StaticType) (dot : ℕ) (name : Name) → List Passed → TypedTerm
  -- a call on the class `Console`
  PrintTyped : (name : Name) → List Passed → TypedTerm

-- the word `Console` where no variable of that name is in scope
abbrev pub is_console : Site → Term → Bool
is_console site (VariableTerm name) = bytes_eq name.text (codes "Console") && is_none (variable_named site.scope name.text)
is_console site _ = false

-- a call on an expression of this type, or on `Console`
abbrev pub typed_call : Bool → Option StaticType → ℕ → Name → List Passed → TypedTerm
typed_call true receiver dot name actuals = PrintTyped name actuals
typed_call false receiver dot name actuals = CallTyped receiver dot name actuals

-- what a call names: a method with its number, of the class of the receiver
pub record Target : Type 0 where
  pub class : ℕ
  pub number : ℕ
  pub method : Method

-- what a call names, of a method that was found in a class
abbrev pub target_in : ℕ → Option Found → Option Target
target_in class None = None
target_in class (Some found) = Some (record { class = class; number = found.number; method = found.method })

-- the method of that name of a class
abbrev pub target_at : List Shape → ℕ → List ℕ → Option Target
target_at table class name = target_in class (method_named (methods_at table class) name)

-- what a call without receiver names; `Main` has no `this`
abbrev pub own_target : Site → List ℕ → Option Target
own_target site name = cond site.in_main None (target_at site.table site.own name)

-- what a call on a receiver of this type names
abbrev pub target_on : Site → Option StaticType → List ℕ → Option Target
target_on site (Some (ty.Class class)) name = target_at site.table class name
target_on site _ name = None

-- what a call names
abbrev pub target_of : Site → TypedTerm → Option Target
target_of site (OwnCallTyped name actuals) = own_target site name.text
target_of site (CallTyped receiver dot name actuals) = target_on site receiver name.text
target_of site _ = None

-- all arguments have types
abbrev pub all_typed : List Passed → Bool
all_typed [] = true
all_typed (actual ∷ more) = is_some actual.static_type && all_typed more

-- all parts have types
abbrev pub parts_have_types : TypedTerm → Bool
parts_have_types (GroupTyped inner) = is_some inner
parts_have_types (MinusTyped at operand) = is_some operand
parts_have_types (NotTyped at operand) = is_some operand
parts_have_types (OperationTyped operator at left right) = is_some left && is_some right
parts_have_types (NewTyped name actuals) = all_typed actuals
parts_have_types (OwnCallTyped name actuals) = all_typed actuals
parts_have_types (CallTyped receiver dot name actuals) = is_some receiver && all_typed actuals
parts_have_types (PrintTyped name actuals) = all_typed actuals
parts_have_types _ = true
