-- The rules on names at one expression, each by itself: the tokens at which it is broken.
use Rattle.std.specs.Prelude.{ℕ, List, [], ◌∷◌, Bool, true, false, not, cond, ◌&&◌, ◌||◌, nat_eq, nat_lt, length, bytes_eq, codes, slice_get, Option, Some, None, is_none, option_and_then}
use Rattle.chord_tree.specs.declared.names.Name.{Name}
use Rattle.chord_tree.specs.declared.names.ValueType.{ValueType}
use Rattle.chord_tree.specs.Walk.{Role, Used, Alone, Receiver}
use Rattle.chord_base.specs.declared.static_type.StaticType.TheVariants as ty
use Rattle.chord_classes.specs.Table.{Access, Public, Protected, Private, Builder, Shape, class_named, derives}
use Rattle.chord_classes.specs.Types.{value_type, built_from}
use Rattle.chord_classes.specs.Site.{Site, variable_named}
use Rattle.chord_classes.specs.TypedTerms.{Passed, TypedTerm, VariableTyped, ThisTyped, NumberTyped, LiteralTyped, NewTyped, OwnCallTyped, CallTyped, PrintTyped, Target, own_target, target_at, target_of}

-- a token, where a condition holds
abbrev pub when : Bool → ℕ → List ℕ
when condition at = cond condition (at ∷ []) []

-- C02: the class of `new` is not declared
abbrev pub undeclared : Site → TypedTerm → List ℕ
undeclared site (NewTyped name actuals) = when (is_none (class_named site.table name.text)) name.at
undeclared site _ = []

-- `WriteLine` with no or one argument
abbrev pub is_print : Name → List Passed → Bool
is_print name [] = bytes_eq name.text (codes "WriteLine")
is_print name (actual ∷ []) = bytes_eq name.text (codes "WriteLine")
is_print name _ = false

-- a receiver that is written `Console`, which need not be a variable
abbrev pub may_be_console : Role → Name → Bool
may_be_console Receiver name = bytes_eq name.text (codes "Console")
may_be_console _ name = false

-- C14: a variable or method name is unknown, a call on `Console` is another than `WriteLine` with no or one argument, or `this` or a call without receiver stands in `Main`
abbrev pub unknown : Site → Role → TypedTerm → List ℕ
unknown site role (VariableTyped name) = when (is_none (variable_named site.scope name.text) && not (may_be_console role name)) name.at
unknown site role (ThisTyped at) = when site.in_main at
unknown site role (OwnCallTyped name actuals) = when (is_none (own_target site name.text)) name.at
unknown site role (CallTyped (Some (ty.Class class)) dot name actuals) = when (is_none (target_at site.table class name.text)) name.at
unknown site role (PrintTyped name actuals) = when (not (is_print name actuals)) name.at
unknown site role _ = []

-- A private method is accessible in the text of the class that declares it. A protected one is accessible in a class that is or derives from the declaring class, on a receiver whose type is that class or derives from it.
abbrev pub may_reach : Site → ℕ → ℕ → Access → Bool
may_reach site receiver owner Public = true
may_reach site receiver owner Private = nat_eq site.own owner
may_reach site receiver owner Protected = derives site.table site.own owner && derives site.table receiver site.own

-- a method that a call names is not accessible
abbrev pub barred : Site → Option Target → ℕ → List ℕ
barred site None at = []
barred site (Some target) at = when (not (may_reach site target.class target.method.owner target.method.access)) at

-- everybody may use it
abbrev pub is_public : Access → Bool
is_public Public = true
is_public _ = false

-- a constructor is not accessible
abbrev pub barred_builder : Site → ℕ → Option Builder → ℕ → List ℕ
barred_builder site class None at = []
barred_builder site class (Some builder) at = when (not (is_public builder.access || nat_eq class site.own)) at

-- the first constructor of a class
abbrev pub builder_at : List Shape → ℕ → Option Builder
builder_at table class = option_and_then (λ (shape : Shape). shape.builder) (slice_get table class)

-- the constructor of a class is not accessible
abbrev pub barred_class : Site → Option ℕ → ℕ → List ℕ
barred_class site None at = []
barred_class site (Some class) at = barred_builder site class (builder_at site.table class) at

-- C16: a method or constructor is not accessible
abbrev pub inaccessible : Site → TypedTerm → List ℕ
inaccessible site (NewTyped name actuals) = barred_class site (class_named site.table name.text) name.at
inaccessible site (OwnCallTyped name actuals) = barred site (own_target site name.text) name.at
inaccessible site (CallTyped receiver dot name actuals) = barred site (target_of site (CallTyped receiver dot name actuals)) name.at
inaccessible site _ = []

-- the value of an expression is used
abbrev pub is_used : Role → Bool
is_used Used = true
is_used Alone = false
is_used Receiver = true

-- a method that a call names gives no value
abbrev pub valueless : Option Target → Bool
valueless None = false
valueless (Some target) = is_none (value_type target.method.result_type)

-- C19: a call that is `async` or `void`, or `WriteLine`, is used as a value
abbrev pub used_valueless : Site → Role → TypedTerm → List ℕ
used_valueless site role (OwnCallTyped name actuals) = when (is_used role && valueless (own_target site name.text)) name.at
used_valueless site role (CallTyped receiver dot name actuals) = when (is_used role && valueless (target_of site (CallTyped receiver dot name actuals))) name.at
used_valueless site role (PrintTyped name actuals) = when (is_used role && is_print name actuals) name.at
used_valueless site role _ = []

-- the written types of what a class is built from
abbrev pub class_formals : List Shape → ℕ → List ValueType
class_formals table class = built_from (builder_at table class)

-- the number of arguments is not that of the parameters, where these are known
abbrev pub miscounted_for : Option (List ValueType) → List Passed → ℕ → List ℕ
miscounted_for None actuals at = []
miscounted_for (Some formals) actuals at = when (not (nat_eq (length actuals) (length formals))) at

-- the written types of the parameters of what a call names
abbrev pub target_formals : Option Target → Option (List ValueType)
target_formals None = None
target_formals (Some target) = Some target.method.formals

-- the written types of what a class that is named is built from
abbrev pub named_formals : List Shape → Option ℕ → Option (List ValueType)
named_formals table None = None
named_formals table (Some class) = Some (class_formals table class)

-- C22: the number of arguments is wrong
abbrev pub miscounted : Site → TypedTerm → List ℕ
miscounted site (NewTyped name actuals) = miscounted_for (named_formals site.table (class_named site.table name.text)) actuals name.at
miscounted site (OwnCallTyped name actuals) = miscounted_for (target_formals (own_target site name.text)) actuals name.at
miscounted site (CallTyped receiver dot name actuals) = miscounted_for (target_formals (target_of site (CallTyped receiver dot name actuals))) actuals name.at
miscounted site _ = []

-- C23: a number above 2147483647 is broken, unless it is 2147483648 directly after a unary minus
abbrev pub too_large : TypedTerm → List ℕ
too_large (NumberTyped value at after_minus) = when (nat_lt 2147483647 value && not (nat_eq value 2147483648 && after_minus)) at
too_large _ = []

-- C24: a text literal has more than 1,024 bytes
abbrev pub too_long : TypedTerm → List ℕ
too_long (LiteralTyped bytes at) = when (nat_lt 1024 (length bytes)) at
too_long _ = []
