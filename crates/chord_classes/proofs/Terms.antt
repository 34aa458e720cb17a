-- An expression in which no rule is broken has a type, and is resolved to one of that type.
use Rattle.std.proofs.Common.{◌≡◌, ℕ, suc, ◌+◌, List, [], ◌∷◌, ◌++◌, Bool, true, false, not, cond, ◌&&◌, ◌||◌, nat_eq, length, map, refl, sym, ap, ◌∙◌, subst, Option, Some, None, slice_get, codes, arith}
use Rattle.std.specs.Prelude.{is_none, bytes_eq, option_map, option_and_then, unwrap_or}
use Rattle.std.proofs.lemmas.Bool.{false≢true, eqb-true}
use Rattle.chord_tree.specs.declared.names.Name.{Name}
use Rattle.chord_tree.specs.declared.names.ValueType.{ValueType}
use Rattle.chord_tree.specs.declared.exprs.Operator.{Operator}
use Rattle.chord_tree.specs.declared.exprs.Operator.TheVariants as op
use Rattle.chord_tree.specs.declared.classes.ReturnType.{ReturnType}
use Rattle.chord_tree.specs.declared.classes.ReturnType.TheVariants as results
use Rattle.chord_tree.specs.Terms.{Term, Terms, VariableTerm, ThisTerm, NumberTerm, LiteralTerm, BoolTerm, GroupTerm, MinusTerm, NotTerm, OperationTerm, NewTerm, OwnCallTerm, CallTerm, NoTerms, MoreTerms, first_token}
use Rattle.chord_tree.specs.Walk.{Role, Used, Alone, Receiver, Spot, AtTerm, over_term, over_terms, spot_of_term, spot_of_item}
use Rattle.chord_base.specs.declared.static_type.StaticType.{StaticType}
use Rattle.chord_base.specs.declared.static_type.StaticType.TheVariants as ty
use Rattle.chord_base.specs.declared.operation.Operation.{Operation as AnOperation}
use Rattle.chord_base.specs.declared.operation.Operation.TheVariants as by
use Rattle.chord_bodies.specs.Resolved.{ExprOf, ExprsOf}
use Rattle.chord_bodies.specs.Resolved as to
use Rattle.chord_bodies.specs.Types.{Scope, ExprIs, ExprsAre, fits}
use Rattle.chord_bodies.specs.Types as bodies
use Rattle.chord_classes.specs.Table.{Method, Builder, Found, Shape, method_from, method_named, methods_at, class_from, class_named}
use Rattle.chord_classes.specs.Types.{type_written, type_known, is_sync, value_type, result_known, signature, signatures, built_from}
use Rattle.chord_classes.specs.Site.{Local, Site, variable_named, after}
use Rattle.chord_classes.specs.TypedTerms.{Passed, TypedTerm, VariableTyped, ThisTyped, NumberTyped, LiteralTyped, BoolTyped, GroupTyped, MinusTyped, NotTyped, OperationTyped, NewTyped, OwnCallTyped, CallTyped, PrintTyped, is_console, typed_call, Target, target_in, target_at, own_target, target_on, all_typed, parts_have_types}
use Rattle.chord_classes.specs.NameRules.{when, may_be_console, is_print, valueless, class_formals, builder_at, miscounted_for, target_formals, named_formals, is_used}
use Rattle.chord_classes.specs.TypeRules.{from_ints, from_bools, sum_of, comparison_type, operator_result, is_int, is_bool, is_class_type, when_typed, misfit, misfits, misfits_for, clash}
use Rattle.chord_classes.specs.Typed.{faults, is_nil, local_type, target_type, operands_type, natural, judged, passed, type_of_term}
use Rattle.chord_classes.specs.Resolve.{slot_of, is_text, applied, call_of, resolved, all_resolved}
use Rattle.chord_classes.proofs.Every.{Every, every_left, every_right}
use Rattle.chord_classes.proofs.Facts.{none_some, same_some, true_false, when_not, unless_not, left_nil, right_nil, there_is, is_there, and_true, nothing, picked}
use Rattle.chord_classes.proofs.Free.{FreeTerm, Free}

-- a written type is declared
pub record Declared (table : List Shape) (written : ValueType) : Type 0 where
  pub kind : StaticType
  pub is : type_written table written ≡ Some kind

-- all that a method's first header writes is declared
pub record DeclaredMethod (table : List Shape) (method : Method) : Type 0 where
  pub formals : Every (Declared table) method.formals
  pub result : (written : ValueType) → value_type method.result_type ≡ Some written → Declared table written

-- all that the first headers and constructors of the classes write is declared
pub record DeclaredTable (table : List Shape) : Type 0 where
  pub methods : (class number : ℕ) (method : Method) → slice_get (methods_at table class) number ≡ Some method → DeclaredMethod table method
  pub builders : (class : ℕ) → Every (Declared table) (class_formals table class)

-- a variable has a type, and its slot has it
pub record Stands (scope : Scope) (local : Local) : Type 0 where
  pub kind : StaticType
  pub typed : local.static_type ≡ Some kind
  pub there : slice_get scope local.slot ≡ Some (Some kind)

-- what is in scope stands in its slots
pub record Holds (site : Site) (scope : Scope) : Type 0 where
  pub table : DeclaredTable site.table
  pub locals : Every (Stands scope) site.scope
  pub itself : site.in_main ≡ false → slice_get scope 0 ≡ Some (Some (ty.Class site.own))

-- an expression has a type, and is resolved to one of that type
pub record IsTyped (site : Site) (scope : Scope) (role : Role) (term : Term) : Type 0 where
  pub kind : StaticType
  pub typed : type_of_term site role term ≡ Some kind
  pub is : ExprIs (signatures site.table) scope (resolved site term) (Some kind)

-- arguments have types, and fit parameters of which no rule says that they do not
pub record AreTyped (site : Site) (scope : Scope) (actuals : Terms) : Type 0 where
  pub typed : all_typed (passed site actuals) ≡ true
  pub fit : (formals : List ValueType) → Every (Declared site.table) formals → length (passed site actuals) ≡ length formals → misfits site.table formals (passed site actuals) ≡ []
      → ExprsAre (signatures site.table) scope (all_resolved site actuals) (map (type_known site.table) formals)

-- an expression that may stand where its value is used: the word `Console` may not
abbrev pub Usable : Site → Role → Term → Type 0
Usable site Used term = Unit {0}
Usable site Receiver term = is_console site term ≡ false
Usable site Alone term = ⊥

-- Single facts.

-- an expression of which no rule is broken, and whose parts have types, has its natural type
typed_by : (site : Site) (role : Role) (parts : TypedTerm) (kind : StaticType) → FreeTerm site role parts → parts_have_types parts ≡ true → natural site parts ≡ Some kind → judged site role parts ≡ Some kind
typed_by site role parts kind f p n =
    picked (parts_have_types parts) (is_nil (faults site role parts)) (natural site parts) kind p (nothing _ _ _ _ _ _ f.undeclared f.unknown f.disagreeing f.inaccessible f.used_valueless f.miscounted) n

-- a truth value that is false both with another and with the contrary of it is false
neither : (b v : Bool) → (b && v) ≡ false → (v && not b) ≡ false → v ≡ false
neither true true h k = cc
neither true false h k = refl
neither false true h k = cc
neither false false h k = refl

-- a truth value that is false together with true is false
unnamed : (v : Bool) → (v && true) ≡ false → v ≡ false
unnamed true h = h
unnamed false h = refl

-- a variable of which nothing is noted and that may be used is in scope
variable_found : (site : Site) (role : Role) (name : Name) → Usable site role (VariableTerm name) → when (is_none (variable_named site.scope name.text) && not (may_be_console role name)) name.at ≡ [] → is_none (variable_named site.scope name.text) ≡ false
variable_found site Used name u h = unnamed (is_none (variable_named site.scope name.text)) (when_not _ name.at h)
variable_found site Receiver name u h = neither (bytes_eq name.text (codes "Console")) (is_none (variable_named site.scope name.text)) u (when_not _ name.at h)
variable_found site Alone name u h = absurd u

-- a fact of a variable and of what is found behind it holds of what is chosen of the two
local_choice : (P : Local → Type 0) (b : Bool) (l local : Local) (rest : Option Local) → P l → (rest ≡ Some local → P local) → cond b (Some l) rest ≡ Some local → P local
local_choice P true l local rest p k h = subst P (same_some h) p
local_choice P false l local rest p k h = k h

-- a variable that is found is one in scope
pub variable_is : (P : Local → Type 0) (locals : List Local) (name : List ℕ) (local : Local) → variable_named locals name ≡ Some local → Every P locals → P local
variable_is P [] name local h e = absurd (none_some h)
variable_is P (l ∷ ls) name local h e = local_choice P (bytes_eq l.name name) l local (variable_named ls name) e.0 (λ k. variable_is P ls name local k e.1) h

-- a type that passes a test
pub typed_as : (is_wanted : StaticType → Bool) (o : Option StaticType) (kind : StaticType) (at : ℕ) → o ≡ Some kind → when_typed is_wanted o at ≡ [] → is_wanted kind ≡ true
typed_as is_wanted o kind at e h = unless_not (is_wanted kind) at (subst (λ (z : Option StaticType). when_typed is_wanted z at ≡ []) e h)

-- a type that passes the test for `int` is `int`
an_int : (kind : StaticType) → is_int kind ≡ true → kind ≡ ty.Int
an_int ty.Int h = refl
an_int ty.Bool h = cc
an_int ty.Text h = cc
an_int (ty.Class c) h = cc

-- a type that is `bool`
pub a_bool : (kind : StaticType) → is_bool kind ≡ true → kind ≡ ty.Bool
a_bool ty.Bool h = refl
a_bool ty.Int h = cc
a_bool ty.Text h = cc
a_bool (ty.Class c) h = cc

-- a type that passes the test for classes is a class
an_object : (kind : StaticType) → is_class_type kind ≡ true → (class : ℕ) × (kind ≡ ty.Class class)
an_object (ty.Class c) h = (c, refl)
an_object ty.Int h = absurd (false≢true h)
an_object ty.Bool h = absurd (false≢true h)
an_object ty.Text h = absurd (false≢true h)

-- What is found by name.

-- a method was found in a class by its number
unfoldable pub FoundIn : ℕ → List Method → Found → Type 0
FoundIn n ms f = (i : ℕ) × (f.number ≡ n + i) × (slice_get ms i ≡ Some f.method)

-- what is chosen of a method and what was found behind it is among the methods from that one on
method_choice : (b : Bool) (n : ℕ) (m : Method) (ms : List Method) (rest : Option Found) (f : Found) → (rest ≡ Some f → FoundIn (n + 1) ms f) → cond b (Some (record { number = n; method = m })) rest ≡ Some f → FoundIn n (m ∷ ms) f
unfolding FoundIn
method_choice true n m ms rest f k h = subst (λ (z : Found). (i : ℕ) × (z.number ≡ n + i) × (slice_get (m ∷ ms) i ≡ Some z.method)) (same_some h) (0, omega arith, refl)
method_choice false n m ms rest f k h = let r = k h in let at : f.number ≡ n + 1 + r.0 = r.1 in (suc r.0, omega (arith, at), r.2)

-- a method that is found has a signature
pub method_is : (n : ℕ) (ms : List Method) (name : List ℕ) (f : Found) → method_from n ms name ≡ Some f → FoundIn n ms f
method_is n [] name f h = absurd (none_some h)
method_is n (m ∷ ms) name f h = method_choice (bytes_eq m.name name) n m ms (method_from (n + 1) ms name) f (λ k. method_is (n + 1) ms name f k) h

-- the method that a call names is one of its class
pub record IsTarget (table : List Shape) (class : ℕ) (target : Target) : Type 0 where
  pub class_is : target.class ≡ class
  pub there : slice_get (methods_at table target.class) target.number ≡ Some target.method

-- what a call names, of a method that was found in a class, is a method of that class
target_of_found : (table : List Shape) (class : ℕ) (o : Option Found) (target : Target) → ((f : Found) → o ≡ Some f → slice_get (methods_at table class) f.number ≡ Some f.method) → target_in class o ≡ Some target → IsTarget table class target
target_of_found table class None target k h = absurd (none_some h)
target_of_found table class (Some f) target k h = subst (IsTarget table class) (same_some h) (record { class_is = refl; there = k f refl })

-- what a call names in a class is a method of that class
target_is : (table : List Shape) (class : ℕ) (name : List ℕ) (target : Target) → target_at table class name ≡ Some target → IsTarget table class target
unfolding FoundIn
target_is table class name target h =
    target_of_found table class (method_named (methods_at table class) name) target
    (λ f e. let r = method_is 0 (methods_at table class) name f e in
    let number : f.number ≡ r.0 = omega (arith, r.1) in
    ap (slice_get (methods_at table class)) number ∙ r.2)
    h

-- a number is that of one of these classes, of which the first has this number
ClassIn : ℕ → List Shape → ℕ → Type 0
ClassIn n ss c = (i : ℕ) × (c ≡ n + i) × (s : Shape) × (slice_get ss i ≡ Some s)

-- what is chosen of a class and what was found behind it is a class from that one on
class_choice : (b : Bool) (n : ℕ) (s : Shape) (ss : List Shape) (rest : Option ℕ) (c : ℕ) → (rest ≡ Some c → ClassIn (n + 1) ss c) → cond b (Some n) rest ≡ Some c → ClassIn n (s ∷ ss) c
unfolding ClassIn
class_choice true n s ss rest c k h = let e : n ≡ c = same_some h in (0, omega (arith, e), s, refl)
class_choice false n s ss rest c k h = let r = k h in let e : c ≡ n + 1 + r.0 = r.1 in (suc r.0, omega (arith, e), r.2, r.3)

-- a class that was found by its name is one of the classes that were looked at
class_found : (n : ℕ) (ss : List Shape) (name : List ℕ) (c : ℕ) → class_from n ss name ≡ Some c → ClassIn n ss c
class_found n [] name c h = absurd (none_some h)
class_found n (s ∷ ss) name c h = class_choice (bytes_eq s.name name) n s ss (class_from (n + 1) ss name) c (λ k. class_found (n + 1) ss name c k) h

-- a class that is named is one of the table
pub class_is : (table : List Shape) (name : List ℕ) (c : ℕ) → class_named table name ≡ Some c → (s : Shape) × (slice_get table c ≡ Some s)
unfolding ClassIn
class_is table name c h =
    let r = class_found 0 table name c h in
    let number : c ≡ r.0 = omega (arith, r.1) in
    (r.2, ap (slice_get table) number ∙ r.3)

-- Arguments.

-- a written type that is declared stands for its static type
known_is : (table : List Shape) (written : ValueType) (kind : StaticType) → type_written table written ≡ Some kind → type_known table written ≡ kind
known_is table written kind h = ap (λ o. unwrap_or o ty.Int) h

-- a value fits where nothing is noted
pub fits_one : (table : List Shape) (wanted value : Option StaticType) (p a : StaticType) (at : ℕ) → wanted ≡ Some p → value ≡ Some a → misfit table wanted value at ≡ [] → fits (signatures table) a p ≡ true
fits_one table wanted value p a at hw hv h =
    typed_as (λ t. fits (signatures table) t p) value a at hv (subst (λ (z : Option StaticType). misfit table z value at ≡ []) hw h)

-- a value fits a written type where nothing is noted
pub fits_written : (table : List Shape) (written : ValueType) (value : Option StaticType) (a : StaticType) (at : ℕ) → Declared table written → value ≡ Some a → misfit table (type_written table written) value at ≡ [] → fits (signatures table) a (type_known table written) ≡ true
fits_written table written value a at d hv h =
    subst (λ (z : StaticType). fits (signatures table) a z ≡ true) (sym (known_is table written d.kind d.is)) (fits_one table (type_written table written) value d.kind a at d.is hv h)

-- where the number of arguments is not noted, it is that of the parameters
counted : (actuals : List Passed) (formals : List ValueType) (at : ℕ) → miscounted_for (Some formals) actuals at ≡ [] → nat_eq (length actuals) (length formals) ≡ true
counted actuals formals at h = unless_not _ at h

-- where a condition holds and nothing is noted under it, there is nothing to note
if_counted : (b : Bool) (xs : List ℕ) → b ≡ true → cond b xs [] ≡ [] → xs ≡ []
if_counted true xs e h = h
if_counted false xs e h = absurd (false≢true e)

-- arguments fit what is named, where nothing is broken
pub args_fit : (site : Site) (scope : Scope) (actuals : Terms) (o : Option (List ValueType)) (formals : List ValueType) (at : ℕ) → AreTyped site scope actuals → o ≡ Some formals → Every (Declared site.table) formals
    → miscounted_for o (passed site actuals) at ≡ [] → misfits_for site.table o (passed site actuals) ≡ [] → ExprsAre (signatures site.table) scope (all_resolved site actuals) (map (type_known site.table) formals)
args_fit site scope actuals o formals at typed e d hc hm =
    let same = counted (passed site actuals) formals at (subst (λ (z : Option (List ValueType)). miscounted_for z (passed site actuals) at ≡ []) e hc) in
    typed.fit formals d (eqb-true _ _ same) (if_counted _ _ same (subst (λ (z : Option (List ValueType)). misfits_for site.table z (passed site actuals) ≡ []) e hm))

-- Calls.

-- a call that is used and of which nothing is noted is of a method with a value
valued : (o : Option Target) (target : Target) (role : Role) (at : ℕ) → o ≡ Some target → is_used role ≡ true → when (is_used role && valueless o) at ≡ [] → is_none (value_type target.method.result_type) ≡ false
valued o target role at e u h = subst (λ (z : Option Target). valueless z ≡ false) e (second (is_used role) (valueless o) u (when_not _ at h))
  where
    second : (a b : Bool) → a ≡ true → (a && b) ≡ false → b ≡ false
    second true b u h = h
    second false b u h = absurd (false≢true u)

-- callers of a method that gives a value wait
waits : (result : ReturnType) (written : ValueType) → value_type result ≡ Some written → is_sync result ≡ true
waits (results.Async at) written h = absurd (none_some h)
waits (results.Void at) written h = refl
waits (results.Value w) written h = refl

-- a synchronous call has the result of its method
pub call_is : (table : List Shape) (scope : Scope) (o : Option Target) (target : Target) (receiver : ExprOf) (actuals : ExprsOf) → o ≡ Some target → ExprIs (signatures table) scope receiver (Some (ty.Class target.class))
    → slice_get (methods_at table target.class) target.number ≡ Some target.method → is_sync target.method.result_type ≡ true → ExprsAre (signatures table) scope actuals (map (type_known table) target.method.formals)
    → ExprIs (signatures table) scope (call_of table o receiver actuals) (result_known table target.method.result_type)
call_is table scope o target receiver actuals e r there sync args =
    subst (λ (z : Option Target). ExprIs (signatures table) scope (call_of table z receiver actuals) (result_known table target.method.result_type)) (sym e)
    (signature table target.method, r, ap (option_map (signature table)) there, sync, args, refl, refl)

-- a call of a method with a value, whose value is used
record HasValue (table : List Shape) (target : Target) : Type 0 where
  kind : StaticType
  typed : option_and_then (type_written table) (value_type target.method.result_type) ≡ Some kind
  known : result_known table target.method.result_type ≡ Some kind
  sync : is_sync target.method.result_type ≡ true

-- a method that gives a value and whose types are declared has a type of its value, and its callers wait
has_value : (table : List Shape) (target : Target) → DeclaredMethod table target.method → is_none (value_type target.method.result_type) ≡ false → HasValue table target
has_value table target d h =
    let v = there_is (value_type target.method.result_type) h in
    let w = d.result v.0 v.1 in
    record {
      kind = w.kind;
      typed = ap (option_and_then (type_written table)) v.1 ∙ w.is;
      known = ap (option_map (type_known table)) v.1 ∙ ap Some (known_is table v.0 w.kind w.is);
      sync = waits target.method.result_type v.0 v.1;
    }

-- what a call names is there and may be called so
pub record Callable (site : Site) (scope : Scope) (o : Option Target) (receiver : ExprOf) : Type 0 where
  pub target : Target
  pub is : o ≡ Some target
  pub there : slice_get (methods_at site.table target.class) target.number ≡ Some target.method
  pub on : ExprIs (signatures site.table) scope receiver (Some (ty.Class target.class))

-- a method that is not missing can be called
pub callable : (site : Site) (scope : Scope) (class : ℕ) (name : List ℕ) (receiver : ExprOf) → is_none (target_at site.table class name) ≡ false → ExprIs (signatures site.table) scope receiver (Some (ty.Class class)) → Callable site scope (target_at site.table class name) receiver
callable site scope class name receiver h r =
    let t = there_is (target_at site.table class name) h in
    let i = target_is site.table class name t.0 t.1 in
    record {
      target = t.0;
      is = t.1;
      there = i.there;
      on = subst (λ (z : ℕ). ExprIs (signatures site.table) scope receiver (Some (ty.Class z))) (sym i.class_is) r;
    }

-- Operators.

-- an operator that takes two ints
ints_by : (table : List Shape) (result : StaticType) (o : AnOperation) (a b c : StaticType) → bodies.operation_result (signatures table) o ty.Int ty.Int ≡ Some result → from_ints result a b ≡ Some c → bodies.operation_result (signatures table) o a b ≡ Some c
ints_by table result o ty.Int ty.Int c k h = k ∙ h
ints_by table result o ty.Int ty.Bool c k h = absurd (none_some h)
ints_by table result o ty.Int ty.Text c k h = absurd (none_some h)
ints_by table result o ty.Int (ty.Class d2) c k h = absurd (none_some h)
ints_by table result o ty.Bool ty.Int c k h = absurd (none_some h)
ints_by table result o ty.Bool ty.Bool c k h = absurd (none_some h)
ints_by table result o ty.Bool ty.Text c k h = absurd (none_some h)
ints_by table result o ty.Bool (ty.Class d2) c k h = absurd (none_some h)
ints_by table result o ty.Text ty.Int c k h = absurd (none_some h)
ints_by table result o ty.Text ty.Bool c k h = absurd (none_some h)
ints_by table result o ty.Text ty.Text c k h = absurd (none_some h)
ints_by table result o ty.Text (ty.Class d2) c k h = absurd (none_some h)
ints_by table result o (ty.Class d1) ty.Int c k h = absurd (none_some h)
ints_by table result o (ty.Class d1) ty.Bool c k h = absurd (none_some h)
ints_by table result o (ty.Class d1) ty.Text c k h = absurd (none_some h)
ints_by table result o (ty.Class d1) (ty.Class d2) c k h = absurd (none_some h)

-- an operator that takes two bools
record AreBools (a b c : StaticType) : Type 0 where
  left : Some a ≡ Some ty.Bool
  right : Some b ≡ Some ty.Bool
  result : Some c ≡ Some ty.Bool

-- operands from which `&&` or `||` gives a type are bools, and so is what it gives
bools_by : (a b c : StaticType) → from_bools a b ≡ Some c → AreBools a b c
bools_by ty.Int ty.Int c h = absurd (none_some h)
bools_by ty.Int ty.Bool c h = absurd (none_some h)
bools_by ty.Int ty.Text c h = absurd (none_some h)
bools_by ty.Int (ty.Class d2) c h = absurd (none_some h)
bools_by ty.Bool ty.Int c h = absurd (none_some h)
bools_by ty.Bool ty.Bool c h = record { left = refl; right = refl; result = sym h }
bools_by ty.Bool ty.Text c h = absurd (none_some h)
bools_by ty.Bool (ty.Class d2) c h = absurd (none_some h)
bools_by ty.Text ty.Int c h = absurd (none_some h)
bools_by ty.Text ty.Bool c h = absurd (none_some h)
bools_by ty.Text ty.Text c h = absurd (none_some h)
bools_by ty.Text (ty.Class d2) c h = absurd (none_some h)
bools_by (ty.Class d1) ty.Int c h = absurd (none_some h)
bools_by (ty.Class d1) ty.Bool c h = absurd (none_some h)
bools_by (ty.Class d1) ty.Text c h = absurd (none_some h)
bools_by (ty.Class d1) (ty.Class d2) c h = absurd (none_some h)

-- `+`
sum_by : (table : List Shape) (a b c : StaticType) → sum_of a b ≡ Some c → bodies.operation_result (signatures table) (cond (is_text (Some a) || is_text (Some b)) by.Join by.Add) a b ≡ Some c
sum_by table ty.Int ty.Int c h = h
sum_by table ty.Int ty.Bool c h = absurd (none_some h)
sum_by table ty.Int ty.Text c h = h
sum_by table ty.Int (ty.Class d2) c h = absurd (none_some h)
sum_by table ty.Bool ty.Int c h = absurd (none_some h)
sum_by table ty.Bool ty.Bool c h = absurd (none_some h)
sum_by table ty.Bool ty.Text c h = h
sum_by table ty.Bool (ty.Class d2) c h = absurd (none_some h)
sum_by table ty.Text ty.Int c h = h
sum_by table ty.Text ty.Bool c h = h
sum_by table ty.Text ty.Text c h = h
sum_by table ty.Text (ty.Class d2) c h = absurd (none_some h)
sum_by table (ty.Class d1) ty.Int c h = absurd (none_some h)
sum_by table (ty.Class d1) ty.Bool c h = absurd (none_some h)
sum_by table (ty.Class d1) ty.Text c h = absurd (none_some h)
sum_by table (ty.Class d1) (ty.Class d2) c h = absurd (none_some h)

-- what a choice between something and nothing gives is that something
if_so : (b : Bool) (r c : StaticType) → cond b (Some r) None ≡ Some c → Some r ≡ Some c
if_so true r c h = h
if_so false r c h = absurd (none_some h)

-- `==` and `!=`
record AreCompared (table : List Shape) (a b c : StaticType) : Type 0 where
  equal : bodies.operation_result (signatures table) by.Equal a b ≡ Some c
  differ : bodies.operation_result (signatures table) by.NotEqual a b ≡ Some c

-- operands that may be compared have in a body the same result of `==` and of `!=`
compared_by : (table : List Shape) (a b c : StaticType) → comparison_type table a b ≡ Some c → AreCompared table a b c
compared_by table ty.Int ty.Int c h = record { equal = h; differ = h }
compared_by table ty.Int ty.Bool c h = absurd (none_some h)
compared_by table ty.Int ty.Text c h = absurd (none_some h)
compared_by table ty.Int (ty.Class d2) c h = absurd (none_some h)
compared_by table ty.Bool ty.Int c h = absurd (none_some h)
compared_by table ty.Bool ty.Bool c h = record { equal = h; differ = h }
compared_by table ty.Bool ty.Text c h = absurd (none_some h)
compared_by table ty.Bool (ty.Class d2) c h = absurd (none_some h)
compared_by table ty.Text ty.Int c h = absurd (none_some h)
compared_by table ty.Text ty.Bool c h = absurd (none_some h)
compared_by table ty.Text ty.Text c h = record { equal = h; differ = h }
compared_by table ty.Text (ty.Class d2) c h = absurd (none_some h)
compared_by table (ty.Class d1) ty.Int c h = absurd (none_some h)
compared_by table (ty.Class d1) ty.Bool c h = absurd (none_some h)
compared_by table (ty.Class d1) ty.Text c h = absurd (none_some h)
compared_by table (ty.Class d1) (ty.Class d2) c h = record { equal = if_so _ ty.Bool c h; differ = if_so _ ty.Bool c h }

-- an operator whose operands fit it
applied_is : (table : List Shape) (scope : Scope) (operator : Operator) (a b c : StaticType) (left right : ExprOf) → ExprIs (signatures table) scope left (Some a) → ExprIs (signatures table) scope right (Some b) → operator_result table operator a b ≡ Some c
    → ExprIs (signatures table) scope (applied operator (Some a) (Some b) left right) (Some c)
applied_is table scope op.Or a b c left right l r h =
    let k = bools_by a b c h in
    (subst (ExprIs (signatures table) scope left) k.left l, subst (ExprIs (signatures table) scope right) k.right r, k.result)
applied_is table scope op.And a b c left right l r h =
    let k = bools_by a b c h in
    (subst (ExprIs (signatures table) scope left) k.left l, subst (ExprIs (signatures table) scope right) k.right r, k.result)
applied_is table scope op.Equal a b c left right l r h = (a, b, c, l, r, (compared_by table a b c h).equal, refl)
applied_is table scope op.NotEqual a b c left right l r h = (a, b, c, l, r, (compared_by table a b c h).differ, refl)
applied_is table scope op.Less a b c left right l r h = (a, b, c, l, r, ints_by table ty.Bool by.Less a b c refl h, refl)
applied_is table scope op.Greater a b c left right l r h = (a, b, c, l, r, ints_by table ty.Bool by.Greater a b c refl h, refl)
applied_is table scope op.LessOrEqual a b c left right l r h = (a, b, c, l, r, ints_by table ty.Bool by.LessOrEqual a b c refl h, refl)
applied_is table scope op.GreaterOrEqual a b c left right l r h = (a, b, c, l, r, ints_by table ty.Bool by.GreaterOrEqual a b c refl h, refl)
applied_is table scope op.Plus a b c left right l r h = (a, b, c, l, r, sum_by table a b c h, refl)
applied_is table scope op.Minus a b c left right l r h = (a, b, c, l, r, ints_by table ty.Int by.Subtract a b c refl h, refl)
applied_is table scope op.Times a b c left right l r h = (a, b, c, l, r, ints_by table ty.Int by.Multiply a b c refl h, refl)
applied_is table scope op.Divide a b c left right l r h = (a, b, c, l, r, ints_by table ty.Int by.Divide a b c refl h, refl)
applied_is table scope op.Remainder a b c left right l r h = (a, b, c, l, r, ints_by table ty.Int by.Remainder a b c refl h, refl)

-- operands whose types are known, of which nothing is broken
record Operands (table : List Shape) (operator : Operator) (s t : Option StaticType) (a b : StaticType) : Type 0 where
  kind : StaticType
  fits : operator_result table operator a b ≡ Some kind
  natural : operands_type (operator_result table operator) s t ≡ Some kind

-- operands that have types and of which nothing is noted fit their operator
operands : (table : List Shape) (operator : Operator) (s t : Option StaticType) (a b : StaticType) (at : ℕ) → s ≡ Some a → t ≡ Some b → clash table operator at s t ≡ [] → Operands table operator s t a b
operands table operator s t a b at hs ht h =
    let h1 : clash table operator at (Some a) t ≡ [] = subst (λ (z : Option StaticType). clash table operator at z t ≡ []) hs h in
    let h2 : clash table operator at (Some a) (Some b) ≡ [] = subst (λ (z : Option StaticType). clash table operator at (Some a) z ≡ []) ht h1 in
    let k = there_is (operator_result table operator a b) (when_not _ at h2) in
    record {
      kind = k.0;
      fits = k.1;
      natural = ap (λ z. operands_type (operator_result table operator) z t) hs ∙ ap (λ z. operands_type (operator_result table operator) (Some a) z) ht ∙ k.1;
    }

-- The induction.

-- the spots of an expression and of arguments
abbrev pub in_term : Site → Role → Term → List (Spot Site)
in_term site role term = over_term after spot_of_term spot_of_item site role term

-- the spots of arguments
abbrev pub in_terms : Site → Terms → List (Spot Site)
in_terms site actuals = over_terms after spot_of_term spot_of_item site actuals

-- a fact of the last spot
pub the_last : (table : List Shape) (spots : List (Spot Site)) (spot : Spot Site) → Every (Free table) (spots ++ (spot ∷ [])) → Free table spot
the_last table spots spot h = (every_right (Free table) spots (spot ∷ []) h).0

-- a call on a receiver that has a type, or one without receiver
record IsCalled (site : Site) (scope : Scope) (role : Role) (parts : TypedTerm) (expr : ExprOf) : Type 0 where
  kind : StaticType
  typed : judged site role parts ≡ Some kind
  is : ExprIs (signatures site.table) scope expr (Some kind)

-- a call of which no rule is broken, whose arguments have types and whose value is used, has a type
called_typed : (site : Site) (scope : Scope) (role : Role) (parts : TypedTerm) (o : Option Target) (receiver : ExprOf) (actuals : Terms) (at : ℕ) → Holds site scope → FreeTerm site role parts → is_used role ≡ true
    → parts_have_types parts ≡ true → natural site parts ≡ target_type site o → Callable site scope o receiver → AreTyped site scope actuals
    → when (is_used role && valueless o) at ≡ [] → miscounted_for (target_formals o) (passed site actuals) at ≡ [] → misfits_for site.table (target_formals o) (passed site actuals) ≡ []
    → IsCalled site scope role parts (call_of site.table o receiver (all_resolved site actuals))
called_typed site scope role parts o receiver actuals at holds f used p n c args hv hc hm =
    let d = holds.table.methods c.target.class c.target.number c.target.method c.there in
    let v = has_value site.table c.target d (valued o c.target role at c.is used hv) in
    let fit = args_fit site scope actuals (target_formals o) c.target.method.formals at args (ap target_formals c.is) d.formals hc hm in
    record {
      kind = v.kind;
      typed = typed_by site role parts v.kind f p (n ∙ ap (target_type site) c.is ∙ v.typed);
      is = subst (ExprIs (signatures site.table) scope (call_of site.table o receiver (all_resolved site actuals))) v.known
          (call_is site.table scope o c.target receiver (all_resolved site actuals) c.is c.on c.there v.sync fit);
    }

-- what may stand where its value is used is used
used_is : (site : Site) (role : Role) (term : Term) → Usable site role term → is_used role ≡ true
used_is site Used term u = refl
used_is site Receiver term u = refl
used_is site Alone term u = absurd u

-- a call on an object
method_typed : (site : Site) (scope : Scope) (role : Role) (s : Option StaticType) (dot : ℕ) (name : Name) (actuals : Terms) (receiver : ExprOf) (kind : StaticType) → Holds site scope → is_used role ≡ true
    → FreeTerm site role (CallTyped s dot name (passed site actuals)) → s ≡ Some kind → ExprIs (signatures site.table) scope receiver (Some kind) → AreTyped site scope actuals
    → IsCalled site scope role (CallTyped s dot name (passed site actuals)) (call_of site.table (target_on site s name.text) receiver (all_resolved site actuals))
method_typed site scope role (Some (ty.Class class)) dot name actuals receiver kind holds used f e r args =
    let same : ty.Class class ≡ kind = same_some e in
    called_typed site scope role (CallTyped (Some (ty.Class class)) dot name (passed site actuals)) (target_at site.table class name.text) receiver actuals name.at holds f used args.typed refl
    (callable site scope class name.text receiver (when_not _ name.at f.unknown) (subst (λ (z : StaticType). ExprIs (signatures site.table) scope receiver (Some z)) (sym same) r))
    args f.used_valueless f.miscounted f.disagreeing
method_typed site scope role None dot name actuals receiver kind holds used f e r args = absurd (none_some e)
method_typed site scope role (Some ty.Int) dot name actuals receiver kind holds used f e r args = absurd (false≢true (unless_not false dot f.disagreeing))
method_typed site scope role (Some ty.Bool) dot name actuals receiver kind holds used f e r args = absurd (false≢true (unless_not false dot f.disagreeing))
method_typed site scope role (Some ty.Text) dot name actuals receiver kind holds used f e r args = absurd (false≢true (unless_not false dot f.disagreeing))

-- printing has no value
not_printed : (site : Site) (role : Role) (name : Name) (actuals : List Passed) → is_used role ≡ true → FreeTerm site role (PrintTyped name actuals) → ⊥
not_printed site role name actuals used f = contrary (is_used role) (is_print name actuals) used (when_not _ name.at f.used_valueless) (unless_not _ name.at f.unknown)
  where
    contrary : (a b : Bool) → a ≡ true → (a && b) ≡ false → b ≡ true → ⊥
    contrary true b u h k = true_false (sym k ∙ h)
    contrary false b u h k = false≢true u

-- a method without receiver that is not missing can be called
pub own_callable : (site : Site) (scope : Scope) (name : List ℕ) → Holds site scope → is_none (own_target site name) ≡ false → Callable site scope (own_target site name) to.This
own_callable site scope name holds h = by_main site.in_main refl h
  where
    by_main : (b : Bool) → site.in_main ≡ b → is_none (cond b None (target_at site.table site.own name)) ≡ false → Callable site scope (cond b None (target_at site.table site.own name)) to.This
    by_main true e k = absurd (true_false k)
    by_main false e k = callable site scope site.own name to.This k (ty.Class site.own, holds.itself e, refl)

-- a call on a receiver: where that is no `Console`, it has a type
on_receiver : (site : Site) (scope : Scope) (role : Role) (b : Bool) (s : Option StaticType) (dot : ℕ) (name : Name) (actuals : Terms) (receiver : ExprOf) → Holds site scope → is_used role ≡ true
    → FreeTerm site role (typed_call b s dot name (passed site actuals)) → AreTyped site scope actuals → (b ≡ false → (kind : StaticType) × (s ≡ Some kind) × ExprIs (signatures site.table) scope receiver (Some kind))
    → IsCalled site scope role (typed_call b s dot name (passed site actuals)) (call_of site.table (target_on site s name.text) receiver (all_resolved site actuals))
on_receiver site scope role true s dot name actuals receiver holds used f args k = absurd (not_printed site role name (passed site actuals) used f)
on_receiver site scope role false s dot name actuals receiver holds used f args k = let r = k refl in method_typed site scope role s dot name actuals receiver r.0 holds used f r.1 r.2 args

-- no arguments fit parameters of which there are none
no_fit : (site : Site) (scope : Scope) (formals : List ValueType) → Every (Declared site.table) formals → length (passed site NoTerms) ≡ length formals → misfits site.table formals (passed site NoTerms) ≡ [] → ExprsAre (signatures site.table) scope (all_resolved site NoTerms) (map (type_known site.table) formals)
no_fit site scope [] d e h = tt
no_fit site scope (w ∷ ws) d e h = absurd (differ e)
  where
    differ : 0 ≡ suc (length ws) → ⊥
    differ e = omega arith

-- an argument and others that have types fit as many parameters, where nothing is noted of them
more_fit : (site : Site) (scope : Scope) (actual : Term) (more : Terms) → IsTyped site scope Used actual → AreTyped site scope more → (formals : List ValueType) → Every (Declared site.table) formals
    → length (passed site (MoreTerms actual more)) ≡ length formals → misfits site.table formals (passed site (MoreTerms actual more)) ≡ []
    → ExprsAre (signatures site.table) scope (all_resolved site (MoreTerms actual more)) (map (type_known site.table) formals)
more_fit site scope actual more first rest [] d e h = absurd (differ e)
  where
    differ : suc (length (passed site more)) ≡ 0 → ⊥
    differ e = omega arith
more_fit site scope actual more first rest (w ∷ ws) d e h =
    let same : length (passed site more) ≡ length ws = omega (arith, e) in (
      first.kind,
      first.is,
      fits_written site.table w (type_of_term site Used actual) first.kind (first_token actual) d.0 first.typed (left_nil _ (misfits site.table ws (passed site more)) h),
      rest.fit ws d.1 same (right_nil (misfit site.table (type_written site.table w) (type_of_term site Used actual) (first_token actual)) _ h),
    )

mutual
  -- An expression in which no rule is broken has a type.
  pub term_typed : (site : Site) (scope : Scope) (role : Role) (term : Term) → Holds site scope → Usable site role term → Every (Free site.table) (in_term site role term) → IsTyped site scope role term
  term_typed site scope role (VariableTerm name) holds u h =
      let f : FreeTerm site role (VariableTyped name) = h.0 in
      let v = there_is (variable_named site.scope name.text) (variable_found site role name u f.unknown) in
      let s = variable_is (Stands scope) site.scope name.text v.0 v.1 holds.locals in
      record {
        kind = s.kind;
        typed = typed_by site role (VariableTyped name) s.kind f refl (ap local_type v.1 ∙ s.typed);
        is = (s.kind, ap (λ o. slice_get scope (slot_of o)) v.1 ∙ s.there, refl);
      }
  term_typed site scope role (ThisTerm at) holds u h =
      let f : FreeTerm site role (ThisTyped at) = h.0 in
      record { kind = ty.Class site.own; typed = typed_by site role (ThisTyped at) (ty.Class site.own) f refl refl; is = (ty.Class site.own, holds.itself (when_not _ at f.unknown), refl) }
  term_typed site scope role (NumberTerm value at minus) holds u h = record { kind = ty.Int; typed = typed_by site role (NumberTyped value at minus) ty.Int h.0 refl refl; is = refl }
  term_typed site scope role (LiteralTerm bytes at) holds u h = record { kind = ty.Text; typed = typed_by site role (LiteralTyped bytes at) ty.Text h.0 refl refl; is = refl }
  term_typed site scope role (BoolTerm value at) holds u h = record { kind = ty.Bool; typed = typed_by site role BoolTyped ty.Bool h.0 refl refl; is = refl }
  term_typed site scope role (GroupTerm at inner) holds u h =
      let f : FreeTerm site role (GroupTyped (type_of_term site Used inner)) = the_last site.table (in_term site Used inner) (AtTerm site role (GroupTerm at inner)) h in
      let i = term_typed site scope Used inner holds tt (every_left (Free site.table) (in_term site Used inner) _ h) in
      record { kind = i.kind; typed = typed_by site role (GroupTyped (type_of_term site Used inner)) i.kind f (is_there _ _ i.typed) i.typed; is = i.is }
  term_typed site scope role (MinusTerm at operand) holds u h =
      let f : FreeTerm site role (MinusTyped at (type_of_term site Used operand)) = the_last site.table (in_term site Used operand) (AtTerm site role (MinusTerm at operand)) h in
      let i = term_typed site scope Used operand holds tt (every_left (Free site.table) (in_term site Used operand) _ h) in
      let int = an_int i.kind (typed_as is_int _ i.kind at i.typed f.disagreeing) in
      record {
        kind = ty.Int;
        typed = typed_by site role (MinusTyped at (type_of_term site Used operand)) ty.Int f (is_there _ _ i.typed) refl;
        is = (subst (λ (z : StaticType). ExprIs (signatures site.table) scope (resolved site operand) (Some z)) int i.is, refl);
      }
  term_typed site scope role (NotTerm at operand) holds u h =
      let f : FreeTerm site role (NotTyped at (type_of_term site Used operand)) = the_last site.table (in_term site Used operand) (AtTerm site role (NotTerm at operand)) h in
      let i = term_typed site scope Used operand holds tt (every_left (Free site.table) (in_term site Used operand) _ h) in
      let bool = a_bool i.kind (typed_as is_bool _ i.kind at i.typed f.disagreeing) in
      record {
        kind = ty.Bool;
        typed = typed_by site role (NotTyped at (type_of_term site Used operand)) ty.Bool f (is_there _ _ i.typed) refl;
        is = (subst (λ (z : StaticType). ExprIs (signatures site.table) scope (resolved site operand) (Some z)) bool i.is, refl);
      }
  term_typed site scope role (OperationTerm operator at left right) holds u h =
      let after_left = every_right (Free site.table) (in_term site Used left) (in_term site Used right ++ (AtTerm site role (OperationTerm operator at left right) ∷ [])) h in
      let f : FreeTerm site role (OperationTyped operator at (type_of_term site Used left) (type_of_term site Used right)) = the_last site.table (in_term site Used right) (AtTerm site role (OperationTerm operator at left right)) after_left in
      let l = term_typed site scope Used left holds tt (every_left (Free site.table) (in_term site Used left) _ h) in
      let r = term_typed site scope Used right holds tt (every_left (Free site.table) (in_term site Used right) _ after_left) in
      let o = operands site.table operator (type_of_term site Used left) (type_of_term site Used right) l.kind r.kind at l.typed r.typed f.disagreeing in
      let is : ExprIs (signatures site.table) scope (applied operator (Some l.kind) (Some r.kind) (resolved site left) (resolved site right)) (Some o.kind) = applied_is site.table scope operator l.kind r.kind o.kind (resolved site left) (resolved site right) l.is r.is o.fits in
      record {
        kind = o.kind;
        typed = typed_by site role (OperationTyped operator at (type_of_term site Used left) (type_of_term site Used right)) o.kind f (and_true _ _ (is_there _ _ l.typed) (is_there _ _ r.typed)) o.natural;
        is = subst (λ (z : Option StaticType). ExprIs (signatures site.table) scope (applied operator z (type_of_term site Used right) (resolved site left) (resolved site right)) (Some o.kind)) (sym l.typed)
            (subst (λ (z : Option StaticType). ExprIs (signatures site.table) scope (applied operator (Some l.kind) z (resolved site left) (resolved site right)) (Some o.kind)) (sym r.typed) is);
      }
  term_typed site scope role (NewTerm at name brackets actuals) holds u h =
      let f : FreeTerm site role (NewTyped name (passed site actuals)) = the_last site.table (in_terms site actuals) (AtTerm site role (NewTerm at name brackets actuals)) h in
      let args = terms_typed site scope actuals holds (every_left (Free site.table) (in_terms site actuals) _ h) in
      let c = there_is (class_named site.table name.text) (when_not _ name.at f.undeclared) in
      let s = class_is site.table name.text c.0 c.1 in
      let fit = args_fit site scope actuals (named_formals site.table (class_named site.table name.text)) (class_formals site.table c.0) name.at args (ap (named_formals site.table) c.1) (holds.table.builders c.0) f.miscounted f.disagreeing in
      let builder : builder_at site.table c.0 ≡ s.0.builder = ap (option_and_then (λ (z : Shape). z.builder)) s.1 in
      record {
        kind = ty.Class c.0;
        typed = typed_by site role (NewTyped name (passed site actuals)) (ty.Class c.0) f args.typed (ap (option_map ty.Class) c.1);
        is = subst (λ (z : ℕ). ExprIs (signatures site.table) scope (to.New z (all_resolved site actuals)) (Some (ty.Class c.0))) (sym (ap (λ o. unwrap_or o 0) c.1)) (
          map (type_known site.table) (class_formals site.table c.0),
          ap (option_map (λ (z : Shape). map (type_known site.table) (built_from z.builder))) s.1 ∙ ap (λ (z : Option Builder). Some (map (type_known site.table) (built_from z))) (sym builder),
          fit,
          refl,
        );
      }
  term_typed site scope role (OwnCallTerm name brackets actuals) holds u h =
      let f : FreeTerm site role (OwnCallTyped name (passed site actuals)) = the_last site.table (in_terms site actuals) (AtTerm site role (OwnCallTerm name brackets actuals)) h in
      let args = terms_typed site scope actuals holds (every_left (Free site.table) (in_terms site actuals) _ h) in
      let c = called_typed site scope role (OwnCallTyped name (passed site actuals)) (own_target site name.text) to.This actuals name.at holds f (used_is site role (OwnCallTerm name brackets actuals) u) args.typed refl
      (own_callable site scope name.text holds (when_not _ name.at f.unknown)) args f.used_valueless f.miscounted f.disagreeing in
      record { kind = c.kind; typed = c.typed; is = c.is }
  term_typed site scope role (CallTerm receiver dot name brackets actuals) holds u h =
      let after_receiver = every_right (Free site.table) (in_term site Receiver receiver) (in_terms site actuals ++ (AtTerm site role (CallTerm receiver dot name brackets actuals) ∷ [])) h in
      let f : FreeTerm site role (typed_call (is_console site receiver) (type_of_term site Receiver receiver) dot name (passed site actuals)) = the_last site.table (in_terms site actuals) (AtTerm site role (CallTerm receiver dot name brackets actuals)) after_receiver in
      let args = terms_typed site scope actuals holds (every_left (Free site.table) (in_terms site actuals) _ after_receiver) in
      let used = used_is site role (CallTerm receiver dot name brackets actuals) u in
      let c = on_receiver site scope role (is_console site receiver) (type_of_term site Receiver receiver) dot name actuals (resolved site receiver) holds used f args
      (λ e. let r = term_typed site scope Receiver receiver holds e (every_left (Free site.table) (in_term site Receiver receiver) _ h) in (r.kind, r.typed, r.is)) in
      record { kind = c.kind; typed = c.typed; is = c.is }

  -- Arguments in which no rule is broken have types.
  pub terms_typed : (site : Site) (scope : Scope) (actuals : Terms) → Holds site scope → Every (Free site.table) (in_terms site actuals) → AreTyped site scope actuals
  terms_typed site scope NoTerms holds h = record { typed = refl; fit = no_fit site scope }
  terms_typed site scope (MoreTerms actual more) holds h =
      let first = term_typed site scope Used actual holds tt (every_left (Free site.table) (in_term site Used actual) _ h) in
      let rest = terms_typed site scope more holds (every_right (Free site.table) (in_term site Used actual) (in_terms site more) h) in
      record { typed = and_true _ _ (is_there _ _ first.typed) rest.typed; fit = more_fit site scope actual more first rest }
