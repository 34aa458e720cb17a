-- The rules on headers of one name, in a class and above it: the tokens at which each is broken.
use Rattle.std.specs.Prelude.{ℕ, List, [], ◌∷◌, ◌++◌, Bool, true, false, not, cond, ◌&&◌, bytes_eq, Option, Some, None, is_some, flat_map}
use Rattle.chord_tree.specs.declared.names.BasicType.{BasicType}
use Rattle.chord_tree.specs.declared.names.BasicType.TheVariants as basics
use Rattle.chord_tree.specs.declared.names.ValueType.{ValueType}
use Rattle.chord_tree.specs.declared.names.ValueType.TheVariants as types
use Rattle.chord_tree.specs.declared.classes.ModifierKeyword.{ModifierKeyword}
use Rattle.chord_tree.specs.declared.classes.ModifierKeyword.TheVariants as modifiers
use Rattle.chord_tree.specs.declared.classes.ReturnType.{ReturnType}
use Rattle.chord_tree.specs.declared.classes.ReturnType.TheVariants as results
use Rattle.chord_tree.specs.Tree.{HeaderTree, ClassTree, ProgramTree}
use Rattle.chord_tree.specs.Walk.{headers_of}
use Rattle.chord_classes.specs.Table.{Access, Public, Protected, Private, Found, Shape, has_word, access_of, formal_types, is_main, method_named, base_of, inherited, shape_of}
use Rattle.chord_classes.specs.NameRules.{when}

-- two types that are words of the language are the same
abbrev pub same_basic : BasicType → BasicType → Bool
same_basic basics.Int basics.Int = true
same_basic basics.Bool basics.Bool = true
same_basic basics.String basics.String = true
same_basic _ _ = false

-- written types are the same: classes by their names
abbrev pub same_written : ValueType → ValueType → Bool
same_written (types.Basic a i) (types.Basic b j) = same_basic a b
same_written (types.Class x) (types.Class y) = bytes_eq x.text y.text
same_written _ _ = false

-- written types are the same, one by one
abbrev pub same_all : List ValueType → List ValueType → Bool
same_all [] [] = true
same_all (v ∷ vs) (w ∷ ws) = same_written v w && same_all vs ws
same_all _ _ = false

-- results are the same
abbrev pub same_result : ReturnType → ReturnType → Bool
same_result (results.Async i) (results.Async j) = true
same_result (results.Void i) (results.Void j) = true
same_result (results.Value v) (results.Value w) = same_written v w
same_result _ _ = false

-- accesses are the same
abbrev pub same_access : Access → Access → Bool
same_access Public Public = true
same_access Protected Protected = true
same_access Private Private = true
same_access _ _ = false

-- two truth values are the same
abbrev pub same_truth : Bool → Bool → Bool
same_truth true b = b
same_truth false b = not b

-- the word `virtual`
abbrev pub virtual_word : ModifierKeyword → Bool
virtual_word modifiers.Virtual = true
virtual_word _ = false

-- the word `override`
abbrev pub override_word : ModifierKeyword → Bool
override_word modifiers.Override = true
override_word _ = false

-- a header has `override`
abbrev pub overrides : HeaderTree → Bool
overrides header = has_word override_word header.modifiers

-- two headers agree in result and parameter types, access, `virtual` and `override`
abbrev pub agree : HeaderTree → HeaderTree → Bool
agree first header =
    same_result first.result_type header.result_type && (same_all (formal_types first.formals.parameters) (formal_types header.formals.parameters)
    && (same_access (access_of first.modifiers) (access_of header.modifiers) && (same_truth (has_word virtual_word first.modifiers) (has_word virtual_word header.modifiers) && same_truth (overrides first) (overrides header))))

-- the first header of that name
abbrev pub first_named : List HeaderTree → List ℕ → Option HeaderTree
first_named [] name = None
first_named (header ∷ more) name = cond (bytes_eq header.name.text name) (Some header) (first_named more name)

-- a header differs from the first of its name
abbrev pub differs_from : Option HeaderTree → HeaderTree → List ℕ
differs_from None header = []
differs_from (Some first) header = when (not (agree first header)) header.name.at

-- `Main` is no method
abbrev pub unless_main : HeaderTree → List ℕ → List ℕ
unless_main header tokens = cond (is_main header) [] tokens

-- C05: a method's header differs from its first header in this class
abbrev pub differing_headers : List Shape → ClassTree → List ℕ
differing_headers done class = flat_map (λ (header : HeaderTree). unless_main header (differs_from (first_named (headers_of class) header.name.text) header)) (headers_of class)

-- C09: a header without `override` has the name of a method of a base class
abbrev pub missing_override : List Shape → ClassTree → List ℕ
missing_override done class =
    flat_map (λ (header : HeaderTree). unless_main header (when (not (overrides header) && is_some (method_named (inherited done (base_of done class)) header.name.text)) header.name.at)) (headers_of class)

-- a header may override what is found in the base class
abbrev pub may_override : HeaderTree → Option Found → Bool
may_override header None = false
may_override header (Some found) =
    same_result found.method.result_type header.result_type && (same_all found.method.formals (formal_types header.formals.parameters)
    && (found.method.is_virtual && same_access found.method.access (access_of header.modifiers)))

-- C10: a header with `override` names no `virtual` or `override` method of the base class, or one with another access, result or parameter types
abbrev pub wrong_override : List Shape → ClassTree → List ℕ
wrong_override done class =
    flat_map (λ (header : HeaderTree). when (overrides header && not (may_override header (method_named (inherited done (base_of done class)) header.name.text))) header.name.at) (headers_of class)

-- a rule at each class, with the shapes of those declared before it
abbrev pub over_shapes : (List Shape → ClassTree → List ℕ) → List Shape → List ClassTree → List ℕ
over_shapes rule done [] = []
over_shapes rule done (class ∷ more) = rule done class ++ over_shapes rule (done ++ (shape_of done class ∷ [])) more

-- a rule at each class of a program
abbrev pub in_classes : (List Shape → ClassTree → List ℕ) → ProgramTree → List ℕ
in_classes rule program = over_shapes rule [] program.classes
