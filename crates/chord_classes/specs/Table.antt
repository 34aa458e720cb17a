-- The classes of a program: their bases, their methods with the inherited ones, and their constructors.
use Rattle.std.specs.Prelude.{ℕ, ◌+◌, List, [], ◌∷◌, ◌++◌, Bool, true, false, cond, ◌||◌, nat_eq, length, map, slice_get, bytes_eq, codes, Option, Some, None, is_some, option_and_then}
use Rattle.chord_tree.specs.declared.names.Name.{Name}
use Rattle.chord_tree.specs.declared.names.ValueType.{ValueType}
use Rattle.chord_tree.specs.declared.classes.ModifierKeyword.{ModifierKeyword}
use Rattle.chord_tree.specs.declared.classes.ModifierKeyword.TheVariants as modifiers
use Rattle.chord_tree.specs.declared.classes.Modifier.{Modifier}
use Rattle.chord_tree.specs.declared.classes.ReturnType.{ReturnType}
use Rattle.chord_tree.specs.declared.classes.Formal.{Formal}
use Rattle.chord_tree.specs.Tree.{HeaderTree, MemberTree, ConstructorMember, ChordMember, ClassTree, ProgramTree}
use Rattle.chord_tree.specs.Walk.{headers_of}

-- who may use a method or a constructor
pub data Access : Type 0 where
  Public : Access
  Protected : Access
  Private : Access

-- a method: its shape is that of its first header
pub record Method : Type 0 where
  pub name : List ℕ
  pub access : Access
  -- it has `virtual` or `override`
  pub is_virtual : Bool
  pub result_type : ReturnType
  pub formals : List ValueType
  -- the class in which it is new
  pub owner : ℕ

-- a constructor
pub record Builder : Type 0 where
  pub access : Access
  pub formals : List ValueType

-- a class: the classes above it, the nearest first; its methods, the inherited ones first; its first constructor
pub record Shape : Type 0 where
  pub name : List ℕ
  pub above : List ℕ
  pub methods : List Method
  pub builder : Option Builder

-- whether a modifier is among modifiers
abbrev pub has_word : (ModifierKeyword → Bool) → List Modifier → Bool
has_word is_word [] = false
has_word is_word (m ∷ ms) = is_word m.keyword || has_word is_word ms

-- the words with which a method may be overridden
abbrev pub is_virtual_word : ModifierKeyword → Bool
is_virtual_word modifiers.Virtual = true
is_virtual_word modifiers.Override = true
is_virtual_word _ = false

-- the first access modifier counts
abbrev pub access_by : ModifierKeyword → Access → Access
access_by modifiers.Public others = Public
access_by modifiers.Protected others = Protected
access_by modifiers.Private others = Private
access_by _ others = others

-- without an access modifier it is private
abbrev pub access_of : List Modifier → Access
access_of [] = Private
access_of (m ∷ ms) = access_by m.keyword (access_of ms)

-- the written types of parameters
abbrev pub formal_types : List Formal → List ValueType
formal_types formals = map (λ (f : Formal). f.value_type) formals

-- `Main` is not a method
abbrev pub is_main : HeaderTree → Bool
is_main header = bytes_eq header.name.text (codes "Main")

-- the method that a header makes, which is new in this class
abbrev pub method_of : ℕ → HeaderTree → Method
method_of owner header = record {
  name = header.name.text;
  access = access_of header.modifiers;
  is_virtual = has_word is_virtual_word header.modifiers;
  result_type = header.result_type;
  formals = formal_types header.formals.parameters;
  owner = owner;
}

-- a method and its number
pub record Found : Type 0 where
  pub number : ℕ
  pub method : Method

-- the first method of that name among methods, of which the first has this number
abbrev pub method_from : ℕ → List Method → List ℕ → Option Found
method_from number [] name = None
method_from number (m ∷ ms) name = cond (bytes_eq m.name name) (Some (record { number = number; method = m })) (method_from (number + 1) ms name)

-- the first method of that name
abbrev pub method_named : List Method → List ℕ → Option Found
method_named methods name = method_from 0 methods name

-- methods, and those that headers add: a header whose name is there already adds none
abbrev pub with_headers : ℕ → List Method → List HeaderTree → List Method
with_headers owner methods [] = methods
with_headers owner methods (header ∷ more) =
    with_headers owner (cond (is_main header || is_some (method_named methods header.name.text)) methods (methods ++ (method_of owner header ∷ []))) more

-- the first constructor among members
abbrev pub first_builder : List MemberTree → Option Builder
first_builder [] = None
first_builder (ConstructorMember modifiers name formals body ∷ more) = Some (record { access = access_of modifiers; formals = formal_types formals.parameters })
first_builder (ChordMember headers body ∷ more) = first_builder more

-- the first class of that name among classes, of which the first has this number
abbrev pub class_from : ℕ → List Shape → List ℕ → Option ℕ
class_from number [] name = None
class_from number (shape ∷ more) name = cond (bytes_eq shape.name name) (Some number) (class_from (number + 1) more name)

-- the number of the first class of that name
abbrev pub class_named : List Shape → List ℕ → Option ℕ
class_named table name = class_from 0 table name

-- the base class, if it is declared among the classes so far
abbrev pub base_of : List Shape → ClassTree → Option ℕ
base_of done class = option_and_then (λ (base : Name). class_named done base.text) class.base

-- the methods of a class that is there
abbrev pub methods_in : Option Shape → List Method
methods_in None = []
methods_in (Some shape) = shape.methods

-- the methods of a class
abbrev pub methods_at : List Shape → ℕ → List Method
methods_at table class = methods_in (slice_get table class)

-- the classes above a class that is there
abbrev pub above_in : Option Shape → List ℕ
above_in None = []
above_in (Some shape) = shape.above

-- the classes above a class, the nearest first
abbrev pub above : List Shape → ℕ → List ℕ
above table class = above_in (slice_get table class)

-- the methods that are inherited from a base class
abbrev pub inherited : List Shape → Option ℕ → List Method
inherited done None = []
inherited done (Some base) = methods_at done base

-- a base class and the classes above it
abbrev pub from_base : List Shape → Option ℕ → List ℕ
from_base done None = []
from_base done (Some base) = base ∷ above done base

-- a class after those declared before it
abbrev pub shape_of : List Shape → ClassTree → Shape
shape_of done class = record {
  name = class.name.text;
  above = from_base done (base_of done class);
  methods = with_headers (length done) (inherited done (base_of done class)) (headers_of class);
  builder = first_builder class.members;
}

-- the classes so far, and the others after them
abbrev pub shapes_after : List Shape → List ClassTree → List Shape
shapes_after done [] = done
shapes_after done (class ∷ more) = shapes_after (done ++ (shape_of done class ∷ [])) more

-- the classes of a program by their numbers
abbrev pub table_of : ProgramTree → List Shape
table_of program = shapes_after [] program.classes

-- a number is among numbers
abbrev pub among : ℕ → List ℕ → Bool
among n [] = false
among n (m ∷ ms) = nat_eq n m || among n ms

-- a class is another, or derives from it
abbrev pub derives : List Shape → ℕ → ℕ → Bool
derives table class base = nat_eq class base || among base (above table class)
