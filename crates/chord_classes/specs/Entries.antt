-- What the table in memory keeps of the shapes of classes.
use Rattle.std.specs.Prelude.{◌≡◌, ℕ, ◌+◌, ◌<◌, List, [], ◌++◌, map, length, slice_get, true, Some, None, is_some, option_map}
use Rattle.chord_tree.specs.View.{see_class}
use Rattle.chord_tree.specs.Tree.{HeaderTree}
use Rattle.chord_classes.specs.Table.{Method, Shape, with_headers, method_named, methods_at, above, inherited, from_base, shapes_after}
use Rattle.chord_classes.specs.NameRules.{builder_at}
use Rattle.chord_classes.specs.declared.method.Method as rust_method
use Rattle.chord_classes.specs.declared.entry.Entry.{Entry}
use Rattle.chord_classes.specs.MethodViews.{see_method, see_builder}

-- methods that are new in a class: none has a name of the inherited ones
abbrev pub AreNew : List Method → List rust_method.Method → Type 0
AreNew inherited own = (name : List ℕ) → is_some (method_named (map see_method own) name) ≡ true → method_named inherited name ≡ None

-- an entry is that of the class of this number
pub record IsEntry (shapes : List Shape) (class : ℕ) (entry : Entry) : Type 0 where
  -- a base class stands before its classes
  pub below : (base : ℕ) → entry.base ≡ Some base → base < class
  pub bases : above shapes class ≡ from_base shapes entry.base
  pub methods : methods_at shapes class ≡ inherited shapes entry.base ++ map see_method entry.own.all.items
  pub first : entry.first ≡ length (inherited shapes entry.base)
  pub new : AreNew (inherited shapes entry.base) entry.own.all.items
  -- a method's number fits
  pub fits : entry.first + length entry.own.all.items < 4294967296
  pub builder : option_map see_builder entry.builder ≡ builder_at shapes class

-- methods were added by headers, and stayed without the name of an inherited one
pub record IsGrown (inherited : List Method) (owner : ℕ) (headers : List HeaderTree) (before after : List rust_method.Method) : Type 0 where
  pub methods : inherited ++ map see_method after ≡ with_headers owner (inherited ++ map see_method before) headers
  pub new : AreNew inherited before → AreNew inherited after

-- the shapes of the classes of entries
abbrev pub shapes_of : List Entry → List Shape
shapes_of entries = shapes_after [] (map (λ (entry : Entry). see_class entry.class.now) entries)

-- each entry is that of its class among these shapes, and names are those of the classes
pub record AreEntries (shapes : List Shape) (entries : List Entry) (names : List (List ℕ)) : Type 0 where
  pub count : length entries ≡ length shapes
  -- a class's number fits
  pub few : length entries < 4294967296
  pub named : names ≡ map (λ (shape : Shape). shape.name) shapes
  pub all : (class : ℕ) (entry : Entry) → slice_get entries class ≡ Some entry → IsEntry shapes class entry
