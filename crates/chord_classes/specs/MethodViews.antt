-- What methods and constructors in memory stand for.
use Rattle.std.specs.Prelude.{ℕ, List, map}
use Rattle.chord_classes.specs.Table as table
use Rattle.chord_classes.specs.declared.method.Access.{Access}
use Rattle.chord_classes.specs.declared.method.Access.TheVariants as access
use Rattle.chord_classes.specs.declared.method.Method.{Method}
use Rattle.chord_classes.specs.declared.method.OwnMethod.{OwnMethod}
use Rattle.chord_classes.specs.declared.method.Found.{Found}
use Rattle.chord_classes.specs.declared.method.Builder.{Builder}

-- the access that one in memory stands for
abbrev pub see_access : Access → table.Access
see_access access.Public = table.Public
see_access access.Protected = table.Protected
see_access access.Private = table.Private

-- the method that one in memory stands for
abbrev pub see_method : Method → table.Method
see_method method = record {
  name = method.header.now.name.text;
  access = see_access method.access;
  is_virtual = table.has_word table.is_virtual_word method.header.now.modifiers.items;
  result_type = method.header.now.result_type;
  formals = table.formal_types method.header.now.formals.parameters.items;
  owner = method.owner;
}

-- the method with its number that one in memory stands for
abbrev pub see_found : Found → table.Found
see_found found = record { number = found.number; method = see_method found.method }

-- the constructor that one in memory stands for
abbrev pub see_builder : Builder → table.Builder
see_builder builder = record { access = see_access builder.access; formals = table.formal_types builder.formals.now }

-- the names of methods
abbrev pub names_of : List Method → List (List ℕ)
names_of methods = map (λ (method : Method). method.header.now.name.text) methods

-- a method of a class's own, with its place as its number
abbrev pub see_own : OwnMethod → table.Found
see_own own = record { number = own.place; method = see_method own.method }

-- a place and a method, as a number and a method
abbrev pub at_place : ℕ → Method → table.Found
at_place place method = record { number = place; method = see_method method }
