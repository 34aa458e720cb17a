-- Written types and what they stand for; the signatures of a program's methods and constructors.
use Rattle.std.specs.Prelude.{List, [], Bool, true, false, map, slice_get, Option, Some, None, option_map, unwrap_or}
use Rattle.chord_tree.specs.declared.names.BasicType.{BasicType}
use Rattle.chord_tree.specs.declared.names.BasicType.TheVariants as basics
use Rattle.chord_tree.specs.declared.names.ValueType.{ValueType}
use Rattle.chord_tree.specs.declared.names.ValueType.TheVariants as types
use Rattle.chord_tree.specs.declared.classes.ReturnType.{ReturnType}
use Rattle.chord_tree.specs.declared.classes.ReturnType.TheVariants as results
use Rattle.chord_tree.specs.Tree.{ProgramTree}
use Rattle.chord_base.specs.declared.static_type.StaticType.{StaticType}
use Rattle.chord_base.specs.declared.static_type.StaticType.TheVariants as ty
use Rattle.chord_bodies.specs.Types.{Signature, Signatures}
use Rattle.chord_classes.specs.Table.{Method, Builder, Shape, class_named, methods_at, derives, table_of}

-- the static type of a word of the language
abbrev pub basic_type : BasicType → StaticType
basic_type basics.Int = ty.Int
basic_type basics.Bool = ty.Bool
basic_type basics.String = ty.Text

-- the static type that is written, if its class is declared
abbrev pub type_written : List Shape → ValueType → Option StaticType
type_written table (types.Basic basic at) = Some (basic_type basic)
type_written table (types.Class name) = option_map ty.Class (class_named table name.text)

-- the static type that is written; where its class is not declared, which is broken, any
abbrev pub type_known : List Shape → ValueType → StaticType
type_known table written = unwrap_or (type_written table written) ty.Int

-- callers of a method wait, unless it is `async`
abbrev pub is_sync : ReturnType → Bool
is_sync (results.Async at) = false
is_sync (results.Void at) = true
is_sync (results.Value written) = true

-- the written type of a result, if there is one
abbrev pub value_type : ReturnType → Option ValueType
value_type (results.Async at) = None
value_type (results.Void at) = None
value_type (results.Value written) = Some written

-- the static type of a result
abbrev pub result_known : List Shape → ReturnType → Option StaticType
result_known table result = option_map (type_known table) (value_type result)

-- a method's signature
abbrev pub signature : List Shape → Method → Signature
signature table method = record {
  is_sync = is_sync method.result_type;
  parameters = map (type_known table) method.formals;
  result = result_known table method.result_type;
}

-- what an object is built from: a class without a constructor has one without parameters
abbrev pub built_from : Option Builder → List ValueType
built_from None = []
built_from (Some builder) = builder.formals

-- the signatures that classes give
abbrev pub signatures : List Shape → Signatures
signatures table = record {
  methods = λ class number. option_map (signature table) (slice_get (methods_at table class) number);
  builders = λ class. option_map (λ (shape : Shape). map (type_known table) (built_from shape.builder)) (slice_get table class);
  derives = derives table;
}

-- the signatures of a program
abbrev pub signatures_of : ProgramTree → Signatures
signatures_of program = signatures (table_of program)
