-- The rules on names and types at one statement and at one member, each by itself: the tokens at which it is broken.
use Rattle.std.specs.Prelude.{ℕ, List, [], ◌++◌, Bool, true, false, not, ◌&&◌, ◌||◌, Option, Some, None, is_some, is_none, option_and_then, flat_map}
use Rattle.chord_tree.specs.declared.names.ValueType.{ValueType}
use Rattle.chord_tree.specs.declared.names.ValueType.TheVariants as types
use Rattle.chord_tree.specs.declared.classes.Formal.{Formal}
use Rattle.chord_tree.specs.Tree.{ExprTree, StmtTree, BlockTree, ItemTrees, ItemTree, AssignStmt, CallStmt, MethodCallStmt, ThisCallStmt, NewStmt, BlockStmt, EmptyStmt, IfStmt, IfElseStmt, WhileStmt, ReturnStmt, ReturnValueStmt, MakeBlock, NoItems, MoreItems, LocalItem, StmtItem, HeaderTree, MemberTree, ConstructorMember, ChordMember}
use Rattle.chord_tree.specs.Terms.{Term, BoolTerm, term}
use Rattle.chord_tree.specs.Walk.{Used, body_of, block_end}
use Rattle.chord_base.specs.declared.static_type.StaticType.{StaticType}
use Rattle.chord_classes.specs.Table.{Shape, class_named}
use Rattle.chord_classes.specs.Types.{type_written, value_type}
use Rattle.chord_classes.specs.Site.{Site, variable_named, member_due}
use Rattle.chord_classes.specs.NameRules.{when}
use Rattle.chord_classes.specs.TypeRules.{is_bool, when_typed, misfit}
use Rattle.chord_classes.specs.Typed.{local_type, type_of_term}

-- the static type of a condition or of a value that is given
abbrev pub value_of : Site → ExprTree → Option StaticType
value_of site value = type_of_term site Used (term value)

-- a type name that is not declared
abbrev pub undeclared_type : List Shape → ValueType → List ℕ
undeclared_type table (types.Basic basic at) = []
undeclared_type table (types.Class name) = when (is_none (class_named table name.text)) name.at

-- C02: the type name of a local is not declared
abbrev pub undeclared_item : Site → ItemTree → List ℕ
undeclared_item site (LocalItem written name assign value) = undeclared_type site.table written
undeclared_item site (StmtItem stmt) = []

-- C14: a variable that is assigned is unknown
abbrev pub unknown_item : Site → ItemTree → List ℕ
unknown_item site (StmtItem (AssignStmt name assign value)) = when (is_none (variable_named site.scope name.text)) name.at
unknown_item site _ = []

-- C15: at `=` where the value does not fit the variable, at `return` where it does not fit the result, at `if` or `while` where the condition is no bool
abbrev pub disagreeing_item : Site → ItemTree → List ℕ
disagreeing_item site (LocalItem written name assign value) = misfit site.table (type_written site.table written) (value_of site value) assign
disagreeing_item site (StmtItem (AssignStmt name assign value)) = misfit site.table (local_type (variable_named site.scope name.text)) (value_of site value) assign
disagreeing_item site (StmtItem (ReturnValueStmt at value)) = misfit site.table (option_and_then (type_written site.table) site.due) (value_of site value) at
disagreeing_item site (StmtItem (IfStmt at bracket test first)) = when_typed is_bool (value_of site test) at
disagreeing_item site (StmtItem (IfElseStmt at bracket test first second)) = when_typed is_bool (value_of site test) at
disagreeing_item site (StmtItem (WhileStmt at bracket test body)) = when_typed is_bool (value_of site test) at
disagreeing_item site _ = []

-- C18: `return` has a value where none is due, or none where one is due
abbrev pub misreturned : Site → ItemTree → List ℕ
misreturned site (StmtItem (ReturnStmt at)) = when (is_some site.due) at
misreturned site (StmtItem (ReturnValueStmt at value)) = when (is_none site.due) at
misreturned site _ = []

-- C20: a local has the name of a parameter or local in scope
abbrev pub redeclared : Site → ItemTree → List ℕ
redeclared site (LocalItem written name assign value) = when (is_some (variable_named site.scope name.text)) name.at
redeclared site (StmtItem stmt) = []

-- the word `true`
abbrev pub is_true_word : Term → Bool
is_true_word (BoolTerm value at) = value
is_true_word _ = false

abbrev mutual
  -- a statement surely returns
  pub surely : StmtTree → Bool
  surely (AssignStmt name assign value) = false
  surely (CallStmt name actuals calls) = false
  surely (MethodCallStmt name first calls) = false
  surely (ThisCallStmt at first calls) = false
  surely (NewStmt at name actuals calls) = false
  surely (BlockStmt block) = block_surely block
  surely EmptyStmt = false
  surely (IfStmt at bracket test first) = false
  surely (IfElseStmt at bracket test first second) = surely first && surely second
  surely (WhileStmt at bracket test body) = is_true_word (term test)
  surely (ReturnStmt at) = true
  surely (ReturnValueStmt at value) = true

  -- a block with a statement that surely returns
  pub block_surely : BlockTree → Bool
  block_surely (MakeBlock items end) = items_surely items

  -- one of the items surely returns
  pub items_surely : ItemTrees → Bool
  items_surely NoItems = false
  items_surely (MoreItems (LocalItem written name assign value) more) = items_surely more
  items_surely (MoreItems (StmtItem stmt) more) = surely stmt || items_surely more

-- C17: the body of a method with a value type does not surely return
abbrev pub unreturned : MemberTree → List ℕ
unreturned member = when (is_some (member_due member) && not (block_surely (body_of member))) (block_end (body_of member))

-- the type names of parameters that are not declared
abbrev pub undeclared_formals : List Shape → List Formal → List ℕ
undeclared_formals table formals = flat_map (λ (f : Formal). undeclared_type table f.value_type) formals

-- the type name of a result that is not declared
abbrev pub undeclared_result : List Shape → Option ValueType → List ℕ
undeclared_result table None = []
undeclared_result table (Some written) = undeclared_type table written

-- the type names of a header that are not declared
abbrev pub undeclared_header : List Shape → HeaderTree → List ℕ
undeclared_header table header = undeclared_result table (value_type header.result_type) ++ undeclared_formals table header.formals.parameters

-- C02: the type name of a parameter or result is not declared
abbrev pub undeclared_member : List Shape → MemberTree → List ℕ
undeclared_member table (ConstructorMember modifiers name formals body) = undeclared_formals table formals.parameters
undeclared_member table (ChordMember headers body) = flat_map (undeclared_header table) headers
