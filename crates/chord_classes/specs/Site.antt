-- Where a text stands: the classes, the body that it is of, and what is in scope.
use Rattle.std.specs.Prelude.{ℕ, ◌+◌, List, [], ◌∷◌, ◌++◌, Bool, false, cond, ◌||◌, length, bytes_eq, flat_map, Option, Some, None}
use Rattle.chord_tree.specs.declared.names.ValueType.{ValueType}
use Rattle.chord_tree.specs.declared.classes.ReturnType.{ReturnType}
use Rattle.chord_tree.specs.declared.classes.ReturnType.TheVariants as results
use Rattle.chord_tree.specs.declared.classes.Formal.{Formal}
use Rattle.chord_tree.specs.Tree.{StmtTree, BlockTree, ItemTrees, ItemTree, AssignStmt, CallStmt, MethodCallStmt, ThisCallStmt, NewStmt, BlockStmt, EmptyStmt, IfStmt, IfElseStmt, WhileStmt, ReturnStmt, ReturnValueStmt, MakeBlock, NoItems, MoreItems, LocalItem, StmtItem, HeaderTree, MemberTree, ConstructorMember, ChordMember, ClassTree}
use Rattle.chord_base.specs.declared.static_type.StaticType.{StaticType}
use Rattle.chord_classes.specs.Table.{Shape, is_main}
use Rattle.chord_classes.specs.Types.{type_written}

-- a variable in scope: its type is there if its class is declared
pub record Local : Type 0 where
  pub name : List ℕ
  pub slot : ℕ
  pub static_type : Option StaticType

-- the classes, the number of the class of the text, whether it is of `Main`, what `return` is to give, the variables in scope, and the next free slot
pub record Site : Type 0 where
  pub table : List Shape
  pub own : ℕ
  pub in_main : Bool
  pub due : Option ValueType
  pub scope : List Local
  pub next : ℕ

-- the first variable of that name
abbrev pub variable_named : List Local → List ℕ → Option Local
variable_named [] name = None
variable_named (local ∷ more) name = cond (bytes_eq local.name name) (Some local) (variable_named more name)

-- the written types of the locals that are declared in a statement, a block or items, in the order of the text
abbrev mutual
  -- the written types of the locals that are declared in a statement, in the order of the text
  pub stmt_locals : StmtTree → List ValueType
  stmt_locals (AssignStmt name assign value) = []
  stmt_locals (CallStmt name actuals calls) = []
  stmt_locals (MethodCallStmt name first calls) = []
  stmt_locals (ThisCallStmt at first calls) = []
  stmt_locals (NewStmt at name actuals calls) = []
  stmt_locals (BlockStmt block) = block_locals block
  stmt_locals EmptyStmt = []
  stmt_locals (IfStmt at bracket test first) = stmt_locals first
  stmt_locals (IfElseStmt at bracket test first second) = stmt_locals first ++ stmt_locals second
  stmt_locals (WhileStmt at bracket test body) = stmt_locals body
  stmt_locals (ReturnStmt at) = []
  stmt_locals (ReturnValueStmt at value) = []

  -- the written types of the locals that are declared in a block
  pub block_locals : BlockTree → List ValueType
  block_locals (MakeBlock items end) = items_locals items

  -- the written types of the locals that are declared in items
  pub items_locals : ItemTrees → List ValueType
  items_locals NoItems = []
  items_locals (MoreItems (LocalItem value_type name assign value) more) = value_type ∷ items_locals more
  items_locals (MoreItems (StmtItem stmt) more) = stmt_locals stmt ++ items_locals more

-- A local is in scope from the end of its declaration to the end of its block. Each local of a body has a slot of its own.
abbrev pub after : Site → ItemTree → Site
after site (LocalItem value_type name assign value) = record {
  table = site.table;
  own = site.own;
  in_main = site.in_main;
  due = site.due;
  scope = site.scope ++ (record { name = name.text; slot = site.next; static_type = type_written site.table value_type } ∷ []);
  next = site.next + 1;
}
after site (StmtItem stmt) = record {
  table = site.table;
  own = site.own;
  in_main = site.in_main;
  due = site.due;
  scope = site.scope;
  next = site.next + length (stmt_locals stmt);
}

-- the parameters of a body: a chord has those of all its headers
abbrev pub member_formals : MemberTree → List Formal
member_formals (ConstructorMember modifiers name formals body) = formals.parameters
member_formals (ChordMember headers body) = flat_map (λ (header : HeaderTree). header.formals.parameters) headers

-- the value that a header is to give, or else that of others
abbrev pub due_by : ReturnType → Option ValueType → Option ValueType
due_by (results.Async at) others = others
due_by (results.Void at) others = None
due_by (results.Value written) others = Some written

-- the value that the first synchronous header is to give
abbrev pub headers_due : List HeaderTree → Option ValueType
headers_due [] = None
headers_due (header ∷ more) = due_by header.result_type (headers_due more)

-- what `return` is to give in a body
abbrev pub member_due : MemberTree → Option ValueType
member_due (ConstructorMember modifiers name formals body) = None
member_due (ChordMember headers body) = headers_due headers

-- one of the headers is that of `Main`
abbrev pub has_main : List HeaderTree → Bool
has_main [] = false
has_main (header ∷ more) = is_main header || has_main more

-- whether a body is that of `Main`
abbrev pub member_in_main : MemberTree → Bool
member_in_main (ConstructorMember modifiers name formals body) = false
member_in_main (ChordMember headers body) = has_main headers

-- parameters, in slots from this one on
abbrev pub parameters : List Shape → ℕ → List Formal → List Local
parameters table slot [] = []
parameters table slot (formal ∷ more) = record { name = formal.name.text; slot = slot; static_type = type_written table formal.value_type } ∷ parameters table (slot + 1) more

-- where the body of a member begins: slot 0 is `this`, and then come the parameters
abbrev pub enter : List Shape → ℕ → ClassTree → MemberTree → Site
enter table own class member = record {
  table = table;
  own = own;
  in_main = member_in_main member;
  due = member_due member;
  scope = parameters table 1 (member_formals member);
  next = 1 + length (member_formals member);
}
