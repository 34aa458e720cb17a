-- Programs as trees, without where their parts lie in memory. A number is that of a token.
use Rattle.std.specs.Prelude.{ℕ, List, [], ◌∷◌, Option}
use Rattle.chord_tree.specs.declared.names.Name.{Name}
use Rattle.chord_tree.specs.declared.names.ValueType.{ValueType}
use Rattle.chord_tree.specs.declared.exprs.Operator.{Operator}
use Rattle.chord_tree.specs.declared.classes.Modifier.{Modifier}
use Rattle.chord_tree.specs.declared.classes.ReturnType.{ReturnType}
use Rattle.chord_tree.specs.declared.classes.Formal.{Formal}
use Rattle.chord_tree.specs.declared.classes.NamePart.{NamePart}

mutual
  -- an expression: operators of one level with their operands, `-`, `!`, or a start with the calls on it
  pub data ExprTree : Type 0 where
    ChainExpr : (first : ExprTree) (link : LinkTree) (more : LinkTrees) → ExprTree
    MinusExpr : (at : ℕ) (operand : ExprTree) → ExprTree
    NotExpr : (at : ℕ) (operand : ExprTree) → ExprTree
    PrimaryExpr : (start : StartTree) (calls : DotTrees) → ExprTree

  -- further operators of one level, each with its right operand
  pub data LinkTrees : Type 0 where
    NoLinks : LinkTrees
    MoreLinks : LinkTree → LinkTrees → LinkTrees

  -- an operator and its right operand
  pub data LinkTree : Type 0 where
    MakeLink : (operator : Operator) (at : ℕ) (operand : ExprTree) → LinkTree

  -- what an expression without operators begins with
  pub data StartTree : Type 0 where
    VariableStart : (name : Name) → StartTree
    CallStart : (name : Name) (actuals : ActualsTree) → StartTree
    ThisStart : (at : ℕ) → StartTree
    NewStart : (at : ℕ) (name : Name) (actuals : ActualsTree) → StartTree
    NumberStart : (value at : ℕ) → StartTree
    LiteralStart : (bytes : List ℕ) (at : ℕ) → StartTree
    TrueStart : (at : ℕ) → StartTree
    FalseStart : (at : ℕ) → StartTree
    GroupStart : (at : ℕ) (inner : ExprTree) → StartTree

  -- the number of `(`, and the arguments
  pub data ActualsTree : Type 0 where
    MakeActuals : (at : ℕ) (arguments : ExprTrees) → ActualsTree

  -- arguments
  pub data ExprTrees : Type 0 where
    NoExprs : ExprTrees
    MoreExprs : ExprTree → ExprTrees → ExprTrees

  -- calls, each on what those before it give
  pub data DotTrees : Type 0 where
    NoDots : DotTrees
    MoreDots : DotTree → DotTrees → DotTrees

  -- the number of `.`, a method and its arguments
  pub data DotTree : Type 0 where
    MakeDot : (at : ℕ) (name : Name) (actuals : ActualsTree) → DotTree

mutual
  -- a statement; the numbers are those of its word, of `(`, and of `=`
  pub data StmtTree : Type 0 where
    AssignStmt : (name : Name) (assign : ℕ) (value : ExprTree) → StmtTree
    CallStmt : (name : Name) (actuals : ActualsTree) (calls : DotTrees) → StmtTree
    MethodCallStmt : (name : Name) (first : DotTree) (calls : DotTrees) → StmtTree
    ThisCallStmt : (at : ℕ) (first : DotTree) (calls : DotTrees) → StmtTree
    NewStmt : (at : ℕ) (name : Name) (actuals : ActualsTree) (calls : DotTrees) → StmtTree
    BlockStmt : (block : BlockTree) → StmtTree
    EmptyStmt : StmtTree
    IfStmt : (at bracket : ℕ) (test : ExprTree) (first : StmtTree) → StmtTree
    IfElseStmt : (at bracket : ℕ) (test : ExprTree) (first second : StmtTree) → StmtTree
    WhileStmt : (at bracket : ℕ) (test : ExprTree) (body : StmtTree) → StmtTree
    ReturnStmt : (at : ℕ) → StmtTree
    ReturnValueStmt : (at : ℕ) (value : ExprTree) → StmtTree

  -- the items, and the number of `}`
  pub data BlockTree : Type 0 where
    MakeBlock : (items : ItemTrees) (end : ℕ) → BlockTree

  -- items of a block
  pub data ItemTrees : Type 0 where
    NoItems : ItemTrees
    MoreItems : ItemTree → ItemTrees → ItemTrees

  -- a local with its value, or a statement
  pub data ItemTree : Type 0 where
    LocalItem : (value_type : ValueType) (name : Name) (assign : ℕ) (value : ExprTree) → ItemTree
    StmtItem : (stmt : StmtTree) → ItemTree

-- parameters, and the number of `(`
pub record FormalsTree : Type 0 where
  pub at : ℕ
  pub parameters : List Formal

-- a method's header
pub record HeaderTree : Type 0 where
  pub modifiers : List Modifier
  pub result_type : ReturnType
  pub name : Name
  pub formals : FormalsTree

-- a member of a class: a constructor, or a chord of one header or more
pub data MemberTree : Type 0 where
  ConstructorMember : (modifiers : List Modifier) (name : Name) (formals : FormalsTree) (body : BlockTree) → MemberTree
  ChordMember : (headers : List HeaderTree) (body : BlockTree) → MemberTree

-- a class: the number of `public` if it is there, and that of `}`
pub record ClassTree : Type 0 where
  pub public_at : Option ℕ
  pub name : Name
  pub base : Option Name
  pub members : List MemberTree
  pub end : ℕ

-- a `using` line: the first part of its name, and the others with their dots
pub record UsingTree : Type 0 where
  pub first : Name
  pub parts : List NamePart

-- the lines and the classes of a program, in the order of the text
pub record ProgramTree : Type 0 where
  pub usings : List UsingTree
  pub classes : List ClassTree

-- links, of a list of them
abbrev pub links : List LinkTree → LinkTrees
links [] = NoLinks
links (link ∷ more) = MoreLinks link (links more)

-- arguments, of a list of them
abbrev pub exprs : List ExprTree → ExprTrees
exprs [] = NoExprs
exprs (expr ∷ more) = MoreExprs expr (exprs more)

-- calls, of a list of them
abbrev pub dots : List DotTree → DotTrees
dots [] = NoDots
dots (dot ∷ more) = MoreDots dot (dots more)

-- items, of a list of them
abbrev pub items : List ItemTree → ItemTrees
items [] = NoItems
items (item ∷ more) = MoreItems item (items more)
