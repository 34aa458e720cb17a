-- How deep programs are nested as trees, and that their tokens bound it.
use Rattle.std.specs.Prelude.{ℕ, suc, ◌*◌, ◌≤◌, max, List, [], ◌∷◌}
use Rattle.chord_tree.specs.Derivation.{Spelled}
use Rattle.chord_tree.specs.Node.{spell}
use Rattle.chord_tree.specs.ClassNodes.{node_program}
use Rattle.chord_tree.specs.Program.{IsProgram}
use Rattle.chord_tree.specs.Tree.{ExprTree, LinkTrees, LinkTree, StartTree, ActualsTree, ExprTrees, DotTrees, DotTree, ChainExpr, MinusExpr, NotExpr, PrimaryExpr, NoLinks, MoreLinks, MakeLink, VariableStart, CallStart, ThisStart, NewStart, NumberStart, LiteralStart, TrueStart, FalseStart, GroupStart, MakeActuals, NoExprs, MoreExprs, NoDots, MoreDots, MakeDot, StmtTree, BlockTree, ItemTrees, ItemTree, AssignStmt, CallStmt, MethodCallStmt, ThisCallStmt, NewStmt, BlockStmt, EmptyStmt, IfStmt, IfElseStmt, WhileStmt, ReturnStmt, ReturnValueStmt, MakeBlock, NoItems, MoreItems, LocalItem, StmtItem, MemberTree, ConstructorMember, ChordMember, ClassTree, ProgramTree}

abbrev mutual
  -- how many expressions stand within one another in an expression, itself with them
  pub expr_depth : ExprTree → ℕ
  expr_depth (ChainExpr first link more) = suc (max (expr_depth first) (max (link_depth link) (links_depth more)))
  expr_depth (MinusExpr at operand) = suc (expr_depth operand)
  expr_depth (NotExpr at operand) = suc (expr_depth operand)
  expr_depth (PrimaryExpr start calls) = suc (max (start_depth start) (dots_depth calls))

  -- the same of the operands of links
  pub links_depth : LinkTrees → ℕ
  links_depth NoLinks = 0
  links_depth (MoreLinks link more) = max (link_depth link) (links_depth more)

  -- the same of the operand of a link
  pub link_depth : LinkTree → ℕ
  link_depth (MakeLink operator at operand) = expr_depth operand

  -- the same of what stands in brackets in a start
  pub start_depth : StartTree → ℕ
  start_depth (VariableStart name) = 0
  start_depth (CallStart name actuals) = actuals_depth actuals
  start_depth (ThisStart at) = 0
  start_depth (NewStart at name actuals) = actuals_depth actuals
  start_depth (NumberStart value at) = 0
  start_depth (LiteralStart bytes at) = 0
  start_depth (TrueStart at) = 0
  start_depth (FalseStart at) = 0
  start_depth (GroupStart at inner) = expr_depth inner

  -- the same of arguments in brackets
  pub actuals_depth : ActualsTree → ℕ
  actuals_depth (MakeActuals at arguments) = exprs_depth arguments

  -- the same of arguments
  pub exprs_depth : ExprTrees → ℕ
  exprs_depth NoExprs = 0
  exprs_depth (MoreExprs expr more) = max (expr_depth expr) (exprs_depth more)

  -- the same of the arguments of calls
  pub dots_depth : DotTrees → ℕ
  dots_depth NoDots = 0
  dots_depth (MoreDots dot more) = max (dot_depth dot) (dots_depth more)

  -- the same of the arguments of a call
  pub dot_depth : DotTree → ℕ
  dot_depth (MakeDot at name actuals) = actuals_depth actuals

abbrev mutual
  -- how many statements and expressions stand within one another in a statement, itself with them
  pub stmt_depth : StmtTree → ℕ
  stmt_depth (AssignStmt name assign value) = suc (expr_depth value)
  stmt_depth (CallStmt name actuals calls) = suc (max (actuals_depth actuals) (dots_depth calls))
  stmt_depth (MethodCallStmt name first calls) = suc (max (dot_depth first) (dots_depth calls))
  stmt_depth (ThisCallStmt at first calls) = suc (max (dot_depth first) (dots_depth calls))
  stmt_depth (NewStmt at name actuals calls) = suc (max (actuals_depth actuals) (dots_depth calls))
  stmt_depth (BlockStmt block) = suc (block_depth block)
  stmt_depth EmptyStmt = 1
  stmt_depth (IfStmt at bracket test first) = suc (max (expr_depth test) (stmt_depth first))
  stmt_depth (IfElseStmt at bracket test first second) = suc (max (expr_depth test) (max (stmt_depth first) (stmt_depth second)))
  stmt_depth (WhileStmt at bracket test body) = suc (max (expr_depth test) (stmt_depth body))
  stmt_depth (ReturnStmt at) = 1
  stmt_depth (ReturnValueStmt at value) = suc (expr_depth value)

  -- the same of the items of a block
  pub block_depth : BlockTree → ℕ
  block_depth (MakeBlock items end) = items_depth items

  -- the same of items
  pub items_depth : ItemTrees → ℕ
  items_depth NoItems = 0
  items_depth (MoreItems item more) = max (item_depth item) (items_depth more)

  -- the same of an item
  pub item_depth : ItemTree → ℕ
  item_depth (LocalItem value_type name assign value) = suc (expr_depth value)
  item_depth (StmtItem stmt) = stmt_depth stmt

-- how deep the body of a member is nested
abbrev pub member_depth : MemberTree → ℕ
member_depth (ConstructorMember modifiers name formals body) = block_depth body
member_depth (ChordMember headers body) = block_depth body

-- how deep members are nested
abbrev pub members_depth : List MemberTree → ℕ
members_depth [] = 0
members_depth (member ∷ more) = max (member_depth member) (members_depth more)

-- how deep classes are nested
abbrev pub classes_depth : List ClassTree → ℕ
classes_depth [] = 0
classes_depth (class ∷ more) = max (members_depth class.members) (classes_depth more)

-- how many statements and expressions stand within one another in a program
abbrev pub program_depth : ProgramTree → ℕ
program_depth program = classes_depth program.classes

-- no token is deeper than a bound
abbrev pub NoneDeeper : ℕ → List Spelled → Type 0
NoneDeeper bound [] = Unit {0}
NoneDeeper bound ((kind, depth) ∷ more) = (depth ≤ bound) × NoneDeeper bound more

-- A program is nested no deeper than eight times its deepest token.
abbrev pub NestingIsTied : Type 0
NestingIsTied = (program : ProgramTree) (bound : ℕ) → IsProgram program → NoneDeeper bound (spell (node_program program) 0 []) → program_depth program ≤ 8 * bound
