-- The tree that a statement in memory stands for.
use Rattle.std.specs.Prelude.{map}
use Rattle.chord_tree.specs.declared.stmts.Item.{Item}
use Rattle.chord_tree.specs.declared.stmts.Stmt.{Stmt}
use Rattle.chord_tree.specs.declared.stmts.Block.{Block}
use Rattle.chord_tree.specs.declared.stmts.Item.TheOpen.{Item-F, Stmt-F, Block-F}
use Rattle.chord_tree.specs.declared.stmts.Item.TheOpen as parts
use Rattle.chord_tree.specs.declared.stmts.Item.TheFolds.{fold-Item, fold-Stmt, fold-Block}
use Rattle.chord_tree.specs.Tree.{StmtTree, BlockTree, ItemTree, AssignStmt, CallStmt, MethodCallStmt, ThisCallStmt, NewStmt, BlockStmt, EmptyStmt, IfStmt, IfElseStmt, WhileStmt, ReturnStmt, ReturnValueStmt, MakeBlock, LocalItem, StmtItem, dots, items}
use Rattle.chord_tree.specs.ViewExprs.{see_expr, see_actuals, see_dot}

-- an item, where its parts are seen
abbrev pub item_step : Item-F ItemTree StmtTree BlockTree → ItemTree
item_step (parts.Local value_type name assign value) = LocalItem value_type name assign (see_expr value)
item_step (parts.Stmt stmt) = StmtItem stmt

-- a statement
abbrev pub stmt_step : Stmt-F ItemTree StmtTree BlockTree → StmtTree
stmt_step (parts.Assign name assign value) = AssignStmt name assign (see_expr value)
stmt_step (parts.Call name actuals calls) = CallStmt name (see_actuals actuals) (dots (map see_dot calls.items))
stmt_step (parts.MethodCall name first calls) = MethodCallStmt name (see_dot first) (dots (map see_dot calls.items))
stmt_step (parts.ThisCall at first calls) = ThisCallStmt at (see_dot first) (dots (map see_dot calls.items))
stmt_step (parts.New at name actuals calls) = NewStmt at name (see_actuals actuals) (dots (map see_dot calls.items))
stmt_step (parts.Block block) = BlockStmt block
stmt_step parts.Empty = EmptyStmt
stmt_step (parts.If at bracket test first) = IfStmt at bracket (see_expr test) first.value
stmt_step (parts.IfElse at bracket test first second) = IfElseStmt at bracket (see_expr test) first.value second.value
stmt_step (parts.While at bracket test body) = WhileStmt at bracket (see_expr test) body.value
stmt_step (parts.Return at) = ReturnStmt at
stmt_step (parts.ReturnValue at value) = ReturnValueStmt at (see_expr value)

-- a block
abbrev pub block_step : Block-F ItemTree StmtTree BlockTree → BlockTree
block_step block = MakeBlock (items block.items.items) block.end

-- the tree of an item in memory
abbrev pub see_item : Item → ItemTree
see_item = fold-Item ItemTree StmtTree BlockTree item_step stmt_step block_step

-- the tree of a statement in memory
abbrev pub see_stmt : Stmt → StmtTree
see_stmt = fold-Stmt ItemTree StmtTree BlockTree item_step stmt_step block_step

-- the tree of a block in memory
abbrev pub see_block : Block → BlockTree
see_block = fold-Block ItemTree StmtTree BlockTree item_step stmt_step block_step
