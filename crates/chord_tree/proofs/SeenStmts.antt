-- The trees of what lies in memory, node by node: statements.
use Rattle.std.proofs.Common.{◌≡◌, ℕ, map, sym, ap, ◌∙◌}
use Rattle.std.specs.Prelude.{Vec, Box}
use Rattle.std.specs.Global.{Global}
use Rattle.chord_tree.specs.declared.names.Name.{Name}
use Rattle.chord_tree.specs.declared.names.ValueType.{ValueType}
use Rattle.chord_tree.specs.declared.exprs.Expr.{Expr}
use Rattle.chord_tree.specs.declared.exprs.Actuals.{Actuals}
use Rattle.chord_tree.specs.declared.exprs.Dot.{Dot}
use Rattle.chord_tree.specs.declared.stmts.Stmt.{Stmt}
use Rattle.chord_tree.specs.declared.stmts.Block.{Block, out-Block}
use Rattle.chord_tree.specs.declared.stmts.Stmt.TheVariants as stmt
use Rattle.chord_tree.specs.declared.stmts.Item.TheVariants as item
use Rattle.chord_tree.specs.declared.stmts.Item.TheOpen as open_nodes
use Rattle.chord_tree.specs.declared.stmts.Item.TheFolds.{fold-roll-Item, fold-roll-Stmt, fold_out-Block}
use Rattle.chord_tree.specs.Tree.{StmtTree, BlockTree, ItemTree, dots, items, AssignStmt, CallStmt, MethodCallStmt, ThisCallStmt, NewStmt, BlockStmt, EmptyStmt, IfStmt, IfElseStmt, WhileStmt, ReturnStmt, ReturnValueStmt, MakeBlock, LocalItem, StmtItem}
use Rattle.chord_tree.specs.ViewExprs.{see_expr, see_actuals, see_dot}
use Rattle.chord_tree.specs.ViewStmts.{see_item, see_stmt, see_block, item_step, stmt_step, block_step}

-- the tree of a stmt assign in memory, by its parts
pub seen_stmt_assign : (name : Name) (assign : ℕ) (value : Expr) → see_stmt (stmt.Assign name assign value) ≡ AssignStmt name assign (see_expr value)
seen_stmt_assign name assign value = ap see_stmt (sym (stmt.rolls-Assign name assign value)) ∙ fold-roll-Stmt ItemTree StmtTree BlockTree item_step stmt_step block_step (open_nodes.Assign name assign value)

-- the tree of a stmt call in memory, by its parts
pub seen_stmt_call : (name : Name) (actuals : Actuals) (calls : Vec Dot Global) → see_stmt (stmt.Call name actuals calls) ≡ CallStmt name (see_actuals actuals) (dots (map see_dot calls.items))
seen_stmt_call name actuals calls = ap see_stmt (sym (stmt.rolls-Call name actuals calls)) ∙ fold-roll-Stmt ItemTree StmtTree BlockTree item_step stmt_step block_step (open_nodes.Call name actuals calls)

-- the tree of a stmt through in memory, by its parts
pub seen_stmt_through : (name : Name) (first : Dot) (calls : Vec Dot Global) → see_stmt (stmt.MethodCall name first calls) ≡ MethodCallStmt name (see_dot first) (dots (map see_dot calls.items))
seen_stmt_through name first calls = ap see_stmt (sym (stmt.rolls-MethodCall name first calls)) ∙ fold-roll-Stmt ItemTree StmtTree BlockTree item_step stmt_step block_step (open_nodes.MethodCall name first calls)

-- the tree of a stmt this in memory, by its parts
pub seen_stmt_this : (at : ℕ) (first : Dot) (calls : Vec Dot Global) → see_stmt (stmt.ThisCall at first calls) ≡ ThisCallStmt at (see_dot first) (dots (map see_dot calls.items))
seen_stmt_this at first calls = ap see_stmt (sym (stmt.rolls-ThisCall at first calls)) ∙ fold-roll-Stmt ItemTree StmtTree BlockTree item_step stmt_step block_step (open_nodes.ThisCall at first calls)

-- the tree of a stmt new in memory, by its parts
pub seen_stmt_new : (at : ℕ) (name : Name) (actuals : Actuals) (calls : Vec Dot Global) → see_stmt (stmt.New at name actuals calls) ≡ NewStmt at name (see_actuals actuals) (dots (map see_dot calls.items))
seen_stmt_new at name actuals calls = ap see_stmt (sym (stmt.rolls-New at name actuals calls)) ∙ fold-roll-Stmt ItemTree StmtTree BlockTree item_step stmt_step block_step (open_nodes.New at name actuals calls)

-- the tree of a stmt block in memory, by its parts
pub seen_stmt_block : (block : Block) → see_stmt (stmt.Block block) ≡ BlockStmt (see_block block)
seen_stmt_block block = ap see_stmt (sym (stmt.rolls-Block block)) ∙ fold-roll-Stmt ItemTree StmtTree BlockTree item_step stmt_step block_step (open_nodes.Block block)

-- the tree of a stmt empty in memory, by its parts
pub seen_stmt_empty : see_stmt stmt.Empty ≡ EmptyStmt
seen_stmt_empty = ap see_stmt (sym (stmt.rolls-Empty)) ∙ fold-roll-Stmt ItemTree StmtTree BlockTree item_step stmt_step block_step open_nodes.Empty

-- the tree of a stmt if in memory, by its parts
pub seen_stmt_if : (at bracket : ℕ) (test : Expr) (first : Box Stmt Global) → see_stmt (stmt.If at bracket test first) ≡ IfStmt at bracket (see_expr test) (see_stmt first.value)
seen_stmt_if at bracket test first = ap see_stmt (sym (stmt.rolls-If at bracket test first)) ∙ fold-roll-Stmt ItemTree StmtTree BlockTree item_step stmt_step block_step (open_nodes.If at bracket test first)

-- the tree of a stmt if else in memory, by its parts
pub seen_stmt_if_else : (at bracket : ℕ) (test : Expr) (first second : Box Stmt Global) → see_stmt (stmt.IfElse at bracket test first second) ≡ IfElseStmt at bracket (see_expr test) (see_stmt first.value) (see_stmt second.value)
seen_stmt_if_else at bracket test first second = ap see_stmt (sym (stmt.rolls-IfElse at bracket test first second)) ∙ fold-roll-Stmt ItemTree StmtTree BlockTree item_step stmt_step block_step (open_nodes.IfElse at bracket test first second)

-- the tree of a stmt while in memory, by its parts
pub seen_stmt_while : (at bracket : ℕ) (test : Expr) (body : Box Stmt Global) → see_stmt (stmt.While at bracket test body) ≡ WhileStmt at bracket (see_expr test) (see_stmt body.value)
seen_stmt_while at bracket test body = ap see_stmt (sym (stmt.rolls-While at bracket test body)) ∙ fold-roll-Stmt ItemTree StmtTree BlockTree item_step stmt_step block_step (open_nodes.While at bracket test body)

-- the tree of a stmt return in memory, by its parts
pub seen_stmt_return : (at : ℕ) → see_stmt (stmt.Return at) ≡ ReturnStmt at
seen_stmt_return at = ap see_stmt (sym (stmt.rolls-Return at)) ∙ fold-roll-Stmt ItemTree StmtTree BlockTree item_step stmt_step block_step (open_nodes.Return at)

-- the tree of a stmt return value in memory, by its parts
pub seen_stmt_return_value : (at : ℕ) (value : Expr) → see_stmt (stmt.ReturnValue at value) ≡ ReturnValueStmt at (see_expr value)
seen_stmt_return_value at value = ap see_stmt (sym (stmt.rolls-ReturnValue at value)) ∙ fold-roll-Stmt ItemTree StmtTree BlockTree item_step stmt_step block_step (open_nodes.ReturnValue at value)

-- the tree of a item local in memory, by its parts
pub seen_item_local : (value_type : ValueType) (name : Name) (assign : ℕ) (value : Expr) → see_item (item.Local value_type name assign value) ≡ LocalItem value_type name assign (see_expr value)
seen_item_local value_type name assign value = ap see_item (sym (item.rolls-Local value_type name assign value)) ∙ fold-roll-Item ItemTree StmtTree BlockTree item_step stmt_step block_step (open_nodes.Local value_type name assign value)

-- the tree of a item plain in memory, by its parts
pub seen_item_plain : (stmt : Stmt) → see_item (item.Stmt stmt) ≡ StmtItem (see_stmt stmt)
seen_item_plain stmt = ap see_item (sym (item.rolls-Stmt stmt)) ∙ fold-roll-Item ItemTree StmtTree BlockTree item_step stmt_step block_step (open_nodes.Stmt stmt)

-- the tree of a block in memory, by its parts
pub seen_block : (block : Block) → see_block block ≡ MakeBlock (items (map see_item (out-Block block).items.items)) (out-Block block).end
seen_block block = fold_out-Block ItemTree StmtTree BlockTree item_step stmt_step block_step block
