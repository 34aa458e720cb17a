-- Measures by which the walks over statements end.
use Rattle.std.proofs.Common.{◌≡◌, ℕ, ◌+◌, map, sym, ap, ◌∙◌}
use Rattle.std.specs.Prelude.{Box}
use Rattle.std.specs.Global.{Global}
use Rattle.chord_tree.specs.declared.exprs.Expr.{Expr}
use Rattle.chord_tree.specs.declared.stmts.Item.{Item}
use Rattle.chord_tree.specs.declared.stmts.Stmt.{Stmt}
use Rattle.chord_tree.specs.declared.stmts.Block.{Block, out-Block}
use Rattle.chord_tree.specs.declared.stmts.Stmt.TheVariants as stmt
use Rattle.chord_tree.specs.declared.stmts.Item.TheVariants as item
use Rattle.chord_tree.specs.declared.stmts.Item.TheOpen.{Item-F, Stmt-F, Block-F}
use Rattle.chord_tree.specs.declared.stmts.Item.TheOpen as open_nodes
use Rattle.chord_tree.specs.declared.stmts.Item.TheFolds.{fold-Item, fold-Stmt, fold-Block, fold-roll-Item, fold-roll-Stmt, fold_out-Block}
use Rattle.chord_tree.proofs.Weights.{total}

-- the weight of a item, where its parts are weighed
abbrev pub item_weight : Item-F ℕ ℕ ℕ → ℕ
item_weight (open_nodes.Stmt stmt) = stmt + 1
item_weight _ = 1

-- the weight of a stmt, where its parts are weighed
abbrev pub stmt_weight : Stmt-F ℕ ℕ ℕ → ℕ
stmt_weight (open_nodes.Block block) = block + 1
stmt_weight (open_nodes.If at bracket test first) = first.value + 2
stmt_weight (open_nodes.IfElse at bracket test first second) = first.value + second.value + 2
stmt_weight (open_nodes.While at bracket test body) = body.value + 2
stmt_weight _ = 1

-- the weight of a block, where its parts are weighed
abbrev pub block_weight : Block-F ℕ ℕ ℕ → ℕ
block_weight block = total block.items.items + 2

-- the weight of a item
abbrev pub weigh_item : Item → ℕ
weigh_item = fold-Item ℕ ℕ ℕ item_weight stmt_weight block_weight

-- the weight of a stmt
abbrev pub weigh_stmt : Stmt → ℕ
weigh_stmt = fold-Stmt ℕ ℕ ℕ item_weight stmt_weight block_weight

-- the weight of a block
abbrev pub weigh_block : Block → ℕ
weigh_block = fold-Block ℕ ℕ ℕ item_weight stmt_weight block_weight

-- the weight of a block as a statement
pub of_block : (block : Block) → weigh_stmt (stmt.Block block) ≡ weigh_block block + 1
of_block block = ap weigh_stmt (sym (stmt.rolls-Block block)) ∙ fold-roll-Stmt ℕ ℕ ℕ item_weight stmt_weight block_weight (open_nodes.Block block)

-- the weight of an `if` by its branch
pub of_if : (at bracket : ℕ) (test : Expr) (first : Box Stmt Global) → weigh_stmt (stmt.If at bracket test first) ≡ weigh_stmt first.value + 2
of_if at bracket test first = ap weigh_stmt (sym (stmt.rolls-If at bracket test first)) ∙ fold-roll-Stmt ℕ ℕ ℕ item_weight stmt_weight block_weight (open_nodes.If at bracket test first)

-- and by both
pub of_if_else : (at bracket : ℕ) (test : Expr) (first second : Box Stmt Global) → weigh_stmt (stmt.IfElse at bracket test first second) ≡ weigh_stmt first.value + weigh_stmt second.value + 2
of_if_else at bracket test first second = ap weigh_stmt (sym (stmt.rolls-IfElse at bracket test first second)) ∙ fold-roll-Stmt ℕ ℕ ℕ item_weight stmt_weight block_weight (open_nodes.IfElse at bracket test first second)

-- the weight of a loop by its body
pub of_while : (at bracket : ℕ) (test : Expr) (body : Box Stmt Global) → weigh_stmt (stmt.While at bracket test body) ≡ weigh_stmt body.value + 2
of_while at bracket test body = ap weigh_stmt (sym (stmt.rolls-While at bracket test body)) ∙ fold-roll-Stmt ℕ ℕ ℕ item_weight stmt_weight block_weight (open_nodes.While at bracket test body)

-- the weight of a statement as an item
pub of_plain : (s : Stmt) → weigh_item (item.Stmt s) ≡ weigh_stmt s + 1
of_plain s = ap weigh_item (sym (item.rolls-Stmt s)) ∙ fold-roll-Item ℕ ℕ ℕ item_weight stmt_weight block_weight (open_nodes.Stmt s)

-- the weight of a block by its items
pub of_braces : (block : Block) → weigh_block block ≡ total (map weigh_item (out-Block block).items.items) + 2
of_braces block = fold_out-Block ℕ ℕ ℕ item_weight stmt_weight block_weight block
