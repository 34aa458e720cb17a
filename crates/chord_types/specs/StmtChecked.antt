-- What is said of a statement, an item or a block that was looked at.
use Rattle.std.specs.Prelude.{◌≡◌, ℕ, ◌+◌, List, [], ◌∷◌, ◌++◌, map, length, sum_by, Bool, true, false, Option, None}
use Rattle.chord_tree.specs.Tree.{ExprTree, StmtTree, BlockTree, ItemTree, ItemTrees, BlockStmt, IfStmt, IfElseStmt, WhileStmt, LocalItem, StmtItem, items}
use Rattle.chord_tree.specs.declared.names.ValueType.{ValueType}
use Rattle.chord_tree.specs.Walk.{over_value, over_stmt, over_block, over_items}
use Rattle.chord_tree.specs.Terms.{term}
use Rattle.chord_bodies.specs.declared.expr.Expr.{Expr}
use Rattle.chord_bodies.specs.declared.stmt.Stmt.{Stmt}
use Rattle.chord_bodies.specs.Resolved as to
use Rattle.chord_bodies.specs.Resolved.{StmtOf}
use Rattle.chord_bodies.specs.View.{view_expr, view_stmt, stmt_list}
use Rattle.chord_classes.specs.Types.{type_known}
use Rattle.chord_classes.specs.Site as sites
use Rattle.chord_classes.specs.Site.{after, stmt_locals, block_locals, items_locals}
use Rattle.chord_classes.specs.TypeRules.{is_bool, when_typed}
use Rattle.chord_classes.specs.ItemRules.{value_of}
use Rattle.chord_classes.specs.Resolve.{resolved, resolved_stmt, resolved_block, resolved_items}
use Rattle.chord_classes.specs.Least.{keys, least}
use Rattle.chord_classes.specs.AllNotes.{term_keys, item_keys}
use Rattle.chord_types.specs.declared.site.Site.{Site}
use Rattle.chord_types.specs.Sites.{see_site}
use Rattle.chord_types.specs.Flat.{doubled, doubled_stmt}

-- what a statement and its parts break
abbrev pub stmt_breaks : sites.Site → StmtTree → List ℕ
stmt_breaks site stmt = over_stmt after term_keys item_keys site stmt

-- what the items of a block break
abbrev pub block_breaks : sites.Site → BlockTree → List ℕ
block_breaks site block = over_block after term_keys item_keys site block

-- what items break
abbrev pub items_breaks : sites.Site → ItemTrees → List ℕ
items_breaks site items = over_items after term_keys item_keys site items

-- what one item breaks
abbrev pub item_breaks : sites.Site → ItemTree → List ℕ
item_breaks site (LocalItem written name assign value) = over_value after term_keys item_keys site value ++ item_keys site (LocalItem written name assign value)
item_breaks site (StmtItem stmt) = stmt_breaks site stmt

-- the statement that an item is resolved to
abbrev pub resolved_item : sites.Site → ItemTree → StmtOf
resolved_item site (LocalItem written name assign value) = to.Store site.next (resolved site (term value))
resolved_item site (StmtItem stmt) = resolved_stmt site stmt

-- the written types of the locals of one item
abbrev pub item_locals : ItemTree → List ValueType
item_locals (LocalItem written name assign value) = written ∷ []
item_locals (StmtItem stmt) = stmt_locals stmt

-- a statement in which no statement stands
abbrev pub is_plain_stmt : StmtTree → Bool
is_plain_stmt (BlockStmt block) = false
is_plain_stmt (IfStmt at bracket test first) = false
is_plain_stmt (IfElseStmt at bracket test first second) = false
is_plain_stmt (WhileStmt at bracket test body) = false
is_plain_stmt _ = true

-- a statement that declares nothing was looked at
pub record IsPlainStmt (site : sites.Site) (stmt : StmtTree) (old new : Option ℕ) (made : Stmt) : Type 0 where
  pub built : new ≡ None → view_stmt made ≡ resolved_stmt site stmt
  pub noted : new ≡ least old (stmt_breaks site stmt)
  pub flat : doubled_stmt made ≡ 0

-- the condition of `if` or `while`, whose word is this token, was looked at
pub record IsCondition (site : sites.Site) (at : ℕ) (test : ExprTree) (old new : Option ℕ) (made : Expr) : Type 0 where
  pub built : new ≡ None → view_expr made ≡ resolved site (term test)
  pub noted : new ≡ least old (over_value after term_keys item_keys site test ++ keys 15 (when_typed is_bool (value_of site test) at))
  pub flat : doubled made ≡ 0

-- an item was looked at, and it was left behind
pub record IsItemChecked (old new : Site) (item : ItemTree) (found more : Option ℕ) (made : Stmt) : Type 0 where
  pub built : more ≡ None → view_stmt made ≡ resolved_item (see_site old) item
  pub noted : more ≡ least found (item_breaks (see_site old) item)
  pub flat : doubled_stmt made ≡ 0
  pub types : new.types.items ≡ old.types.items ++ map (type_known old.table.now) (item_locals item)
  pub site : see_site new ≡ after (see_site old) item

-- the place behind a block: its locals are out of scope, and keep their slots
abbrev pub behind : sites.Site → BlockTree → sites.Site
behind site block = record {
  table = site.table;
  own = site.own;
  in_main = site.in_main;
  due = site.due;
  scope = site.scope;
  next = site.next + length (block_locals block);
}

-- the place behind items
abbrev pub after_items : sites.Site → List ItemTree → sites.Site
after_items site [] = site
after_items site (item ∷ more) = after_items (after site item) more

-- items were looked at
pub record AreItemsChecked (old new : Site) (all : List ItemTree) (found more : Option ℕ) (made : List Stmt) : Type 0 where
  pub built : more ≡ None → stmt_list (map view_stmt made) ≡ resolved_items (see_site old) (items all)
  pub noted : more ≡ least found (items_breaks (see_site old) (items all))
  pub flat : sum_by doubled_stmt made ≡ 0
  pub types : new.types.items ≡ old.types.items ++ map (type_known old.table.now) (items_locals (items all))
  pub site : see_site new ≡ after_items (see_site old) all

-- a block was looked at, and it was left behind
pub record IsBlockChecked (old new : Site) (block : BlockTree) (found more : Option ℕ) (made : List Stmt) : Type 0 where
  pub built : more ≡ None → stmt_list (map view_stmt made) ≡ resolved_block (see_site old) block
  pub noted : more ≡ least found (block_breaks (see_site old) block)
  pub flat : sum_by doubled_stmt made ≡ 0
  pub types : new.types.items ≡ old.types.items ++ map (type_known old.table.now) (block_locals block)
  pub site : see_site new ≡ behind (see_site old) block
