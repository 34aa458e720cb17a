-- The locals that items declare, item by item.
use Rattle.std.proofs.Common.{◌≡◌, ◌++◌, refl, sym, ap}
use Rattle.std.proofs.lemmas.List.{append-nil}
use Rattle.chord_tree.specs.Tree.{ItemTree, ItemTrees, NoItems, MoreItems, LocalItem, StmtItem, StmtTree}
use Rattle.chord_classes.specs.ChordRules.{items_names, stmt_names}

-- the locals of an item, and then those of the items after it
pub item_and_more : (item : ItemTree) (more : ItemTrees) → items_names (MoreItems item more) ≡ items_names (MoreItems item NoItems) ++ items_names more
item_and_more (LocalItem written name assign value) more = refl
item_and_more (StmtItem stmt) more = ap (λ z. z ++ items_names more) (sym (append-nil (stmt_names stmt)))

-- the locals of a statement that is an item
pub stmt_item : (stmt : StmtTree) → items_names (MoreItems (StmtItem stmt) NoItems) ≡ stmt_names stmt
stmt_item stmt = append-nil (stmt_names stmt)
