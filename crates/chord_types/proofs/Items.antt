-- What is said of statements, items and blocks, from what is said of their parts.
use Rattle.std.proofs.Common.{◌≡◌, ℕ, ◌+◌, ◌≤◌, ◌++◌, List, [], ◌∷◌, refl, sym, ap, subst, ◌∙◌, Option, None, length, map, take, arith}
use Rattle.std.specs.Prelude.{sum_by}
use Rattle.chord_tree.specs.declared.names.ValueType.{ValueType}
use Rattle.chord_tree.specs.Tree.{ExprTree, StmtTree, BlockTree, ItemTree, LocalItem, StmtItem, BlockStmt, IfStmt, IfElseStmt, WhileStmt, MakeBlock, items}
use Rattle.chord_tree.specs.Terms.{term}
use Rattle.chord_tree.specs.Walk.{over_value}
use Rattle.chord_bodies.specs.declared.expr.Expr.{Expr}
use Rattle.chord_bodies.specs.declared.stmt.Stmt.{Stmt}
use Rattle.chord_bodies.specs.Resolved.{StmtOf}
use Rattle.chord_bodies.specs.Resolved as to
use Rattle.chord_bodies.specs.View.{view_expr, view_stmt, stmt_list}
use Rattle.chord_classes.specs.Types.{type_known}
use Rattle.chord_classes.specs.Site as sites
use Rattle.chord_classes.specs.Site.{after, stmt_locals, items_locals}
use Rattle.chord_classes.specs.TypeRules.{is_bool, when_typed}
use Rattle.chord_classes.specs.ItemRules.{value_of}
use Rattle.chord_classes.specs.Resolve.{resolved, resolved_stmt, resolved_items}
use Rattle.chord_classes.specs.Least.{keys, least}
use Rattle.chord_classes.specs.AllNotes.{term_keys, item_keys}
use Rattle.chord_types.specs.declared.site.Site.{Site}
use Rattle.chord_types.specs.Sites.{see_site}
use Rattle.chord_types.specs.Flat.{doubled, doubled_stmt}
use Rattle.chord_types.specs.StmtChecked.{IsPlainStmt, IsCondition, IsItemChecked, AreItemsChecked, IsBlockChecked, stmt_breaks, block_breaks, items_breaks, item_breaks, resolved_item, item_locals, behind, after_items}
use Rattle.chord_classes.proofs.Leasts.{noted_two, least_append}
use Rattle.chord_types.proofs.Notes.{and_nothing, nothing_before, nothing_after, append_more}

-- what a function makes of two joined lists
pub map_append : {A B : Type 0} (f : A → B) (xs ys : List A) → map f (xs ++ ys) ≡ map f xs ++ map f ys
map_append f [] ys = refl
map_append f (x ∷ xs) ys = ap (λ z. f x ∷ z) (map_append f xs ys)

-- the length of two joined lists
pub length_append : {A : Type 0} (xs ys : List A) → length (xs ++ ys) ≡ length xs + length ys
length_append [] ys = omega arith
length_append (x ∷ xs) ys = let h = length_append xs ys in omega arith

-- the place with another next slot
abbrev with_next : sites.Site → ℕ → sites.Site
with_next site next = record { table = site.table; own = site.own; in_main = site.in_main; due = site.due; scope = site.scope; next = next }

-- a place whose next slot is moved on by no locals is the same place
nothing_added : (site : sites.Site) (locals : List ValueType) → locals ≡ [] → site ≡ with_next site (site.next + length locals)
nothing_added site locals e = let l = ap length e in ap (with_next site) (omega arith)

-- a statement without locals leaves its place
pub plain_item : (old : Site) (stmt : StmtTree) (found more : Option ℕ) (made : Stmt) → stmt_locals stmt ≡ [] → IsPlainStmt (see_site old) stmt found more made → IsItemChecked old old (StmtItem stmt) found more made
plain_item old stmt found more made e h = record {
  built = h.built;
  noted = h.noted;
  flat = h.flat;
  types = sym (ap (λ z. old.types.items ++ map (type_known old.table.now) z) e ∙ nothing_after old.types.items);
  site = nothing_added (see_site old) (stmt_locals stmt) e;
}

-- a block is a statement
pub block_item : (old new : Site) (block : BlockTree) (found more : Option ℕ) (inner : List Stmt) (made : Stmt) → IsBlockChecked old new block found more inner → view_stmt made ≡ to.Block (stmt_list (map view_stmt inner)) → doubled_stmt made ≡ sum_by doubled_stmt inner → IsItemChecked old new (StmtItem (BlockStmt block)) found more made
block_item old new block found more inner made h hv hf = record {
  built = λ e. hv ∙ ap to.Block (h.built e);
  noted = and_nothing found more (block_breaks (see_site old) block) h.noted;
  flat = hf ∙ h.flat;
  types = h.types;
  site = h.site;
}

-- the least after two lists and then after a third is the least after all three
tested : (old mid late : Option ℕ) (a x b : List ℕ) → mid ≡ least old (a ++ x) → late ≡ least mid b → late ≡ least old (a ++ ((x ++ []) ++ b))
tested old mid late a x b hm hl = noted_two old mid late (a ++ x) b hm hl ∙ ap (least old) (sym (append_more a x b) ∙ ap (λ z. a ++ (z ++ b)) (sym (nothing_after x)))

module _ (old : Site) (at bracket : ℕ) (test : ExprTree) (found mid : Option ℕ) (condition : Expr) where
  -- the key of the condition, where its type is there and is not `bool`
  abbrev x : List ℕ
  x = keys 15 (when_typed is_bool (value_of (see_site old) test) at)

  -- what the expression of the condition breaks
  abbrev a : List ℕ
  a = over_value after term_keys item_keys (see_site old) test

  -- `if` without `else`
  pub if_item : (new : Site) (first : StmtTree) (more : Option ℕ) (inner made : Stmt) → IsCondition (see_site old) at test found mid condition → IsItemChecked old new (StmtItem first) mid more inner
      → view_stmt made ≡ to.IfThen (view_expr condition) (view_stmt inner) → doubled_stmt made ≡ doubled condition + doubled_stmt inner → IsItemChecked old new (StmtItem (IfStmt at bracket test first)) found more made
  if_item new first more inner made h k hv hf = record {
    built = λ e. hv ∙ ap (λ z. to.IfThen z (view_stmt inner)) (h.built (nothing_before mid more (stmt_breaks (see_site old) first) k.noted e)) ∙ ap (to.IfThen (resolved (see_site old) (term test))) (k.built e);
    noted = tested found mid more a x (stmt_breaks (see_site old) first) h.noted k.noted;
    flat = let b = h.flat in let d = k.flat in omega arith;
    types = k.types;
    site = k.site;
  }

  -- `while`
  pub while_item : (new : Site) (first : StmtTree) (more : Option ℕ) (inner made : Stmt) → IsCondition (see_site old) at test found mid condition → IsItemChecked old new (StmtItem first) mid more inner
      → view_stmt made ≡ to.While (view_expr condition) (view_stmt inner) → doubled_stmt made ≡ doubled condition + doubled_stmt inner → IsItemChecked old new (StmtItem (WhileStmt at bracket test first)) found more made
  while_item new first more inner made h k hv hf = record {
    built = λ e. hv ∙ ap (λ z. to.While z (view_stmt inner)) (h.built (nothing_before mid more (stmt_breaks (see_site old) first) k.noted e)) ∙ ap (to.While (resolved (see_site old) (term test))) (k.built e);
    noted = tested found mid more a x (stmt_breaks (see_site old) first) h.noted k.noted;
    flat = let b = h.flat in let d = k.flat in omega arith;
    types = k.types;
    site = k.site;
  }

  -- `if` with `else`
  pub if_else_item : (between new : Site) (first second : StmtTree) (late more : Option ℕ) (one other made : Stmt) → IsCondition (see_site old) at test found mid condition
      → IsItemChecked old between (StmtItem first) mid late one → IsItemChecked between new (StmtItem second) late more other
      → view_stmt made ≡ to.IfElse (view_expr condition) (view_stmt one) (view_stmt other) → doubled_stmt made ≡ doubled condition + doubled_stmt one + doubled_stmt other
      → IsItemChecked old new (StmtItem (IfElseStmt at bracket test first second)) found more made
  if_else_item between new first second late more one other made h k l hv hf = record {
    built = λ e.
        let later = nothing_before late more (stmt_breaks (see_site between) second) l.noted e in
        let earlier = nothing_before mid late (stmt_breaks (see_site old) first) k.noted later in
        hv ∙ ap (λ z. to.IfElse z (view_stmt one) (view_stmt other)) (h.built earlier) ∙ ap (λ z. to.IfElse (resolved (see_site old) (term test)) z (view_stmt other)) (k.built later)
        ∙ ap (to.IfElse (resolved (see_site old) (term test)) (resolved_stmt (see_site old) first)) (l.built e ∙ ap (λ z. resolved_stmt z second) k.site);
    noted = tested found mid more a x (stmt_breaks (see_site old) first ++ stmt_breaks (after (see_site old) (StmtItem first)) second) h.noted
        (noted_two mid late more (stmt_breaks (see_site old) first) (stmt_breaks (after (see_site old) (StmtItem first)) second) k.noted (l.noted ∙ ap (λ z. least late (stmt_breaks z second)) k.site));
    flat = let b = h.flat in let d = k.flat in let e = l.flat in omega arith;
    types = l.types ∙ ap (λ z. z ++ map (type_known between.table.now) (stmt_locals second)) k.types ∙ ap (λ z. (old.types.items ++ map (type_known old.table.now) (stmt_locals first)) ++ map (type_known z) (stmt_locals second)) (ap (λ (s : sites.Site). s.table) k.site)
        ∙ sym (append_more old.types.items (map (type_known old.table.now) (stmt_locals first)) (map (type_known old.table.now) (stmt_locals second)))
        ∙ ap (λ z. old.types.items ++ z) (sym (map_append (type_known old.table.now) (stmt_locals first) (stmt_locals second)));
    site = l.site ∙ ap (λ z. after z (StmtItem second)) k.site ∙ ap (with_next (see_site old)) (let e = length_append (stmt_locals first) (stmt_locals second) in omega arith);
  }

-- what items are resolved to, as a list
abbrev pub each_resolved : sites.Site → List ItemTree → List StmtOf
each_resolved site [] = []
each_resolved site (item ∷ more) = resolved_item site item ∷ each_resolved (after site item) more

-- what items are resolved to one by one is, as a list, what they are resolved to together
all_resolved_items : (site : sites.Site) (xs : List ItemTree) → stmt_list (each_resolved site xs) ≡ resolved_items site (items xs)
all_resolved_items site [] = refl
all_resolved_items site (LocalItem written name assign value ∷ xs) = ap (to.MoreStmts (resolved_item site (LocalItem written name assign value))) (all_resolved_items (after site (LocalItem written name assign value)) xs)
all_resolved_items site (StmtItem stmt ∷ xs) = ap (to.MoreStmts (resolved_stmt site stmt)) (all_resolved_items (after site (StmtItem stmt)) xs)

-- what an item and those after it break
breaks_split : (site : sites.Site) (item : ItemTree) (more : List ItemTree) → items_breaks site (items (item ∷ more)) ≡ item_breaks site item ++ items_breaks (after site item) (items more)
breaks_split site (LocalItem written name assign value) more = append_more (over_value after term_keys item_keys site value) (item_keys site (LocalItem written name assign value)) (items_breaks (after site (LocalItem written name assign value)) (items more))
breaks_split site (StmtItem stmt) more = refl

-- the locals of items are those of the first and then those of the others
locals_split : (item : ItemTree) (more : List ItemTree) → items_locals (items (item ∷ more)) ≡ item_locals item ++ items_locals (items more)
locals_split (LocalItem written name assign value) more = refl
locals_split (StmtItem stmt) more = refl

-- Of items the first were looked at, and what is left gives the whole.
pub record AreLeft (old now : Site) (all rest : List ItemTree) (found0 found : Option ℕ) (made : List StmtOf) : Type 0 where
  pub built : found ≡ None → stmt_list (made ++ each_resolved (see_site now) rest) ≡ resolved_items (see_site old) (items all)
  pub noted : least found (items_breaks (see_site now) (items rest)) ≡ least found0 (items_breaks (see_site old) (items all))
  pub types : now.types.items ++ map (type_known now.table.now) (items_locals (items rest)) ≡ old.types.items ++ map (type_known old.table.now) (items_locals (items all))
  pub site : after_items (see_site now) rest ≡ after_items (see_site old) all

-- no item was looked at
pub all_left : (old : Site) (all : List ItemTree) (found : Option ℕ) → AreLeft old old all all found found []
all_left old all found = record { built = λ e. all_resolved_items (see_site old) all; noted = refl; types = refl; site = refl }

-- one more item was looked at
pub one_less : (old now next : Site) (all rest : List ItemTree) (item : ItemTree) (found0 found more : Option ℕ) (made : List StmtOf) (one : Stmt)
    → AreLeft old now all (item ∷ rest) found0 found made → IsItemChecked now next item found more one → AreLeft old next all rest found0 more (made ++ (view_stmt one ∷ []))
one_less old now next all rest item found0 found more made one h k = record {
  built = λ e.
      ap stmt_list (sym (append_more made (view_stmt one ∷ []) (each_resolved (see_site next) rest)) ∙ ap (λ z. made ++ (z ∷ each_resolved (see_site next) rest)) (k.built e) ∙ ap (λ z. made ++ (resolved_item (see_site now) item ∷ each_resolved z rest)) k.site)
      ∙ h.built (nothing_before found more (item_breaks (see_site now) item) k.noted e);
  noted = ap (λ z. least z (items_breaks (see_site next) (items rest))) k.noted ∙ ap (λ z. least (least found (item_breaks (see_site now) item)) (items_breaks z (items rest))) k.site
      ∙ sym (least_append found (item_breaks (see_site now) item) (items_breaks (after (see_site now) item) (items rest))) ∙ ap (least found) (sym (breaks_split (see_site now) item rest)) ∙ h.noted;
  types = ap (λ z. z ++ map (type_known next.table.now) (items_locals (items rest))) k.types ∙ ap (λ z. (now.types.items ++ map (type_known now.table.now) (item_locals item)) ++ map (type_known z) (items_locals (items rest))) (same_table item k.site)
      ∙ sym (append_more now.types.items (map (type_known now.table.now) (item_locals item)) (map (type_known now.table.now) (items_locals (items rest))))
      ∙ ap (λ z. now.types.items ++ z) (sym (map_append (type_known now.table.now) (item_locals item) (items_locals (items rest))) ∙ ap (map (type_known now.table.now)) (sym (locals_split item rest)))
      ∙ h.types;
  site = ap (λ z. after_items z rest) k.site ∙ h.site;
}
  where
    same_table : (item : ItemTree) → see_site next ≡ after (see_site now) item → next.table.now ≡ now.table.now
    same_table (LocalItem written name assign value) e = ap (λ (s : sites.Site). s.table) e
    same_table (StmtItem stmt) e = ap (λ (s : sites.Site). s.table) e

-- all items were looked at
pub no_items_left : (old now : Site) (all rest : List ItemTree) (found0 found : Option ℕ) (made : List Stmt) → rest ≡ [] → AreLeft old now all rest found0 found (map view_stmt made) → sum_by doubled_stmt made ≡ 0 → AreItemsChecked old now all found0 found made
no_items_left old now all rest found0 found made e h hf = record {
  built = λ n. ap stmt_list (sym (nothing_after (map view_stmt made)) ∙ ap (λ z. map view_stmt made ++ each_resolved (see_site now) z) (sym e)) ∙ h.built n;
  noted = ap (λ z. least found (items_breaks (see_site now) (items z))) (sym e) ∙ h.noted;
  flat = hf;
  types = sym (nothing_after now.types.items) ∙ ap (λ z. now.types.items ++ map (type_known now.table.now) (items_locals (items z))) (sym e) ∙ h.types;
  site = ap (after_items (see_site now)) (sym e) ∙ h.site;
}

-- what items leave
record Leaves (site left : sites.Site) (count : ℕ) : Type 0 where
  table : left.table ≡ site.table
  own : left.own ≡ site.own
  in_main : left.in_main ≡ site.in_main
  due : left.due ≡ site.due
  next : left.next ≡ site.next + count
  added : List sites.Local
  scope : left.scope ≡ site.scope ++ added

-- items change of a place only its scope, which they extend, and its next slot, by the number of their locals
leaves : (site : sites.Site) (xs : List ItemTree) → Leaves site (after_items site xs) (length (items_locals (items xs)))
leaves site [] = record { table = refl; own = refl; in_main = refl; due = refl; next = omega arith; added = []; scope = sym (nothing_after site.scope) }
leaves site (LocalItem written name assign value ∷ xs) =
    let h = leaves (after site (LocalItem written name assign value)) xs in
    let n = h.next in
    record { table = h.table; own = h.own; in_main = h.in_main; due = h.due; next = omega arith; added = _; scope = h.scope ∙ sym (append_more site.scope (_ ∷ []) h.added) }
leaves site (StmtItem stmt ∷ xs) =
    let h = leaves (after site (StmtItem stmt)) xs in
    let n = h.next in
    let l = length_append (stmt_locals stmt) (items_locals (items xs)) in
    record { table = h.table; own = h.own; in_main = h.in_main; due = h.due; next = omega arith; added = h.added; scope = h.scope }

-- of two joined lists, as many elements as the first has are the first
take_first : {A : Type 0} (xs ys : List A) → take (length xs) (xs ++ ys) ≡ xs
take_first [] ys = refl
take_first (x ∷ xs) ys = ap (λ z. x ∷ z) (take_first xs ys)

-- a block was looked at, whose locals are out of scope behind it
pub block_checked : (old mid new : Site) (all : List ItemTree) (end : ℕ) (found more : Option ℕ) (made : List Stmt) (count : ℕ) → AreItemsChecked old mid all found more made
    → count ≡ length old.scope → new.types ≡ mid.types → new.table ≡ mid.table → new.own ≡ mid.own → new.in_main ≡ mid.in_main → new.due ≡ mid.due → new.next ≡ mid.next → new.scope ≡ take count mid.scope
    → IsBlockChecked old new (MakeBlock (items all) end) found more made
block_checked old mid new all end found more made count h hcount htypes htable hown hmain hdue hnext hscope = record {
  built = h.built;
  noted = h.noted;
  flat = h.flat;
  types = ap (λ z. z.items) htypes ∙ h.types;
  site = rw (htable, hown, hmain, hdue, hnext, hscope, hcount) (by_parts (after_items (see_site old) all) (see_site mid) h.site (leaves (see_site old) all));
}
  where
    by_parts : (left now : sites.Site) → now ≡ left → Leaves (see_site old) left (length (items_locals (items all)))
        → record { table = now.table; own = now.own; in_main = now.in_main; due = now.due; scope = take (length old.scope) now.scope; next = now.next } ≡ behind (see_site old) (MakeBlock (items all) end)
    by_parts left now e l =
        ap cut e ∙ rw (l.table, l.own, l.in_main, l.due, l.next) (ap (λ z. record { table = old.table.now; own = old.own; in_main = old.in_main; due = (see_site old).due; scope = z; next = old.next + length (items_locals (items all)) }) (ap (take (length old.scope)) l.scope ∙ take_first old.scope l.added))
      where
        cut : sites.Site → sites.Site
        cut z = record { table = z.table; own = z.own; in_main = z.in_main; due = z.due; scope = take (length old.scope) z.scope; next = z.next }

-- items take nothing out of scope
pub scope_grows : (old mid : Site) (all : List ItemTree) (found more : Option ℕ) (made : List Stmt) → AreItemsChecked old mid all found more made → length old.scope ≤ length mid.scope
scope_grows old mid all found more made h =
    let l = leaves (see_site old) all in
    let e : length mid.scope ≡ length old.scope + length l.added = ap (λ (s : sites.Site). length s.scope) h.site ∙ ap length l.scope ∙ length_append old.scope l.added in
    omega arith

-- a statement without locals that memory stands for
pub seen_plain : (old : Site) (seen stmt : StmtTree) (found more : Option ℕ) (made : Stmt) → seen ≡ stmt → stmt_locals stmt ≡ [] → IsPlainStmt (see_site old) stmt found more made → IsItemChecked old old (StmtItem seen) found more made
seen_plain old seen stmt found more made e n h = subst (λ z. IsItemChecked old old (StmtItem z) found more made) (sym e) (plain_item old stmt found more made n h)
