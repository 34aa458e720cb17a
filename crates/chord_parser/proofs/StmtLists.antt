-- Lists of items, and the kinds of statements.
use Rattle.std.proofs.Common.{◌≡◌, ℕ, ◌+◌, ◌<◌, List, [], ◌∷◌, ◌++◌, length, map, refl, sym, ap, subst, ◌∙◌, arith}
use Rattle.std.proofs.lemmas.List.{map-append}
use Rattle.chord_lexer.specs.declared.token.Kind.{Kind}
use Rattle.chord_lexer.specs.declared.token.Kind.TheVariants as kinds
use Rattle.chord_lexer.specs.declared.token.Token.{Token}
use Rattle.chord_tree.specs.declared.names.Name.{Name}
use Rattle.chord_tree.specs.declared.names.BasicType.{BasicType}
use Rattle.chord_tree.specs.declared.names.BasicType.TheVariants as basics
use Rattle.chord_tree.specs.declared.names.ValueType.TheVariants as types
use Rattle.chord_tree.specs.declared.stmts.Item.{Item}
use Rattle.chord_tree.specs.Symbol.{Symbol, Terminal, number_of}
use Rattle.chord_tree.specs.Symbols as grammar
use Rattle.chord_tree.specs.Terminals.{keyword_symbol}
use Rattle.chord_tree.specs.Derivation.{next}
use Rattle.chord_tree.specs.Node.{Node, End, ◌▸◌, Leaf, Made, size}
use Rattle.chord_tree.specs.Program.{token_kinds}
use Rattle.chord_tree.specs.ExprNodes.{name}
use Rattle.chord_tree.specs.Tree.{StmtTree, ItemTree, ItemTrees, BlockStmt, MakeBlock, EmptyStmt, IfStmt, IfElseStmt, WhileStmt, ReturnStmt, ReturnValueStmt, ThisCallStmt, NewStmt, AssignStmt, CallStmt, MethodCallStmt, LocalItem, StmtItem, MoreItems, items}
use Rattle.chord_tree.specs.StmtNodes.{node_tail, node_other, node_items, node_item, as_stmt, as_item, basic_keyword, semicolon}
use Rattle.chord_tree.specs.ViewStmts.{see_item}
use Rattle.chord_parser.specs.Runs.{Reads, Onward}
use Rattle.chord_parser.specs.Reading.{IsNamed, IsUnnamed, before_items}
use Rattle.chord_parser.specs.Samples.{sample}
use Rattle.chord_parser.proofs.Single.{bare_word}
use Rattle.chord_parser.proofs.Reading.{measured}
use Rattle.chord_parser.proofs.Chains.{told_size}
use Rattle.chord_parser.proofs.made.StmtSteps.{item_int, item_int_at, item_bool, item_bool_at, item_string, item_string_at}

-- items and one more before a node are the items before that one and the node
items_grown : (xs : List ItemTree) (x : ItemTree) (n : Node) → before_items (xs ++ (x ∷ [])) n ≡ before_items xs (before_items (x ∷ []) n)
items_grown [] x n = refl
items_grown (y ∷ xs) x n = ap (λ z. Made grammar.Items (node_item y ▸ z ▸ End)) (items_grown xs x n)

-- an item more in memory
pub items_push : (xs ys : List Item) (x : Item) (n : Node) → ys ≡ xs ++ (x ∷ []) → before_items (map see_item xs) (before_items (see_item x ∷ []) n) ≡ before_items (map see_item ys) n
items_push xs ys x n e = sym (items_grown (map see_item xs) (see_item x) n) ∙ ap (λ z. before_items z n) (sym (map-append see_item xs (x ∷ []))) ∙ ap (λ z. before_items (map see_item z) n) (sym e)

-- an item before items is the node of them all
one_item : (x : ItemTree) (is : ItemTrees) → Made grammar.Items (node_item x ▸ node_items is ▸ End) ≡ node_items (MoreItems x is)
one_item (LocalItem t x q e) is = refl
one_item (StmtItem s) is = refl

-- items before no others are the items
pub items_all : (xs : List ItemTree) → before_items xs (Made grammar.Items End) ≡ node_items (items xs)
items_all [] = refl
items_all (x ∷ xs) = ap (λ z. Made grammar.Items (node_item x ▸ z ▸ End)) (items_all xs) ∙ one_item x (items xs)

-- a statement that a name begins, as a Stmt
pub named_stmt : (s : StmtTree) (x : Name) → IsNamed s x → Made grammar.Stmt (name x ▸ node_tail s ▸ semicolon ▸ End) ≡ as_stmt s (node_other s)
named_stmt (AssignStmt y at e) x h = ap (λ z. Made grammar.Stmt (name z ▸ node_tail (AssignStmt y at e) ▸ semicolon ▸ End)) (sym h)
named_stmt (CallStmt y a ds) x h = ap (λ z. Made grammar.Stmt (name z ▸ node_tail (CallStmt y a ds) ▸ semicolon ▸ End)) (sym h)
named_stmt (MethodCallStmt y d ds) x h = ap (λ z. Made grammar.Stmt (name z ▸ node_tail (MethodCallStmt y d ds) ▸ semicolon ▸ End)) (sym h)
named_stmt _ x h = elim h [ ]

-- a statement that a name begins, as an Item
pub named_item : (s : StmtTree) (x : Name) → IsNamed s x → Made grammar.Item (name x ▸ Made grammar.After_name (node_tail s ▸ End) ▸ semicolon ▸ End) ≡ as_item s (node_other s)
named_item (AssignStmt y at e) x h = ap (λ z. Made grammar.Item (name z ▸ Made grammar.After_name (node_tail (AssignStmt y at e) ▸ End) ▸ semicolon ▸ End)) (sym h)
named_item (CallStmt y a ds) x h = ap (λ z. Made grammar.Item (name z ▸ Made grammar.After_name (node_tail (CallStmt y a ds) ▸ End) ▸ semicolon ▸ End)) (sym h)
named_item (MethodCallStmt y d ds) x h = ap (λ z. Made grammar.Item (name z ▸ Made grammar.After_name (node_tail (MethodCallStmt y d ds) ▸ End) ▸ semicolon ▸ End)) (sym h)
named_item _ x h = elim h [ ]

-- another statement, as a Stmt
pub unnamed_stmt : (s : StmtTree) (n : Node) → IsUnnamed s → Made grammar.Stmt (n ▸ End) ≡ as_stmt s n
unnamed_stmt (AssignStmt y at e) n h = elim h [ ]
unnamed_stmt (CallStmt y a ds) n h = elim h [ ]
unnamed_stmt (MethodCallStmt y d ds) n h = elim h [ ]
unnamed_stmt _ n h = refl

-- another statement, as an Item
pub unnamed_item : (s : StmtTree) (n : Node) → IsUnnamed s → Made grammar.Item (n ▸ End) ≡ as_item s n
unnamed_item (AssignStmt y at e) n h = elim h [ ]
unnamed_item (CallStmt y a ds) n h = elim h [ ]
unnamed_item (MethodCallStmt y d ds) n h = elim h [ ]
unnamed_item _ n h = refl

-- a local begins with its basic type
pub basic_begun : {count d : ℕ} {ks : List Kind} (k : BasicType) → next ks ≡ number_of (keyword_symbol (basic_keyword k)) → Onward count grammar.Item d ks (Terminal (number_of (keyword_symbol (basic_keyword k))) ∷ grammar.NAME ∷ grammar.ASSIGN ∷ grammar.Expr ∷ grammar.SEMICOLON ∷ []) (d + 1) ks (Made grammar.Item)
basic_begun basics.Int e = item_int (item_int_at _ e)
basic_begun basics.Bool e = item_bool (item_bool_at _ e)
basic_begun basics.String e = item_string (item_string_at _ e)

-- the keyword of a basic type is read
pub basic_read : {count d at : ℕ} {ks rest : List Kind} (c : ℕ) (k : BasicType) → c ≡ number_of (keyword_symbol (basic_keyword k)) → Reads count (Terminal c) d ks rest (Leaf (sample c) at) → Reads count (Terminal (number_of (keyword_symbol (basic_keyword k)))) d ks rest (Leaf (kinds.Word (basic_keyword k)) at)
basic_read {count} {d} {at} {ks} {rest} c k e r = subst (λ z. Reads count (Terminal (number_of (keyword_symbol (basic_keyword k)))) d ks rest (Leaf z at)) (bare_word (basic_keyword k)) (subst (λ z. Reads count (Terminal z) d ks rest (Leaf (sample z) at)) e r)

-- an item has a token
item_size : (x : ItemTree) → 0 < size (node_item x)
item_size (LocalItem (types.Basic k at) x q e) = omega arith
item_size (LocalItem (types.Class c) x q e) = omega arith
item_size (StmtItem (AssignStmt x at e)) = omega arith
item_size (StmtItem (CallStmt x a ds)) = omega arith
item_size (StmtItem (MethodCallStmt x d ds)) = omega arith
item_size (StmtItem (BlockStmt (MakeBlock is at))) = omega arith
item_size (StmtItem EmptyStmt) = omega arith
item_size (StmtItem (IfStmt at o e s)) = omega arith
item_size (StmtItem (IfElseStmt at o e s u)) = omega arith
item_size (StmtItem (WhileStmt at o e s)) = omega arith
item_size (StmtItem (ReturnStmt at)) = omega arith
item_size (StmtItem (ReturnValueStmt at e)) = omega arith
item_size (StmtItem (ThisCallStmt at d ds)) = omega arith
item_size (StmtItem (NewStmt at x a ds)) = omega arith

-- an item takes a token at least
pub shorter_item : {count d : ℕ} {q : Symbol} (x : ItemTree) (left rest : List Token) → Reads count q d (token_kinds left) (token_kinds rest) (node_item x) → length rest < length left
shorter_item x left rest h = let a = measured h in let b = item_size x in let y = told_size left in let z = told_size rest in omega arith
