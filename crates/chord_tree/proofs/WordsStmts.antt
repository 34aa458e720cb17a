-- The kinds that statements spell.
use Rattle.std.proofs.Common.{◌≡◌, ℕ, List, [], ◌∷◌, ◌++◌, refl, sym, ap, ◌∙◌, append_assoc, append-nil}
use Rattle.chord_lexer.specs.declared.token.Token.{Token}
use Rattle.chord_lexer.specs.declared.token.Kind.TheVariants as kinds
use Rattle.chord_lexer.specs.declared.token.Mark.TheVariants as marks
use Rattle.chord_tree.specs.declared.names.Name.{Name}
use Rattle.chord_tree.specs.declared.names.ValueType.{ValueType}
use Rattle.chord_tree.specs.declared.names.ValueType.TheVariants as types
use Rattle.chord_tree.specs.Node.{Nodes, End, ◌▸◌}
use Rattle.chord_tree.specs.Tree.{ExprTree, StmtTree, ItemTrees, ItemTree, AssignStmt, CallStmt, MethodCallStmt, ThisCallStmt, NewStmt, BlockStmt, EmptyStmt, IfStmt, IfElseStmt, WhileStmt, ReturnStmt, ReturnValueStmt, MoreItems, LocalItem, StmtItem}
use Rattle.chord_tree.specs.ExprNodes.{mark_leaf, name, node_expr}
use Rattle.chord_tree.specs.StmtNodes.{semicolon, node_tail, node_other, node_stmt, node_item, node_items, as_item, node_local}
use Rattle.chord_tree.specs.ClassNodes.{node_type}
use Rattle.chord_tree.specs.Program.{node_kinds, nodes_kinds, Adds, node_test}
use Rattle.chord_tree.proofs.Words.{tokens, AddsAll, made, cons, nil, same_words}

-- an item that is a statement spells what the statement does
pub words_item : (s : StmtTree) → node_kinds (node_stmt s) ≡ node_kinds (as_item s (node_other s))
words_item (AssignStmt x q e) = ap (λ z. node_kinds (name x) ++ (z ++ nodes_kinds (semicolon ▸ End))) (sym (append-nil (node_kinds (node_tail (AssignStmt x q e)))))
words_item (CallStmt x a ds) = ap (λ z. node_kinds (name x) ++ (z ++ nodes_kinds (semicolon ▸ End))) (sym (append-nil (node_kinds (node_tail (CallStmt x a ds)))))
words_item (MethodCallStmt x d ds) = ap (λ z. node_kinds (name x) ++ (z ++ nodes_kinds (semicolon ▸ End))) (sym (append-nil (node_kinds (node_tail (MethodCallStmt x d ds)))))
words_item (ThisCallStmt at d ds) = refl
words_item (NewStmt at x a ds) = refl
words_item (BlockStmt b) = refl
words_item EmptyStmt = refl
words_item (IfStmt at o e s) = refl
words_item (IfElseStmt at o e s u) = refl
words_item (WhileStmt at o e s) = refl
words_item (ReturnStmt at) = refl
words_item (ReturnValueStmt at e) = refl

-- a local spells its type, its name, `=`, its value and `;`
pub words_local : (t : ValueType) (x : Name) (q : ℕ) (e : ExprTree) → nodes_kinds (node_type t ▸ name x ▸ mark_leaf marks.Assign q ▸ node_expr e ▸ semicolon ▸ End) ≡ node_kinds (node_local t x q e)
words_local (types.Basic basic at) x q e = refl
words_local (types.Class class) x q e =
    ap (λ z. node_kinds (name class) ++ z) (sym (append_assoc (nodes_kinds (name x ▸ mark_leaf marks.Assign q ▸ End)) (node_kinds (node_expr e)) (nodes_kinds (semicolon ▸ End))))
    ∙ ap (λ z. node_kinds (name class) ++ (z ++ nodes_kinds (semicolon ▸ End))) (ap (λ z. nodes_kinds (name x ▸ mark_leaf marks.Assign q ▸ End) ++ z) (sym (append-nil (node_kinds (node_expr e)))))

-- an item, and those after it
pub item_added : {a b c : List Token} (i : ItemTree) (is : ItemTrees) → Adds a b (node_item i) → Adds b c (node_items is) → Adds a c (node_items (MoreItems i is))
item_added (LocalItem t x q e) is h g = made (cons h (cons g nil))
item_added (StmtItem s) is h g = made (cons h (cons g nil))

-- a condition in brackets, and what follows
pub tested : {a b c : List Token} {ns : Nodes} (n : ℕ) (e : ExprTree) → Adds a b (node_test e) → AddsAll b c ns → AddsAll a c (mark_leaf marks.OpenParenthesis n ▸ node_expr e ▸ mark_leaf marks.CloseParenthesis 0 ▸ ns)
tested {a} {b} {c} {ns} n e h g =
    let list = cons h g in
    record { grown = list.grown ∙ ap (λ z. a ++ tokens z) (ap (λ z. kinds.Mark marks.OpenParenthesis ∷ z) (append_assoc (node_kinds (node_expr e)) (kinds.Mark marks.CloseParenthesis ∷ []) (nodes_kinds ns))) }

-- the parts of a local make it
pub local_added : {a c : List Token} (t : ValueType) (x : Name) (q : ℕ) (e : ExprTree) → AddsAll a c (node_type t ▸ name x ▸ mark_leaf marks.Assign q ▸ node_expr e ▸ semicolon ▸ End) → Adds a c (node_local t x q e)
local_added {a} t x q e h = record { grown = h.grown ∙ ap (λ z. a ++ tokens z) (words_local t x q e) }

-- a local is added whatever the number of its `=`
pub local_same : {a b : List Token} (t : ValueType) (x : Name) (q : ℕ) (e : ExprTree) → Adds a b (node_local t x 0 e) → Adds a b (node_local t x q e)
local_same t x q e h = same_words h (sym (words_local t x 0 e) ∙ words_local t x q e)
