-- What each production of blocks and statements gives.
use Rattle.std.proofs.Common.{◌≡◌, [], ◌∷◌, drop, refl, sym, inl, inr}
use Rattle.chord_tree.specs.declared.names.BasicType.TheVariants as basics
use Rattle.chord_tree.specs.declared.names.ValueType.TheVariants as types
use Rattle.chord_tree.specs.Symbols as grammar
use Rattle.chord_tree.specs.Grammar.{productions}
use Rattle.chord_tree.specs.Node.{End, ◌▸◌, Made}
use Rattle.chord_tree.specs.StmtNodes.{node_item, node_items}
use Rattle.chord_tree.specs.Tree.{AssignStmt, CallStmt, MethodCallStmt, ThisCallStmt, NewStmt, BlockStmt, EmptyStmt, IfStmt, IfElseStmt, WhileStmt, ReturnStmt, ReturnValueStmt, MakeBlock, ItemTree, ItemTrees, NoItems, MoreItems, LocalItem, StmtItem}
use Rattle.chord_parser.proofs.Stands.{Gives, AllGive, nothing, ◌&◌, ◌⊳◌}
use Rattle.chord_parser.proofs.StandsExprs.{exprs_give}

-- items in braces
block : Gives grammar.Block (grammar.OPEN_BRACE ∷ grammar.Items ∷ grammar.CLOSE_BRACE ∷ [])
block _ (e & (is, f) & (at, g) & nothing) = (MakeBlock is at, rw (e, f, g) refl)

-- no items
no_items : Gives grammar.Items []
no_items _ nothing = (NoItems, refl)

-- items are the first and then the others
items_node : (i : ItemTree) (is : ItemTrees) → Made grammar.Items (node_item i ▸ node_items is ▸ End) ≡ node_items (MoreItems i is)
items_node (LocalItem value_type x assign value) is = refl
items_node (StmtItem s) is = refl

-- an item, and then others
more_items : Gives grammar.Items (grammar.Item ∷ grammar.Items ∷ [])
more_items _ ((i, e) & (is, f) & nothing) = (MoreItems i is, rw (e, f) (items_node i is))

-- a local of type `int`
int_local : Gives grammar.Item (grammar.INT ∷ grammar.NAME ∷ grammar.ASSIGN ∷ grammar.Expr ∷ grammar.SEMICOLON ∷ [])
int_local _ ((w, e) & (x, f) & (q, g) & (v, h, l) & s & nothing) = (LocalItem (types.Basic basics.Int w) x q v, rw (e, f, g, h, s) refl)

-- a local of type `bool`
bool_local : Gives grammar.Item (grammar.BOOL ∷ grammar.NAME ∷ grammar.ASSIGN ∷ grammar.Expr ∷ grammar.SEMICOLON ∷ [])
bool_local _ ((w, e) & (x, f) & (q, g) & (v, h, l) & s & nothing) = (LocalItem (types.Basic basics.Bool w) x q v, rw (e, f, g, h, s) refl)

-- a local of type `string`
string_local : Gives grammar.Item (grammar.STRING ∷ grammar.NAME ∷ grammar.ASSIGN ∷ grammar.Expr ∷ grammar.SEMICOLON ∷ [])
string_local _ ((w, e) & (x, f) & (q, g) & (v, h, l) & s & nothing) = (LocalItem (types.Basic basics.String w) x q v, rw (e, f, g, h, s) refl)

-- an item that a name begins
name_item : Gives grammar.Item (grammar.NAME ∷ grammar.After_name ∷ grammar.SEMICOLON ∷ [])
name_item _ ((x, e) & f & s & nothing) = let i = f x in (i.0, rw (e, s) (sym i.1))

-- an item that no name begins
other_item : Gives grammar.Item (grammar.Other ∷ [])
other_item _ ((s, e, f) & nothing) = (StmtItem s, sym f)

-- a local whose type is a class
class_local : Gives grammar.After_name (grammar.NAME ∷ grammar.ASSIGN ∷ grammar.Expr ∷ [])
class_local _ ((x, e) & (q, f) & (v, g, l) & nothing) = λ c. (LocalItem (types.Class c) x q v, rw (e, f, g) refl)

-- a statement that a name begins
tail_item : Gives grammar.After_name (grammar.Tail ∷ [])
tail_item _ (f & nothing) = λ x. let s = f x in (StmtItem s.0, s.2)

-- a branch that a name begins
name_stmt : Gives grammar.Stmt (grammar.NAME ∷ grammar.Tail ∷ grammar.SEMICOLON ∷ [])
name_stmt _ ((x, e) & f & s & nothing) = let t = f x in (t.0, rw (e, s) (sym t.1))

-- a branch that no name begins
other_stmt : Gives grammar.Stmt (grammar.Other ∷ [])
other_stmt _ ((s, e, f) & nothing) = (s, sym e)

-- "=" Expr
assign : Gives grammar.Tail (grammar.ASSIGN ∷ grammar.Expr ∷ [])
assign _ ((q, e) & (v, f, l) & nothing) = λ x. (AssignStmt x q v, rw (e, f) refl, rw (e, f) refl)

-- Actuals { Dot }
call : Gives grammar.Tail (grammar.Actuals ∷ grammar.Dots ∷ [])
call _ ((a, e) & (ds, f) & nothing) = λ x. (CallStmt x a ds, rw (e, f) refl, rw (e, f) refl)

-- Dot { Dot }
method_call : Gives grammar.Tail (grammar.Dot ∷ grammar.Dots ∷ [])
method_call _ ((d, e) & (ds, f) & nothing) = λ x. (MethodCallStmt x d ds, rw (e, f) refl, rw (e, f) refl)

-- a block is a statement
block_stmt : Gives grammar.Other (grammar.Block ∷ [])
block_stmt _ ((b, e) & nothing) = (BlockStmt b, rw e refl, rw e refl)

-- ";"
empty_stmt : Gives grammar.Other (grammar.SEMICOLON ∷ [])
empty_stmt _ (e & nothing) = (EmptyStmt, rw e refl, rw e refl)

-- "if" with its condition and its branches
if_stmt : Gives grammar.Other (grammar.IF ∷ grammar.OPEN ∷ grammar.Expr ∷ grammar.CLOSE ∷ grammar.Stmt ∷ grammar.Optional_else ∷ [])
if_stmt _ ((at, e) & (b, f) & (t, g, l) & h & (s, i) & inl j & nothing) = (IfStmt at b t s, rw (e, f, g, h, i, j) refl, rw (e, f, g, h, i, j) refl)
if_stmt _ ((at, e) & (b, f) & (t, g, l) & h & (s, i) & inr (u, j) & nothing) = (IfElseStmt at b t s u, rw (e, f, g, h, i, j) refl, rw (e, f, g, h, i, j) refl)

-- "while" with its condition and its body
while_stmt : Gives grammar.Other (grammar.WHILE ∷ grammar.OPEN ∷ grammar.Expr ∷ grammar.CLOSE ∷ grammar.Stmt ∷ [])
while_stmt _ ((at, e) & (b, f) & (t, g, l) & h & (s, i) & nothing) = (WhileStmt at b t s, rw (e, f, g, h, i) refl, rw (e, f, g, h, i) refl)

-- "return", with a value or without
return_stmt : Gives grammar.Other (grammar.RETURN ∷ grammar.Optional_expr ∷ grammar.SEMICOLON ∷ [])
return_stmt _ ((at, e) & inl f & g & nothing) = (ReturnStmt at, rw (e, f, g) refl, rw (e, f, g) refl)
return_stmt _ ((at, e) & inr (v, f) & g & nothing) = (ReturnValueStmt at v, rw (e, f, g) refl, rw (e, f, g) refl)

-- "this" Dot { Dot } ";"
this_call : Gives grammar.Other (grammar.THIS ∷ grammar.Dot ∷ grammar.Dots ∷ grammar.SEMICOLON ∷ [])
this_call _ ((at, e) & (d, f) & (ds, g) & h & nothing) = (ThisCallStmt at d ds, rw (e, f, g, h) refl, rw (e, f, g, h) refl)

-- "new" Name Actuals { Dot } ";"
new_stmt : Gives grammar.Other (grammar.NEW ∷ grammar.NAME ∷ grammar.Actuals ∷ grammar.Dots ∷ grammar.SEMICOLON ∷ [])
new_stmt _ ((at, e) & (x, f) & (a, g) & (ds, h) & i & nothing) = (NewStmt at x a ds, rw (e, f, g, h, i) refl, rw (e, f, g, h, i) refl)

-- no `else`
no_second : Gives grammar.Optional_else []
no_second _ nothing = inl refl

-- "else" and its branch
second : Gives grammar.Optional_else (grammar.ELSE ∷ grammar.Stmt ∷ [])
second _ (e & (s, f) & nothing) = inr (s, rw (e, f) refl)

-- no value
no_value : Gives grammar.Optional_expr []
no_value _ nothing = inl refl

-- a value
some_value : Gives grammar.Optional_expr (grammar.Expr ∷ [])
some_value _ ((v, e, l) & nothing) = inr (v, rw e refl)

-- the productions of statements and all after them, in the order of the grammar
pub stmts_give : AllGive (drop 48 productions)
unfolding productions
stmts_give =
    block ⊳ no_items ⊳ more_items ⊳ int_local ⊳ bool_local ⊳ string_local ⊳ name_item ⊳ other_item ⊳ class_local ⊳ tail_item ⊳ name_stmt ⊳ other_stmt
    ⊳ assign ⊳ call ⊳ method_call ⊳ block_stmt ⊳ empty_stmt ⊳ if_stmt ⊳ while_stmt ⊳ return_stmt ⊳ this_call ⊳ new_stmt
    ⊳ no_second ⊳ second ⊳ no_value ⊳ some_value ⊳ exprs_give
