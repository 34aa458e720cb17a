-- The tree of the grammar that a statement stands for.
use Rattle.std.specs.Prelude.{ℕ}
use Rattle.chord_lexer.specs.declared.token.Keyword.{Keyword}
use Rattle.chord_lexer.specs.declared.token.Keyword.TheVariants as keywords
use Rattle.chord_lexer.specs.declared.token.Mark.TheVariants as marks
use Rattle.chord_tree.specs.declared.names.Name.{Name}
use Rattle.chord_tree.specs.declared.names.BasicType.{BasicType}
use Rattle.chord_tree.specs.declared.names.BasicType.TheVariants as basics
use Rattle.chord_tree.specs.declared.names.ValueType.{ValueType}
use Rattle.chord_tree.specs.declared.names.ValueType.TheVariants as types
use Rattle.chord_tree.specs.Symbols as grammar
use Rattle.chord_tree.specs.Node.{Node, End, ◌▸◌, Made}
use Rattle.chord_tree.specs.Tree.{ExprTree, StmtTree, BlockTree, ItemTrees, ItemTree, AssignStmt, CallStmt, MethodCallStmt, ThisCallStmt, NewStmt, BlockStmt, EmptyStmt, IfStmt, IfElseStmt, WhileStmt, ReturnStmt, ReturnValueStmt, MakeBlock, NoItems, MoreItems, LocalItem, StmtItem}
use Rattle.chord_tree.specs.ExprNodes.{keyword_leaf, mark_leaf, name, node_expr, node_actuals, node_dots, node_dot}

-- ";"
abbrev pub semicolon : Node
semicolon = mark_leaf marks.Semicolon 0

-- the word of a basic type
abbrev pub basic_keyword : BasicType → Keyword
basic_keyword basics.Int = keywords.Int
basic_keyword basics.Bool = keywords.Bool
basic_keyword basics.String = keywords.String

-- what follows the name that begins a statement
abbrev pub node_tail : StmtTree → Node
node_tail (AssignStmt x assign value) = Made grammar.Tail (mark_leaf marks.Assign assign ▸ node_expr value ▸ End)
node_tail (CallStmt x actuals calls) = Made grammar.Tail (node_actuals actuals ▸ node_dots calls ▸ End)
node_tail (MethodCallStmt x first calls) = Made grammar.Tail (node_dot first ▸ node_dots calls ▸ End)
node_tail _ = Made grammar.Tail End

-- a statement as a Stmt, where other is it as an Other
abbrev pub as_stmt : StmtTree → Node → Node
as_stmt (AssignStmt x assign value) other = Made grammar.Stmt (name x ▸ node_tail (AssignStmt x assign value) ▸ semicolon ▸ End)
as_stmt (CallStmt x actuals calls) other = Made grammar.Stmt (name x ▸ node_tail (CallStmt x actuals calls) ▸ semicolon ▸ End)
as_stmt (MethodCallStmt x first calls) other = Made grammar.Stmt (name x ▸ node_tail (MethodCallStmt x first calls) ▸ semicolon ▸ End)
as_stmt _ other = Made grammar.Stmt (other ▸ End)

-- and as an Item
abbrev pub as_item : StmtTree → Node → Node
as_item (AssignStmt x assign value) other = Made grammar.Item (name x ▸ Made grammar.After_name (node_tail (AssignStmt x assign value) ▸ End) ▸ semicolon ▸ End)
as_item (CallStmt x actuals calls) other = Made grammar.Item (name x ▸ Made grammar.After_name (node_tail (CallStmt x actuals calls) ▸ End) ▸ semicolon ▸ End)
as_item (MethodCallStmt x first calls) other = Made grammar.Item (name x ▸ Made grammar.After_name (node_tail (MethodCallStmt x first calls) ▸ End) ▸ semicolon ▸ End)
as_item _ other = Made grammar.Item (other ▸ End)

-- a local with its value: its type is a word, or the name of a class
abbrev pub node_local : ValueType → Name → ℕ → ExprTree → Node
node_local (types.Basic basic at) x assign value = Made grammar.Item (keyword_leaf (basic_keyword basic) at ▸ name x ▸ mark_leaf marks.Assign assign ▸ node_expr value ▸ semicolon ▸ End)
node_local (types.Class class) x assign value = Made grammar.Item (name class ▸ Made grammar.After_name (name x ▸ mark_leaf marks.Assign assign ▸ node_expr value ▸ End) ▸ semicolon ▸ End)

abbrev mutual
  -- a statement that no name begins
  pub node_other : StmtTree → Node
  node_other (BlockStmt block) = Made grammar.Other (node_block block ▸ End)
  node_other EmptyStmt = Made grammar.Other (semicolon ▸ End)
  node_other (IfStmt at bracket test first) = Made grammar.Other (keyword_leaf keywords.If at ▸ mark_leaf marks.OpenParenthesis bracket ▸ node_expr test ▸ mark_leaf marks.CloseParenthesis 0 ▸ as_stmt first (node_other first) ▸ Made grammar.Optional_else End ▸ End)
  node_other (IfElseStmt at bracket test first second) = Made grammar.Other (keyword_leaf keywords.If at ▸ mark_leaf marks.OpenParenthesis bracket ▸ node_expr test ▸ mark_leaf marks.CloseParenthesis 0 ▸ as_stmt first (node_other first) ▸ Made grammar.Optional_else (keyword_leaf keywords.Else 0 ▸ as_stmt second (node_other second) ▸ End) ▸ End)
  node_other (WhileStmt at bracket test body) = Made grammar.Other (keyword_leaf keywords.While at ▸ mark_leaf marks.OpenParenthesis bracket ▸ node_expr test ▸ mark_leaf marks.CloseParenthesis 0 ▸ as_stmt body (node_other body) ▸ End)
  node_other (ReturnStmt at) = Made grammar.Other (keyword_leaf keywords.Return at ▸ Made grammar.Optional_expr End ▸ semicolon ▸ End)
  node_other (ReturnValueStmt at value) = Made grammar.Other (keyword_leaf keywords.Return at ▸ Made grammar.Optional_expr (node_expr value ▸ End) ▸ semicolon ▸ End)
  node_other (ThisCallStmt at first calls) = Made grammar.Other (keyword_leaf keywords.This at ▸ node_dot first ▸ node_dots calls ▸ semicolon ▸ End)
  node_other (NewStmt at x actuals calls) = Made grammar.Other (keyword_leaf keywords.New at ▸ name x ▸ node_actuals actuals ▸ node_dots calls ▸ semicolon ▸ End)
  node_other _ = Made grammar.Other End

  -- "{" { Item } "}"
  pub node_block : BlockTree → Node
  node_block (MakeBlock items end) = Made grammar.Block (mark_leaf marks.OpenBrace 0 ▸ node_items items ▸ mark_leaf marks.CloseBrace end ▸ End)

  -- { Item }
  pub node_items : ItemTrees → Node
  node_items NoItems = Made grammar.Items End
  node_items (MoreItems (LocalItem value_type x assign value) more) = Made grammar.Items (node_local value_type x assign value ▸ node_items more ▸ End)
  node_items (MoreItems (StmtItem stmt) more) = Made grammar.Items (as_item stmt (node_other stmt) ▸ node_items more ▸ End)

-- a statement as a branch or a body of a loop
abbrev pub node_stmt : StmtTree → Node
node_stmt stmt = as_stmt stmt (node_other stmt)

-- an item of a block
abbrev pub node_item : ItemTree → Node
node_item (LocalItem value_type x assign value) = node_local value_type x assign value
node_item (StmtItem stmt) = as_item stmt (node_other stmt)
