-- A tree is given back by the tree of the grammar that it stands for: expressions and statements.
use Rattle.std.proofs.Common.{◌≡◌, ℕ, zero, suc, ◌-◌, Bool, true, false, cond, List, [], ◌∷◌, refl, ap, ◌∙◌}
use Rattle.std.specs.Prelude.{nat_lt}
use Rattle.chord_lexer.specs.declared.token.Kind.{Kind}
use Rattle.chord_lexer.specs.declared.token.Kind.TheVariants as kinds
use Rattle.chord_lexer.specs.declared.token.Keyword.TheVariants as keywords
use Rattle.chord_lexer.specs.declared.token.Mark.TheVariants as marks
use Rattle.chord_tree.specs.declared.names.Name.{Name}
use Rattle.chord_tree.specs.declared.names.BasicType.{BasicType}
use Rattle.chord_tree.specs.declared.names.BasicType.TheVariants as basics
use Rattle.chord_tree.specs.declared.names.ValueType.{ValueType}
use Rattle.chord_tree.specs.declared.names.ValueType.TheVariants as types
use Rattle.chord_tree.specs.declared.exprs.Operator.{Operator}
use Rattle.chord_tree.specs.declared.exprs.Operator.TheVariants as operators
use Rattle.chord_tree.specs.Node.{Node, Nodes, End, ◌▸◌, Leaf, Made}
use Rattle.chord_tree.specs.Tree.{ExprTree, LinkTrees, StartTree, ActualsTree, ExprTrees, DotTrees, DotTree, ChainExpr, MinusExpr, NotExpr, PrimaryExpr, NoLinks, MoreLinks, MakeLink, VariableStart, CallStart, ThisStart, NewStart, NumberStart, LiteralStart, TrueStart, FalseStart, GroupStart, MakeActuals, NoExprs, MoreExprs, NoDots, MoreDots, MakeDot, StmtTree, BlockTree, ItemTrees, ItemTree, AssignStmt, CallStmt, MethodCallStmt, ThisCallStmt, NewStmt, BlockStmt, EmptyStmt, IfStmt, IfElseStmt, WhileStmt, ReturnStmt, ReturnValueStmt, MakeBlock, NoItems, MoreItems, LocalItem, StmtItem}
use Rattle.chord_tree.specs.ExprNodes.{mark_of, operator_level, bare, lifted, alone, precedence, node_links, node_start, node_actuals, node_exprs, node_more, node_dots, node_dot, node_expr}
use Rattle.chord_tree.specs.StmtNodes.{basic_keyword, node_other, node_block, node_items, node_stmt, node_local, as_item}

-- what a node stands for, where it stands for a thing of that sort
pub record Back : Type 0 where
  pub kind : Kind
  pub at : ℕ
  -- the kind of its first part, which is a token
  pub lead : Kind
  -- it has parts
  pub filled : Bool
  -- it has three parts
  pub three : Bool
  pub expr : ExprTree
  pub value : ExprTree
  pub primary : ExprTree
  pub links : LinkTrees
  pub start : StartTree
  pub actuals : ActualsTree
  pub exprs : ExprTrees
  pub dot : DotTree
  pub dots : DotTrees
  pub tail : Name → StmtTree
  pub after : Name → ItemTree
  pub other : StmtTree
  pub stmt : StmtTree
  pub second : StmtTree
  pub block : BlockTree
  pub item : ItemTree
  pub items : ItemTrees

-- the kind that stands for none
abbrev no_kind : Kind
no_kind = kinds.Number 0

-- the name that stands for none
abbrev no_name : Name
no_name = record { text = []; at = 0 }

-- the start that stands for none
abbrev no_start : StartTree
no_start = ThisStart 0

-- the expression that stands for none
abbrev no_expr : ExprTree
no_expr = PrimaryExpr no_start NoDots

-- the arguments that stand for none
abbrev no_actuals : ActualsTree
no_actuals = MakeActuals 0 NoExprs

-- the call that stands for none
abbrev no_dot : DotTree
no_dot = MakeDot 0 no_name no_actuals

-- the block that stands for none
abbrev no_block : BlockTree
no_block = MakeBlock NoItems 0

-- the operator of a mark
abbrev operator_of : Kind → Operator
operator_of (kinds.Mark marks.Or) = operators.Or
operator_of (kinds.Mark marks.And) = operators.And
operator_of (kinds.Mark marks.Equal) = operators.Equal
operator_of (kinds.Mark marks.NotEqual) = operators.NotEqual
operator_of (kinds.Mark marks.Less) = operators.Less
operator_of (kinds.Mark marks.Greater) = operators.Greater
operator_of (kinds.Mark marks.LessOrEqual) = operators.LessOrEqual
operator_of (kinds.Mark marks.GreaterOrEqual) = operators.GreaterOrEqual
operator_of (kinds.Mark marks.Plus) = operators.Plus
operator_of (kinds.Mark marks.Minus) = operators.Minus
operator_of (kinds.Mark marks.Times) = operators.Times
operator_of (kinds.Mark marks.Divide) = operators.Divide
operator_of _ = operators.Remainder

-- an operator is had back from its mark
operator_back : (o : Operator) → operator_of (kinds.Mark (mark_of o)) ≡ o
operator_back operators.Or = refl
operator_back _ = refl

-- the basic type of a keyword
abbrev pub basic_of : Kind → BasicType
basic_of (kinds.Word keywords.Int) = basics.Int
basic_of (kinds.Word keywords.Bool) = basics.Bool
basic_of _ = basics.String

-- the basic type of its keyword
pub basic_back : (b : BasicType) → basic_of (kinds.Word (basic_keyword b)) ≡ b
basic_back basics.Int = refl
basic_back _ = refl

-- the bytes of a name or a literal
abbrev pub bytes_of : Kind → List ℕ
bytes_of (kinds.Name bytes) = bytes
bytes_of _ = []

-- the name of a token
abbrev name_of : Back → Name
name_of b = record { text = bytes_of b.kind; at = b.at }

-- an operand behind `-`, or else behind `!`
abbrev signed : Kind → ℕ → ExprTree → ExprTree
signed (kinds.Mark marks.Minus) at e = MinusExpr at e
signed _ at e = NotExpr at e

-- the start that is one token
abbrev word_start : Kind → ℕ → StartTree
word_start (kinds.Word keywords.This) at = ThisStart at
word_start (kinds.Word keywords.True) at = TrueStart at
word_start (kinds.Word keywords.False) at = FalseStart at
word_start (kinds.Number value) at = NumberStart value at
word_start (kinds.Literal bytes) at = LiteralStart bytes at
word_start _ at = no_start

-- whether a token is `new`
abbrev is_new : Kind → Bool
is_new (kinds.Word keywords.New) = true
is_new _ = false

-- a chain of a first operand and links, or that operand where there are no links
abbrev chain_of : ExprTree → LinkTrees → ExprTree
chain_of first NoLinks = first
chain_of first (MoreLinks link more) = ChainExpr first link more

-- the expression that these parts make
abbrev expr_of : List Back → ExprTree
expr_of (a ∷ []) = a.primary
expr_of (a ∷ b ∷ []) = cond b.three (chain_of a.expr b.links) (cond b.filled (signed a.kind a.at b.expr) a.expr)
expr_of _ = no_expr

-- the expression without operators that these parts make
abbrev primary_of : List Back → ExprTree
primary_of (s ∷ ds ∷ []) = PrimaryExpr s.start ds.dots
primary_of _ = no_expr

-- the links that these parts make
abbrev links_of : List Back → LinkTrees
links_of (m ∷ t ∷ more ∷ []) = MoreLinks (MakeLink (operator_of m.kind) m.at t.expr) more.links
links_of _ = NoLinks

-- the start that these parts make
abbrev start_of : List Back → StartTree
start_of (k ∷ []) = word_start k.kind k.at
start_of (x ∷ a ∷ []) = cond a.filled (CallStart (name_of x) a.actuals) (VariableStart (name_of x))
start_of (k ∷ x ∷ a ∷ []) = cond (is_new k.kind) (NewStart k.at (name_of x) a.actuals) (GroupStart k.at x.expr)
start_of _ = no_start

-- the brackets and what they hold, or one that holds these
abbrev actuals_of : List Back → ActualsTree
actuals_of (a ∷ []) = a.actuals
actuals_of (o ∷ es ∷ c ∷ []) = MakeActuals o.at es.exprs
actuals_of _ = no_actuals

-- the arguments that these parts make
abbrev exprs_of : List Back → ExprTrees
exprs_of (e ∷ es ∷ []) = MoreExprs e.expr es.exprs
exprs_of (c ∷ e ∷ es ∷ []) = MoreExprs e.expr es.exprs
exprs_of _ = NoExprs

-- the call that these parts make
abbrev dot_of : List Back → DotTree
dot_of (d ∷ x ∷ a ∷ []) = MakeDot d.at (name_of x) a.actuals
dot_of _ = no_dot

-- the calls that these parts make
abbrev dots_of : List Back → DotTrees
dots_of (d ∷ ds ∷ []) = MoreDots d.dot ds.dots
dots_of _ = NoDots

-- whether a token is `=`
abbrev is_assign : Kind → Bool
is_assign (kinds.Mark marks.Assign) = true
is_assign _ = false

-- whether a token is `.`
abbrev is_dot : Kind → Bool
is_dot (kinds.Mark marks.Dot) = true
is_dot _ = false

-- whether a token is `while`
abbrev is_while : Kind → Bool
is_while (kinds.Word keywords.While) = true
is_while _ = false

-- the statement that these parts make behind a name
abbrev tail_of : List Back → Name → StmtTree
tail_of (a ∷ b ∷ []) x = cond (is_assign a.kind) (AssignStmt x a.at b.expr) (cond (is_dot a.lead) (MethodCallStmt x a.dot b.dots) (CallStmt x a.actuals b.dots))
tail_of _ x = EmptyStmt

-- the item that these parts make behind a name
abbrev after_of : List Back → Name → ItemTree
after_of (t ∷ []) c = StmtItem (t.tail c)
after_of (x ∷ q ∷ e ∷ []) c = LocalItem (types.Class c) (name_of x) q.at e.expr
after_of _ c = StmtItem EmptyStmt

-- the statement that these parts make, where no name begins it
abbrev other_of : List Back → StmtTree
other_of (b ∷ []) = cond b.filled (BlockStmt b.block) EmptyStmt
other_of (r ∷ o ∷ s ∷ []) = cond o.filled (ReturnValueStmt r.at o.value) (ReturnStmt r.at)
other_of (t ∷ d ∷ ds ∷ s ∷ []) = ThisCallStmt t.at d.dot ds.dots
other_of (k ∷ a ∷ b ∷ c ∷ d ∷ []) = cond (is_while k.kind) (WhileStmt k.at a.at b.expr d.stmt) (NewStmt k.at (name_of a) b.actuals c.dots)
other_of (k ∷ o ∷ e ∷ c ∷ s ∷ l ∷ []) = cond l.filled (IfElseStmt k.at o.at e.expr s.stmt l.second) (IfStmt k.at o.at e.expr s.stmt)
other_of _ = EmptyStmt

-- the statement that these parts make
abbrev stmt_of : List Back → StmtTree
stmt_of (o ∷ []) = o.other
stmt_of (x ∷ t ∷ s ∷ []) = t.tail (name_of x)
stmt_of _ = EmptyStmt

-- the statement that these parts make behind `else`
abbrev second_of : List Back → StmtTree
second_of (e ∷ s ∷ []) = s.stmt
second_of _ = EmptyStmt

-- the block that these parts make
abbrev block_of : List Back → BlockTree
block_of (o ∷ is ∷ c ∷ []) = MakeBlock is.items c.at
block_of _ = no_block

-- the item that these parts make
abbrev item_of : List Back → ItemTree
item_of (o ∷ []) = StmtItem o.other
item_of (x ∷ a ∷ s ∷ []) = a.after (name_of x)
item_of (w ∷ x ∷ q ∷ e ∷ s ∷ []) = LocalItem (types.Basic (basic_of w.kind) w.at) (name_of x) q.at e.expr
item_of _ = StmtItem EmptyStmt

-- the items that these parts make
abbrev items_of : List Back → ItemTrees
items_of (i ∷ is ∷ []) = MoreItems i.item is.items
items_of _ = NoItems

-- whether there are parts
abbrev is_filled : List Back → Bool
is_filled [] = false
is_filled _ = true

-- whether there are three parts
abbrev is_three : List Back → Bool
is_three (a ∷ b ∷ c ∷ []) = true
is_three _ = false

-- the kind of the first part
abbrev lead_of : List Back → Kind
lead_of [] = no_kind
lead_of (a ∷ more) = a.kind

-- an expression, or one that stands for it
abbrev value_of : List Back → ExprTree → ExprTree
value_of (a ∷ []) e = a.expr
value_of _ e = e

-- all the trees that a node may stand for, by its kind, its number and its parts
abbrev combined : Kind → ℕ → List Back → Back
combined kind at bs = record {
  kind = kind;
  at = at;
  lead = lead_of bs;
  filled = is_filled bs;
  three = is_three bs;
  expr = expr_of bs;
  value = value_of bs no_expr;
  primary = primary_of bs;
  links = links_of bs;
  start = start_of bs;
  actuals = actuals_of bs;
  exprs = exprs_of bs;
  dot = dot_of bs;
  dots = dots_of bs;
  tail = tail_of bs;
  after = after_of bs;
  other = other_of bs;
  stmt = stmt_of bs;
  second = second_of bs;
  block = block_of bs;
  item = item_of bs;
  items = items_of bs;
}

abbrev mutual
  -- the trees that a node may stand for
  pub back : Node → Back
  back (Leaf kind at) = combined kind at []
  back (Made part inner) = combined no_kind 0 (back_all inner)

  -- those of nodes side by side
  pub back_all : Nodes → List Back
  back_all End = []
  back_all (n ▸ ns) = back n ∷ back_all ns

-- the node of a higher level gives the same expression back
back_lifted : (l m : ℕ) (n : Node) → (back (lifted l m n)).expr ≡ (back n).expr
back_lifted zero m n = refl
back_lifted (suc l) m n = elim (nat_lt m (suc l)) as (λ b. (back (cond b (alone (suc l) (lifted l m n)) n)).expr ≡ (back n).expr) [ true ↦ back_lifted l m n | false ↦ refl ]

-- where the first test fails and the second holds, the second thing is chosen
pick : (t f : Bool) (x y z : ExprTree) → t ≡ false → f ≡ true → cond t x (cond f y z) ≡ y
pick true f x y z h g = cc
pick false true x y z h g = refl
pick false false x y z h g = cc

-- equal parts make equal wholes
pub two : {A B C : Type 0} (f : A → B → C) (a a' : A) (b b' : B) → a ≡ a' → b ≡ b' → f a b ≡ f a' b'
two f a a' b b' h g = ap (λ z. f z b) h ∙ ap (f a') g

-- equal parts make equal wholes
pub three : {A B C D : Type 0} (f : A → B → C → D) (a a' : A) (b b' : B) (c c' : C) → a ≡ a' → b ≡ b' → c ≡ c' → f a b c ≡ f a' b' c'
three f a a' b b' c c' h g k = ap (λ z. f z b c) h ∙ two (f a') b b' c c' g k

-- an expression is no link, and has parts
not_three : (e : ExprTree) → (back (bare e)).three ≡ false
not_three (ChainExpr first (MakeLink o at t) more) = refl
not_three (MinusExpr at e) = refl
not_three (NotExpr at e) = refl
not_three (PrimaryExpr s ds) = refl

-- the node of an expression has parts
has_parts : (e : ExprTree) → (back (bare e)).filled ≡ true
has_parts (ChainExpr first (MakeLink o at t) more) = refl
has_parts (MinusExpr at e) = refl
has_parts (NotExpr at e) = refl
has_parts (PrimaryExpr s ds) = refl

mutual
  -- an expression is had back from its node
  pub back_expr : (e : ExprTree) → (back (bare e)).expr ≡ e
  back_expr (ChainExpr first (MakeLink o at t) more) =
      three ChainExpr _ first _ (MakeLink o at t) _ more (back_lifted (operator_level o - 1) (precedence first) (bare first) ∙ back_expr first)
      (two (λ p e. MakeLink p at e) _ o _ t (operator_back o) (back_lifted (operator_level o - 1) (precedence t) (bare t) ∙ back_expr t))
      (back_links (operator_level o) more)
  back_expr (MinusExpr at e) = pick _ _ _ _ _ (not_three e) (has_parts e) ∙ ap (MinusExpr at) (back_expr e)
  back_expr (NotExpr at e) = pick _ _ _ _ _ (not_three e) (has_parts e) ∙ ap (NotExpr at) (back_expr e)
  back_expr (PrimaryExpr s ds) = two PrimaryExpr _ s _ ds (back_start s) (back_dots ds)

  -- and links
  pub back_links : (l : ℕ) (ls : LinkTrees) → (back (node_links l ls)).links ≡ ls
  back_links l NoLinks = refl
  back_links l (MoreLinks (MakeLink o at t) more) =
      two MoreLinks _ (MakeLink o at t) _ more (two (λ p e. MakeLink p at e) _ o _ t (operator_back o) (back_lifted (l - 1) (precedence t) (bare t) ∙ back_expr t)) (back_links l more)

  -- and a start
  pub back_start : (s : StartTree) → (back (node_start s)).start ≡ s
  back_start (VariableStart x) = refl
  back_start (CallStart x a) = ap (CallStart x) (back_actuals a)
  back_start (ThisStart at) = refl
  back_start (NewStart at x a) = ap (NewStart at x) (back_actuals a)
  back_start (NumberStart value at) = refl
  back_start (LiteralStart bytes at) = refl
  back_start (TrueStart at) = refl
  back_start (FalseStart at) = refl
  back_start (GroupStart at e) = ap (GroupStart at) (back_lifted 6 (precedence e) (bare e) ∙ back_expr e)

  -- and arguments in brackets
  pub back_actuals : (a : ActualsTree) → (back (node_actuals a)).actuals ≡ a
  back_actuals (MakeActuals at es) = ap (MakeActuals at) (back_exprs es)

  -- and arguments
  pub back_exprs : (es : ExprTrees) → (back (node_exprs es)).exprs ≡ es
  back_exprs NoExprs = refl
  back_exprs (MoreExprs e es) = two MoreExprs _ e _ es (back_lifted 6 (precedence e) (bare e) ∙ back_expr e) (back_more es)

  -- and further arguments
  pub back_more : (es : ExprTrees) → (back (node_more es)).exprs ≡ es
  back_more NoExprs = refl
  back_more (MoreExprs e es) = two MoreExprs _ e _ es (back_lifted 6 (precedence e) (bare e) ∙ back_expr e) (back_more es)

  -- and calls
  pub back_dots : (ds : DotTrees) → (back (node_dots ds)).dots ≡ ds
  back_dots NoDots = refl
  back_dots (MoreDots (MakeDot at x a) ds) = two MoreDots _ (MakeDot at x a) _ ds (ap (MakeDot at x) (back_actuals a)) (back_dots ds)

-- and one call
pub back_dot : (d : DotTree) → (back (node_dot d)).dot ≡ d
back_dot (MakeDot at x a) = ap (MakeDot at x) (back_actuals a)

-- an expression is had back from its node as an Expr
pub back_node : (e : ExprTree) → (back (node_expr e)).expr ≡ e
back_node e = back_lifted 6 (precedence e) (bare e) ∙ back_expr e

-- where arguments follow a name, what is chosen is the case of neither `=` nor `.`
unassigned : (a : ActualsTree) (t u v : StmtTree) → cond (is_assign (back (node_actuals a)).kind) t (cond (is_dot (back (node_actuals a)).lead) u v) ≡ v
unassigned (MakeActuals at es) t u v = refl

-- where a call by `.` follows a name, what is chosen is the case of `.`
undotted : (d : DotTree) (t u v : StmtTree) → cond (is_assign (back (node_dot d)).kind) t (cond (is_dot (back (node_dot d)).lead) u v) ≡ u
undotted (MakeDot at x a) t u v = refl

-- the node of a block is taken for a block, whatever else it might be taken for
filled_block : (b : BlockTree) (t : StmtTree) → cond (back (node_block b)).filled (BlockStmt (back (node_block b)).block) t ≡ BlockStmt (back (node_block b)).block
filled_block (MakeBlock is end) t = refl

-- a local is had back from its node
back_local : (t : ValueType) (x : Name) (q : ℕ) (e : ExprTree) → (back (node_local t x q e)).item ≡ LocalItem t x q e
back_local (types.Basic basic at) x q e = two (λ b v. LocalItem (types.Basic b at) x q v) _ basic _ e (basic_back basic) (back_node e)
back_local (types.Class c) x q e = ap (LocalItem (types.Class c) x q) (back_node e)

-- the same statement, as a Stmt and as an Item
abbrev Same : StmtTree → Type 0
Same s = ((back (node_stmt s)).stmt ≡ s) × ((back (as_item s (node_other s))).item ≡ StmtItem s)

-- two statements that are equal to a third are so as a statement and as an item
both : (s : StmtTree) (t u : StmtTree) → t ≡ s → u ≡ s → (t ≡ s) × (StmtItem u ≡ StmtItem s)
both s t u h g = (h, ap StmtItem g)

mutual
  -- a statement is had back from its node, as a Stmt and as an Item
  back_stmt : (s : StmtTree) → Same s
  back_stmt (AssignStmt x q e) = let h = ap (AssignStmt x q) (back_node e) in both _ _ _ h h
  back_stmt (CallStmt x a ds) = let h = two (CallStmt x) _ a _ ds (back_actuals a) (back_dots ds) in both _ _ _ (unassigned a _ _ _ ∙ h) (unassigned a _ _ _ ∙ h)
  back_stmt (MethodCallStmt x d ds) = let h = two (MethodCallStmt x) _ d _ ds (back_dot d) (back_dots ds) in both _ _ _ (undotted d _ _ _ ∙ h) (undotted d _ _ _ ∙ h)
  back_stmt (ThisCallStmt at d ds) = let h = two (ThisCallStmt at) _ d _ ds (back_dot d) (back_dots ds) in both _ _ _ h h
  back_stmt (NewStmt at x a ds) = let h = two (NewStmt at x) _ a _ ds (back_actuals a) (back_dots ds) in both _ _ _ h h
  back_stmt (BlockStmt b) = let h = filled_block b _ ∙ ap BlockStmt (back_block b) in both _ _ _ h h
  back_stmt EmptyStmt = (refl, refl)
  back_stmt (IfStmt at o e s) = let h = two (IfStmt at o) _ e _ s (back_node e) (back_stmt s).0 in both _ _ _ h h
  back_stmt (IfElseStmt at o e s u) = let h = three (IfElseStmt at o) _ e _ s _ u (back_node e) (back_stmt s).0 (back_stmt u).0 in both _ _ _ h h
  back_stmt (WhileStmt at o e s) = let h = two (WhileStmt at o) _ e _ s (back_node e) (back_stmt s).0 in both _ _ _ h h
  back_stmt (ReturnStmt at) = (refl, refl)
  back_stmt (ReturnValueStmt at e) = let h = ap (ReturnValueStmt at) (back_node e) in both _ _ _ h h

  -- a block is had back from its node
  pub back_block : (b : BlockTree) → (back (node_block b)).block ≡ b
  back_block (MakeBlock is end) = ap (λ z. MakeBlock z end) (back_items is)

  -- items are had back from their node
  back_items : (is : ItemTrees) → (back (node_items is)).items ≡ is
  back_items NoItems = refl
  back_items (MoreItems (LocalItem t x q e) is) = two MoreItems _ (LocalItem t x q e) _ is (back_local t x q e) (back_items is)
  back_items (MoreItems (StmtItem s) is) = two MoreItems _ (StmtItem s) _ is (back_stmt s).1 (back_items is)
