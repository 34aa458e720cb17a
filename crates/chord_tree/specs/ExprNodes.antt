-- The tree of the grammar that an expression stands for.
use Rattle.std.specs.Prelude.{ℕ, zero, suc, ◌-◌, cond, [], ◌∷◌, get_or, nat_lt}
use Rattle.chord_lexer.specs.declared.token.Kind.TheVariants as kinds
use Rattle.chord_lexer.specs.declared.token.Keyword.{Keyword}
use Rattle.chord_lexer.specs.declared.token.Keyword.TheVariants as keywords
use Rattle.chord_lexer.specs.declared.token.Mark.{Mark}
use Rattle.chord_lexer.specs.declared.token.Mark.TheVariants as marks
use Rattle.chord_tree.specs.declared.names.Name.{Name}
use Rattle.chord_tree.specs.declared.exprs.Operator.{Operator}
use Rattle.chord_tree.specs.declared.exprs.Operator.TheVariants as operators
use Rattle.chord_tree.specs.Symbol.{Symbol}
use Rattle.chord_tree.specs.Symbols as grammar
use Rattle.chord_tree.specs.Node.{Node, End, ◌▸◌, Leaf, Made}
use Rattle.chord_tree.specs.Tree.{ExprTree, LinkTrees, LinkTree, StartTree, ActualsTree, ExprTrees, DotTrees, DotTree, ChainExpr, MinusExpr, NotExpr, PrimaryExpr, NoLinks, MoreLinks, MakeLink, VariableStart, CallStart, ThisStart, NewStart, NumberStart, LiteralStart, TrueStart, FalseStart, GroupStart, MakeActuals, NoExprs, MoreExprs, NoDots, MoreDots, MakeDot}

-- a keyword, with the number of its token
abbrev pub keyword_leaf : Keyword → ℕ → Node
keyword_leaf keyword at = Leaf (kinds.Word keyword) at

-- a mark, with the number of its token
abbrev pub mark_leaf : Mark → ℕ → Node
mark_leaf sign at = Leaf (kinds.Mark sign) at

-- a name, with the number of its token
abbrev pub name : Name → Node
name x = Leaf (kinds.Name x.text) x.at

-- the nonterminal of each level of operators, and that of its further operands; the level of `-`, `!` and what has no operator is 0
abbrev pub level_symbol : ℕ → Symbol
level_symbol l = get_or (grammar.Unary ∷ grammar.Product ∷ grammar.Sum ∷ grammar.Order ∷ grammar.Equal ∷ grammar.And ∷ grammar.Expr ∷ []) l grammar.Expr

-- the nonterminal of the further operands of each level
abbrev pub level_tail : ℕ → Symbol
level_tail l = get_or (grammar.More_product ∷ grammar.More_product ∷ grammar.More_sum ∷ grammar.More_order ∷ grammar.More_equal ∷ grammar.More_and ∷ grammar.More_or ∷ []) l grammar.More_or

-- the level of an operator
abbrev pub operator_level : Operator → ℕ
operator_level operators.Or = 6
operator_level operators.And = 5
operator_level operators.Equal = 4
operator_level operators.NotEqual = 4
operator_level operators.Less = 3
operator_level operators.Greater = 3
operator_level operators.LessOrEqual = 3
operator_level operators.GreaterOrEqual = 3
operator_level operators.Plus = 2
operator_level operators.Minus = 2
operator_level operators.Times = 1
operator_level operators.Divide = 1
operator_level operators.Remainder = 1

-- how an operator is written
abbrev pub mark_of : Operator → Mark
mark_of operators.Or = marks.Or
mark_of operators.And = marks.And
mark_of operators.Equal = marks.Equal
mark_of operators.NotEqual = marks.NotEqual
mark_of operators.Less = marks.Less
mark_of operators.Greater = marks.Greater
mark_of operators.LessOrEqual = marks.LessOrEqual
mark_of operators.GreaterOrEqual = marks.GreaterOrEqual
mark_of operators.Plus = marks.Plus
mark_of operators.Minus = marks.Minus
mark_of operators.Times = marks.Times
mark_of operators.Divide = marks.Divide
mark_of operators.Remainder = marks.Remainder

-- the level of a link is that of its operator
abbrev pub link_level : LinkTree → ℕ
link_level (MakeLink operator at operand) = operator_level operator

-- the level of an expression: that of a chain is that of its first operator
abbrev pub precedence : ExprTree → ℕ
precedence (ChainExpr first link more) = link_level link
precedence _ = 0

-- the nonterminal of a level without operators of that level
abbrev pub alone : ℕ → Node → Node
alone l node = Made (level_symbol l) (node ▸ Made (level_tail l) End ▸ End)

-- what is of level m as what is of level l
abbrev pub lifted : ℕ → ℕ → Node → Node
lifted zero m node = node
lifted (suc l) m node = cond (nat_lt m (suc l)) (alone (suc l) (lifted l m node)) node

abbrev mutual
  -- an expression as the nonterminal of its own level
  pub bare : ExprTree → Node
  bare (ChainExpr first (MakeLink operator at operand) more) =
      Made (level_symbol (operator_level operator)) (lifted (operator_level operator - 1) (precedence first) (bare first)
      ▸ Made (level_tail (operator_level operator)) (mark_leaf (mark_of operator) at ▸ lifted (operator_level operator - 1) (precedence operand) (bare operand) ▸ node_links (operator_level operator) more ▸ End)
      ▸ End)
  bare (MinusExpr at operand) = Made grammar.Unary (mark_leaf marks.Minus at ▸ bare operand ▸ End)
  bare (NotExpr at operand) = Made grammar.Unary (mark_leaf marks.Not at ▸ bare operand ▸ End)
  bare (PrimaryExpr start calls) = Made grammar.Unary (Made grammar.Primary (node_start start ▸ node_dots calls ▸ End) ▸ End)

  -- further operands of a level, each after its operator
  pub node_links : ℕ → LinkTrees → Node
  node_links l NoLinks = Made (level_tail l) End
  node_links l (MoreLinks (MakeLink operator at operand) more) = Made (level_tail l) (mark_leaf (mark_of operator) at ▸ lifted (l - 1) (precedence operand) (bare operand) ▸ node_links l more ▸ End)

  -- Name [ Actuals ] | "this" | "new" Name Actuals | Number | Literal | "true" | "false" | "(" Expr ")"
  pub node_start : StartTree → Node
  node_start (VariableStart x) = Made grammar.Operand_start (name x ▸ Made grammar.Optional_actuals End ▸ End)
  node_start (CallStart x actuals) = Made grammar.Operand_start (name x ▸ Made grammar.Optional_actuals (node_actuals actuals ▸ End) ▸ End)
  node_start (ThisStart at) = Made grammar.Operand_start (keyword_leaf keywords.This at ▸ End)
  node_start (NewStart at x actuals) = Made grammar.Operand_start (keyword_leaf keywords.New at ▸ name x ▸ node_actuals actuals ▸ End)
  node_start (NumberStart value at) = Made grammar.Operand_start (Leaf (kinds.Number value) at ▸ End)
  node_start (LiteralStart bytes at) = Made grammar.Operand_start (Leaf (kinds.Literal bytes) at ▸ End)
  node_start (TrueStart at) = Made grammar.Operand_start (keyword_leaf keywords.True at ▸ End)
  node_start (FalseStart at) = Made grammar.Operand_start (keyword_leaf keywords.False at ▸ End)
  node_start (GroupStart at inner) = Made grammar.Operand_start (mark_leaf marks.OpenParenthesis at ▸ lifted 6 (precedence inner) (bare inner) ▸ mark_leaf marks.CloseParenthesis 0 ▸ End)

  -- "(" [ Expr { "," Expr } ] ")"
  pub node_actuals : ActualsTree → Node
  node_actuals (MakeActuals at arguments) = Made grammar.Actuals (mark_leaf marks.OpenParenthesis at ▸ node_exprs arguments ▸ mark_leaf marks.CloseParenthesis 0 ▸ End)

  -- [ Expr { "," Expr } ]
  pub node_exprs : ExprTrees → Node
  node_exprs NoExprs = Made grammar.Optional_exprs End
  node_exprs (MoreExprs expr more) = Made grammar.Optional_exprs (lifted 6 (precedence expr) (bare expr) ▸ node_more more ▸ End)

  -- { "," Expr }
  pub node_more : ExprTrees → Node
  node_more NoExprs = Made grammar.More_exprs End
  node_more (MoreExprs expr more) = Made grammar.More_exprs (mark_leaf marks.Comma 0 ▸ lifted 6 (precedence expr) (bare expr) ▸ node_more more ▸ End)

  -- { Dot }
  pub node_dots : DotTrees → Node
  node_dots NoDots = Made grammar.Dots End
  node_dots (MoreDots (MakeDot at x actuals) more) = Made grammar.Dots (Made grammar.Dot (mark_leaf marks.Dot at ▸ name x ▸ node_actuals actuals ▸ End) ▸ node_dots more ▸ End)

-- an expression as the nonterminal of a level that is not below its own
abbrev pub node_at : ℕ → ExprTree → Node
node_at l expr = lifted l (precedence expr) (bare expr)

-- an expression as an Expr
abbrev pub node_expr : ExprTree → Node
node_expr expr = node_at 6 expr

-- "." Name Actuals
abbrev pub node_dot : DotTree → Node
node_dot (MakeDot at x actuals) = Made grammar.Dot (mark_leaf marks.Dot at ▸ name x ▸ node_actuals actuals ▸ End)
