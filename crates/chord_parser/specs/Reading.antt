-- What each function of the parser promises.
use Rattle.std.specs.Prelude.{◌≡◌, ℕ, ◌-◌, ◌≢◌, List, [], ◌∷◌, ◌++◌, Option, Some, None, Box}
use Rattle.std.specs.Global.{Global}
use Rattle.chord_parser.specs.declared.faults.Fault.TheVariants as faults
use Rattle.chord_lexer.specs.declared.token.Keyword.TheVariants as keywords
use Rattle.chord_lexer.specs.declared.token.Mark.TheVariants as marks
use Rattle.chord_lexer.specs.declared.token.Kind.TheVariants as kinds
use Rattle.chord_tree.specs.declared.exprs.Operator.{Operator}
use Rattle.chord_tree.specs.declared.exprs.Operator.TheVariants as operators
use Rattle.chord_tree.specs.Symbols as grammar
use Rattle.chord_lexer.specs.declared.token.Kind.{Kind}
use Rattle.chord_parser.specs.declared.faults.Fault.{Fault}
use Rattle.chord_tree.specs.Symbol.{Symbol, number_of}
use Rattle.chord_tree.specs.Terminals.{terminal_of, mark_symbol}
use Rattle.chord_tree.specs.Derivation.{next, at_depth, Want}
use Rattle.chord_parser.specs.Runs.{Verdict, Wrong, Tall, Runs, Reads}
use Rattle.chord_tree.specs.Node.{Node, End, ◌▸◌, Made}
use Rattle.chord_tree.specs.Tree.{ExprTree, LinkTree, MakeLink, DotTree, StmtTree, ItemTree, AssignStmt, CallStmt, MethodCallStmt}
use Rattle.chord_tree.specs.declared.names.Name.{Name}
use Rattle.chord_tree.specs.declared.stmts.Stmt.{Stmt}
use Rattle.chord_tree.specs.StmtNodes.{node_item, node_stmt}
use Rattle.chord_tree.specs.ViewStmts.{see_stmt}
use Rattle.chord_tree.specs.ExprNodes.{operator_level, level_tail, keyword_leaf, mark_leaf, node_expr, mark_of, precedence, bare, lifted, node_dot}

-- the terminals whose tokens carry a value
abbrev pub valued : List ℕ
valued = number_of grammar.NAME ∷ number_of grammar.NUMBER ∷ number_of grammar.LITERAL ∷ []

-- The first token is terminal c, and then come those of rest.
pub record Heads (c : ℕ) (ks rest : List Kind) (k : Kind) : Type 0 where
  pub terminal : terminal_of k ≡ c
  pub same : ks ≡ k ∷ rest

-- The reader stops there, whatever else is wanted.
abbrev pub StopsAs : Symbol → ℕ → List Kind → Fault → Type 0
StopsAs p d ks faults.Memory = Unit {0}
StopsAs p d ks (faults.At n) = (s : List Want) → Runs ((p, d) ∷ s) ks (Wrong n)
StopsAs p d ks (faults.Tall n) = (s : List Want) → Runs ((p, d) ∷ s) ks (Tall n)

-- the same of parts side by side
abbrev pub StopsAmong : List Symbol → ℕ → List Kind → Fault → Type 0
StopsAmong ps d ks faults.Memory = Unit {0}
StopsAmong ps d ks (faults.At n) = (s : List Want) → Runs (at_depth d ps ++ s) ks (Wrong n)
StopsAmong ps d ks (faults.Tall n) = (s : List Want) → Runs (at_depth d ps ++ s) ks (Tall n)

-- The reader stops before it has read these parts.
pub record StopsBefore (ps : List Symbol) (d : ℕ) (ks : List Kind) (fault : Fault) : Type 0 where
  pub stops : StopsAmong ps d ks fault

-- Where mid is read as part q, all of ks is read as p, with g of its node.
pub record Continues (count : ℕ) (p : Symbol) (d : ℕ) (ks : List Kind) (q : Symbol) (e : ℕ) (mid : List Kind) (g : Node → Node) : Type 0 where
  pub reads : (rest : List Kind) (n : Node) → Reads count q e mid rest n → Reads count p d ks rest (g n)
  pub runs : (s : List Want) (v : Verdict) → Runs ((q, e) ∷ s) mid v → Runs ((p, d) ∷ s) ks v

-- the operator that a kind of token is
abbrev pub operator_at : Kind → Option Operator
operator_at (kinds.Mark marks.Or) = Some operators.Or
operator_at (kinds.Mark marks.And) = Some operators.And
operator_at (kinds.Mark marks.Equal) = Some operators.Equal
operator_at (kinds.Mark marks.NotEqual) = Some operators.NotEqual
operator_at (kinds.Mark marks.Less) = Some operators.Less
operator_at (kinds.Mark marks.Greater) = Some operators.Greater
operator_at (kinds.Mark marks.LessOrEqual) = Some operators.LessOrEqual
operator_at (kinds.Mark marks.GreaterOrEqual) = Some operators.GreaterOrEqual
operator_at (kinds.Mark marks.Plus) = Some operators.Plus
operator_at (kinds.Mark marks.Minus) = Some operators.Minus
operator_at (kinds.Mark marks.Times) = Some operators.Times
operator_at (kinds.Mark marks.Divide) = Some operators.Divide
operator_at (kinds.Mark marks.Remainder) = Some operators.Remainder
operator_at _ = None

-- the terminal of an operator
abbrev pub operator_terminal : Operator → ℕ
operator_terminal operator = number_of (mark_symbol (mark_of operator))

-- no operator of the level comes next
abbrev pub IsOther : ℕ → List Kind → Type 0
IsOther l ks = (o : Operator) → next ks ≡ operator_terminal o → operator_level o ≢ l

-- one link before another node
abbrev pub one_link : ℕ → LinkTree → Node → Node
one_link l (MakeLink o at t) n = Made (level_tail l) (mark_leaf (mark_of o) at ▸ lifted (l - 1) (precedence t) (bare t) ▸ n ▸ End)

-- links before another node
abbrev pub before_links : ℕ → List LinkTree → Node → Node
before_links l [] n = n
before_links l (x ∷ xs) n = one_link l x (before_links l xs n)

-- calls on what stands before, and then another node
abbrev pub before_dots : List DotTree → Node → Node
before_dots [] n = n
before_dots (x ∷ xs) n = Made grammar.Dots (node_dot x ▸ before_dots xs n ▸ End)

-- further arguments, a comma before each, and then another node
abbrev pub before_more : List ExprTree → Node → Node
before_more [] n = n
before_more (x ∷ xs) n = Made grammar.More_exprs (mark_leaf marks.Comma 0 ▸ lifted 6 (precedence x) (bare x) ▸ before_more xs n ▸ End)

-- arguments before another node: the first, and the further ones
abbrev pub before_opt : List ExprTree → Node → Node
before_opt [] n = n
before_opt (x ∷ xs) n = Made grammar.Optional_exprs (lifted 6 (precedence x) (bare x) ▸ before_more xs n ▸ End)

-- the statement begins with the name
abbrev pub IsNamed : StmtTree → Name → Type 0
IsNamed (AssignStmt x assign value) y = x ≡ y
IsNamed (CallStmt x actuals calls) y = x ≡ y
IsNamed (MethodCallStmt x first calls) y = x ≡ y
IsNamed _ y = ⊥

-- no name begins the statement
abbrev pub IsUnnamed : StmtTree → Type 0
IsUnnamed (AssignStmt x assign value) = ⊥
IsUnnamed (CallStmt x actuals calls) = ⊥
IsUnnamed (MethodCallStmt x first calls) = ⊥
IsUnnamed _ = Unit {0}

-- items before another node
abbrev pub before_items : List ItemTree → Node → Node
before_items [] n = n
before_items (x ∷ xs) n = Made grammar.Items (node_item x ▸ before_items xs n ▸ End)

-- the second branch of an `if`, if there is one
abbrev pub node_else : Option (Box Stmt Global) → Node
node_else None = Made grammar.Optional_else End
node_else (Some second) = Made grammar.Optional_else (keyword_leaf keywords.Else 0 ▸ node_stmt (see_stmt second.value) ▸ End)

-- an `if` with its branches
abbrev pub node_if : ℕ → ℕ → ExprTree → StmtTree → Option (Box Stmt Global) → Node
node_if at bracket test first second = Made grammar.Other (keyword_leaf keywords.If at ▸ mark_leaf marks.OpenParenthesis bracket ▸ node_expr test ▸ mark_leaf marks.CloseParenthesis 0 ▸ node_stmt first ▸ node_else second ▸ End)
