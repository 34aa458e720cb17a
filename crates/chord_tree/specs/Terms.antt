-- Expressions as rules, types and meanings take them: operators and dots one by one, grouped from the left.
use Rattle.std.specs.Prelude.{ℕ, List, Bool, true, false}
use Rattle.chord_tree.specs.declared.names.Name.{Name}
use Rattle.chord_tree.specs.declared.exprs.Operator.{Operator}
use Rattle.chord_tree.specs.Tree.{ExprTree, LinkTrees, StartTree, ExprTrees, DotTrees, ChainExpr, MinusExpr, NotExpr, PrimaryExpr, NoLinks, MoreLinks, MakeLink, VariableStart, CallStart, ThisStart, NewStart, NumberStart, LiteralStart, TrueStart, FalseStart, GroupStart, MakeActuals, NoExprs, MoreExprs, NoDots, MoreDots, MakeDot, StmtTree, CallStmt, MethodCallStmt, ThisCallStmt, NewStmt}

mutual
  -- an expression
  pub data Term : Type 0 where
    -- a variable, or the word `Console` before a dot
    VariableTerm : (name : Name) → Term
    ThisTerm : (at : ℕ) → Term
    -- a number, and whether it stands directly after `-`
    NumberTerm : (value at : ℕ) (after_minus : Bool) → Term
    LiteralTerm : (bytes : List ℕ) (at : ℕ) → Term
    BoolTerm : (value : Bool) (at : ℕ) → Term
    GroupTerm : (at : ℕ) (inner : Term) → Term
    MinusTerm : (at : ℕ) (operand : Term) → Term
    NotTerm : (at : ℕ) (operand : Term) → Term
    OperationTerm : (operator : Operator) (at : ℕ) (left right : Term) → Term
    -- `new`, a class and its arguments; brackets is the number of `(`
    NewTerm : (at : ℕ) (name : Name) (brackets : ℕ) (actuals : Terms) → Term
    -- a call without receiver
    OwnCallTerm : (name : Name) (brackets : ℕ) (actuals : Terms) → Term
    -- a call on a receiver; dot is the number of `.`
    CallTerm : (receiver : Term) (dot : ℕ) (name : Name) (brackets : ℕ) (actuals : Terms) → Term

  -- arguments
  pub data Terms : Type 0 where
    NoTerms : Terms
    MoreTerms : Term → Terms → Terms

abbrev mutual
  -- an expression, which stands directly after `-` or not
  pub term_after : ExprTree → Bool → Term
  term_after (ChainExpr first (MakeLink operator at operand) more) minus = operated more (OperationTerm operator at (term_after first false) (term_after operand false))
  term_after (MinusExpr at operand) minus = MinusTerm at (term_after operand true)
  term_after (NotExpr at operand) minus = NotTerm at (term_after operand false)
  term_after (PrimaryExpr start calls) minus = called calls (started start minus)

  -- the operators that follow, each with what stands before it as its left operand
  pub operated : LinkTrees → Term → Term
  operated NoLinks left = left
  operated (MoreLinks (MakeLink operator at operand) more) left = operated more (OperationTerm operator at left (term_after operand false))

  -- the calls that follow, each on what those before it give
  pub called : DotTrees → Term → Term
  called NoDots receiver = receiver
  called (MoreDots (MakeDot dot name (MakeActuals at arguments)) more) receiver = called more (CallTerm receiver dot name at (terms arguments))

  -- what an expression without operators begins with
  pub started : StartTree → Bool → Term
  started (VariableStart name) minus = VariableTerm name
  started (CallStart name (MakeActuals at arguments)) minus = OwnCallTerm name at (terms arguments)
  started (ThisStart at) minus = ThisTerm at
  started (NewStart at name (MakeActuals brackets arguments)) minus = NewTerm at name brackets (terms arguments)
  started (NumberStart value at) minus = NumberTerm value at minus
  started (LiteralStart bytes at) minus = LiteralTerm bytes at
  started (TrueStart at) minus = BoolTerm true at
  started (FalseStart at) minus = BoolTerm false at
  started (GroupStart at inner) minus = GroupTerm at (term_after inner false)

  -- arguments
  pub terms : ExprTrees → Terms
  terms NoExprs = NoTerms
  terms (MoreExprs expr more) = MoreTerms (term_after expr false) (terms more)

-- an expression that does not stand directly after `-`
abbrev pub term : ExprTree → Term
term expr = term_after expr false

-- the first token of an expression
abbrev pub first_token : Term → ℕ
first_token (VariableTerm name) = name.at
first_token (ThisTerm at) = at
first_token (NumberTerm value at minus) = at
first_token (LiteralTerm bytes at) = at
first_token (BoolTerm value at) = at
first_token (GroupTerm at inner) = at
first_token (MinusTerm at operand) = at
first_token (NotTerm at operand) = at
first_token (OperationTerm operator at left right) = first_token left
first_token (NewTerm at name brackets actuals) = at
first_token (OwnCallTerm name brackets actuals) = name.at
first_token (CallTerm receiver dot name brackets actuals) = first_token receiver

-- an expression that stands as a statement: a call or `new`, and the calls on what it gives
abbrev pub stands_as : StmtTree → Term → Term
stands_as (CallStmt name (MakeActuals at arguments) calls) other = called calls (OwnCallTerm name at (terms arguments))
stands_as (MethodCallStmt name (MakeDot dot method (MakeActuals at arguments)) calls) other = called calls (CallTerm (VariableTerm name) dot method at (terms arguments))
stands_as (ThisCallStmt this (MakeDot dot method (MakeActuals at arguments)) calls) other = called calls (CallTerm (ThisTerm this) dot method at (terms arguments))
stands_as (NewStmt at name (MakeActuals brackets arguments) calls) other = called calls (NewTerm at name brackets (terms arguments))
stands_as _ other = other
