-- Programs whose names are resolved, without where their parts lie in memory: operators and calls one by one, from the left.
use Rattle.std.specs.Prelude.{ℕ, ◌+◌, List, length, Bool, Option, ℤ}
use Rattle.chord_base.specs.declared.operation.Operation.{Operation}
use Rattle.chord_base.specs.declared.static_type.StaticType.{StaticType}

mutual
  -- an expression, which a body evaluates to a value
  pub data ExprOf : Type 0 where
    IntOf : (value : ℤ) → ExprOf
    FlagOf : (value : Bool) → ExprOf
    TextOf : (bytes : List ℕ) → ExprOf
    -- the value of the variable in a slot
    Load : (slot : ℕ) → ExprOf
    This : ExprOf
    Negate : (operand : ExprOf) → ExprOf
    Deny : (operand : ExprOf) → ExprOf
    Operate : Operation → (left right : ExprOf) → ExprOf
    -- `&&`, whose right operand is needed where the left one is true
    Both : (left right : ExprOf) → ExprOf
    -- `||`, whose right operand is needed where the left one is false
    Either : (left right : ExprOf) → ExprOf
    -- a new object of a class
    New : (class : ℕ) (arguments : ExprsOf) → ExprOf
    -- a synchronous call: the static class of the receiver, the method, and the type of its result, if it has one
    Call : (receiver : ExprOf) (class method : ℕ) (result : Option StaticType) (arguments : ExprsOf) → ExprOf

  -- arguments
  pub data ExprsOf : Type 0 where
    NoExprs : ExprsOf
    MoreExprs : ExprOf → ExprsOf → ExprsOf

mutual
  -- a statement
  pub data StmtOf : Type 0 where
    -- a local gets its first value, or a variable a further one
    Store : (slot : ℕ) (value : ExprOf) → StmtOf
    -- a synchronous call or `new`, whose value is dropped
    Do : (value : ExprOf) → StmtOf
    -- an asynchronous call
    Send : (receiver : ExprOf) (class method : ℕ) (arguments : ExprsOf) → StmtOf
    Print : (value : ExprOf) → StmtOf
    IfThen : (test : ExprOf) (first : StmtOf) → StmtOf
    IfElse : (test : ExprOf) (first second : StmtOf) → StmtOf
    While : (test : ExprOf) (body : StmtOf) → StmtOf
    Return : StmtOf
    -- `return` with a value
    Give : (value : ExprOf) → StmtOf
    Block : (stmts : StmtsOf) → StmtOf

  -- the statements of a block
  pub data StmtsOf : Type 0 where
    NoStmts : StmtsOf
    MoreStmts : StmtOf → StmtsOf → StmtsOf

-- the body of a member: what it is of, the types of its slots from 1 on, and the type of its value, if one is due
pub record BodyOf : Type 0 where
  pub class : ℕ
  pub is_main : Bool
  pub is_constructor : Bool
  pub parameters : List StaticType
  pub locals : List StaticType
  pub result : Option StaticType
  pub stmts : StmtsOf

-- how many slots a body has: slot 0 is `this`, and then come the parameters and the locals
abbrev pub slots_of : BodyOf → ℕ
slots_of b = 1 + length b.parameters + length b.locals

-- a method of a class's plan: its name, whether its callers wait, and how many parameters it has
pub record MethodOf : Type 0 where
  pub name : List ℕ
  pub is_sync : Bool
  pub parameters : ℕ

-- an effective chord: its methods in header order, and the member that is its body
pub record ChordOf : Type 0 where
  pub body : ℕ
  pub methods : List ℕ

-- a class: its methods and effective chords by number, the members that are its own chords' bodies, and the one that is its constructor
pub record ClassOf : Type 0 where
  pub name : List ℕ
  pub base : Option ℕ
  pub methods : List MethodOf
  pub chords : List ChordOf
  pub own : List ℕ
  pub constructor_body : Option ℕ

-- the plan of a program: its classes by number, and the member that is `Main`
pub record LayoutOf : Type 0 where
  pub classes : List ClassOf
  pub main : ℕ

-- a program with all names resolved; members are numbered in the order of the text
pub record Resolved : Type 0 where
  pub classes : List ClassOf
  pub bodies : List BodyOf
  pub main : ℕ
