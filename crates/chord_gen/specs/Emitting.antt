-- What the code does while it emits instructions.
use Rattle.std.specs.Prelude.{◌≡◌, ◌<◌, ◌≤◌, List, [], ◌∷◌, ◌++◌, length}
use Rattle.chord_bodies.specs.Resolved.{ExprOf, ExprsOf, StmtOf, StmtsOf, IntOf, FlagOf, TextOf, Load, This, Negate, Deny, Operate, Both, Either, New, Call, NoExprs, MoreExprs, Store, Do, Send, Print, IfThen, IfElse, While, Return, Give, Block, NoStmts, MoreStmts}
use Rattle.chord_bodies.specs.View.{LinkOf, CallOf}
use Rattle.chord_code.specs.declared.instruction.Instruction.{Instruction}
use Rattle.chord_gen.specs.Emitted.{argument_count, expr_code}

abbrev mutual
  -- an expression names classes and methods whose numbers fit an instruction, and has as many arguments as a method may have
  pub IsNarrow : ExprOf → Type 0
  IsNarrow (IntOf n) = Unit {0}
  IsNarrow (FlagOf b) = Unit {0}
  IsNarrow (TextOf bytes) = Unit {0}
  IsNarrow (Load slot) = Unit {0}
  IsNarrow This = Unit {0}
  IsNarrow (Negate e) = IsNarrow e
  IsNarrow (Deny e) = IsNarrow e
  IsNarrow (Operate operation l r) = IsNarrow l × IsNarrow r
  IsNarrow (Both l r) = IsNarrow l × IsNarrow r
  IsNarrow (Either l r) = IsNarrow l × IsNarrow r
  IsNarrow (New c args) = (c < 1024) × (argument_count args ≤ 8) × AreNarrow args
  IsNarrow (Call e c j result args) = (j < 16) × (argument_count args ≤ 8) × IsNarrow e × AreNarrow args

  -- each argument does
  pub AreNarrow : ExprsOf → Type 0
  AreNarrow NoExprs = Unit {0}
  AreNarrow (MoreExprs e es) = IsNarrow e × AreNarrow es

abbrev mutual
  -- each expression of a statement does
  pub IsNarrowStmt : StmtOf → Type 0
  IsNarrowStmt (Store slot e) = IsNarrow e
  IsNarrowStmt (Do e) = IsNarrow e
  IsNarrowStmt (Send e c j args) = (j < 16) × (argument_count args ≤ 8) × IsNarrow e × AreNarrow args
  IsNarrowStmt (Print e) = IsNarrow e
  IsNarrowStmt (IfThen e s) = IsNarrow e × IsNarrowStmt s
  IsNarrowStmt (IfElse e s other) = IsNarrow e × IsNarrowStmt s × IsNarrowStmt other
  IsNarrowStmt (While e s) = IsNarrow e × IsNarrowStmt s
  IsNarrowStmt Return = Unit {0}
  IsNarrowStmt (Give e) = IsNarrow e
  IsNarrowStmt (Block ss) = AreNarrowStmts ss

  -- each expression of these statements does
  pub AreNarrowStmts : StmtsOf → Type 0
  AreNarrowStmts NoStmts = Unit {0}
  AreNarrowStmts (MoreStmts s ss) = IsNarrowStmt s × AreNarrowStmts ss

-- instructions that ended by the code of any expression end by that of one that is made of it
abbrev pub GoesOnAs : (ExprOf → ExprOf) → List Instruction → List Instruction → Type 0
GoesOnAs f old new = (front : List Instruction) (e : ExprOf) → old ≡ front ++ expr_code e (length front) → new ≡ front ++ expr_code (f e) (length front)

-- each operand of these links is narrow
abbrev pub AreNarrowLinks : List LinkOf → Type 0
AreNarrowLinks [] = Unit {0}
AreNarrowLinks (link ∷ more) = IsNarrow link.operand × AreNarrowLinks more

-- a call names a method whose number fits an instruction, and has narrow arguments
abbrev pub IsNarrowCall : CallOf → Type 0
IsNarrowCall call = (call.method < 16) × (argument_count call.arguments ≤ 8) × AreNarrow call.arguments

-- each of these calls is narrow
abbrev pub AreNarrowCalls : List CallOf → Type 0
AreNarrowCalls [] = Unit {0}
AreNarrowCalls (call ∷ more) = IsNarrowCall call × AreNarrowCalls more
