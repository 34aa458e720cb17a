-- The code of expressions and statements. A jump names an instruction of its block, so the code of a part depends on the place where it begins.
use Rattle.std.specs.Prelude.{ℕ, suc, ◌+◌, List, [], ◌∷◌, ◌++◌, Bool, true, false, length}
use Rattle.chord_base.specs.declared.operation.Operation.{Operation}
use Rattle.chord_base.specs.declared.operation.Operation.TheVariants as op
use Rattle.chord_bodies.specs.Resolved.{ExprOf, ExprsOf, StmtOf, StmtsOf, IntOf, FlagOf, TextOf, Load, This, Negate, Deny, Operate, Both, Either, New, Call, NoExprs, MoreExprs, Store, Do, Send, Print, IfThen, IfElse, While, Return, Give, Block, NoStmts, MoreStmts}
use Rattle.chord_code.specs.declared.instruction.Instruction.{Instruction}
use Rattle.chord_code.specs.declared.instruction.Instruction.TheVariants as i

-- how many arguments there are
abbrev pub argument_count : ExprsOf → ℕ
argument_count NoExprs = 0
argument_count (MoreExprs e es) = suc (argument_count es)

-- the instruction of an operator on two operands
abbrev pub operator_code : Operation → Instruction
operator_code op.Add = i.Add
operator_code op.Subtract = i.Sub
operator_code op.Multiply = i.Mul
operator_code op.Divide = i.Div
operator_code op.Remainder = i.Rem
operator_code op.Join = i.Cat
operator_code op.Equal = i.Eq
operator_code op.NotEqual = i.Ne
operator_code op.Less = i.Lt
operator_code op.Greater = i.Gt
operator_code op.LessOrEqual = i.Le
operator_code op.GreaterOrEqual = i.Ge

-- a part that begins at place a, and another one from where it ends
abbrev pub then_code : ℕ → List Instruction → (ℕ → List Instruction) → List Instruction
then_code a first second = first ++ second (a + length first)

-- two ways: the test, `skip` to the second way, the first way, `jump` to the end, and the second way
abbrev pub ways_code : ℕ → List Instruction → (ℕ → List Instruction) → (ℕ → List Instruction) → List Instruction
ways_code a test first second =
    let way = first (a + length test + 1) in
    let other = a + length test + 1 + length way + 1 in
    test ++ (i.Skip other ∷ (way ++ (i.Jump (other + length (second other)) ∷ second other)))

-- one way: the test, `skip` to the end, and the way
abbrev pub way_code : ℕ → List Instruction → (ℕ → List Instruction) → List Instruction
way_code a test first =
    let way = first (a + length test + 1) in
    test ++ (i.Skip (a + length test + 1 + length way) ∷ way)

-- a loop: `jump` to the test, the body, the test, and `again` to the body
abbrev pub loop_code : ℕ → (ℕ → List Instruction) → (ℕ → List Instruction) → List Instruction
loop_code a test body =
    let round = body (a + 1) in
    let place = a + 1 + length round in
    i.Jump place ∷ (round ++ (test place ++ i.Again (a + 1) ∷ []))

abbrev mutual
  -- An expression: the code of its operands from left to right, and then its own instruction. It leaves its value on the stack.
  pub expr_code : ExprOf → ℕ → List Instruction
  expr_code (IntOf n) a = i.Int n ∷ []
  expr_code (FlagOf b) a = i.Flag b ∷ []
  expr_code (TextOf bytes) a = i.Text bytes ∷ []
  expr_code (Load slot) a = i.Load slot ∷ []
  expr_code This a = i.Load 0 ∷ []
  expr_code (Negate e) a = expr_code e a ++ i.Neg ∷ []
  expr_code (Deny e) a = expr_code e a ++ i.Not ∷ []
  expr_code (Operate operation l r) a = then_code a (expr_code l a) (λ b. expr_code r b ++ operator_code operation ∷ [])
  -- where the left operand is false, false; else the right one
  expr_code (Both l r) a = ways_code a (expr_code l a) (expr_code r) (λ b. i.Flag false ∷ [])
  -- where the left operand is true, true; else the right one
  expr_code (Either l r) a = ways_code a (expr_code l a) (λ b. i.Flag true ∷ []) (expr_code r)
  expr_code (New c args) a = exprs_code args a ++ i.New c (argument_count args) ∷ []
  expr_code (Call e c j result args) a = then_code a (expr_code e a) (λ b. exprs_code args b ++ i.Call j (argument_count args) ∷ [])

  -- arguments, the first one first
  pub exprs_code : ExprsOf → ℕ → List Instruction
  exprs_code NoExprs a = []
  exprs_code (MoreExprs e es) a = then_code a (expr_code e a) (exprs_code es)

-- `return` without a value: a builder goes back, and a body ends
abbrev pub return_code : Bool → Instruction
return_code true = i.Back
return_code false = i.End

abbrev mutual
  -- a statement, of a builder or of another block
  pub stmt_code : Bool → StmtOf → ℕ → List Instruction
  stmt_code builder (Store slot e) a = expr_code e a ++ i.Store slot ∷ []
  stmt_code builder (Do e) a = expr_code e a ++ i.Drop ∷ []
  stmt_code builder (Send e c j args) a = then_code a (expr_code e a) (λ b. exprs_code args b ++ i.Send j (argument_count args) ∷ [])
  stmt_code builder (Print e) a = expr_code e a ++ i.Print ∷ []
  stmt_code builder (IfThen e s) a = way_code a (expr_code e a) (stmt_code builder s)
  stmt_code builder (IfElse e s other) a = ways_code a (expr_code e a) (stmt_code builder s) (stmt_code builder other)
  stmt_code builder (While e s) a = loop_code a (expr_code e) (stmt_code builder s)
  stmt_code builder Return a = return_code builder ∷ []
  stmt_code builder (Give e) a = expr_code e a ++ i.Endv ∷ []
  stmt_code builder (Block ss) a = stmts_code builder ss a

  -- statements in their order
  pub stmts_code : Bool → StmtsOf → ℕ → List Instruction
  stmts_code builder NoStmts a = []
  stmts_code builder (MoreStmts s ss) a = then_code a (stmt_code builder s a) (stmts_code builder ss)
