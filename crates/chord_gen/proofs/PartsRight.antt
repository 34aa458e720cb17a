-- The code of expressions and statements names what is there, and its jumps stay in it.
use Rattle.std.proofs.Common.{◌≡◌, ℕ, zero, suc, ◌+◌, ◌<◌, ◌≤◌, List, [], ◌∷◌, ◌++◌, Bool, true, false, Option, Some, None, length, map, refl, ◌∙◌, ap, subst, arith, length-append}
use Rattle.std.proofs.lemmas.Option.{slice_get_within}
use Rattle.chord_base.specs.Types.{Signature, Signatures}
use Rattle.chord_base.specs.declared.operation.Operation.{Operation}
use Rattle.chord_base.specs.declared.operation.Operation.TheVariants as op
use Rattle.chord_base.specs.declared.static_type.StaticType.{StaticType}
use Rattle.chord_base.specs.declared.static_type.StaticType.TheVariants as ty
use Rattle.chord_bodies.specs.Resolved.{ExprOf, ExprsOf, StmtOf, StmtsOf, BodyOf, Resolved, IntOf, FlagOf, TextOf, Load, This, Negate, Deny, Operate, Both, Either, New, Call, NoExprs, MoreExprs, Store, Do, Send, Print, IfThen, IfElse, While, Return, Give, Block as StmtBlock, NoStmts, MoreStmts, slots_of}
use Rattle.chord_bodies.specs.Types.{Scope, Extends, declared, ValueDue, ExprIs, ExprsAre, StmtIs, StmtsAre, opening}
use Rattle.chord_bodies.specs.Planned.{IsPlanned}
use Rattle.chord_code.specs.declared.instruction.Instruction.{Instruction}
use Rattle.chord_code.specs.declared.instruction.Instruction.TheVariants as i
use Rattle.chord_gen.specs.Emitted.{argument_count, operator_code, ways_code, way_code, expr_code, exprs_code, return_code, stmt_code, stmts_code}
use Rattle.chord_gen.proofs.Emits.{mapped_length}

-- an instruction at place p of a part with s slots names what is there, and its jumps stay at or before the end; Q tells which builders may be entered
abbrev pub RightIn : ℕ → ℕ → (ℕ → Type 0) → ℕ → ℕ → Instruction → Type 0
RightIn s cs Q end p (i.Load k) = k < s
RightIn s cs Q end p (i.Store k) = k < s
RightIn s cs Q end p (i.Jump a) = (p < a) × (a ≤ end)
RightIn s cs Q end p (i.Skip a) = (p < a) × (a ≤ end)
RightIn s cs Q end p (i.Again a) = a < p
RightIn s cs Q end p (i.New c k) = (c < cs) × (k ≤ 8)
RightIn s cs Q end p (i.Init c) = Q c
RightIn s cs Q end p (i.Send j k) = (j < 16) × (k ≤ 8)
RightIn s cs Q end p (i.Call j k) = (j < 16) × (k ≤ 8)
RightIn s cs Q end p _ = Unit {0}

-- each of these instructions, of which the first is at place p
abbrev pub AllRightIn : ℕ → ℕ → (ℕ → Type 0) → ℕ → ℕ → List Instruction → Type 0
AllRightIn s cs Q end p [] = Unit {0}
AllRightIn s cs Q end p (x ∷ xs) = RightIn s cs Q end p x × AllRightIn s cs Q end (suc p) xs

module _ (s cs : ℕ) (Q : ℕ → Type 0) where
  -- what is right up to some end is right up to a later one
  right_up_to : (low high p : ℕ) (x : Instruction) → low ≤ high → RightIn s cs Q low p x → RightIn s cs Q high p x
  right_up_to low high p (i.Load k) l h = h
  right_up_to low high p (i.Store k) l h = h
  right_up_to low high p (i.Jump a) l h = (h.0, (let k = h.1 in omega (arith, k, l)))
  right_up_to low high p (i.Skip a) l h = (h.0, (let k = h.1 in omega (arith, k, l)))
  right_up_to low high p (i.Again a) l h = h
  right_up_to low high p (i.New c k) l h = h
  right_up_to low high p (i.Init c) l h = h
  right_up_to low high p (i.Send j k) l h = h
  right_up_to low high p (i.Call j k) l h = h
  right_up_to low high p (i.Int n) l h = h
  right_up_to low high p (i.Flag b) l h = h
  right_up_to low high p (i.Text t) l h = h
  right_up_to low high p i.Drop l h = h
  right_up_to low high p i.Neg l h = h
  right_up_to low high p i.Not l h = h
  right_up_to low high p i.Add l h = h
  right_up_to low high p i.Sub l h = h
  right_up_to low high p i.Mul l h = h
  right_up_to low high p i.Div l h = h
  right_up_to low high p i.Rem l h = h
  right_up_to low high p i.Cat l h = h
  right_up_to low high p i.Eq l h = h
  right_up_to low high p i.Ne l h = h
  right_up_to low high p i.Lt l h = h
  right_up_to low high p i.Le l h = h
  right_up_to low high p i.Gt l h = h
  right_up_to low high p i.Ge l h = h
  right_up_to low high p i.Print l h = h
  right_up_to low high p i.End l h = h
  right_up_to low high p i.Endv l h = h
  right_up_to low high p i.Back l h = h

  -- instructions that are right up to some end are right up to a later one
  pub right_higher : (low high p : ℕ) (xs : List Instruction) → low ≤ high → AllRightIn s cs Q low p xs → AllRightIn s cs Q high p xs
  right_higher low high p [] l h = tt
  right_higher low high p (x ∷ xs) l h = (right_up_to low high p x l h.0, right_higher low high (suc p) xs l h.1)

  -- instructions are right at an equal place
  right_moved : (end p q : ℕ) (xs : List Instruction) → p ≡ q → AllRightIn s cs Q end p xs → AllRightIn s cs Q end q xs
  right_moved end p q xs e h = subst (λ r. AllRightIn s cs Q end r xs) e h

  -- two lists of right instructions are right joined
  pub joined_right : (end p : ℕ) (xs ys : List Instruction) → AllRightIn s cs Q end p xs → AllRightIn s cs Q end (p + length xs) ys → AllRightIn s cs Q end p (xs ++ ys)
  joined_right end p [] ys hx hy = let e : p + 0 ≡ p = omega arith in right_moved end (p + 0) p ys e hy
  joined_right end p (x ∷ xs) ys hx hy =
      let e : p + suc (length xs) ≡ suc p + length xs = omega arith in
      (hx.0, joined_right end (suc p) xs ys hx.1 (right_moved end (p + suc (length xs)) (suc p + length xs) ys e hy))

  -- a part whose jumps stay in it, or lead to its end
  abbrev Part : ℕ → List Instruction → Type 0
  Part p xs = AllRightIn s cs Q (p + length xs) p xs

  -- two parts joined are one
  two_parts : (p : ℕ) (xs ys : List Instruction) → Part p xs → Part (p + length xs) ys → Part p (xs ++ ys)
  two_parts p xs ys hx hy =
      let n = length-append xs ys in
      joined_right (p + length (xs ++ ys)) p xs ys (right_higher (p + length xs) (p + length (xs ++ ys)) p xs (omega (arith, n)) hx)
      (right_higher (p + length xs + length ys) (p + length (xs ++ ys)) (p + length xs) ys (omega (arith, n)) hy)

  -- two ways of a test are a part
  ways_part : (p : ℕ) (c : List Instruction) (t u : ℕ → List Instruction) → Part p c → ((a : ℕ) → Part a (t a)) → ((a : ℕ) → Part a (u a)) → Part p (ways_code p c t u)
  ways_part p c t u hc ht hu =
      let a1 = p + length c + 1 in
      let first = t a1 in
      let a2 = a1 + length first + 1 in
      let other = u a2 in
      let tail : List Instruction = i.Skip a2 ∷ (first ++ (i.Jump (a2 + length other) ∷ other)) in
      let n1 = length-append c tail in
      let n2 = length-append first (i.Jump (a2 + length other) ∷ other) in
      let end = p + length (c ++ tail) in
      joined_right end p c tail (right_higher (p + length c) end p c (omega (arith, n1)) hc) (
        (omega arith, omega (arith, n1, n2)),
        joined_right end (suc (p + length c)) first (i.Jump (a2 + length other) ∷ other)
            (right_moved end a1 (suc (p + length c)) first (omega arith) (right_higher (a1 + length first) end a1 first (omega (arith, n1, n2)) (ht a1)))
            ((omega arith, omega (arith, n1, n2)), right_moved end a2 (suc (suc (p + length c) + length first)) other (omega arith) (right_higher (a2 + length other) end a2 other (omega (arith, n1, n2)) (hu a2))),
      )

  -- one way of a test is a part
  way_part : (p : ℕ) (c : List Instruction) (t : ℕ → List Instruction) → Part p c → ((a : ℕ) → Part a (t a)) → Part p (way_code p c t)
  way_part p c t hc ht =
      let a1 = p + length c + 1 in
      let first = t a1 in
      let tail : List Instruction = i.Skip (a1 + length first) ∷ first in
      let n1 = length-append c tail in
      let end = p + length (c ++ tail) in
      joined_right end p c tail (right_higher (p + length c) end p c (omega (arith, n1)) hc)
      ((omega arith, omega (arith, n1)), right_moved end a1 (suc (p + length c)) first (omega arith) (right_higher (a1 + length first) end a1 first (omega (arith, n1)) (ht a1)))

-- the instruction of an operator is right everywhere
operator_right : (s cs : ℕ) (Q : ℕ → Type 0) (end p : ℕ) (operation : Operation) → RightIn s cs Q end p (operator_code operation)
operator_right s cs Q end p op.Add = tt
operator_right s cs Q end p op.Subtract = tt
operator_right s cs Q end p op.Multiply = tt
operator_right s cs Q end p op.Divide = tt
operator_right s cs Q end p op.Remainder = tt
operator_right s cs Q end p op.Join = tt
operator_right s cs Q end p op.Equal = tt
operator_right s cs Q end p op.NotEqual = tt
operator_right s cs Q end p op.Less = tt
operator_right s cs Q end p op.Greater = tt
operator_right s cs Q end p op.LessOrEqual = tt
operator_right s cs Q end p op.GreaterOrEqual = tt

-- what ends by an instruction is not empty
ends_some : (xs : List Instruction) (x : Instruction) → 1 ≤ length (xs ++ x ∷ [])
ends_some xs x = let n = length-append xs (x ∷ []) in omega (arith, n)

-- what begins by instructions is not empty
front_some : (xs ys : List Instruction) → 1 ≤ length xs → 1 ≤ length (xs ++ ys)
front_some xs ys h = let n = length-append xs ys in omega (arith, n, h)

-- the code of an expression is not empty
some_code : (e : ExprOf) (p : ℕ) → 1 ≤ length (expr_code e p)
some_code (IntOf n) p = omega arith
some_code (FlagOf b) p = omega arith
some_code (TextOf t) p = omega arith
some_code (Load k) p = omega arith
some_code This p = omega arith
some_code (Negate e) p = ends_some (expr_code e p) i.Neg
some_code (Deny e) p = ends_some (expr_code e p) i.Not
some_code (Operate operation l r) p =
    let x = expr_code l p in
    let y : List Instruction = expr_code r (p + length x) ++ operator_code operation ∷ [] in
    let n = length-append x y in
    let k = ends_some (expr_code r (p + length x)) (operator_code operation) in
    omega (arith, n, k)
some_code (Both l r) p = front_some (expr_code l p) _ (some_code l p)
some_code (Either l r) p = front_some (expr_code l p) _ (some_code l p)
some_code (New c args) p = ends_some (exprs_code args p) (i.New c (argument_count args))
some_code (Call e c j result args) p = front_some (expr_code e p) _ (some_code e p)

-- a scope that extends another has as many slots
same_length : (a g : Scope) → Extends a g → length a ≡ length g
same_length [] [] e = refl
same_length (x ∷ a) (y ∷ g) e = ap suc (same_length a g e.1)
same_length [] (y ∷ g) e = absurd e
same_length (x ∷ a) [] e = absurd e

-- a scope in which a slot is declared has as many slots
declared_length : (k : ℕ) (t : StaticType) (g : Scope) → length (declared k t g) ≡ length g
declared_length k t [] = refl
declared_length zero t (x ∷ g) = refl
declared_length (suc k) t (x ∷ g) = ap suc (declared_length k t g)

-- a statement leaves as many slots as it found
stmt_length : (sig : Signatures) (types : Scope) (due : ValueDue) (x : StmtOf) (g d : Scope) → StmtIs sig types due x g d → length d ≡ length g
stmt_length sig types due (Store k e) g d is = ap length is.8 ∙ declared_length k is.1 g
stmt_length sig types due (Do e) g d is = ap length is.2
stmt_length sig types due (Send e c j args) g d is = ap length is.5
stmt_length sig types due (Print e) g d is = ap length is.3
stmt_length sig types due (IfThen e x) g d is = ap length is.4
stmt_length sig types due (IfElse e x u) g d is = ap length is.7
stmt_length sig types due (While e x) g d is = ap length is.4
stmt_length sig types due Return g d is = ap length is.1
stmt_length sig types due (Give e) g d is = ap length is.5
stmt_length sig types due (StmtBlock xs) g d is = ap length is.3

-- a body begins in as many slots as it has
pub opening_length : (b : BodyOf) → length (opening b) ≡ slots_of b
opening_length b =
    let some : StaticType → Option StaticType = λ t. Some t in
    let none : StaticType → Option StaticType = λ t. None in
    let n = length-append (map some b.parameters) (map none b.locals) in
    let ps = mapped_length some b.parameters in
    let ls = mapped_length none b.locals in
    omega (arith, n, ps, ls)

module _ (sig : Signatures) (p : Resolved) (plan : IsPlanned sig p) where
  -- arguments are as many as their parameters
  pub arguments_count : (g : Scope) (args : ExprsOf) (ps : List StaticType) → ExprsAre sig g args ps → argument_count args ≡ length ps
  arguments_count g NoExprs [] e = refl
  arguments_count g (MoreExprs x rest) (t ∷ ps) e = ap suc (arguments_count g rest ps e.3)
  arguments_count g NoExprs (t ∷ ps) e = absurd e
  arguments_count g (MoreExprs x rest) [] e = absurd e

  -- a method of a signature has a number below 16, and at most eight parameters
  pub method_right : (c j : ℕ) (m : Signature) (n : ℕ) → sig.methods c j ≡ Some m → n ≡ length m.parameters → (j < 16) × (n ≤ 8)
  method_right c j m n e k =
      let q = plan.methods c j m e in
      let within = slice_get_within q.0.methods j q.1 q.3 in
      let few = plan.few_methods c q.0 q.2 in
      let parameters = plan.few_parameters c j q.0 q.1 q.2 q.3 in
      let same = q.5 in
      (omega (arith, within, few), omega (arith, k, parameters, same))

  -- a class that is built is one of the plan's, of at most eight parameters
  pub new_right : (c : ℕ) (ps : List StaticType) (n : ℕ) → sig.builders c ≡ Some ps → n ≡ length ps → (c < length p.classes) × (n ≤ 8)
  new_right c ps n e k =
      let x = plan.classes c ps e in
      let few = plan.few_built c ps e in
      (slice_get_within p.classes c x.0 x.1, omega (arith, k, few))

  module _ (s : ℕ) (Q : ℕ → Type 0) where
    mutual
      -- the code of an expression that keeps to its type is a part
      expression_part : (e : ExprOf) (g : Scope) (t : Option StaticType) → ExprIs sig g e t → length g ≡ s → (a : ℕ) → Part s (length p.classes) Q a (expr_code e a)
      expression_part (IntOf n) g t e l a = (tt, tt)
      expression_part (FlagOf b) g t e l a = (tt, tt)
      expression_part (TextOf x) g t e l a = (tt, tt)
      expression_part (Load k) g t e l a = (subst (λ z. k < z) l (slice_get_within g k (Some e.0) e.1), tt)
      expression_part This g t e l a = (subst (λ z. 0 < z) l (slice_get_within g 0 (Some e.0) e.1), tt)
      expression_part (Negate x) g t e l a = two_parts s (length p.classes) Q a (expr_code x a) _ (expression_part x g (Some ty.Int) e.0 l a) (tt, tt)
      expression_part (Deny x) g t e l a = two_parts s (length p.classes) Q a (expr_code x a) _ (expression_part x g (Some ty.Bool) e.0 l a) (tt, tt)
      expression_part (Operate operation x y) g t e l a =
          two_parts s (length p.classes) Q a (expr_code x a) _ (expression_part x g (Some e.0) e.3 l a) (two_parts s (length p.classes) Q _ (expr_code y (a + length (expr_code x a))) _ (expression_part y g (Some e.1) e.4 l _) (operator_right s (length p.classes) Q _ _ operation, tt))
      expression_part (Both x y) g t e l a = ways_part s (length p.classes) Q a (expr_code x a) (expr_code y) (λ b. i.Flag false ∷ []) (expression_part x g (Some ty.Bool) e.0 l a) (λ b. expression_part y g (Some ty.Bool) e.1 l b) (λ b. (tt, tt))
      expression_part (Either x y) g t e l a = ways_part s (length p.classes) Q a (expr_code x a) (λ b. i.Flag true ∷ []) (expr_code y) (expression_part x g (Some ty.Bool) e.0 l a) (λ b. (tt, tt)) (λ b. expression_part y g (Some ty.Bool) e.1 l b)
      expression_part (New c args) g t e l a = two_parts s (length p.classes) Q a (exprs_code args a) _ (arguments_part args g e.0 e.2 l a) (new_right c e.0 (argument_count args) e.1 (arguments_count g args e.0 e.2), tt)
      expression_part (Call x c j result args) g t e l a =
          two_parts s (length p.classes) Q a (expr_code x a) _ (expression_part x g (Some (ty.Class c)) e.1 l a)
          (two_parts s (length p.classes) Q _ (exprs_code args (a + length (expr_code x a))) _ (arguments_part args g e.0.parameters e.4 l _) (method_right c j e.0 (argument_count args) e.2 (arguments_count g args e.0.parameters e.4), tt))

      -- the code of arguments that fit their parameters is a part
      arguments_part : (args : ExprsOf) (g : Scope) (ps : List StaticType) → ExprsAre sig g args ps → length g ≡ s → (a : ℕ) → Part s (length p.classes) Q a (exprs_code args a)
      arguments_part NoExprs g [] e l a = tt
      arguments_part (MoreExprs x rest) g (t ∷ ps) e l a = two_parts s (length p.classes) Q a (expr_code x a) _ (expression_part x g (Some e.0) e.1 l a) (arguments_part rest g ps e.3 l _)
      arguments_part NoExprs g (t ∷ ps) e l a = absurd e
      arguments_part (MoreExprs x rest) g [] e l a = absurd e

    -- the instruction of `return` is a part
    return_part : (b : Bool) (a : ℕ) → Part s (length p.classes) Q a (return_code b ∷ [])
    return_part true a = (tt, tt)
    return_part false a = (tt, tt)

    mutual
      -- the code of a statement that keeps to its types is a part
      statement_part : (b : Bool) (types : Scope) (due : ValueDue) (x : StmtOf) (g d : Scope) → StmtIs sig types due x g d → length g ≡ s → (a : ℕ) → Part s (length p.classes) Q a (stmt_code b x a)
      statement_part b types due (Store k e) g d is l a = two_parts s (length p.classes) Q a (expr_code e a) _ (expression_part e g (Some is.0) is.3 l a) (subst (λ z. k < z) l (slice_get_within g k is.2 is.6), tt)
      statement_part b types due (Do e) g d is l a = two_parts s (length p.classes) Q a (expr_code e a) _ (expression_part e g is.0 is.1 l a) (tt, tt)
      statement_part b types due (Send e c j args) g d is l a =
          two_parts s (length p.classes) Q a (expr_code e a) _ (expression_part e g (Some (ty.Class c)) is.1 l a)
          (two_parts s (length p.classes) Q _ (exprs_code args (a + length (expr_code e a))) _ (arguments_part args g is.0.parameters is.4 l _) (method_right c j is.0 (argument_count args) is.2 (arguments_count g args is.0.parameters is.4), tt))
      statement_part b types due (Print e) g d is l a = two_parts s (length p.classes) Q a (expr_code e a) _ (expression_part e g (Some is.0) is.1 l a) (tt, tt)
      statement_part b types due (IfThen e x) g d is l a = way_part s (length p.classes) Q a (expr_code e a) (stmt_code b x) (expression_part e g (Some ty.Bool) is.1 l a) (λ c. statement_part b types due x g is.0 is.2 l c)
      statement_part b types due (IfElse e x u) g d is l a = ways_part s (length p.classes) Q a (expr_code e a) (stmt_code b x) (stmt_code b u) (expression_part e g (Some ty.Bool) is.2 l a) (λ c. statement_part b types due x g is.0 is.3 l c) (λ c. statement_part b types due u g is.1 is.4 l c)
      statement_part b types due (While e x) g d is l a =
          let inner = stmt_code b x (a + 1) in
          let test = a + 1 + length inner in
          let c = expr_code e test in
          let tail : List Instruction = c ++ i.Again (a + 1) ∷ [] in
          let n1 = length-append inner tail in
          let n2 = length-append c (i.Again (a + 1) ∷ []) in
          let some = some_code e test in
          let end = a + length (i.Jump test ∷ (inner ++ tail)) in
          let cs = length p.classes in (
            (omega arith, omega (arith, n1, n2)),
            joined_right s cs Q end (suc a) inner tail
                (right_moved s cs Q end (a + 1) (suc a) inner (omega arith) (right_higher s cs Q (a + 1 + length inner) end (a + 1) inner (omega (arith, n1, n2)) (statement_part b types due x g is.0 is.2 l (a + 1))))
                (joined_right s cs Q end (suc a + length inner) c (i.Again (a + 1) ∷ [])
                (right_moved s cs Q end test (suc a + length inner) c (omega arith) (right_higher s cs Q (test + length c) end test c (omega (arith, n1, n2)) (expression_part e g (Some ty.Bool) is.1 l test)))
                (omega (arith, some), tt)),
          )
      statement_part b types due Return g d is l a = return_part b a
      statement_part b types due (Give e) g d is l a = two_parts s (length p.classes) Q a (expr_code e a) _ (expression_part e g (Some is.0) is.2 l a) (tt, tt)
      statement_part b types due (StmtBlock xs) g d is l a = statements_part b types due xs g is.0 is.1 l a

      -- the code of statements that keep to their types is a part
      pub statements_part : (b : Bool) (types : Scope) (due : ValueDue) (xs : StmtsOf) (g d : Scope) → StmtsAre sig types due xs g d → length g ≡ s → (a : ℕ) → Part s (length p.classes) Q a (stmts_code b xs a)
      statements_part b types due NoStmts g d is l a = tt
      statements_part b types due (MoreStmts x rest) g d is l a = two_parts s (length p.classes) Q a (stmt_code b x a) _ (statement_part b types due x g is.0 is.1 l a) (statements_part b types due rest is.0 d is.2 (stmt_length sig types due x g is.0 is.1 ∙ l) _)
