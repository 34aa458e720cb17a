-- What is emitted, piece by piece.
use Rattle.std.proofs.Common.{◌≡◌, ℕ, suc, ◌+◌, ◌<◌, ◌≤◌, List, [], ◌∷◌, ◌++◌, length, map, drop, get_or, refl, sym, ap, ◌∙◌, arith, append_assoc, length-append}
use Rattle.std.specs.Prelude.{Option, Bool, Result, Ok, Err, OnOk}
use Rattle.std.proofs.Math.Seq.{drop-cons}
use Rattle.std.proofs.Math.ListN.{drop_of_length-le}
use Rattle.chord_base.specs.declared.operation.Operation.{Operation}
use Rattle.chord_base.specs.declared.static_type.StaticType.{StaticType}
use Rattle.chord_bodies.specs.declared.expr.BinaryOperator.{BinaryOperator}
use Rattle.chord_bodies.specs.declared.expr.BinaryOperator.TheVariants.{And, Or, By}
use Rattle.chord_bodies.specs.declared.expr.Expr.{Expr}
use Rattle.chord_bodies.specs.Resolved.{ExprOf, ExprsOf, StmtOf, StmtsOf, Operate, New, Call, Send, MoreExprs, MoreStmts}
use Rattle.chord_bodies.specs.View.{LinkOf, CallOf, binary, links_on, calls_on, expr_list, view_expr}
use Rattle.chord_code.specs.declared.instruction.Instruction.{Instruction}
use Rattle.chord_code.specs.declared.instruction.Instruction.TheVariants as i
use Rattle.chord_gen.specs.Emitted.{argument_count, operator_code, expr_code, exprs_code, stmt_code, stmts_code}
use Rattle.chord_gen.specs.Emitting.{IsNarrow, GoesOnAs, AreNarrowLinks, AreNarrowCalls}
use Rattle.chord_gen.proofs.Patching.{then_emitted}

-- what follows from a fact holds where a call that gives it succeeds
pub ok_gives : {T E : Type 0} (r : Result T E) (P Q : Type 0) → (P → Q) → OnOk r P → OnOk r Q
ok_gives (Ok x) P Q f h = f h
ok_gives (Err e) P Q f h = tt

-- an item of a list, and those behind it
pub item_step : {A : Type 0} (xs : List A) (k : ℕ) (x : A) → k < length xs → x ≡ get_or xs k x → drop k xs ≡ x ∷ drop (k + 1) xs
item_step xs k x l e =
    let n : suc k ≡ k + 1 = omega arith in
    drop-cons xs k x l ∙ ap (λ y. y ∷ drop (suc k) xs) (sym e) ∙ ap (λ m. x ∷ drop m xs) n

-- the same where another value would stand for an item that is not there
pub item_from : {A : Type 0} (xs : List A) (k : ℕ) (d : A) → k < length xs → drop k xs ≡ get_or xs k d ∷ drop (k + 1) xs
item_from xs k d l = let n : suc k ≡ k + 1 = omega arith in drop-cons xs k d l ∙ ap (λ m. get_or xs k d ∷ drop m xs) n

-- behind the last item there is none
pub none_behind : {A : Type 0} (xs : List A) (k : ℕ) → length xs ≤ k → drop k xs ≡ []
none_behind xs k l = drop_of_length-le xs l

-- a number that is below a length is below a greater one
pub below_more : (n : ℕ) (xs ys zs : List Instruction) → ys ≡ xs ++ zs → n < length xs → n < length ys
below_more n xs ys zs e l = let m = ap length e ∙ length-append xs zs in omega (arith, m, l)

-- the place of an instruction that is put is below the length from then on
pub below_put : (n : ℕ) (xs ys : List Instruction) (x : Instruction) → n ≡ length xs → ys ≡ xs ++ x ∷ [] → n < length ys
below_put n xs ys x m e = let k = ap length e ∙ length-append xs (x ∷ []) in omega (arith, m, k)

-- the arguments in a list are as many as it is long
pub list_count : (es : List ExprOf) → argument_count (expr_list es) ≡ length es
list_count [] = refl
list_count (e ∷ es) = ap suc (list_count es)

-- a list that is mapped is as long
pub mapped_length : {A B : Type 0} (f : A → B) (xs : List A) → length (map f xs) ≡ length xs
mapped_length f [] = refl
mapped_length f (x ∷ xs) = ap suc (mapped_length f xs)

-- the arguments in memory are as many as their list is long
pub count_is : (es : List Expr) → argument_count (expr_list (map view_expr es)) ≡ length es
count_is es = list_count (map view_expr es) ∙ mapped_length view_expr es

-- an operator on narrow operands has narrow operands
narrow_binary : (o : BinaryOperator) (l r : ExprOf) → IsNarrow (binary o l r) → IsNarrow l × IsNarrow r
narrow_binary And l r h = h
narrow_binary Or l r h = h
narrow_binary (By operation) l r h = h

-- a narrow chain of operators has a narrow first operand and narrow operands
pub narrow_links : (ls : List LinkOf) (f : ExprOf) → IsNarrow (links_on f ls) → IsNarrow f × AreNarrowLinks ls
narrow_links [] f h = (h, tt)
narrow_links (l ∷ ls) f h =
    let q = narrow_links ls (binary l.operator f l.operand) h in
    let k = narrow_binary l.operator f l.operand q.0 in
    (k.0, (k.1, q.1))

-- a narrow chain of calls has a narrow receiver and narrow calls
pub narrow_calls : (cs : List CallOf) (f : ExprOf) → IsNarrow (calls_on f cs) → IsNarrow f × AreNarrowCalls cs
narrow_calls [] f h = (h, tt)
narrow_calls (c ∷ cs) f h =
    let q = narrow_calls cs (Call f c.class c.method c.result c.arguments) h in
    let k = q.0 in
    (k.2, ((k.0, k.1, k.3), q.1))

-- one instruction behind the code of a part
pub one_more_emitted : (base c1 c2 part : List Instruction) (x : Instruction) → c1 ≡ base ++ part → c2 ≡ c1 ++ x ∷ [] → c2 ≡ base ++ (part ++ x ∷ [])
one_more_emitted base c1 c2 part x e1 e2 = e2 ∙ ap (λ z. z ++ x ∷ []) e1 ∙ append_assoc base part (x ∷ [])

-- an expression whose form has one operand
pub unary_emitted : (base c1 c2 : List Instruction) (whole e e' : ExprOf) (x : Instruction) → expr_code whole (length base) ≡ expr_code e (length base) ++ x ∷ [] → e' ≡ e → c1 ≡ base ++ expr_code e' (length base) → c2 ≡ c1 ++ x ∷ [] → c2 ≡ base ++ expr_code whole (length base)
unary_emitted base c1 c2 whole e e' x w s e1 e2 =
    one_more_emitted base c1 c2 (expr_code e (length base)) x (e1 ∙ ap (λ z. base ++ expr_code z (length base)) s) e2 ∙ ap (λ z. base ++ z) (sym w)

-- a new object
pub new_emitted : (base c1 c2 : List Instruction) (args args' : ExprsOf) (c n : ℕ) → args' ≡ args → n ≡ argument_count args → c1 ≡ base ++ exprs_code args' (length base) → c2 ≡ c1 ++ i.New c n ∷ [] → c2 ≡ base ++ expr_code (New c args) (length base)
new_emitted base c1 c2 args args' c n s m e1 e2 =
    one_more_emitted base c1 c2 (exprs_code args (length base)) (i.New c n) (e1 ∙ ap (λ z. base ++ exprs_code z (length base)) s) e2
    ∙ ap (λ k. base ++ (exprs_code args (length base) ++ i.New c k ∷ [])) m

-- a call behind its receiver
pub call_emitted : (front old c1 c2 : List Instruction) (e : ExprOf) (args args' : ExprsOf) (c j n : ℕ) (result : Option StaticType) → args' ≡ args → n ≡ argument_count args → c1 ≡ old ++ exprs_code args' (length old) → c2 ≡ c1 ++ i.Call j n ∷ [] → old ≡ front ++ expr_code e (length front)
    → c2 ≡ front ++ expr_code (Call e c j result args) (length front)
call_emitted front old c1 c2 e args args' c j n result s m e1 e2 h =
    then_emitted front (expr_code e (length front)) (λ b. exprs_code args b ++ i.Call j (argument_count args) ∷ []) old c2 h
    (one_more_emitted old c1 c2 (exprs_code args (length old)) (i.Call j n) (e1 ∙ ap (λ z. old ++ exprs_code z (length old)) s) e2
    ∙ ap (λ k. old ++ (exprs_code args (length old) ++ i.Call j k ∷ [])) m)

-- an operator behind its left operand
pub operator_emitted : (front old c1 c2 : List Instruction) (e r : ExprOf) (operation : Operation) (x : Instruction) → x ≡ operator_code operation → c1 ≡ old ++ expr_code r (length old) → c2 ≡ c1 ++ x ∷ [] → old ≡ front ++ expr_code e (length front)
    → c2 ≡ front ++ expr_code (Operate operation e r) (length front)
operator_emitted front old c1 c2 e r operation x s e1 e2 h =
    then_emitted front (expr_code e (length front)) (λ b. expr_code r b ++ operator_code operation ∷ []) old c2 h
    (one_more_emitted old c1 c2 (expr_code r (length old)) x e1 e2 ∙ ap (λ y. old ++ (expr_code r (length old) ++ y ∷ [])) s)

-- a chain of operators
pub chain_emitted : (base c1 c2 c3 : List Instruction) (whole f f' : ExprOf) (l l' : LinkOf) (ls ls' : List LinkOf) → whole ≡ links_on f (l ∷ ls) → f' ≡ f → l' ≡ l → ls' ≡ ls → c1 ≡ base ++ expr_code f' (length base) → GoesOnAs (λ e. binary l'.operator e l'.operand) c1 c2 → GoesOnAs (λ e. links_on e ls') c2 c3
    → c3 ≡ base ++ expr_code whole (length base)
chain_emitted base c1 c2 c3 whole f f' l l' ls ls' w sf sl sls e1 g2 g3 =
    g3 base (binary l'.operator f' l'.operand) (g2 base f' e1)
    ∙ ap (λ z. base ++ expr_code z (length base))
    (ap (λ z. links_on (binary l'.operator z l'.operand) ls') sf ∙ ap (λ (z : LinkOf). links_on (binary z.operator f z.operand) ls') sl ∙ ap (links_on (binary l.operator f l.operand)) sls ∙ sym w)

-- a chain of calls
pub calls_emitted : (base c1 c2 c3 : List Instruction) (whole f f' : ExprOf) (l l' : CallOf) (ls ls' : List CallOf) → whole ≡ calls_on f (l ∷ ls) → f' ≡ f → l' ≡ l → ls' ≡ ls → c1 ≡ base ++ expr_code f' (length base) → GoesOnAs (λ e. Call e l'.class l'.method l'.result l'.arguments) c1 c2 → GoesOnAs (λ e. calls_on e ls') c2 c3
    → c3 ≡ base ++ expr_code whole (length base)
calls_emitted base c1 c2 c3 whole f f' l l' ls ls' w sf sl sls e1 g2 g3 =
    g3 base (Call f' l'.class l'.method l'.result l'.arguments) (g2 base f' e1)
    ∙ ap (λ z. base ++ expr_code z (length base))
    (ap (λ z. calls_on (Call z l'.class l'.method l'.result l'.arguments) ls') sf ∙ ap (λ (z : CallOf). calls_on (Call f z.class z.method z.result z.arguments) ls') sl ∙ ap (calls_on (Call f l.class l.method l.result l.arguments)) sls ∙ sym w)

-- one more argument of a list
pub argument_emitted : (now next all : List Instruction) (e : ExprOf) (es : ExprsOf) → now ++ exprs_code (MoreExprs e es) (length now) ≡ all → next ≡ now ++ expr_code e (length now) → next ++ exprs_code es (length next) ≡ all
argument_emitted now next all e es h k =
    let n : length next ≡ length now + length (expr_code e (length now)) = ap length k ∙ length-append now (expr_code e (length now)) in
    ap (λ m. next ++ exprs_code es m) n ∙ ap (λ z. z ++ exprs_code es (length now + length (expr_code e (length now)))) k ∙ append_assoc now (expr_code e (length now)) (exprs_code es (length now + length (expr_code e (length now)))) ∙ h

-- a message behind its receiver and arguments
pub send_emitted : (base c1 c2 c3 : List Instruction) (e : ExprOf) (args args' : ExprsOf) (c j n : ℕ) (builder : Bool) → args' ≡ args → n ≡ argument_count args → c1 ≡ base ++ expr_code e (length base) → c2 ≡ c1 ++ exprs_code args' (length c1) → c3 ≡ c2 ++ i.Send j n ∷ []
    → c3 ≡ base ++ stmt_code builder (Send e c j args) (length base)
send_emitted base c1 c2 c3 e args args' c j n builder s m e1 e2 e3 =
    then_emitted base (expr_code e (length base)) (λ b. exprs_code args b ++ i.Send j (argument_count args) ∷ []) c1 c3 e1
    (one_more_emitted c1 c2 c3 (exprs_code args (length c1)) (i.Send j n) (e2 ∙ ap (λ z. c1 ++ exprs_code z (length c1)) s) e3
    ∙ ap (λ k. c1 ++ (exprs_code args (length c1) ++ i.Send j k ∷ [])) m)

-- one more statement of a list
pub statement_emitted : (builder : Bool) (now next all : List Instruction) (s : StmtOf) (ss : StmtsOf) → now ++ stmts_code builder (MoreStmts s ss) (length now) ≡ all → next ≡ now ++ stmt_code builder s (length now) → next ++ stmts_code builder ss (length next) ≡ all
statement_emitted builder now next all s ss h k =
    let n : length next ≡ length now + length (stmt_code builder s (length now)) = ap length k ∙ length-append now (stmt_code builder s (length now)) in
    ap (λ m. next ++ stmts_code builder ss m) n ∙ ap (λ z. z ++ stmts_code builder ss (length now + length (stmt_code builder s (length now)))) k ∙ append_assoc now (stmt_code builder s (length now)) (stmts_code builder ss (length now + length (stmt_code builder s (length now)))) ∙ h
