-- How many chains in memory begin with a chain of their own kind, node by node.
use Rattle.std.proofs.Common.{◌≡◌, ◌≤◌, ℕ, ◌+◌, List, [], ◌∷◌, ◌++◌, map, refl, sym, ap, ◌∙◌, arith}
use Rattle.std.specs.Prelude.{Vec, Box, ℤ, sum_by}
use Rattle.std.specs.Global.{Global}
use Rattle.std.proofs.lemmas.List.Sums.{sum-map, sum_by-cons, sum_by_push}
use Rattle.chord_bodies.specs.declared.expr.Expr.{Expr}
use Rattle.chord_bodies.specs.declared.expr.Link.{Link, out-Link}
use Rattle.chord_bodies.specs.declared.expr.Expr.TheVariants as expr
use Rattle.chord_bodies.specs.declared.expr.Expr.TheOpen as nodes
use Rattle.chord_bodies.specs.declared.expr.Expr.TheFolds.{fold-roll-Expr, fold_out-Link}
use Rattle.chord_bodies.specs.declared.stmt.Stmt.{Stmt}
use Rattle.chord_bodies.specs.declared.stmt.Stmt.TheVariants as stmt
use Rattle.chord_bodies.specs.declared.stmt.Stmt.TheOpen as stmt_nodes
use Rattle.chord_bodies.specs.declared.stmt.Stmt.TheFolds.{fold-roll-Stmt}
use Rattle.chord_types.specs.Flat.{ChainCount, expr_count_step, call_count_step, link_count_step, stmt_count_step, chain_count, all_doubled, doubled, doubled_link, doubled_stmt}

-- the doubled chains in `this`
pub doubled_this : doubled expr.This ≡ 0
doubled_this = ap doubled (sym expr.rolls-This) ∙ ap (λ (c : ChainCount). c.doubled) (fold-roll-Expr ChainCount ℕ ℕ expr_count_step call_count_step link_count_step nodes.This)

-- what is bounded by the doubled chains in `this` and others is bounded by the others
pub beside_this : (n m : ℕ) → n ≤ doubled expr.This + m → n ≤ m
beside_this n m h = let t = doubled_this in omega arith

-- the doubled chains in an int
pub doubled_int : (value : ℤ) → doubled (expr.Int value) ≡ 0
doubled_int value = ap doubled (sym (expr.rolls-Int value)) ∙ ap (λ (c : ChainCount). c.doubled) (fold-roll-Expr ChainCount ℕ ℕ expr_count_step call_count_step link_count_step (nodes.Int value))

-- the doubled chains in a negation
pub doubled_negate : (operand : Box Expr Global) → doubled (expr.Negate operand) ≡ doubled operand.value
doubled_negate operand = ap doubled (sym (expr.rolls-Negate operand)) ∙ ap (λ (c : ChainCount). c.doubled) (fold-roll-Expr ChainCount ℕ ℕ expr_count_step call_count_step link_count_step (nodes.Negate operand))

-- the doubled chains in a denial
pub doubled_deny : (operand : Box Expr Global) → doubled (expr.Deny operand) ≡ doubled operand.value
doubled_deny operand = ap doubled (sym (expr.rolls-Deny operand)) ∙ ap (λ (c : ChainCount). c.doubled) (fold-roll-Expr ChainCount ℕ ℕ expr_count_step call_count_step link_count_step (nodes.Deny operand))

-- the doubled chains that are counted of expressions are those in them
doubled_counts : (es : List Expr) → all_doubled (map chain_count es) ≡ sum_by doubled es
doubled_counts [] = refl
doubled_counts (e ∷ es) = sum_by-cons (λ (c : ChainCount). c.doubled) (chain_count e) (map chain_count es) ∙ ap (λ z. doubled e + z) (doubled_counts es) ∙ sym (sum_by-cons doubled e es)

-- the doubled chains in a new object
pub doubled_new : (class : ℕ) (arguments : Vec Expr Global) → doubled (expr.New class arguments) ≡ sum_by doubled arguments.items
doubled_new class arguments = ap doubled (sym (expr.rolls-New class arguments)) ∙ ap (λ (c : ChainCount). c.doubled) (fold-roll-Expr ChainCount ℕ ℕ expr_count_step call_count_step link_count_step (nodes.New class arguments)) ∙ doubled_counts arguments.items

-- the doubled chains in a link
pub doubled_operand : (link : Link) → doubled_link link ≡ doubled (out-Link link).operand
doubled_operand link = fold_out-Link ChainCount ℕ ℕ expr_count_step call_count_step link_count_step link

-- the doubled chains in a store
pub doubled_store : (slot : ℕ) (value : Expr) → doubled_stmt (stmt.Store slot value) ≡ doubled value
doubled_store slot value = ap doubled_stmt (sym (stmt.rolls-Store slot value)) ∙ fold-roll-Stmt ℕ stmt_count_step (stmt_nodes.Store slot value)

-- the doubled chains in a value that is dropped
pub doubled_do : (value : Expr) → doubled_stmt (stmt.Do value) ≡ doubled value
doubled_do value = ap doubled_stmt (sym (stmt.rolls-Do value)) ∙ fold-roll-Stmt ℕ stmt_count_step (stmt_nodes.Do value)

-- the doubled chains in an `if` without `else`
pub doubled_if : (test : Expr) (first : Box Stmt Global) → doubled_stmt (stmt.If test first) ≡ doubled test + doubled_stmt first.value
doubled_if test first = ap doubled_stmt (sym (stmt.rolls-If test first)) ∙ fold-roll-Stmt ℕ stmt_count_step (stmt_nodes.If test first)

-- the doubled chains in an `if` with `else`
pub doubled_if_else : (test : Expr) (first second : Box Stmt Global) → doubled_stmt (stmt.IfElse test first second) ≡ doubled test + doubled_stmt first.value + doubled_stmt second.value
doubled_if_else test first second = ap doubled_stmt (sym (stmt.rolls-IfElse test first second)) ∙ fold-roll-Stmt ℕ stmt_count_step (stmt_nodes.IfElse test first second)

-- the doubled chains in a `while`
pub doubled_while : (test : Expr) (body : Box Stmt Global) → doubled_stmt (stmt.While test body) ≡ doubled test + doubled_stmt body.value
doubled_while test body = ap doubled_stmt (sym (stmt.rolls-While test body)) ∙ fold-roll-Stmt ℕ stmt_count_step (stmt_nodes.While test body)

-- the doubled chains in a `return` with a value
pub doubled_give : (value : Expr) → doubled_stmt (stmt.Give value) ≡ doubled value
doubled_give value = ap doubled_stmt (sym (stmt.rolls-Give value)) ∙ fold-roll-Stmt ℕ stmt_count_step (stmt_nodes.Give value)

-- the doubled chains in a block
pub doubled_block : (stmts : Vec Stmt Global) → doubled_stmt (stmt.Block stmts) ≡ sum_by doubled_stmt stmts.items
doubled_block stmts = ap doubled_stmt (sym (stmt.rolls-Block stmts)) ∙ fold-roll-Stmt ℕ stmt_count_step (stmt_nodes.Block stmts) ∙ sum-map doubled_stmt stmts.items

-- one element more in which nothing is counted leaves a sum as it was
pub same_sum : {A : Type 0} (f : A → ℕ) (n : ℕ) (xs ys : List A) (x : A) → ys ≡ xs ++ (x ∷ []) → sum_by f xs ≡ n → f x ≡ 0 → sum_by f ys ≡ n
same_sum f n xs ys x e h k = let s : sum_by f ys ≡ sum_by f xs + f x = ap (sum_by f) e ∙ sum_by_push f xs x in omega arith
