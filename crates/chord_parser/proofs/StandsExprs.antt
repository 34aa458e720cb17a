-- What each production of calls and expressions gives.
use Rattle.std.proofs.Common.{◌≡◌, ℕ, suc, ◌-◌, ◌≤◌, cond, [], ◌∷◌, drop, refl, sym, ap, ◌∙◌, arith, inl, inr}
use Rattle.std.proofs.lemmas.Bool.{lt-ltb}
use Rattle.chord_tree.specs.declared.exprs.Operator.{Operator}
use Rattle.chord_tree.specs.declared.exprs.Operator.TheVariants as operators
use Rattle.chord_tree.specs.Symbols as grammar
use Rattle.chord_tree.specs.Grammar.{productions}
use Rattle.chord_tree.specs.Node.{Node, End, ◌▸◌, Made}
use Rattle.chord_tree.specs.Tree.{ChainExpr, MinusExpr, NotExpr, PrimaryExpr, NoLinks, MoreLinks, MakeLink, VariableStart, CallStart, ThisStart, NewStart, NumberStart, LiteralStart, TrueStart, FalseStart, GroupStart, MakeActuals, NoExprs, MoreExprs, NoDots, MoreDots, MakeDot}
use Rattle.chord_tree.specs.ExprNodes.{mark_leaf, mark_of, operator_level, level_symbol, level_tail, precedence, alone, lifted, bare, node_at, node_links}
use Rattle.chord_parser.proofs.Chains.{joined_node}
use Rattle.chord_parser.proofs.Stands.{IsLevel, IsTail, Gives, AllGive, nothing, ◌&◌, last, ◌⊳◌}

-- "." Name Actuals
dot : Gives grammar.Dot (grammar.DOT ∷ grammar.NAME ∷ grammar.Actuals ∷ [])
dot _ ((at, e) & (x, f) & (a, g) & nothing) = (MakeDot at x a, rw (e, f, g) refl)

-- no calls
no_dots : Gives grammar.Dots []
no_dots _ nothing = (NoDots, refl)

-- a call, and then others
more_dots : Gives grammar.Dots (grammar.Dot ∷ grammar.Dots ∷ [])
more_dots _ ((MakeDot at x a, e) & (ds, f) & nothing) = (MoreDots (MakeDot at x a) ds, rw (e, f) refl)

-- arguments in brackets
actuals : Gives grammar.Actuals (grammar.OPEN ∷ grammar.Optional_exprs ∷ grammar.CLOSE ∷ [])
actuals _ ((at, e) & (es, f) & g & nothing) = (MakeActuals at es, rw (e, f, g) refl)

-- no arguments
no_exprs : Gives grammar.Optional_exprs []
no_exprs _ nothing = (NoExprs, refl)

-- an argument, and then others
some_exprs : Gives grammar.Optional_exprs (grammar.Expr ∷ grammar.More_exprs ∷ [])
some_exprs _ ((e, f, l) & (es, g) & nothing) = (MoreExprs e es, rw (f, g) refl)

-- no further arguments
no_more_exprs : Gives grammar.More_exprs []
no_more_exprs _ nothing = (NoExprs, refl)

-- a further argument, and then others
more_exprs : Gives grammar.More_exprs (grammar.COMMA ∷ grammar.Expr ∷ grammar.More_exprs ∷ [])
more_exprs _ (c & (e, f, l) & (es, g) & nothing) = (MoreExprs e es, rw (c, f, g) refl)

-- what is of a level as what is of the next
next_level : (l p : ℕ) (n : Node) → p ≤ l → lifted (suc l) p n ≡ alone (suc l) (lifted l p n)
next_level l p n h = ap (λ b. cond b (alone (suc l) (lifted l p n)) n) (lt-ltb p (suc l) (omega (arith, h)))

-- an operand of a level, with further ones or without
level : (l : ℕ) (a t : Node) → IsLevel l a → IsTail (suc l) t → IsLevel (suc l) (Made (level_symbol (suc l)) (a ▸ t ▸ End))
level l a t (e, f, m) (NoLinks, g, h) = (e, rw (f, g) (sym (next_level l (precedence e) (bare e) m)), omega (arith, m))
level l a t (e, f, m) (MoreLinks x xs, g, h) = (
  ChainExpr e x xs,
  (let down : suc l - 1 ≡ l = omega arith in rw (f, g) (ap (λ z. Made (level_symbol (suc l)) (node_at z e ▸ node_links (suc l) (MoreLinks x xs) ▸ End)) (sym down) ∙ sym (joined_node (suc l) e x xs h))),
  omega (arith, h),
)

-- no further operand of a level
no_links : (l : ℕ) → IsTail l (Made (level_tail l) End)
no_links l = (NoLinks, refl, tt)

-- an operator and its right operand, and then others of its level
link : (o : Operator) (m t ls : Node) (at : ℕ) → m ≡ mark_leaf (mark_of o) at → IsLevel (operator_level o - 1) t → IsTail (operator_level o) ls → IsTail (operator_level o) (Made (level_tail (operator_level o)) (m ▸ t ▸ ls ▸ End))
link o m t ls at e (x, f, h) (xs, g, i) = (MoreLinks (MakeLink o at x) xs, rw (e, f, g) refl, refl)

-- And { "||" And }
or : Gives grammar.Expr (grammar.And ∷ grammar.More_or ∷ [])
or _ (a & t & nothing) = level 5 _ _ a t

-- no further And
no_or : Gives grammar.More_or []
no_or _ nothing = no_links 6

-- a further And
more_or : Gives grammar.More_or (grammar.OR ∷ grammar.And ∷ grammar.More_or ∷ [])
more_or _ ((at, e) & t & ls & nothing) = link operators.Or _ _ _ at e t ls

-- Equal { "&&" Equal }
and : Gives grammar.And (grammar.Equal ∷ grammar.More_and ∷ [])
and _ (a & t & nothing) = level 4 _ _ a t

-- no further Equal
no_and : Gives grammar.More_and []
no_and _ nothing = no_links 5

-- a further Equal
more_and : Gives grammar.More_and (grammar.AND ∷ grammar.Equal ∷ grammar.More_and ∷ [])
more_and _ ((at, e) & t & ls & nothing) = link operators.And _ _ _ at e t ls

-- Order { ( "==" | "!=" ) Order }
equal : Gives grammar.Equal (grammar.Order ∷ grammar.More_equal ∷ [])
equal _ (a & t & nothing) = level 3 _ _ a t

-- no further Order
no_equal : Gives grammar.More_equal []
no_equal _ nothing = no_links 4

-- a further Order after `==`
more_equal : Gives grammar.More_equal (grammar.EQUAL ∷ grammar.Order ∷ grammar.More_equal ∷ [])
more_equal _ ((at, e) & t & ls & nothing) = link operators.Equal _ _ _ at e t ls

-- a further Order after `!=`
more_not_equal : Gives grammar.More_equal (grammar.NOT_EQUAL ∷ grammar.Order ∷ grammar.More_equal ∷ [])
more_not_equal _ ((at, e) & t & ls & nothing) = link operators.NotEqual _ _ _ at e t ls

-- Sum { ( "<" | ">" | "<=" | ">=" ) Sum }
order : Gives grammar.Order (grammar.Sum ∷ grammar.More_order ∷ [])
order _ (a & t & nothing) = level 2 _ _ a t

-- no further Sum
no_order : Gives grammar.More_order []
no_order _ nothing = no_links 3

-- a further Sum after `<`
more_less : Gives grammar.More_order (grammar.LESS ∷ grammar.Sum ∷ grammar.More_order ∷ [])
more_less _ ((at, e) & t & ls & nothing) = link operators.Less _ _ _ at e t ls

-- a further Sum after `>`
more_greater : Gives grammar.More_order (grammar.GREATER ∷ grammar.Sum ∷ grammar.More_order ∷ [])
more_greater _ ((at, e) & t & ls & nothing) = link operators.Greater _ _ _ at e t ls

-- a further Sum after `<=`
more_less_or_equal : Gives grammar.More_order (grammar.LESS_OR_EQUAL ∷ grammar.Sum ∷ grammar.More_order ∷ [])
more_less_or_equal _ ((at, e) & t & ls & nothing) = link operators.LessOrEqual _ _ _ at e t ls

-- a further Sum after `>=`
more_greater_or_equal : Gives grammar.More_order (grammar.GREATER_OR_EQUAL ∷ grammar.Sum ∷ grammar.More_order ∷ [])
more_greater_or_equal _ ((at, e) & t & ls & nothing) = link operators.GreaterOrEqual _ _ _ at e t ls

-- Product { ( "+" | "-" ) Product }
sum : Gives grammar.Sum (grammar.Product ∷ grammar.More_sum ∷ [])
sum _ (a & t & nothing) = level 1 _ _ a t

-- no further Product
no_sum : Gives grammar.More_sum []
no_sum _ nothing = no_links 2

-- a further Product after `+`
more_plus : Gives grammar.More_sum (grammar.PLUS ∷ grammar.Product ∷ grammar.More_sum ∷ [])
more_plus _ ((at, e) & t & ls & nothing) = link operators.Plus _ _ _ at e t ls

-- a further Product after `-`
more_minus : Gives grammar.More_sum (grammar.MINUS ∷ grammar.Product ∷ grammar.More_sum ∷ [])
more_minus _ ((at, e) & t & ls & nothing) = link operators.Minus _ _ _ at e t ls

-- Unary { ( "*" | "/" | "%" ) Unary }
product : Gives grammar.Product (grammar.Unary ∷ grammar.More_product ∷ [])
product _ (a & t & nothing) = level 0 _ _ a t

-- no further Unary
no_product : Gives grammar.More_product []
no_product _ nothing = no_links 1

-- a further Unary after `*`
more_times : Gives grammar.More_product (grammar.TIMES ∷ grammar.Unary ∷ grammar.More_product ∷ [])
more_times _ ((at, e) & t & ls & nothing) = link operators.Times _ _ _ at e t ls

-- a further Unary after `/`
more_divide : Gives grammar.More_product (grammar.DIVIDE ∷ grammar.Unary ∷ grammar.More_product ∷ [])
more_divide _ ((at, e) & t & ls & nothing) = link operators.Divide _ _ _ at e t ls

-- a further Unary after `%`
more_remainder : Gives grammar.More_product (grammar.REMAINDER ∷ grammar.Unary ∷ grammar.More_product ∷ [])
more_remainder _ ((at, e) & t & ls & nothing) = link operators.Remainder _ _ _ at e t ls

-- "-" Unary
minus : Gives grammar.Unary (grammar.MINUS ∷ grammar.Unary ∷ [])
minus _ ((at, e) & (x, f, l) & nothing) = (MinusExpr at x, rw (e, f) refl, omega arith)

-- "!" Unary
not_unary : Gives grammar.Unary (grammar.NOT ∷ grammar.Unary ∷ [])
not_unary _ ((at, e) & (x, f, l) & nothing) = (NotExpr at x, rw (e, f) refl, omega arith)

-- an operand with its calls is a Unary
as_unary : Gives grammar.Unary (grammar.Primary ∷ [])
as_unary _ ((s, ds, e) & nothing) = (PrimaryExpr s ds, rw e refl, omega arith)

-- an operand, and the calls on it
primary : Gives grammar.Primary (grammar.Operand_start ∷ grammar.Dots ∷ [])
primary _ ((s, e) & (ds, f) & nothing) = (s, ds, rw (e, f) refl)

-- a name, and its arguments if it has any
named : Gives grammar.Operand_start (grammar.NAME ∷ grammar.Optional_actuals ∷ [])
named _ ((x, e) & inl f & nothing) = (VariableStart x, rw (e, f) refl)
named _ ((x, e) & inr (a, f) & nothing) = (CallStart x a, rw (e, f) refl)

-- "this"
this_start : Gives grammar.Operand_start (grammar.THIS ∷ [])
this_start _ ((at, e) & nothing) = (ThisStart at, rw e refl)

-- "new" Name Actuals
new_start : Gives grammar.Operand_start (grammar.NEW ∷ grammar.NAME ∷ grammar.Actuals ∷ [])
new_start _ ((at, e) & (x, f) & (a, g) & nothing) = (NewStart at x a, rw (e, f, g) refl)

-- a number
number : Gives grammar.Operand_start (grammar.NUMBER ∷ [])
number _ ((value, at, e) & nothing) = (NumberStart value at, rw e refl)

-- a literal
literal : Gives grammar.Operand_start (grammar.LITERAL ∷ [])
literal _ ((bytes, at, e) & nothing) = (LiteralStart bytes at, rw e refl)

-- "true"
true_start : Gives grammar.Operand_start (grammar.TRUE ∷ [])
true_start _ ((at, e) & nothing) = (TrueStart at, rw e refl)

-- "false"
false_start : Gives grammar.Operand_start (grammar.FALSE ∷ [])
false_start _ ((at, e) & nothing) = (FalseStart at, rw e refl)

-- "(" Expr ")"
group : Gives grammar.Operand_start (grammar.OPEN ∷ grammar.Expr ∷ grammar.CLOSE ∷ [])
group _ ((at, e) & (x, f, l) & g & nothing) = (GroupStart at x, rw (e, f, g) refl)

-- a name without arguments
no_actuals : Gives grammar.Optional_actuals []
no_actuals _ nothing = inl refl

-- the arguments of a name
some_actuals : Gives grammar.Optional_actuals (grammar.Actuals ∷ [])
some_actuals _ ((a, e) & nothing) = inr (a, rw e refl)

-- the productions of calls and expressions, in the order of the grammar
pub exprs_give : AllGive (drop 74 productions)
unfolding productions
exprs_give =
    dot ⊳ no_dots ⊳ more_dots ⊳ actuals ⊳ no_exprs ⊳ some_exprs ⊳ no_more_exprs ⊳ more_exprs
    ⊳ or ⊳ no_or ⊳ more_or ⊳ and ⊳ no_and ⊳ more_and ⊳ equal ⊳ no_equal ⊳ more_equal ⊳ more_not_equal
    ⊳ order ⊳ no_order ⊳ more_less ⊳ more_greater ⊳ more_less_or_equal ⊳ more_greater_or_equal
    ⊳ sum ⊳ no_sum ⊳ more_plus ⊳ more_minus ⊳ product ⊳ no_product ⊳ more_times ⊳ more_divide ⊳ more_remainder
    ⊳ minus ⊳ not_unary ⊳ as_unary ⊳ primary ⊳ named ⊳ this_start ⊳ new_start ⊳ number ⊳ literal ⊳ true_start ⊳ false_start ⊳ group
    ⊳ no_actuals ⊳ some_actuals ⊳ last
