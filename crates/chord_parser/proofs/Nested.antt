-- Expressions are nested no deeper than their tokens allow.
use Rattle.std.proofs.Common.{◌≡◌, ℕ, zero, suc, ◌+◌, ◌-◌, ◌*◌, ◌<◌, ◌≤◌, ◌⊎◌, inl, inr, Bool, true, false, cond, ◌||◌, List, [], ◌∷◌, nat_eq, nat_lt, refl, sym, ap, subst, ◌∙◌, arith}
use Rattle.std.proofs.lemmas.Bool.{ltb-true, ne_eqb, false≢true}
use Rattle.chord_lexer.specs.declared.token.Kind.{Kind}
use Rattle.chord_tree.specs.declared.exprs.Operator.{Operator}
use Rattle.chord_tree.specs.declared.exprs.Operator.TheVariants as operators
use Rattle.chord_tree.specs.Symbol.{Symbol, Terminal, Nonterminal, number_of}
use Rattle.chord_tree.specs.Symbols as grammar
use Rattle.chord_tree.specs.Grammar.{productions, counted, rule_count}
use Rattle.chord_tree.specs.Terminals.{terminal_of}
use Rattle.chord_tree.specs.Derivation.{Spelled, head_of, parts_of, inside, includes}
use Rattle.chord_tree.specs.Node.{Node, Nodes, End, ◌▸◌, Leaf, Made, spell, spell_all, Fits, FitAll, leaf, made, none, more}
use Rattle.chord_tree.specs.Tree.{ExprTree, LinkTrees, StartTree, ActualsTree, ExprTrees, DotTrees, DotTree, ChainExpr, MinusExpr, NotExpr, PrimaryExpr, NoLinks, MoreLinks, MakeLink, VariableStart, CallStart, ThisStart, NewStart, NumberStart, LiteralStart, TrueStart, FalseStart, GroupStart, MakeActuals, NoExprs, MoreExprs, NoDots, MoreDots, MakeDot}
use Rattle.chord_tree.specs.ExprNodes.{mark_leaf, mark_of, level_symbol, level_tail, operator_level, precedence, alone, lifted, bare, node_links, node_start, node_actuals, node_exprs, node_more, node_dots, node_dot, node_expr}
use Rattle.chord_tree.proofs.Ahead.{all_below, below}
use Rattle.chord_parser.specs.Nesting.{expr_depth, links_depth, start_depth, actuals_depth, exprs_depth, dots_depth, dot_depth, NoneDeeper}

-- Levels by their nonterminals.

-- the level of which a nonterminal is; of any other it is 0
abbrev level_of : Symbol → ℕ
level_of (Terminal c) = 0
level_of (Nonterminal x) =
    cond (nat_eq x (number_of grammar.Product)) 1 (cond (nat_eq x (number_of grammar.Sum)) 2 (cond (nat_eq x (number_of grammar.Order)) 3
    (cond (nat_eq x (number_of grammar.Equal)) 4 (cond (nat_eq x (number_of grammar.And)) 5 (cond (nat_eq x (number_of grammar.Expr)) 6 0)))))

-- the level whose further operands a nonterminal is; of any other it is 0
abbrev tail_level : Symbol → ℕ
tail_level (Terminal c) = 0
tail_level (Nonterminal x) =
    cond (nat_eq x (number_of grammar.More_product)) 1 (cond (nat_eq x (number_of grammar.More_sum)) 2 (cond (nat_eq x (number_of grammar.More_order)) 3
    (cond (nat_eq x (number_of grammar.More_equal)) 4 (cond (nat_eq x (number_of grammar.More_and)) 5 (cond (nat_eq x (number_of grammar.More_or)) 6 0)))))

-- the operands of a level are of lower levels
abbrev is_lower : Symbol → List Symbol → Bool
is_lower head [] = true
is_lower head (a ∷ []) = true
is_lower head (a ∷ b ∷ []) = nat_eq (level_of head) 0 || nat_lt (level_of a) (level_of head)
is_lower head (a ∷ b ∷ c ∷ []) = nat_eq (tail_level head) 0 || nat_lt (level_of b) (tail_level head)
is_lower head (a ∷ b ∷ c ∷ d ∷ others) = true

-- the operands of each production are of lower levels
check_lower : ℕ → Bool
check_lower i = is_lower (Nonterminal (head_of i)) (parts_of i)

-- so it is in the whole grammar
table_lower : all_below rule_count check_lower ≡ true
unfolding check_lower head_of parts_of productions rule_count
table_lower = refl

-- the operands of each production are of lower levels
rule_lower : (i : ℕ) → i < rule_count → is_lower (Nonterminal (head_of i)) (parts_of i) ≡ true
unfolding check_lower
rule_lower i l = below rule_count check_lower table_lower i l

-- Nodes whose operands are of lower levels, with no token that is too deep.

-- the symbol of a node
abbrev symbol_of : Node → Symbol
symbol_of (Leaf kind at) = Terminal (terminal_of kind)
symbol_of (Made part inner) = part

-- the symbols of nodes
abbrev symbols : Nodes → List Symbol
symbols End = []
symbols (node ▸ rest) = symbol_of node ∷ symbols rest

mutual
  -- a node at a depth: no token is deeper than the bound, and operands are of lower levels
  pub data Sound (bound : ℕ) : Node → ℕ → Type 0 where
    tip : {kind : Kind} {at depth : ℕ} → depth ≤ bound → Sound bound (Leaf kind at) depth
    grown : {part : Symbol} {inner : Nodes} {depth : ℕ} → is_lower part (symbols inner) ≡ true → AllSound bound inner (inside (number_of part) depth) → Sound bound (Made part inner) depth

  -- the same of nodes side by side
  pub data AllSound (bound : ℕ) : Nodes → ℕ → Type 0 where
    over : {depth : ℕ} → AllSound bound End depth
    beside : {node : Node} {rest : Nodes} {depth : ℕ} → Sound bound node depth → AllSound bound rest depth → AllSound bound (node ▸ rest) depth

-- what is known of a derived node
record Known (bound : ℕ) (part : Symbol) (depth : ℕ) (node : Node) (w : List Spelled) : Type 0 where
  pub sound : Sound bound node depth
  pub rest : NoneDeeper bound w
  pub symbol : symbol_of node ≡ part

-- what is known of derived nodes
record AllKnown (bound : ℕ) (parts : List Symbol) (depth : ℕ) (nodes : Nodes) (w : List Spelled) : Type 0 where
  pub sound : AllSound bound nodes depth
  pub rest : NoneDeeper bound w
  pub symbols_are : symbols nodes ≡ parts

mutual
  -- a derived node without a token that is too deep is sound
  known : (bound : ℕ) {p : Symbol} {d : ℕ} {n : Node} {w : List Spelled} → Fits p d n w → NoneDeeper bound (spell n d w) → Known bound p d n w
  known bound (leaf e) h = record { sound = tip h.0; rest = h.1; symbol = ap Terminal e }
  known bound (made {x} {d} {ns} {w} i l e a f) h =
      let r = all_known bound f h in
      record {
        sound = grown (subst (λ z. is_lower (Nonterminal z) (symbols ns) ≡ true) e (subst (λ z. is_lower (Nonterminal (head_of i)) z ≡ true) (sym r.symbols_are) (rule_lower i l))) r.sound;
        rest = r.rest;
        symbol = refl;
      }

  -- derived nodes without a token that is too deep are sound
  all_known : (bound : ℕ) {ps : List Symbol} {d : ℕ} {ns : Nodes} {w : List Spelled} → FitAll ps d ns w → NoneDeeper bound (spell_all ns d w) → AllKnown bound ps d ns w
  all_known bound none h = record { sound = over; rest = h; symbols_are = refl }
  all_known bound (more {p} {ps} {d} {n} {ns} {w} f g) h =
      let a = known bound f h in
      let b = all_known bound g a.rest in
      record { sound = beside a.sound b.sound; rest = b.rest; symbols_are = ap (λ z. z ∷ symbols ns) a.symbol ∙ ap (λ z. p ∷ z) b.symbols_are }

-- a derived node is sound
pub is_sound : (bound : ℕ) {p : Symbol} {d : ℕ} {n : Node} {w : List Spelled} → Fits p d n w → NoneDeeper bound (spell n d w) → Sound bound n d
is_sound bound f h = (known bound f h).sound

-- inside a node tokens are no less deep
pub inside_least : (x d : ℕ) → d ≤ inside x d
unfolding inside
inside_least x d = by_count (includes counted x)
  where
    by_count : (b : Bool) → d ≤ cond b (d + 1) d
    by_count true = omega arith
    by_count false = omega arith

-- inside a Unary tokens are one deeper
inside_unary : (d : ℕ) → inside (number_of grammar.Unary) d ≡ d + 1
unfolding inside counted
inside_unary d = refl

-- a part of a node, at a depth that is no less
pub record Beneath (bound : ℕ) (node : Node) (depth : ℕ) : Type 0 where
  pub at : ℕ
  pub least : depth ≤ at
  pub sound : Sound bound node at

-- what is lifted to a level stands in it
pub beneath : (bound l p : ℕ) (node : Node) (d : ℕ) → Sound bound (lifted l p node) d → Beneath bound node d
beneath bound zero p node d s = record { at = d; least = omega arith; sound = s }
beneath bound (suc l) p node d s = by_less (nat_lt p (suc l)) s (beneath bound l p node)
  where
    by_less : (b : Bool) → Sound bound (cond b (alone (suc l) (lifted l p node)) node) d → ((e : ℕ) → Sound bound (lifted l p node) e → Beneath bound node e) → Beneath bound node d
    by_less false t down = record { at = d; least = omega arith; sound = t }
    by_less true (grown low (beside t others)) down =
        let b = down _ t in
        let deeper = inside_least (number_of (level_symbol (suc l))) d in
        record { at = b.at; least = (let least = b.least in omega (arith, deeper, least)); sound = b.sound }

-- Levels of operators.

-- what is known of an operator's level
record IsLevel (l : ℕ) : Type 0 where
  pub level : level_of (level_symbol l) ≡ l
  pub tail : tail_level (level_tail l) ≡ l
  pub some : 1 ≤ l
  pub most : l ≤ 6

-- each operator's level is one
is_level : (operator : Operator) → IsLevel (operator_level operator)
is_level operators.Or = record { level = refl; tail = refl; some = omega arith; most = omega arith }
is_level operators.And = record { level = refl; tail = refl; some = omega arith; most = omega arith }
is_level operators.Equal = record { level = refl; tail = refl; some = omega arith; most = omega arith }
is_level operators.NotEqual = record { level = refl; tail = refl; some = omega arith; most = omega arith }
is_level operators.Less = record { level = refl; tail = refl; some = omega arith; most = omega arith }
is_level operators.Greater = record { level = refl; tail = refl; some = omega arith; most = omega arith }
is_level operators.LessOrEqual = record { level = refl; tail = refl; some = omega arith; most = omega arith }
is_level operators.GreaterOrEqual = record { level = refl; tail = refl; some = omega arith; most = omega arith }
is_level operators.Plus = record { level = refl; tail = refl; some = omega arith; most = omega arith }
is_level operators.Minus = record { level = refl; tail = refl; some = omega arith; most = omega arith }
is_level operators.Times = record { level = refl; tail = refl; some = omega arith; most = omega arith }
is_level operators.Divide = record { level = refl; tail = refl; some = omega arith; most = omega arith }
is_level operators.Remainder = record { level = refl; tail = refl; some = omega arith; most = omega arith }

-- the symbol of an expression is that of its level
bare_level : (e : ExprTree) → level_of (symbol_of (bare e)) ≡ precedence e
bare_level (ChainExpr first (MakeLink operator at operand) others) = (is_level operator).level
bare_level (MinusExpr at operand) = refl
bare_level (NotExpr at operand) = refl
bare_level (PrimaryExpr start calls) = refl

-- no level is above that of `||`
pub level_most : (e : ExprTree) → precedence e ≤ 6
level_most (ChainExpr first (MakeLink operator at operand) others) = (is_level operator).most
level_most (MinusExpr at operand) = omega arith
level_most (NotExpr at operand) = omega arith
level_most (PrimaryExpr start calls) = omega arith

-- of two truth values the first of which is false the second is true
second_true : (a b : Bool) → a ≡ false → (a || b) ≡ true → b ≡ true
second_true true b e h = absurd (false≢true (sym e))
second_true false b e h = h

-- a level is not 0
not_zero : (l : ℕ) → 1 ≤ l → nat_eq l 0 ≡ false
not_zero zero h = absurd (omega (arith, h))
not_zero (suc l) h = ne_eqb (suc l) 0 (λ e. omega (arith, e))

-- what stands below a level as a symbol is of a lower level
lifted_below : (l p : ℕ) (node : Node) (top : ℕ) → l < top → level_of (symbol_of node) ≡ p → nat_lt (level_of (symbol_of (lifted l p node))) top ≡ true → p < top
lifted_below zero p node top less e h = let low = ltb-true (level_of (symbol_of node)) top h in omega (arith, low, e)
lifted_below (suc l) p node top less e h = by_less (nat_lt p (suc l)) refl h
  where
    by_less : (b : Bool) → nat_lt p (suc l) ≡ b → nat_lt (level_of (symbol_of (cond b (alone (suc l) (lifted l p node)) node))) top ≡ true → p < top
    by_less true f t = let low = ltb-true p (suc l) f in omega (arith, low, less)
    by_less false f t = let low = ltb-true (level_of (symbol_of node)) top t in omega (arith, low, e)

-- the left operand of a level is of a lower one
left_below : (l : ℕ) → IsLevel l → (e : ExprTree) (b : Symbol) → is_lower (level_symbol l) (symbol_of (lifted (l - 1) (precedence e) (bare e)) ∷ b ∷ []) ≡ true → precedence e < l
left_below l k e b h =
    let some = k.some in
    lifted_below (l - 1) (precedence e) (bare e) l (omega (arith, some)) (bare_level e)
    (second_true (nat_eq l 0) _ (not_zero l k.some) (subst (λ z. (nat_eq z 0 || nat_lt (level_of (symbol_of (lifted (l - 1) (precedence e) (bare e)))) z) ≡ true) k.level h))

-- and so is each right one
right_below : (l : ℕ) → IsLevel l → (e : ExprTree) (a b : Symbol) → is_lower (level_tail l) (a ∷ symbol_of (lifted (l - 1) (precedence e) (bare e)) ∷ b ∷ []) ≡ true → precedence e < l
right_below l k e a b h =
    let some = k.some in
    lifted_below (l - 1) (precedence e) (bare e) l (omega (arith, some)) (bare_level e)
    (second_true (nat_eq l 0) _ (not_zero l k.some) (subst (λ z. (nat_eq z 0 || nat_lt (level_of (symbol_of (lifted (l - 1) (precedence e) (bare e)))) z) ≡ true) k.tail h))

-- Expressions.

-- a start that is one token
token_start : (bound d : ℕ) → inside (number_of grammar.Operand_start) d ≤ bound → 8 * d + 0 ≤ 8 * bound + 6
token_start bound d t = let here = inside_least (number_of grammar.Operand_start) d in omega (arith, here, t)

mutual
  -- an expression at a depth is nested no deeper than the bound allows
  pub expr_nested : (bound : ℕ) (e : ExprTree) (d : ℕ) → Sound bound (bare e) d → 8 * d + expr_depth e ≤ 8 * bound + precedence e
  expr_nested bound (ChainExpr first (MakeLink operator at operand) others) d (grown low (beside f (beside (grown lows (beside mark (beside o (beside ls over)))) over))) =
      let l = operator_level operator in
      let k = is_level operator in
      let here = inside_least (number_of (level_symbol l)) d in
      let there = inside_least (number_of (level_tail l)) (inside (number_of (level_symbol l)) d) in
      let a = beneath bound (l - 1) (precedence first) (bare first) _ f in
      let b = beneath bound (l - 1) (precedence operand) (bare operand) _ o in
      let x = expr_nested bound first a.at a.sound in
      let y = expr_nested bound operand b.at b.sound in
      let z = links_nested bound l k others _ ls in
      let p = left_below l k first (level_tail l) low in
      let q = right_below l k operand (symbol_of (mark_leaf (mark_of operator) at)) (symbol_of (node_links l others)) lows in
      let u = a.least in let v = b.least in
      omega (arith, here, there, x, y, z, p, q, u, v)
  expr_nested bound (MinusExpr at operand) d (grown low (beside mark (beside o over))) =
      let x = expr_nested bound operand _ o in let most = level_most operand in let e = inside_unary d in omega (arith, x, most, e)
  expr_nested bound (NotExpr at operand) d (grown low (beside mark (beside o over))) =
      let x = expr_nested bound operand _ o in let most = level_most operand in let e = inside_unary d in omega (arith, x, most, e)
  expr_nested bound (PrimaryExpr start calls) d (grown low (beside (grown lows (beside s (beside c over))) over)) =
      let e = inside_unary d in
      let deeper = inside_least (number_of grammar.Primary) (inside (number_of grammar.Unary) d) in
      let x = start_nested bound start _ s in
      let y = dots_nested bound calls _ c in
      omega (arith, e, deeper, x, y)

  -- so are the further operands of a level
  links_nested : (bound l : ℕ) → IsLevel l → (others : LinkTrees) (d : ℕ) → Sound bound (node_links l others) d → (links_depth others ≡ 0) ⊎ (8 * d + links_depth others + 1 ≤ 8 * bound + l)
  links_nested bound l k NoLinks d s = inl refl
  links_nested bound l k (MoreLinks (MakeLink operator at operand) others) d (grown lows (beside mark (beside o (beside ls over)))) =
      let here = inside_least (number_of (level_tail l)) d in
      let b = beneath bound (l - 1) (precedence operand) (bare operand) _ o in
      let y = expr_nested bound operand b.at b.sound in
      let z = links_nested bound l k others _ ls in
      let q = right_below l k operand (symbol_of (mark_leaf (mark_of operator) at)) (symbol_of (node_links l others)) lows in
      let v = b.least in
      inr (omega (arith, here, y, z, q, v))

  -- so is what a start holds
  start_nested : (bound : ℕ) (start : StartTree) (d : ℕ) → Sound bound (node_start start) d → 8 * d + start_depth start ≤ 8 * bound + 6
  start_nested bound (VariableStart name) d (grown low (beside (tip t) rest)) = token_start bound d t
  start_nested bound (CallStart name actuals) d (grown low (beside (tip t) (beside (grown lows (beside a over)) over))) =
      let here = inside_least (number_of grammar.Operand_start) d in
      let there = inside_least (number_of grammar.Optional_actuals) (inside (number_of grammar.Operand_start) d) in
      let x = actuals_nested bound actuals _ a in
      omega (arith, here, there, x)
  start_nested bound (ThisStart at) d (grown low (beside (tip t) rest)) = token_start bound d t
  start_nested bound (NewStart at name actuals) d (grown low (beside (tip t) (beside named (beside a over)))) =
      let here = inside_least (number_of grammar.Operand_start) d in
      let x = actuals_nested bound actuals _ a in
      omega (arith, here, x)
  start_nested bound (NumberStart value at) d (grown low (beside (tip t) rest)) = token_start bound d t
  start_nested bound (LiteralStart bytes at) d (grown low (beside (tip t) rest)) = token_start bound d t
  start_nested bound (TrueStart at) d (grown low (beside (tip t) rest)) = token_start bound d t
  start_nested bound (FalseStart at) d (grown low (beside (tip t) rest)) = token_start bound d t
  start_nested bound (GroupStart at inner) d (grown low (beside (tip t) (beside e rest))) =
      let here = inside_least (number_of grammar.Operand_start) d in
      let b = beneath bound 6 (precedence inner) (bare inner) _ e in
      let x = expr_nested bound inner b.at b.sound in
      let v = b.least in let most = level_most inner in
      omega (arith, here, x, v, most)

  -- so are arguments in brackets
  pub actuals_nested : (bound : ℕ) (actuals : ActualsTree) (d : ℕ) → Sound bound (node_actuals actuals) d → 8 * d + actuals_depth actuals ≤ 8 * bound + 6
  actuals_nested bound (MakeActuals at arguments) d (grown low (beside (tip t) (beside es rest))) =
      let here = inside_least (number_of grammar.Actuals) d in
      let x = exprs_nested bound arguments _ es in
      omega (arith, here, t, x)

  -- so are arguments
  exprs_nested : (bound : ℕ) (es : ExprTrees) (d : ℕ) → Sound bound (node_exprs es) d → (exprs_depth es ≡ 0) ⊎ (8 * d + exprs_depth es ≤ 8 * bound + 6)
  exprs_nested bound NoExprs d s = inl refl
  exprs_nested bound (MoreExprs expr others) d (grown low (beside e (beside es over))) =
      let here = inside_least (number_of grammar.Optional_exprs) d in
      let b = beneath bound 6 (precedence expr) (bare expr) _ e in
      let x = expr_nested bound expr b.at b.sound in
      let y = more_nested bound others _ es in
      let v = b.least in let most = level_most expr in
      inr (omega (arith, here, x, y, v, most))

  -- so are arguments behind the first
  more_nested : (bound : ℕ) (es : ExprTrees) (d : ℕ) → Sound bound (node_more es) d → (exprs_depth es ≡ 0) ⊎ (8 * d + exprs_depth es ≤ 8 * bound + 6)
  more_nested bound NoExprs d s = inl refl
  more_nested bound (MoreExprs expr others) d (grown low (beside mark (beside e (beside es over)))) =
      let here = inside_least (number_of grammar.More_exprs) d in
      let b = beneath bound 6 (precedence expr) (bare expr) _ e in
      let x = expr_nested bound expr b.at b.sound in
      let y = more_nested bound others _ es in
      let v = b.least in let most = level_most expr in
      inr (omega (arith, here, x, y, v, most))

  -- so are the arguments of calls
  pub dots_nested : (bound : ℕ) (calls : DotTrees) (d : ℕ) → Sound bound (node_dots calls) d → (dots_depth calls ≡ 0) ⊎ (8 * d + dots_depth calls ≤ 8 * bound + 6)
  dots_nested bound NoDots d s = inl refl
  dots_nested bound (MoreDots (MakeDot at name actuals) others) d (grown low (beside (grown lows (beside mark (beside named (beside a over)))) (beside ds over))) =
      let here = inside_least (number_of grammar.Dots) d in
      let there = inside_least (number_of grammar.Dot) (inside (number_of grammar.Dots) d) in
      let x = actuals_nested bound actuals _ a in
      let y = dots_nested bound others _ ds in
      inr (omega (arith, here, there, x, y))

-- a whole expression at a depth is nested no deeper than the bound allows
pub whole_nested : (bound : ℕ) (e : ExprTree) (d : ℕ) → Sound bound (node_expr e) d → 8 * d + expr_depth e ≤ 8 * bound + 6
whole_nested bound e d s =
    let b = beneath bound 6 (precedence e) (bare e) d s in
    let x = expr_nested bound e b.at b.sound in
    let v = b.least in let most = level_most e in
    omega (arith, x, v, most)

-- so is the call behind a `.`
pub dot_nested : (bound : ℕ) (dot : DotTree) (d : ℕ) → Sound bound (node_dot dot) d → 8 * d + dot_depth dot ≤ 8 * bound + 6
dot_nested bound (MakeDot at name actuals) d (grown lows (beside mark (beside named (beside a over)))) =
    let there = inside_least (number_of grammar.Dot) d in
    let x = actuals_nested bound actuals _ a in
    omega (arith, there, x)
