-- Precedence climbing: levels without an operator end, and the chain of the next operator's level goes on with the operand before it.
use Rattle.std.proofs.Common.{◌≡◌, ℕ, zero, suc, ◌-◌, ◌<◌, ◌≤◌, ◌≢◌, List, [], ◌∷◌, ◌++◌, map, refl, sym, ap, subst, ◌∙◌, arith, inl, inr, lit<, lit≤, cond, length}
use Rattle.std.specs.Prelude.{Some}
use Rattle.std.proofs.lemmas.Bool.{lt-ltb}
use Rattle.std.proofs.lemmas.Bool.Decides.{leb_tells}
use Rattle.chord_lexer.specs.declared.token.Kind.{Kind}
use Rattle.chord_lexer.specs.declared.token.Token.{Token}
use Rattle.chord_tree.specs.Program.{token_kinds}
use Rattle.chord_parser.specs.declared.faults.Fault.{Fault}
use Rattle.chord_tree.specs.declared.exprs.Operator.{Operator}
use Rattle.chord_tree.specs.declared.exprs.Operator.TheVariants as operators
use Rattle.chord_tree.specs.declared.exprs.Link.{Link}
use Rattle.chord_tree.specs.Symbol.{Symbol, Terminal}
use Rattle.chord_tree.specs.Symbols as grammar
use Rattle.chord_tree.specs.Derivation.{next}
use Rattle.chord_tree.specs.Node.{Node, End, Leaf, Made, size}
use Rattle.chord_tree.specs.ExprNodes.{operator_level, link_level, level_symbol, level_tail, precedence, lifted, alone, bare, node_at, node_links}
use Rattle.chord_tree.specs.Tree.{ExprTree, LinkTree, LinkTrees, ChainExpr, MakeLink, MoreLinks, links}
use Rattle.chord_tree.specs.ViewExprs.{see_link}
use Rattle.chord_parser.specs.Runs.{Reads}
use Rattle.chord_parser.specs.Samples.{sample}
use Rattle.chord_parser.specs.Reading.{StopsAs, Continues, IsOther, operator_at, operator_terminal, one_link, before_links}
use Rattle.chord_parser.specs.Climbing.{NoneUpTo, Chains, IsLinkRead, Climbed}
use Rattle.chord_parser.proofs.Reading.{step, ends, measured}
use Rattle.chord_parser.proofs.Chains.{stops, as_node, renamed, lifted_same, joined_node, level_begun, no_link, links_all, links_push, level_told, told_size}

-- one operator has a terminal
sample_operator : (o : Operator) → operator_at (sample (operator_terminal o)) ≡ Some o
sample_operator operators.Or = refl
sample_operator _ = refl

-- there are six levels of operators
pub top_level : (o : Operator) → operator_level o ≤ 6
top_level operators.Or = lit≤ tt
top_level _ = lit≤ tt

-- two operators of one terminal are the same
one_operator : (o p : Operator) → operator_terminal o ≡ operator_terminal p → o ≡ p
one_operator o p e = let f = sym (sample_operator o) ∙ ap (λ c. operator_at (sample c)) e ∙ sample_operator p in cc

-- each operator is above the operands without one
pub some_level : (o : Operator) → 0 < operator_level o
some_level operators.Or = lit< tt
some_level _ = lit< tt

-- the operator that comes next is of its own level alone
pub other_levels : (ks : List Kind) (o : Operator) (l : ℕ) → next ks ≡ operator_terminal o → operator_level o ≢ l → IsOther l ks
other_levels ks o l e n = λ p q s. n (ap operator_level (one_operator o p (sym e ∙ q)) ∙ s)

-- and so no level below it comes next
pub none_below : (ks : List Kind) (o : Operator) (l : ℕ) → next ks ≡ operator_terminal o → l < operator_level o → NoneUpTo l ks
none_below ks o l e h = record { none = λ j k. other_levels ks o j e (λ q. absurd (omega arith)) }

-- a level more without an operator
pub one_more_level : (ks : List Kind) (l : ℕ) → 0 < l → NoneUpTo (l - 1) ks → IsOther l ks → NoneUpTo l ks
one_more_level ks l h n o = record { none = λ j k. elim (leb_tells j (l - 1)) [ inl (t, e) ↦ n.none j e | inr (t, e) ↦ subst (λ z. IsOther z ks) (let q : l ≡ j = omega arith in q) o ] }

-- no level stands at an operand without operators
pub none_at_zero : (ks : List Kind) → NoneUpTo 0 ks
none_at_zero ks = record { none = λ j k o q s. let p = some_level o in absurd (omega arith) }

-- an expression of a lower level as the level above
lifted_once : (l p : ℕ) (n : Node) → p ≤ l → lifted (suc l) p n ≡ alone (suc l) (lifted l p n)
lifted_once l p n h = ap (λ b. cond b (alone (suc l) (lifted l p n)) n) (lt-ltb p (suc l) (omega arith))

-- what is read as a level is read as one above it, where no operator of the levels between comes next
pub raised : {count d : ℕ} {ks mid : List Kind} (n : Node) (p l : ℕ) → p ≤ l → l ≤ 5 → ((j : ℕ) → j ≤ l → IsOther j mid) → Reads count (level_symbol p) d ks mid n → Reads count (level_symbol l) d ks mid (lifted l p n)
raised {count} {d} {ks} {mid} n p zero h k f r = subst (λ z. Reads count (level_symbol z) d ks mid n) (let q : p ≡ 0 = omega arith in q) r
raised {count} {d} {ks} {mid} n p (suc l) h k f r = elim (leb_tells p l) [
  | inl (t, e) ↦
      let down : l ≡ suc l - 1 = omega arith in
      let lower : Reads count (level_symbol (suc l - 1)) d ks mid (lifted l p n) = subst (λ z. Reads count (level_symbol z) d ks mid (lifted l p n)) down (raised n p l e (omega arith) (λ j q. f j (omega arith)) r) in
      as_node (ends (step (step (level_begun (suc l) (omega arith) k) lower) (no_link (suc l) (omega arith) (omega arith) (f (suc l) (omega arith))))) (sym (lifted_once l p n e))
  | inr (t, e) ↦
      let same : p ≡ suc l = omega arith in
      as_node (subst (λ z. Reads count (level_symbol z) d ks mid n) same r) (sym (ap (λ z. lifted (suc l) z n) same ∙ lifted_same (suc l) n))
]

-- where the links of a level stop, each level above it stops
raised_stop : {count d : ℕ} {ks mid : List Kind} (n : Node) (p m l : ℕ) → p < m → m ≤ l → l ≤ 5 → ((j : ℕ) → j < m → IsOther j mid) → Reads count (level_symbol p) d ks mid n → (fault : Fault) → StopsAs (level_tail m) d mid fault → StopsAs (level_symbol l) d ks fault
raised_stop n p m zero h k q f r fault s = absurd (omega arith)
raised_stop {count} {d} {ks} {mid} n p m (suc l) h k q f r fault s = elim (leb_tells m l) [
  | inl (t, e) ↦
      let down : l ≡ suc l - 1 = omega arith in
      stops {count = count} (level_begun (suc l) (omega arith) q) fault (subst (λ z. StopsAs (level_symbol z) d ks fault) down (raised_stop n p m l h e (omega arith) f r fault s))
  | inr (t, e) ↦
      let same : m ≡ suc l = omega arith in
      let down : l ≡ suc l - 1 = omega arith in
      let lower : Reads count (level_symbol (suc l - 1)) d ks mid (lifted l p n) = subst (λ z. Reads count (level_symbol z) d ks mid (lifted l p n)) down (raised n p l (omega arith) (omega arith) (λ j g. f j (omega arith)) r) in
      stops {count = count} (step (level_begun (suc l) (omega arith) q) lower) fault (subst (λ z. StopsAs (level_tail z) d mid fault) same s)
]

-- the first link and those after it make a chain
pub chain_read : {count level depth : ℕ} {ks rest : List Kind} (first whole : ExprTree) (l : LinkTree) (ls : LinkTrees) → Reads count (level_tail level) depth ks rest (node_links level (MoreLinks l ls)) → link_level l ≡ level → whole ≡ ChainExpr first l ls → Chains count level depth first whole ks rest
chain_read {level = level} first whole l ls r e q = record {
  link = l;
  more = ls;
  reads = r;
  node = ap (node_at level) q ∙ joined_node level first l ls e;
  level_is = ap precedence q ∙ e;
}

-- a link is read where its operator and its operand are
pub link_read : {count level depth : ℕ} {ks rest : List Kind} (o : Operator) (at : ℕ) (t : ExprTree) (link : LinkTree) → Continues count (level_tail level) depth ks (level_tail level) depth rest (one_link level (MakeLink o at t)) → operator_level o ≡ level → length rest < length ks → NoneUpTo (level - 1) rest → link ≡ MakeLink o at t → IsLinkRead count level depth ks rest link
link_read {level = level} o at t link g e f n q = record {
  goes_on = renamed g (λ z. ap (λ y. one_link level y z) (sym q));
  level_is = ap link_level q ∙ e;
  fewer = f;
  none = n;
}

-- an operand without operators
pub climb_begins : {count depth level : ℕ} {ks left : List Kind} (e : ExprTree) → Reads count grammar.Unary depth ks left (node_at 0 e) → precedence e ≡ 0 → Climbed count depth level ks left e
climb_begins {count} {depth} {level} {ks} {left} e r q = record {
  reads = subst (λ z. Reads count (level_symbol z) depth ks left (bare e)) (sym q) r;
  within = subst (λ z. z ≤ level) (sym q) (omega arith);
  none = subst (λ z. NoneUpTo z left) (sym q) (none_at_zero left);
}

-- the operator that comes next is of a level above what is read
above : {left : List Kind} (p : ℕ) (o : Operator) → NoneUpTo p left → next left ≡ operator_terminal o → p < operator_level o
above p o n e = elim (leb_tells (operator_level o) p) [ inl (t, l) ↦ absurd (n.none (operator_level o) l o e refl) | inr (t, l) ↦ l ]

-- a chain more
pub climb_goes_on : {count depth level : ℕ} {ks left rest : List Kind} (e whole : ExprTree) (o : Operator) → level ≤ 5 → Climbed count depth level ks left e → next left ≡ operator_terminal o → operator_level o ≤ level → Chains count (operator_level o) depth e whole left rest → NoneUpTo (operator_level o) rest → Climbed count depth level ks rest whole
climb_goes_on {count} {depth} {level} {ks} {left} {rest} e whole o h c q k chain n =
    let m = operator_level o in
    let less = above (precedence e) o c.none q in
    let lower : Reads count (level_symbol (m - 1)) depth ks left (node_at (m - 1) e) = raised (bare e) (precedence e) (m - 1) (omega arith) (omega arith) (λ j i. other_levels left o j q (λ z. absurd (omega arith))) c.reads in
    let as_level : Reads count (level_symbol m) depth ks rest (node_at m whole) = as_node (ends (step (step (level_begun m (some_level o) (omega arith)) lower) chain.reads)) (sym chain.node) in
    let itself : node_at m whole ≡ bare whole = ap (λ z. lifted m z (bare whole)) chain.level_is ∙ lifted_same m (bare whole) in
    record {
      reads = subst (λ z. Reads count (level_symbol z) depth ks rest (bare whole)) (sym chain.level_is) (as_node as_level itself);
      within = subst (λ z. z ≤ level) (sym chain.level_is) k;
      none = subst (λ z. NoneUpTo z rest) (sym chain.level_is) n;
    }

-- where no operator of the level comes next, all is read
pub climb_ends : {count depth level : ℕ} {ks left : List Kind} (e : ExprTree) → level ≤ 5 → Climbed count depth level ks left e → NoneUpTo level left → Reads count (level_symbol level) depth ks left (node_at level e)
climb_ends {level = level} e h c n = raised (bare e) (precedence e) level c.within h n.none c.reads

-- where the next chain stops, all stops
pub climb_stops : {count depth level : ℕ} {ks left : List Kind} (e : ExprTree) (o : Operator) → level ≤ 5 → Climbed count depth level ks left e → next left ≡ operator_terminal o → operator_level o ≤ level → (fault : Fault) → StopsAs (level_tail (operator_level o)) depth left fault → StopsAs (level_symbol level) depth ks fault
climb_stops {level = level} {left = left} e o h c q k fault s =
    raised_stop (bare e) (precedence e) (operator_level o) level (above (precedence e) o c.none q) k h (λ j i. other_levels left o j q (λ z. absurd (omega arith))) c.reads fault s

-- an And as an Expr
pub lifted_to_or : (e : ExprTree) → precedence e ≤ 5 → alone 6 (node_at 5 e) ≡ node_at 6 e
lifted_to_or e h = sym (lifted_once 5 (precedence e) (bare e) h)

-- the links that a loop has read, with the first before them
pub links_grow : (l : ℕ) (first : Link) (xs ys : List Link) (x : Link) (n : Node) → ys ≡ xs ++ (x ∷ []) → one_link l (see_link first) (before_links l (map see_link xs) (one_link l (see_link x) n)) ≡ one_link l (see_link first) (before_links l (map see_link ys) n)
links_grow l first xs ys x n e = ap (one_link l (see_link first)) (links_push l xs ys x (see_link x) n e refl)

-- all links
pub links_done : (l : ℕ) (first : LinkTree) (xs : List LinkTree) → one_link l first (before_links l xs (Made (level_tail l) End)) ≡ node_links l (MoreLinks first (links xs))
links_done l first xs = links_all l (first ∷ xs)

-- tokens that begin with an operator above a level have none up to it
pub level_above : (l : ℕ) (ts : List Token) (k : Kind) (ks : List Kind) (o : Operator) → token_kinds ts ≡ k ∷ ks → operator_at k ≡ Some o → l < operator_level o → NoneUpTo l (token_kinds ts)
level_above l ts k ks o e h n = record { none = λ j i. level_told j ts k ks o e h (λ q. absurd (omega arith)) }

-- where an operand stops, each level above it stops
pub operand_stops : (d : ℕ) (ks : List Kind) (l : ℕ) → l ≤ 5 → (fault : Fault) → StopsAs grammar.Unary d ks fault → StopsAs (level_symbol l) d ks fault
operand_stops d ks zero h fault s = s
operand_stops d ks (suc l) h fault s =
    let down : l ≡ suc l - 1 = omega arith in
    stops {count = 0} (level_begun (suc l) (omega arith) h) fault (subst (λ z. StopsAs (level_symbol z) d ks fault) down (operand_stops d ks l (omega arith) fault s))

-- an operator and an operand leave fewer tokens
pub fewer_left : {count c d e : ℕ} {q : Symbol} {k : Kind} {at : ℕ} {m : Node} {ks mid rest : List Kind} → Reads count (Terminal c) d ks mid (Leaf k at) → Reads count q e mid rest m → length rest < length ks
fewer_left h k = let a = measured h in let b = measured k in omega arith

-- the links of a chain have a token
sized_links : (level : ℕ) (l : LinkTree) (ls : LinkTrees) → 0 < size (node_links level (MoreLinks l ls))
sized_links level (MakeLink o at t) ls = omega arith

-- a chain leaves fewer tokens
pub chain_shorter : {count level depth : ℕ} {first whole : ExprTree} (left rest : List Token) → Chains count level depth first whole (token_kinds left) (token_kinds rest) → length rest < length left
chain_shorter {level = level} left rest c = let a = measured c.reads in let b = sized_links level c.link c.more in let x = told_size left in let y = told_size rest in omega arith

-- a link leaves fewer tokens
pub link_shorter : {count level depth : ℕ} {link : LinkTree} (left rest : List Token) → IsLinkRead count level depth (token_kinds left) (token_kinds rest) link → length rest < length left
link_shorter left rest r = let a = r.fewer in let x = told_size left in let y = told_size rest in omega arith
