-- The kinds that a node spells do not turn on its depth, and the tokens of a list grow by one thing after another.
use Rattle.std.proofs.Common.{◌≡◌, ℕ, zero, suc, ◌+◌, ◌-◌, ◌<◌, ◌≤◌, true, false, cond, List, [], ◌∷◌, ◌++◌, length, drop, get_or, map, refl, sym, ap, subst, ◌∙◌, arith, add-one, append_assoc, append-nil, Result, Ok, Err, OnOk}
use Rattle.std.proofs.lemmas.List.{map-append}
use Rattle.std.specs.Prelude.{nat_lt}
use Rattle.chord_lexer.specs.declared.token.Kind.{Kind}
use Rattle.chord_lexer.specs.declared.token.Kind.TheVariants as kinds
use Rattle.chord_lexer.specs.declared.token.Token.{Token}
use Rattle.chord_tree.specs.Symbol.{Symbol}
use Rattle.chord_tree.specs.Derivation.{Spelled, kinds_of}
use Rattle.chord_tree.specs.Node.{Node, Nodes, End, ◌▸◌, Leaf, Made, spell, spell_all}
use Rattle.chord_tree.specs.Tree.{ExprTree, LinkTrees, LinkTree, DotTrees, DotTree, MoreDots, MakeDot, NoLinks, MoreLinks, MakeLink, ChainExpr}
use Rattle.chord_tree.specs.ExprNodes.{mark_leaf, operator_level, mark_of, bare, lifted, alone, precedence, node_links, node_dots, node_dot, node_expr}
use Rattle.chord_tree.specs.declared.exprs.Link.{Link, out-Link}
use Rattle.chord_tree.specs.ViewExprs.{see_expr, see_link}
use Rattle.chord_tree.proofs.SeenExprs.{seen_link}
use Rattle.chord_tree.specs.Program.{node_kinds, nodes_kinds, without_span, Adds}

mutual
  -- what a node spells are its words, whatever the depth
  pub spell_words : (n : Node) (d : ℕ) (w : List Spelled) → kinds_of (spell n d w) ≡ node_kinds n ++ kinds_of w
  spell_words (Leaf kind at) d w = refl
  spell_words (Made p ns) d w = spell_all_words ns _ w

  -- what nodes side by side spell are their words, whatever the depth
  spell_all_words : (ns : Nodes) (d : ℕ) (w : List Spelled) → kinds_of (spell_all ns d w) ≡ nodes_kinds ns ++ kinds_of w
  spell_all_words End d w = refl
  spell_all_words (n ▸ ns) d w = spell_words n d _ ∙ ap (λ z. node_kinds n ++ z) (spell_all_words ns d w) ∙ sym (append_assoc (node_kinds n) (nodes_kinds ns) (kinds_of w))

-- a level without operators spells nothing more
pub words_lifted : (l m : ℕ) (n : Node) → node_kinds (lifted l m n) ≡ node_kinds n
words_lifted zero m n = refl
words_lifted (suc l) m n = elim (nat_lt m (suc l)) as (λ b. node_kinds (cond b (alone (suc l) (lifted l m n)) n) ≡ node_kinds n) [ true ↦ append-nil (node_kinds (lifted l m n)) ∙ words_lifted l m n | false ↦ refl ]

-- nor on the level
words_links : (l : ℕ) (ls : LinkTrees) → node_kinds (node_links l ls) ≡ node_kinds (node_links 0 ls)
words_links l NoLinks = refl
words_links l (MoreLinks (MakeLink o at t) more) =
    ap (λ z. kinds.Mark (mark_of o) ∷ (z ++ (node_kinds (node_links l more) ++ []))) (words_lifted (l - 1) (precedence t) (bare t) ∙ sym (words_lifted 0 (precedence t) (bare t)))
    ∙ ap (λ z. kinds.Mark (mark_of o) ∷ (node_kinds (lifted 0 (precedence t) (bare t)) ++ (z ++ []))) (words_links l more)

-- a chain spells its first operand, its first link and the others
pub words_chained : (first : ExprTree) (l : LinkTree) (ls : LinkTrees) → node_kinds (bare (ChainExpr first l ls)) ≡ node_kinds (bare first) ++ (node_kinds (node_links 0 (MoreLinks l NoLinks)) ++ node_kinds (node_links 0 ls))
words_chained first (MakeLink o at t) more =
    let operand = node_kinds (lifted 0 (precedence t) (bare t)) in
    let others = node_kinds (node_links 0 more) in
    ap (λ z. z ++ (node_kinds (node_links (operator_level o) (MoreLinks (MakeLink o at t) more)) ++ [])) (words_lifted (operator_level o - 1) (precedence first) (bare first))
    ∙ ap (λ z. node_kinds (bare first) ++ z) (append-nil (node_kinds (node_links (operator_level o) (MoreLinks (MakeLink o at t) more))) ∙ words_links (operator_level o) (MoreLinks (MakeLink o at t) more))
    ∙ ap (λ z. node_kinds (bare first) ++ (kinds.Mark (mark_of o) ∷ z)) (ap (λ z. operand ++ z) (append-nil others) ∙ sym (ap (λ z. z ++ others) (append-nil operand)))

-- an expression spells the same as an Expr
pub words_expr : (e : ExprTree) → node_kinds (node_expr e) ≡ node_kinds (bare e)
words_expr e = words_lifted 6 (precedence e) (bare e)

-- the tokens of kinds
abbrev pub tokens : List Kind → List Token
tokens ks = map without_span ks

-- tokens of kinds side by side
pub tokens_append : (xs ys : List Kind) → tokens (xs ++ ys) ≡ tokens xs ++ tokens ys
tokens_append xs ys = map-append without_span xs ys

-- The tokens grow by those of nodes, one after another.
pub record AddsAll (old new : List Token) (nodes : Nodes) : Type 0 where
  pub grown : new ≡ old ++ tokens (nodes_kinds nodes)

-- tokens that grow by some and then by others grow by all of these
grown_on : (a b c : List Token) (xs ys : List Kind) → b ≡ a ++ tokens xs → c ≡ b ++ tokens ys → c ≡ a ++ tokens (xs ++ ys)
grown_on a b c xs ys h g = g ∙ ap (λ z. z ++ tokens ys) h ∙ append_assoc a (tokens xs) (tokens ys) ∙ ap (λ z. a ++ z) (sym (tokens_append xs ys))

-- no node adds no token
pub nil : {a : List Token} → AddsAll a a End
nil {a} = record { grown = sym (append-nil a) }

-- a node, and those after it
pub cons : {a b c : List Token} {n : Node} {ns : Nodes} → Adds a b n → AddsAll b c ns → AddsAll a c (n ▸ ns)
cons {a} {b} {c} {n} {ns} h g = record { grown = grown_on a b c (node_kinds n) (nodes_kinds ns) h.grown g.grown }

-- a node adds what its parts add
pub made : {p : Symbol} {a c : List Token} {ns : Nodes} → AddsAll a c ns → Adds a c (Made p ns)
made h = record { grown = h.grown }

-- a token is added whatever its number
pub leaf : {a b : List Token} {k : Kind} {x y : ℕ} → Adds a b (Leaf k x) → Adds a b (Leaf k y)
leaf h = record { grown = h.grown }

-- what spells the same adds the same
pub same_words : {a b : List Token} {n m : Node} → Adds a b n → node_kinds n ≡ node_kinds m → Adds a b m
same_words {a} {b} h e = record { grown = h.grown ∙ ap (λ z. a ++ tokens z) e }

-- an expression adds the same as any level
pub as_level : {a b : List Token} (l : ℕ) (e : ExprTree) → Adds a b (bare e) → Adds a b (lifted l (precedence e) (bare e))
as_level l e h = same_words h (sym (words_lifted l (precedence e) (bare e)))

-- an operand and the links after it
pub chain_added : {a b c d : List Token} (first : ExprTree) (l : LinkTree) (ls : LinkTrees) → Adds a b (bare first) → Adds b c (node_links 0 (MoreLinks l NoLinks)) → Adds c d (node_links 0 ls) → Adds a d (bare (ChainExpr first l ls))
chain_added {a} {b} {c} {d} first l ls h g k = record {
  grown =
      grown_on a b d (node_kinds (bare first)) (node_kinds (node_links 0 (MoreLinks l NoLinks)) ++ node_kinds (node_links 0 ls)) h.grown (grown_on b c d (node_kinds (node_links 0 (MoreLinks l NoLinks))) (node_kinds (node_links 0 ls)) g.grown k.grown)
      ∙ ap (λ z. a ++ tokens z) (sym (words_chained first l ls));
}

-- a call, and those after it
pub dots_added : {a b c : List Token} (d : DotTree) (ds : DotTrees) → Adds a b (node_dot d) → Adds b c (node_dots ds) → Adds a c (node_dots (MoreDots d ds))
dots_added (MakeDot at x actuals) ds h g = made (cons h (cons g nil))

-- an operator and its operand, and the links after it
pub links_added : {a b c d : List Token} {n : ℕ} (l : Link) (ls : LinkTrees) → Adds a b (mark_leaf (mark_of (out-Link l).operator) n) → Adds b c (bare (see_expr (out-Link l).operand)) → Adds c d (node_links 0 ls) → Adds a d (node_links 0 (MoreLinks (see_link l) ls))
links_added {a} {b} {c} {d} l ls h g k = subst (λ z. Adds a d (node_links 0 (MoreLinks z ls))) (sym (seen_link l)) (made (cons (leaf h) (cons (as_level 0 (see_expr (out-Link l).operand) g) (cons k nil))))

-- a link, and those after it
pub more_links_added : {a b c : List Token} (l : LinkTree) (ls : LinkTrees) → Adds a b (node_links 0 (MoreLinks l NoLinks)) → Adds b c (node_links 0 ls) → Adds a c (node_links 0 (MoreLinks l ls))
more_links_added {a} {b} {c} (MakeLink o at t) ls h g =
    let operand = node_kinds (lifted 0 (precedence t) (bare t)) in
    let others = node_kinds (node_links 0 ls) in
    record {
      grown = grown_on a b c (node_kinds (node_links 0 (MoreLinks (MakeLink o at t) NoLinks))) others h.grown g.grown
          ∙ ap (λ z. a ++ tokens (kinds.Mark (mark_of o) ∷ z)) (ap (λ z. z ++ others) (append-nil operand) ∙ sym (ap (λ z. operand ++ z) (append-nil others)));
    }

-- what a value is seen as
pub seen_as : {V : Type 0} (f : V → Node) {a c : List Token} (v w : V) → v ≡ w → Adds a c (f w) → Adds a c (f v)
seen_as f {a} {c} v w e h = subst (λ z. Adds a c (f z)) (sym e) h

-- what follows where a call succeeds
pub on_ok : {T E : Type 0} (r : Result T E) (P Q : Type 0) → (P → Q) → OnOk r P → OnOk r Q
on_ok (Ok x) P Q f h = f h
on_ok (Err e) P Q f h = tt

-- a list at one of its places, and at its end
dropped_at : {A : Type 0} (xs : List A) (i : ℕ) (x : A) → i < length xs → x ≡ get_or xs i x → x ∷ drop (suc i) xs ≡ drop i xs
dropped_at [] i x l e = absurd (omega arith)
dropped_at (a ∷ xs) zero x l e = ap (λ z. z ∷ xs) e
dropped_at (a ∷ xs) (suc i) x l e = dropped_at xs i x (omega arith) e

-- a list from a place on begins with what stands there
pub dropped : {A : Type 0} (xs : List A) (i : ℕ) (x : A) → i < length xs → x ≡ get_or xs i x → drop i xs ≡ x ∷ drop (i + 1) xs
dropped xs i x l e = rw add-one (sym (dropped_at xs i x l e))

-- nothing is left of a list after its end
pub drop_end : {A : Type 0} (xs : List A) (i : ℕ) → length xs ≤ i → drop i xs ≡ []
drop_end [] zero l = refl
drop_end [] (suc i) l = refl
drop_end (a ∷ xs) zero l = absurd (omega arith)
drop_end (a ∷ xs) (suc i) l = drop_end xs i (omega arith)

-- a list of no length is empty
pub length_zero : {A : Type 0} (xs : List A) → length xs ≡ 0 → xs ≡ []
length_zero [] e = refl
length_zero (x ∷ xs) e = absurd (omega arith)

-- what stands at a place of a list does not depend on what is said to stand past its end
any_or : {A : Type 0} (xs : List A) (i : ℕ) (d e : A) → i < length xs → get_or xs i d ≡ get_or xs i e
any_or [] i d e l = absurd (omega arith)
any_or (a ∷ xs) zero d e l = refl
any_or (a ∷ xs) (suc i) d e l = any_or xs i d e (omega arith)

-- the same where the loop reads the thing itself
pub dropped_or : {A : Type 0} (xs : List A) (i : ℕ) (d : A) → i < length xs → drop i xs ≡ get_or xs i d ∷ drop (i + 1) xs
dropped_or xs i d l = dropped xs i (get_or xs i d) l (any_or xs i d (get_or xs i d) l)
