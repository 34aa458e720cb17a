-- How many tokens a program has, and which token an expression begins with.
use Rattle.std.proofs.Common.{◌≡◌, ℕ, suc, ◌+◌, ◌-◌, ◌<◌, true, List, [], ◌∷◌, length, get_or, map, refl, sym, ap, subst, ◌∙◌, arith}
use Rattle.std.specs.Prelude.{nat_eq}
use Rattle.std.proofs.lemmas.Bool.{eqb-true}
use Rattle.chord_tree.specs.declared.classes.Class.{Class}
use Rattle.chord_tree.specs.declared.classes.Using.{Using}
use Rattle.chord_tree.specs.Symbol.{Symbol, number_of}
use Rattle.chord_tree.specs.Symbols.{Whole_program}
use Rattle.chord_tree.specs.Grammar.{productions, rule_count}
use Rattle.chord_tree.specs.Derivation.{Spelled, kinds_of, head_of, parts_of}
use Rattle.chord_tree.specs.Node.{Node, Nodes, End, ◌▸◌, Leaf, Made, spell, spell_all, size, size_all, Fits, FitAll, leaf, made, none, more, IsNumbered}
use Rattle.chord_tree.specs.Tree.{ExprTree, LinkTrees, LinkTree, DotTrees, NoLinks, MoreLinks, MakeLink, NoDots, MoreDots, MakeDot, MakeActuals, ChainExpr, ClassTree}
use Rattle.chord_tree.specs.ClassNodes.{node_class, node_classes, node_usings, node_program}
use Rattle.chord_tree.specs.View.{see_class, see_using}
use Rattle.chord_tree.specs.Program.{spelling, IsProgram}
use Rattle.chord_tree.specs.Terms.{Term, term, operated, called, first_token}
use Rattle.chord_tree.proofs.Ahead.{below, imp, imp_true}
use Rattle.chord_tree.proofs.OneTree.{inner_nodes}

mutual
  -- a node spells as many tokens as it has
  pub spelled_count : (n : Node) (d : ℕ) (w : List Spelled) → length (kinds_of (spell n d w)) ≡ size n + length (kinds_of w)
  spelled_count (Leaf kind at) d w = omega arith
  spelled_count (Made p ns) d w = spelled_counts ns _ w

  -- and nodes side by side
  spelled_counts : (ns : Nodes) (d : ℕ) (w : List Spelled) → length (kinds_of (spell_all ns d w)) ≡ size_all ns + length (kinds_of w)
  spelled_counts End d w = omega arith
  spelled_counts (n ▸ ns) d w = let a = spelled_count n d (spell_all ns d w) in let b = spelled_counts ns d w in omega arith

-- the last of a list after a first
pub last_of : {X : Type 0} → X → List X → X
last_of x [] = x
last_of x (y ∷ ys) = last_of y ys

-- the last of a list by its place
pub last_at : {X : Type 0} (x : X) (xs : List X) (d : X) → get_or (x ∷ xs) (length xs) d ≡ last_of x xs
unfolding last_of
last_at x [] d = refl
last_at x (y ∷ ys) d = last_at y ys d

-- the last `}` is the last token
pub class_end : (c : ClassTree) (at : ℕ) → IsNumbered (node_class c) at → c.end + 1 ≡ at + size (node_class c)
class_end c at h = let e = h.1.1.1.1.1.1.0 in omega arith

-- the `}` of the last of classes side by side is their last token
classes_end : (c : ClassTree) (cs : List ClassTree) (at : ℕ) → IsNumbered (node_class c) at → IsNumbered (node_classes cs) (at + size (node_class c)) → (last_of c cs).end + 1 ≡ at + size (node_class c) + size (node_classes cs)
unfolding last_of
classes_end c [] at h g = let e = class_end c at h in omega arith
classes_end c (x ∷ xs) at h g = let e = classes_end x xs (at + size (node_class c)) g.0 g.1.0 in omega arith

-- the last class ends at the same `}` as the last of their trees
last_seen : (c : Class) (cs : List Class) → (last_of (see_class c) (map see_class cs)).end ≡ (last_of c cs).end
unfolding last_of
last_seen c [] = refl
last_seen c (x ∷ xs) = last_seen x xs

-- how many nodes stand side by side
abbrev how_many : Nodes → ℕ
how_many End = 0
how_many (n ▸ ns) = suc (how_many ns)

-- nodes that are derived from symbols are as many as these
as_many : {ps : List Symbol} {d : ℕ} {ns : Nodes} {w : List Spelled} → FitAll ps d ns w → length ps ≡ how_many ns
as_many none = refl
as_many (more f g) = ap suc (as_many g)

-- a production of a whole program has three parts
three_parts : (i : ℕ) → i < rule_count → head_of i ≡ 0 → length (parts_of i) ≡ 3
unfolding head_of parts_of productions rule_count
three_parts i l h = eqb-true _ _ (imp_true _ _ (below 121 (λ i. imp (nat_eq (head_of i) 0) (nat_eq (length (parts_of i)) 3)) refl i l) (subst (λ z. nat_eq z 0 ≡ true) (sym h) refl))

-- no program that has `using` lines alone is derived
no_class : {p : Symbol} {n : Node} {d : ℕ} {w : List Spelled} (us : Node) → Fits p d n w → p ≡ Whole_program → n ≡ Made Whole_program (us ▸ End) → ⊥
no_class us (leaf a) e g = cc
no_class us (made {x} {ns = ns} i l h a f) e g =
    let m : length (parts_of i) ≡ 1 = as_many f ∙ ap (λ z. how_many (inner_nodes z)) g in
    let n = three_parts i l (h ∙ ap number_of e) in
    absurd (omega arith)

-- a program has a class
pub some_class : (us : List Using) (cs : List Class) → IsProgram (record { usings = map see_using us; classes = map see_class cs }) → 0 < length cs
some_class us [] h = absurd (no_class _ h.derived refl refl)
some_class us (c ∷ cs) h = omega arith

-- There are as many tokens as the number of the last `}`, and one.
pub count_of : (us : List Using) (cs : List Class) (d : Class) → IsProgram (record { usings = map see_using us; classes = map see_class cs }) → d ≡ get_or cs (length cs - 1) d
    → d.end + 1 ≡ length (spelling (record { usings = map see_using us; classes = map see_class cs }))
count_of us [] d h e = absurd (no_class _ h.derived refl refl)
count_of us (c ∷ cs) d h e =
    let l : length (c ∷ cs) - 1 ≡ length cs = omega arith in
    let a : d.end ≡ (last_of c cs).end = ap (λ z. z.end) (e ∙ ap (λ z. get_or (c ∷ cs) z d) l ∙ last_at c cs d) in
    let b = last_seen c cs in
    let g = classes_end (see_class c) (map see_class cs) (0 + size (node_usings (map see_using us))) h.numbered.1.0 h.numbered.1.1.0 in
    let k = spelled_count (node_program (record { usings = map see_using us; classes = map see_class (c ∷ cs) })) 0 [] in
    omega arith

-- what follows a first operand or a receiver changes nothing of the first token
first_operated : (ls : LinkTrees) (t : Term) → first_token (operated ls t) ≡ first_token t
first_operated NoLinks t = refl
first_operated (MoreLinks (MakeLink operator at operand) ls) t = first_operated ls _

-- calls change nothing of the first token
pub first_called : (ds : DotTrees) (t : Term) → first_token (called ds t) ≡ first_token t
first_called NoDots t = refl
first_called (MoreDots (MakeDot dot name (MakeActuals at arguments)) ds) t = first_called ds _

-- nor do operators
pub first_chained : (e : ExprTree) (l : LinkTree) (ls : LinkTrees) → first_token (term (ChainExpr e l ls)) ≡ first_token (term e)
first_chained e (MakeLink operator at operand) ls = first_operated ls _
