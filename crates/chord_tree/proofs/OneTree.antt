-- A list of kinds has one tree at most.
use Rattle.std.proofs.Common.{◌≡◌, ℕ, ◌+◌, true, List, [], ◌∷◌, ◌++◌, refl, sym, ap, subst, ◌∙◌, arith}
use Rattle.std.proofs.lemmas.Bool.{eqb-true}
use Rattle.chord_tree.specs.Symbol.{Symbol, Terminal, Nonterminal}
use Rattle.chord_tree.specs.Symbols.{Whole_program}
use Rattle.chord_tree.specs.Grammar.{terminal_count}
use Rattle.chord_tree.specs.Derivation.{Spelled, Want, kinds_of, next, parts_of, inside, at_depth, Derives, done, token, rule}
use Rattle.chord_tree.specs.Node.{Node, Nodes, End, ◌▸◌, Leaf, Made, spell, spell_all, Fits, FitAll, IsDerived, leaf, made, none, more, size, size_all, IsNumbered, AllNumbered, number_at}
use Rattle.chord_tree.specs.OneAhead.{choice, follows}
use Rattle.chord_tree.proofs.Ahead.{next_small, follows_at}
use Rattle.chord_tree.proofs.LookAhead.{starts, Legal, legal_rule, chosen}

mutual
  -- a derived node is a derivation of its symbol
  pub derives : {p : Symbol} {d : ℕ} {n : Node} {w : List Spelled} {s : List Want} → Fits p d n w → Derives s w → Derives ((p, d) ∷ s) (spell n d w)
  derives (leaf e) r = token e r
  derives (made i l h a f) r = rule i l h a (derives_all f r)

  -- and derived nodes of their symbols
  pub derives_all : {ps : List Symbol} {d : ℕ} {ns : Nodes} {w : List Spelled} {s : List Want} → FitAll ps d ns w → Derives s w → Derives (at_depth d ps ++ s) (spell_all ns d w)
  derives_all none r = r
  derives_all (more f g) r = derives f (derives_all g r)

abbrev mutual
  -- without the numbers
  pub unmarked : Node → Node
  unmarked (Leaf k at) = Leaf k 0
  unmarked (Made p ns) = Made p (unmarked_all ns)

  -- nodes without the numbers of their tokens
  pub unmarked_all : Nodes → Nodes
  unmarked_all End = End
  unmarked_all (n ▸ ns) = unmarked n ▸ unmarked_all ns

mutual
  -- Two counted of one part that spell the same kinds are the same but for numbers, and the same kinds follow.
  pub same : {p q : Symbol} {d e : ℕ} {n m : Node} {w y : List Spelled} {s t : List Want} → Fits p d n w → Fits q e m y → p ≡ q → d ≡ e → s ≡ t → Derives s w → Derives t y → Legal ((p, d) ∷ s)
      → kinds_of (spell n d w) ≡ kinds_of (spell m e y) → (unmarked n ≡ unmarked m) × (kinds_of w ≡ kinds_of y)
  same (leaf {k} a) (leaf {k = j} b) h g z r u l q = let first : k ≡ j = cc in (ap (λ x. Leaf x 0) first, cc)
  same (leaf a) (made j n o b g) h i z r u l q = cc
  same (made i m h a f) (leaf b) g j z r u l q = cc
  same {s = s} {t = t} (made {x} {d} {ns} {w} i m h a f) (made {x = x'} {d = d'} {ns = ms} {w = y} j n o b g) pq de z r u l q =
      let xs : x ≡ x' = cc in
      let nk : next (kinds_of (spell_all ns (inside x d) w)) ≡ next (kinds_of (spell_all ms (inside x' d') y)) = ap next q in
      let one : choice x (next (kinds_of (spell_all ns (inside x d) w))) ≡ i = chosen x d i _ s l m h (next_small (kinds_of (spell_all ns (inside x d) w))) a (starts (derives_all f r)) in
      let lt : Legal ((Nonterminal x', d') ∷ t) = subst (λ (v : List Want). Legal v) (ap (λ v. (Nonterminal v, d) ∷ s) xs ∙ ap (λ v. (Nonterminal x', v) ∷ s) de ∙ ap (λ v. (Nonterminal x', d') ∷ v) z) l in
      let two : choice x' (next (kinds_of (spell_all ms (inside x' d') y))) ≡ j = chosen x' d' j _ t lt n o (next_small (kinds_of (spell_all ms (inside x' d') y))) b (starts (derives_all g u)) in
      let ij : i ≡ j = sym one ∙ ap (choice x) nk ∙ ap (λ v. choice v (next (kinds_of (spell_all ms (inside x' d') y)))) xs ∙ two in
      let k = same_all f g (ap parts_of ij) (ap (λ v. inside v d) xs ∙ ap (inside x') de) z r u (legal_rule x d i s l m h) q in
      (ap (λ v. Made (Nonterminal v) (unmarked_all ns)) xs ∙ ap (Made (Nonterminal x')) k.0, k.1)

  -- nodes that spell the same are the same but for numbers
  pub same_all : {ps qs : List Symbol} {d e : ℕ} {ns ms : Nodes} {w y : List Spelled} {s t : List Want} → FitAll ps d ns w → FitAll qs e ms y → ps ≡ qs → d ≡ e → s ≡ t → Derives s w → Derives t y → Legal (at_depth d ps ++ s)
      → kinds_of (spell_all ns d w) ≡ kinds_of (spell_all ms e y) → (unmarked_all ns ≡ unmarked_all ms) × (kinds_of w ≡ kinds_of y)
  same_all none none h g z r u l q = (refl, q)
  same_all none (more f g) h e z r u l q = cc
  same_all (more f g) none h e z r u l q = cc
  same_all {e = e} {s = s} {t = t} (more {p} {ps} {d} {n} {ns} f g) (more {p = p'} {ps = ps'} {n = m} {ns = ms} f' g') h de z r u l q =
      let pe : p ≡ p' = cc in
      let pse : ps ≡ ps' = cc in
      let rest : at_depth d ps ++ s ≡ at_depth e ps' ++ t = ap (λ v. at_depth d v ++ s) pse ∙ ap (λ v. at_depth v ps' ++ s) de ∙ ap (λ v. at_depth e ps' ++ v) z in
      let a = same f f' pe de rest (derives_all g r) (derives_all g' u) l q in
      let b = same_all g g' pse de z r u l.1 a.1 in
      (ap (λ v. v ▸ unmarked_all ns) a.0 ∙ ap (λ v. unmarked m ▸ v) b.0, b.1)

-- the nodes of a nonterminal; a token has none
abbrev pub inner_nodes : Node → Nodes
inner_nodes (Leaf k a) = End
inner_nodes (Made p ns) = ns

-- the nodes after the first
abbrev after_first : Nodes → Nodes
after_first End = End
after_first (n ▸ ns) = ns

-- the first of some nodes, or this one where there is none
abbrev first_of : Node → Nodes → Node
first_of m End = m
first_of m (n ▸ ns) = n

mutual
  -- nodes that are the same but for numbers have as many tokens
  unmarked_size : (n m : Node) → unmarked n ≡ unmarked m → size n ≡ size m
  unmarked_size (Leaf k a) (Leaf j b) e = refl
  unmarked_size (Leaf k a) (Made p ns) e = cc
  unmarked_size (Made p ns) (Leaf j b) e = cc
  unmarked_size (Made p ns) (Made q ms) e = unmarked_sizes ns ms (ap inner_nodes e)

  -- nodes side by side that are the same but for numbers have as many tokens
  unmarked_sizes : (ns ms : Nodes) → unmarked_all ns ≡ unmarked_all ms → size_all ns ≡ size_all ms
  unmarked_sizes End End e = refl
  unmarked_sizes End (m ▸ ms) e = cc
  unmarked_sizes (n ▸ ns) End e = cc
  unmarked_sizes (n ▸ ns) (m ▸ ms) e = let a = unmarked_size n m (ap (first_of (Made (Terminal 0) End)) e) in let b = unmarked_sizes ns ms (ap after_first e) in omega arith

mutual
  -- numbers that are places are determined
  pub equal : (n m : Node) (at : ℕ) → unmarked n ≡ unmarked m → IsNumbered n at → IsNumbered m at → n ≡ m
  equal (Leaf k a) (Leaf j b) at e h g = let kj : k ≡ j = cc in ap (λ z. Leaf z a) kj ∙ ap (Leaf j) (h ∙ ap (λ z. number_at z at) kj ∙ sym g)
  equal (Leaf k a) (Made p ns) at e h g = cc
  equal (Made p ns) (Leaf j b) at e h g = cc
  equal (Made p ns) (Made q ms) at e h g = let pq : p ≡ q = cc in ap (λ z. Made z ns) pq ∙ ap (Made q) (equal_all ns ms at (ap inner_nodes e) h g)

  -- nodes with the numbers of their tokens are equal where they are but for numbers
  pub equal_all : (ns ms : Nodes) (at : ℕ) → unmarked_all ns ≡ unmarked_all ms → AllNumbered ns at → AllNumbered ms at → ns ≡ ms
  equal_all End End at e h g = refl
  equal_all End (m ▸ ms) at e h g = cc
  equal_all (n ▸ ns) End at e h g = cc
  equal_all (n ▸ ns) (m ▸ ms) at e h g =
      let nm : unmarked n ≡ unmarked m = ap (first_of (Made (Terminal 0) End)) e in
      let s = unmarked_size n m nm in
      ap (λ z. z ▸ ns) (equal n m at nm h.0 g.0) ∙ ap (λ z. m ▸ z) (equal_all ns ms (at + size n) (ap after_first e) h.1 (subst (λ z. AllNumbered ms (at + z)) (sym s) g.1))

-- a whole program is legal
pub start_legal : Legal ((Whole_program, 0) ∷ [])
unfolding follows_at follows terminal_count
start_legal = (λ c l h. let e : c ≡ terminal_count = eqb-true _ _ h in subst (λ x. follows_at 0 x ≡ true) (sym e) refl, tt)

-- Two derived nodes whose numbers are places and which spell the same kinds are the same.
pub one_node : {n m : Node} → IsDerived Whole_program n → IsDerived Whole_program m → kinds_of (spell n 0 []) ≡ kinds_of (spell m 0 []) → IsNumbered n 0 → IsNumbered m 0 → n ≡ m
one_node {n} {m} a b e h g = equal n m 0 (same a b refl refl refl done done start_legal e).0 h g
