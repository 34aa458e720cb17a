-- How what is read goes on.
use Rattle.std.proofs.Common.{◌≡◌, ℕ, ◌+◌, ◌-◌, ◌<◌, ◌≤◌, List, [], ◌∷◌, ◌++◌, length, refl, sym, ap, subst, arith}
use Rattle.chord_lexer.specs.declared.token.Kind.{Kind}
use Rattle.chord_tree.specs.Symbol.{Symbol, Nonterminal}
use Rattle.chord_tree.specs.Grammar.{rule_count}
use Rattle.chord_tree.specs.Derivation.{next, Want, parts_of, at_depth, inside, Spelled, kinds_of, NotTall, token}
use Rattle.chord_parser.specs.Runs.{Verdict, Runs, take, expand, Reads, ReadAll, token, tree, none, more, Onward}
use Rattle.chord_tree.specs.Node.{Node, Nodes, End, ◌▸◌, Made, spell, spell_all, size, size_all, IsNumbered, AllNumbered}
use Rattle.chord_tree.specs.OneAhead.{choice}

-- symbols side by side are wanted side by side
pub at_depth_append : (d : ℕ) (ps qs : List Symbol) → at_depth d (ps ++ qs) ≡ at_depth d ps ++ at_depth d qs
at_depth_append d [] qs = refl
at_depth_append d (p ∷ ps) qs = ap (λ s. (p, d) ∷ s) (at_depth_append d ps qs)

-- a reader that wants a nonterminal comes to the verdict to which it comes with the right side of its choice
by_rule : {x d : ℕ} {s : List Want} {ks : List Kind} {v : Verdict} (i : ℕ) → choice x (next ks) ≡ i → i < rule_count → Runs (at_depth (inside x d) (parts_of i) ++ s) ks v → Runs ((Nonterminal x, d) ∷ s) ks v
by_rule {x} {d} {s} {ks} {v} i e l r = expand (subst (λ j. j < rule_count) (sym e) l) (subst (λ j. Runs (at_depth (inside x d) (parts_of j) ++ s) ks v) (sym e) r)

-- What is read, whatever else is wanted.
mutual
  -- after a symbol that is read, the reader goes on
  pub goes_on : {count : ℕ} {p : Symbol} {d : ℕ} {ks rest : List Kind} {n : Node} → Reads count p d ks rest n → (s : List Want) (v : Verdict) → Runs s rest v → Runs ((p, d) ∷ s) ks v
  goes_on (token e l) s v r = take e l r
  goes_on (tree {i} e l h) s v r = by_rule i e l (goes_all h s v r)

  -- after symbols that are read, the reader goes on
  pub goes_all : {count : ℕ} {ps : List Symbol} {d : ℕ} {ks rest : List Kind} {ns : Nodes} → ReadAll count ps d ks rest ns → (s : List Want) (v : Verdict) → Runs s rest v → Runs (at_depth d ps ++ s) ks v
  goes_all none s v r = r
  goes_all (more h k) s v r = goes_on h _ v (goes_all k s v r)

-- a symbol begins
pub begun : {count d : ℕ} {ks : List Kind} (x i : ℕ) → choice x (next ks) ≡ i → i < rule_count → Onward count (Nonterminal x) d ks (parts_of i) (inside x d) ks (Made (Nonterminal x))
begun x i e l = record { reads = λ rest ns h. tree e l h; runs = λ s v r. by_rule i e l r }

-- one more part is read
pub step : {count d e : ℕ} {p q : Symbol} {ps : List Symbol} {ks mid end : List Kind} {f : Nodes → Node} {n : Node} → Onward count p d ks (q ∷ ps) e mid f → Reads count q e mid end n → Onward count p d ks ps e end (λ ns. f (n ▸ ns))
step o h = record { reads = λ rest ns g. o.reads rest (_ ▸ ns) (more h g); runs = λ s v r. o.runs s v (goes_on h _ v r) }

-- all is read
pub ends : {count d e : ℕ} {p : Symbol} {ks mid : List Kind} {f : Nodes → Node} → Onward count p d ks [] e mid f → Reads count p d ks mid (f End)
ends o = o.reads _ End none

-- the last part is a symbol whose own parts come next, within as many counted
pub goes_into : {count d e g : ℕ} {p q : Symbol} {ps : List Symbol} {ks mid end : List Kind} {f f' : Nodes → Node} → Onward count p d ks (q ∷ []) e mid f → Onward count q e mid ps g end f' → Onward count p d ks ps g end (λ ns. f (f' ns ▸ End))
goes_into o h = record { reads = λ rest ns g. o.reads rest _ (more (h.reads rest ns g) none); runs = λ s v r. o.runs s v (h.runs s v r) }

mutual
  -- what is read is what the node spells
  pub spells : {count : ℕ} {p : Symbol} {d : ℕ} {ks rest : List Kind} {n : Node} → Reads count p d ks rest n → (w : List Spelled) → kinds_of w ≡ rest → kinds_of (spell n d w) ≡ ks
  spells (token {k} e l) w q = ap (λ z. k ∷ z) q
  spells (tree e l h) w q = spells_all h w q

  -- nodes side by side spell what was read
  pub spells_all : {count : ℕ} {ps : List Symbol} {d : ℕ} {ks rest : List Kind} {ns : Nodes} → ReadAll count ps d ks rest ns → (w : List Spelled) → kinds_of w ≡ rest → kinds_of (spell_all ns d w) ≡ ks
  spells_all none w q = q
  spells_all (more h k) w q = spells h _ (spells_all k w q)

mutual
  -- what is read is not tall
  pub read_not_tall : {count : ℕ} {p : Symbol} {d : ℕ} {ks rest : List Kind} {n : Node} → Reads count p d ks rest n → (w : List Spelled) → NotTall w → NotTall (spell n d w)
  read_not_tall (token e l) w q = (l, q)
  read_not_tall (tree e l h) w q = read_not_tall_all h w q

  -- symbols that are read are not tall
  pub read_not_tall_all : {count : ℕ} {ps : List Symbol} {d : ℕ} {ks rest : List Kind} {ns : Nodes} → ReadAll count ps d ks rest ns → (w : List Spelled) → NotTall w → NotTall (spell_all ns d w)
  read_not_tall_all none w q = q
  read_not_tall_all (more h k) w q = read_not_tall h _ (read_not_tall_all k w q)

mutual
  -- what is read has as many tokens as its node
  pub measured : {count : ℕ} {p : Symbol} {d : ℕ} {ks rest : List Kind} {n : Node} → Reads count p d ks rest n → length ks ≡ size n + length rest
  measured (token e l) = omega arith
  measured (tree e l h) = measured_all h

  -- symbols that are read have as many tokens as their nodes
  pub measured_all : {count : ℕ} {ps : List Symbol} {d : ℕ} {ks rest : List Kind} {ns : Nodes} → ReadAll count ps d ks rest ns → length ks ≡ size_all ns + length rest
  measured_all none = omega arith
  measured_all (more h k) = let a = measured h in let b = measured_all k in omega arith

mutual
  -- the numbers are places
  pub read_numbered : {count : ℕ} {p : Symbol} {d : ℕ} {ks rest : List Kind} {n : Node} → Reads count p d ks rest n → length ks ≤ count → IsNumbered n (count - length ks)
  read_numbered (token e l) q = refl
  read_numbered (tree e l h) q = read_numbered_all h q

  -- nodes side by side have the numbers of their tokens
  pub read_numbered_all : {count : ℕ} {ps : List Symbol} {d : ℕ} {ks rest : List Kind} {ns : Nodes} → ReadAll count ps d ks rest ns → length ks ≤ count → AllNumbered ns (count - length ks)
  read_numbered_all none q = tt
  read_numbered_all {count} (more {ks} {mid} {n} {ns} h k) q =
      let a = measured h in
      let e : count - length mid ≡ (count - length ks) + size n = omega arith in
      (read_numbered h q, subst (λ z. AllNumbered ns z) e (read_numbered_all k (omega arith)))
