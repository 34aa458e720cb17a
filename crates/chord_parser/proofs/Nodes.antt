-- What is derived from a symbol is what a node of it spells, whose numbers are the places of its tokens.
use Rattle.std.proofs.Common.{◌≡◌, ℕ, ◌+◌, ◌<◌, true, List, [], ◌∷◌, ◌++◌, refl, sym, ap, subst, ◌∙◌, arith}
use Rattle.chord_tree.specs.Symbol.{Symbol, Nonterminal}
use Rattle.chord_tree.specs.Grammar.{rule_count}
use Rattle.chord_tree.specs.Derivation.{Spelled, Want, kinds_of, next, head_of, parts_of, inside, at_depth, allowed, Derives, done, token, rule}
use Rattle.chord_tree.specs.Node.{Node, Nodes, End, ◌▸◌, Leaf, Made, spell, spell_all, Fits, FitAll, leaf, made, none, more, size, size_all, number_at, IsNumbered, AllNumbered, IsDerived}

-- The list is what nodes spell, one from each want, whose first token has this place.
abbrev Fitted : ℕ → List Want → List Spelled → Type 0
Fitted at [] w = w ≡ []
Fitted at ((p, d) ∷ s) w = (n : Node) × (rest : List Spelled) × Fits p d n rest × IsNumbered n at × (w ≡ spell n d rest) × Fitted (at + size n) s rest

-- nodes of symbols at one depth, and the nodes of what is wanted after them
record Gathered (at d : ℕ) (ps : List Symbol) (s : List Want) (w : List Spelled) : Type 0 where
  pub nodes : Nodes
  pub rest : List Spelled
  pub fit : FitAll ps d nodes rest
  pub numbered : AllNumbered nodes at
  pub spelled : w ≡ spell_all nodes d rest
  pub after : Fitted (at + size_all nodes) s rest

-- one more node before them
gathered_more : (at d : ℕ) (p : Symbol) (ps : List Symbol) (s : List Want) (w : List Spelled) (n : Node) (rest : List Spelled) → Fits p d n rest → IsNumbered n at → w ≡ spell n d rest → Gathered (at + size n) d ps s rest → Gathered at d (p ∷ ps) s w
gathered_more at d p ps s w n rest f m e g = record {
  nodes = n ▸ g.nodes;
  rest = g.rest;
  fit = more (subst (λ z. Fits p d n z) g.spelled f) g.fit;
  numbered = (m, g.numbered);
  spelled = e ∙ ap (spell n d) g.spelled;
  after = subst (λ z. Fitted z s g.rest) (let h : at + size n + size_all g.nodes ≡ at + (size n + size_all g.nodes) = omega arith in h) g.after;
}

-- what is wanted at one depth, and then more, is spelled by nodes side by side and what follows them
gathered : (at d : ℕ) (ps : List Symbol) (s : List Want) (w : List Spelled) → Fitted at (at_depth d ps ++ s) w → Gathered at d ps s w
gathered at d [] s w f = record { nodes = End; rest = w; fit = none; numbered = tt; spelled = refl; after = subst (λ z. Fitted z s w) (let h : at ≡ at + 0 = omega arith in h) f }
gathered at d (p ∷ ps) s w f = gathered_more at d p ps s w f.0 f.1 f.2 f.3 f.4 (gathered (at + size f.0) d ps s f.1 f.5)

-- a production, and the nodes of its symbols
fitted_rule : (at x d : ℕ) (s : List Want) (w : List Spelled) (i : ℕ) → i < rule_count → head_of i ≡ x → allowed i (next (kinds_of w)) ≡ true → Gathered at (inside x d) (parts_of i) s w → Fitted at ((Nonterminal x, d) ∷ s) w
fitted_rule at x d s w i l h a g = (Made (Nonterminal x) g.nodes, g.rest, made i l h (subst (λ z. allowed i (next (kinds_of z)) ≡ true) g.spelled a) g.fit, g.numbered, g.spelled, g.after)

-- what is derived from what is wanted is what nodes spell
fitted : {s : List Want} {w : List Spelled} → Derives s w → (at : ℕ) → Fitted at s w
fitted done at = refl
fitted (token {k} {w} e r) at = (Leaf k (number_at k at), w, leaf e, refl, refl, fitted r (at + 1))
fitted (rule {x} {d} {s} {w} i l h a r) at = fitted_rule at x d s w i l h a (gathered at (inside x d) (parts_of i) s w (fitted r at))

-- What is derived from a symbol alone is what a node of it spells, whose numbers are places.
pub record IsNodeOf (p : Symbol) (w : List Spelled) (node : Node) : Type 0 where
  pub derived : IsDerived p node
  pub numbered : IsNumbered node 0
  pub spelled : spell node 0 [] ≡ w

-- what is derived from a symbol is what a node of it spells
pub node_of : (p : Symbol) (w : List Spelled) → Derives ((p, 0) ∷ []) w → (node : Node) × IsNodeOf p w node
node_of p w r = let f = fitted r 0 in (f.0, record { derived = subst (λ z. Fits p 0 f.0 z) f.5 f.2; numbered = f.3; spelled = sym (f.4 ∙ ap (spell f.0 0) f.5) })
