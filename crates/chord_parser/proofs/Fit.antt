-- What is read is derived.
use Rattle.std.proofs.Common.{◌≡◌, ℕ, ◌<◌, true, List, [], ◌∷◌, sym, ap, subst, ◌∙◌}
use Rattle.std.proofs.lemmas.Bool.{ltb-true}
use Rattle.chord_parser.specs.Runs as runs
use Rattle.chord_lexer.specs.declared.token.Kind.{Kind}
use Rattle.chord_tree.specs.Symbol.{Symbol}
use Rattle.chord_tree.specs.Grammar.{rule_count}
use Rattle.chord_tree.specs.Derivation.{Spelled, kinds_of, next, head_of, allowed}
use Rattle.chord_tree.specs.Node.{Node, Nodes, Fits, FitAll, leaf, made, none, more}
use Rattle.chord_tree.specs.OneAhead.{choice}
use Rattle.chord_tree.proofs.Ahead.{both_left, both_right, next_small, choice_fits}
use Rattle.chord_parser.specs.Runs.{Reads, ReadAll}
use Rattle.chord_parser.proofs.Finish.{listed, not_else, not_else_parts, else_first_parts, not_else_listed, rule_else_first}
use Rattle.chord_parser.proofs.Reading.{spells_all}

-- each of these symbols is one of the grammar
abbrev pub all_listed : List Symbol → Type 0
all_listed [] = Unit {0}
all_listed (p ∷ ps) = (listed p ≡ true) × all_listed ps

-- symbols that are not `else` are each one of the grammar
not_else_all : (ps : List Symbol) → not_else_parts ps ≡ true → all_listed ps
not_else_all [] h = tt
not_else_all (p ∷ ps) h = (not_else_listed p (both_left _ _ h), not_else_all ps (both_right (not_else p) _ h))

-- symbols of which only the first may be `else` are each one of the grammar
else_first_all : (ps : List Symbol) → else_first_parts ps ≡ true → all_listed ps
else_first_all [] h = tt
else_first_all (p ∷ ps) h = (both_left _ _ h, not_else_all ps (both_right (listed p) _ h))

mutual
  -- what is read is derived, before whatever spells the rest
  pub node_fits : {count : ℕ} {p : Symbol} {d : ℕ} {ks rest : List Kind} {n : Node} → Reads count p d ks rest n → listed p ≡ true → (w : List Spelled) → kinds_of w ≡ rest → Fits p d n w
  node_fits (runs.token e l) t w q = leaf e
  node_fits (runs.tree {x} {d} {i} {ks} e l h) t w q =
      let c : choice x (next ks) < rule_count = subst (λ z. z < rule_count) (sym e) l in
      let f = choice_fits x (next ks) (ltb-true _ _ t) (next_small ks) c in
      let a : allowed i (next ks) ≡ true = subst (λ z. allowed z (next ks) ≡ true) e f.1 in
      made i l (subst (λ z. head_of z ≡ x) e f.0) (ap (λ z. allowed i (next z)) (spells_all h w q) ∙ a) (fits_all h (else_first_all _ (rule_else_first i l)) w q)

  -- symbols that are read are derived
  pub fits_all : {count : ℕ} {ps : List Symbol} {d : ℕ} {ks rest : List Kind} {ns : Nodes} → ReadAll count ps d ks rest ns → all_listed ps → (w : List Spelled) → kinds_of w ≡ rest → FitAll ps d ns w
  fits_all runs.none t w q = none
  fits_all (runs.more h k) t w q = more (node_fits h t.0 _ (spells_all k w q)) (fits_all k t.1 w q)
