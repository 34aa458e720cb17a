-- Two derivations that begin with the same kinds give them the same depths.
use Rattle.std.proofs.Common.{◌≡◌, ℕ, ◌≤◌, List, [], ◌∷◌, ◌++◌, refl, sym, ap, subst, ◌∙◌, arith}
use Rattle.chord_lexer.specs.declared.token.Kind.{Kind}
use Rattle.chord_tree.specs.Symbol.{Terminal, Nonterminal}
use Rattle.chord_tree.specs.Terminals.{terminal_of}
use Rattle.chord_tree.specs.Derivation.{Spelled, Want, kinds_of, next, parts_of, inside, at_depth, Derives, done, token, rule, NotTall}
use Rattle.chord_tree.specs.OneAhead.{choice}
use Rattle.chord_tree.proofs.Ahead.{next_small}
use Rattle.chord_tree.proofs.LookAhead.{starts, Legal, legal_rule, chosen}

-- the two begin with as many tokens of the same kinds, and then stand tokens of one kind, the first at this depth
abbrev pub Alike : List Spelled → List Spelled → List Spelled → ℕ → Type 0
Alike fs [] y d = ⊥
Alike fs ((k, g) ∷ w) [] d = ⊥
Alike [] ((k, g) ∷ w) ((j, h) ∷ y) d = (k ≡ j) × (g ≡ d)
Alike (f ∷ fs) ((k, g) ∷ w) ((j, h) ∷ y) d = (k ≡ j) × Alike fs w y d

-- the depth of the token after a prefix
abbrev pub DepthAt : List Spelled → List Spelled → ℕ → Type 0
DepthAt fs [] d = ⊥
DepthAt [] ((j, h) ∷ y) d = h ≡ d
DepthAt (f ∷ fs) ((j, h) ∷ y) d = DepthAt fs y d

-- lists that begin alike have the same next terminal
alike_next : (fs w y : List Spelled) (d : ℕ) → Alike fs w y d → next (kinds_of w) ≡ next (kinds_of y)
alike_next fs [] y d a = elim a [ ]
alike_next fs ((k, g) ∷ w) [] d a = elim a [ ]
alike_next [] ((k, g) ∷ w) ((j, h) ∷ y) d a = ap terminal_of a.0
alike_next (f ∷ fs) ((k, g) ∷ w) ((j, h) ∷ y) d a = ap terminal_of a.0

-- wants with a terminal first are not wants with a nonterminal first
mixed : (c d x e : ℕ) (s t : List Want) → ◌≡◌ {A = List Want} ((Terminal c, d) ∷ s) ((Nonterminal x, e) ∷ t) → ⊥
mixed c d x e s t h =
    let want : ◌≡◌ {A = Want} (Terminal c, d) (Nonterminal x, e) = cc in
    let part : Terminal c ≡ Nonterminal x = ap (λ (z : Want). z.0) want in
    cc

-- two derivations agree on the depths of the tokens that they share
pub one_prefix : {s t : List Want} {w y : List Spelled} (fs : List Spelled) (g : ℕ) → Derives s w → Derives t y → s ≡ t → Alike fs w y g → Legal s → DepthAt fs y g
one_prefix fs g done q e a l = elim a [ ]
one_prefix [] g (token {c} {d} {k} {s} {w} p n) (token {c = c'} {d = d'} {k = k'} {s = t} {w = y} q m) e a l =
    let want : ◌≡◌ {A = Want} (Terminal c, d) (Terminal c', d') = cc in
    sym (ap (λ (z : Want). z.1) want) ∙ a.1
one_prefix (f ∷ fs) g (token {c} {d} {k} {s} {w} p n) (token {c = c'} {d = d'} {k = k'} {s = t} {w = y} q m) e a l =
    let st : s ≡ t = cc in
    one_prefix fs g n m st a.1 l.1
one_prefix fs g (token p n) done e a l = elim a [ ]
one_prefix fs g (token p n) (rule j o h b q) e a l = absurd (mixed _ _ _ _ _ _ e)
one_prefix fs g (rule i m h b p) done e a l = absurd (let f : ◌≡◌ {A = List Want} _ [] = e in cc)
one_prefix fs g (rule i m h b p) (token r q) e a l = absurd (mixed _ _ _ _ _ _ (sym e))
one_prefix fs g (rule {x} {d} {s} {w} i m h a p) (rule {x = x'} {d = d'} {s = t} {w = y} j n o b q) e al l =
    let want : ◌≡◌ {A = Want} (Nonterminal x, d) (Nonterminal x', d') = cc in
    let tree : Nonterminal x ≡ Nonterminal x' = ap (λ (z : Want). z.0) want in
    let xs : x ≡ x' = cc in
    let ds : d ≡ d' = ap (λ (z : Want). z.1) want in
    let st : s ≡ t = cc in
    let nk : next (kinds_of w) ≡ next (kinds_of y) = alike_next fs w y g al in
    let one : choice x (next (kinds_of w)) ≡ i = chosen x d i (next (kinds_of w)) s l m h (next_small (kinds_of w)) a (starts p) in
    let lt : Legal ((Nonterminal x', d') ∷ t) = subst Legal e l in
    let two : choice x' (next (kinds_of y)) ≡ j = chosen x' d' j (next (kinds_of y)) t lt n o (next_small (kinds_of y)) b (starts q) in
    let ij : i ≡ j = sym one ∙ ap (choice x) nk ∙ ap (λ z. choice z (next (kinds_of y))) xs ∙ two in
    let stacks : at_depth (inside x d) (parts_of i) ++ s ≡ at_depth (inside x' d') (parts_of j) ++ t = ap (λ z. at_depth (inside x d) (parts_of z) ++ s) ij ∙ ap (λ z. at_depth (inside z d) (parts_of j) ++ s) xs ∙ ap (λ z. at_depth (inside x' z) (parts_of j) ++ s) ds ∙ ap (λ z. at_depth (inside x' d') (parts_of j) ++ z) st in
    one_prefix fs g p q stacks al (legal_rule x d i s l m h)

-- two lists that begin alike share the depth of the next token
pub alike : (prefix : List Spelled) (k : Kind) (g : ℕ) (rest y : List Spelled) (suffix : List Kind) → kinds_of y ≡ kinds_of prefix ++ (k ∷ suffix) → Alike prefix (prefix ++ ((k, g) ∷ rest)) y g
alike [] k g rest [] suffix e = cc
alike [] k g rest ((j, h) ∷ y) suffix e = let a : k ≡ j = cc in (a, refl)
alike ((i, f) ∷ prefix) k g rest [] suffix e = cc
alike ((i, f) ∷ prefix) k g rest ((j, h) ∷ y) suffix e = let a : i ≡ j = cc in let b : kinds_of y ≡ kinds_of prefix ++ (k ∷ suffix) = cc in (a, alike prefix k g rest y suffix b)

-- a token among those that are not tall is not tall
pub not_tall_at : (fs y : List Spelled) (g : ℕ) → NotTall y → DepthAt fs y g → g ≤ 200
not_tall_at fs [] g l h = elim h [ ]
not_tall_at [] ((j, d) ∷ y) g l h = let a = l.0 in omega (arith, h)
not_tall_at (f ∷ fs) ((j, d) ∷ y) g l h = not_tall_at fs y g l.1 h
