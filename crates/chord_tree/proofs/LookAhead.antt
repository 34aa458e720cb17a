-- One token ahead is enough: what a derivation of a want must begin with, and with which rule.
use Rattle.std.proofs.Common.{◌≡◌, ℕ, suc, ◌<◌, Bool, true, false, ◌&&◌, ◌||◌, List, [], ◌∷◌, ◌++◌, refl, sym, ap, subst, ◌∙◌, eq-eqb}
use Rattle.chord_tree.specs.Symbol.{Symbol, Nonterminal}
use Rattle.chord_tree.specs.Grammar.{rule_count, terminal_count}
use Rattle.chord_tree.specs.Terminals.{terminal_of}
use Rattle.chord_tree.specs.Derivation.{Spelled, Want, kinds_of, next, head_of, parts_of, inside, at_depth, allowed, Derives, done, token, rule}
use Rattle.chord_tree.specs.OneAhead.{choice}
use Rattle.chord_tree.proofs.Ahead.{imp, imp_true, both_left, both_right, either_left, begins, may_be_empty, follows_at, part_begins, part_empty, part_follows, begin_under, begin_at, legal_under, rule_begins, rule_legal, rule_chosen, next_small}

-- what is wanted may begin as its symbols do
pub under : (d : ℕ) (ps : List Symbol) (s : List Want) (c : ℕ) → begin_at (at_depth d ps ++ s) c ≡ begin_under ps (begin_at s c) c
under d [] s c = refl
under d (p ∷ ps) s c = ap (λ b. part_begins p c || (part_empty p && b)) (under d ps s c)

-- where one test follows from another, it may take its place in `x || (n && ..)`
or_map : (x n u v : Bool) → (u ≡ true → v ≡ true) → (x || (n && u)) ≡ true → (x || (n && v)) ≡ true
or_map true n u v f h = refl
or_map false true u v f h = f h
or_map false false u v f h = h

-- symbols may begin where more may follow them
pub grows : (ps : List Symbol) (a b : Bool) (c : ℕ) → (a ≡ true → b ≡ true) → begin_under ps a c ≡ true → begin_under ps b c ≡ true
grows [] a b c f h = f h
grows (p ∷ ps) a b c f h = or_map (part_begins p c) (part_empty p) _ _ (grows ps a b c f) h

-- what the wants derive begins with a token that they may begin with
pub starts : {s : List Want} {w : List Spelled} → Derives s w → begin_at s (next (kinds_of w)) ≡ true
starts done = eq-eqb terminal_count terminal_count refl
starts (token {c} {d} {k} {s} {w} e r) = either_left _ _ (eq-eqb c (terminal_of k) (sym e))
starts (rule {x} {d} {s} {w} i l e a r) =
    let h : begin_under (parts_of i) (begin_at s (next (kinds_of w))) (next (kinds_of w)) ≡ true = sym (under (inside x d) (parts_of i) s (next (kinds_of w))) ∙ starts r in
    subst (λ y. (begins y (next (kinds_of w)) || (may_be_empty y && begin_at s (next (kinds_of w)))) ≡ true) e (rule_begins i (next (kinds_of w)) (begin_at s (next (kinds_of w))) l (next_small (kinds_of w)) h)

-- each want is followed only by what may follow it
abbrev pub Legal : List Want → Type 0
Legal [] = Unit {0}
Legal ((p, d) ∷ s) = ((c : ℕ) → c < suc terminal_count → begin_at s c ≡ true → part_follows p c ≡ true) × Legal s

-- symbols before legal wants are legal wants, where they are legal before whatever may begin those
legal_parts : (ps : List Symbol) (d : ℕ) (a : ℕ → Bool) (s : List Want) → Legal s
    → ((c : ℕ) → c < suc terminal_count → begin_at s c ≡ true → a c ≡ true)
    → ((c : ℕ) → c < suc terminal_count → legal_under ps (a c) c ≡ true) → Legal (at_depth d ps ++ s)
legal_parts [] d a s l f h = l
legal_parts (p ∷ ps) d a s l f h = (
  λ c m b. imp_true _ _ (both_left _ _ (h c m)) (grows ps _ _ c (f c m) (sym (under d ps s c) ∙ b)),
  legal_parts ps d a s l f (λ c m. both_right (imp (begin_under ps (a c) c) (part_follows p c)) _ (h c m)),
)

-- what is wanted is legal after a production
pub legal_rule : (x d i : ℕ) (s : List Want) → Legal ((Nonterminal x, d) ∷ s) → i < rule_count → head_of i ≡ x → Legal (at_depth (inside x d) (parts_of i) ++ s)
legal_rule x d i s l m e =
    legal_parts (parts_of i) (inside x d) (λ c. follows_at x c) s l.1 l.0
    (λ c n. subst (λ y. legal_under (parts_of i) (follows_at y c) c ≡ true) e (rule_legal i c m n))

-- the one rule that a derivation can begin with
pub chosen : (x d i c : ℕ) (s : List Want) → Legal ((Nonterminal x, d) ∷ s) → i < rule_count → head_of i ≡ x → c < suc terminal_count → allowed i c ≡ true
    → begin_at (at_depth (inside x d) (parts_of i) ++ s) c ≡ true → choice x c ≡ i
chosen x d i c s l m e n a b =
    let h : begin_under (parts_of i) (follows_at x c) c ≡ true = grows (parts_of i) _ _ c (l.0 c n) (sym (under (inside x d) (parts_of i) s c) ∙ b) in
    sym (ap (λ y. choice y c) e) ∙ rule_chosen i c m n (subst (λ y. begin_under (parts_of i) (follows_at y c) c ≡ true) (sym e) h) a
