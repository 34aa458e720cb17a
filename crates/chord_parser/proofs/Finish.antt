-- Whatever is wanted can be derived.
use Rattle.std.proofs.Common.{◌≡◌, ℕ, zero, suc, ◌+◌, ◌<◌, ◌≤◌, ◌≢◌, Bool, true, not, ◌&&◌, List, [], ◌∷◌, ◌++◌, get_or, refl, sym, ap, ◌∙◌, arith, inl, inr, eq-eqb}
use Rattle.std.specs.Prelude.{nat_eq, nat_lt}
use Rattle.std.proofs.lemmas.Bool.{eqb-true, ltb-true}
use Rattle.std.proofs.lemmas.Bool.Decides.{eqb_tells}
use Rattle.chord_tree.specs.Symbol.{Symbol, Terminal, Nonterminal}
use Rattle.chord_tree.specs.Grammar.{productions, rule_count, nonterminal_count, terminal_count, else_terminal, no_else}
use Rattle.chord_tree.specs.OneAhead.{finishes, weights}
use Rattle.chord_parser.specs.Samples.{sample}
use Rattle.chord_tree.specs.Terminals.{terminal_of}
use Rattle.chord_tree.specs.Derivation.{Spelled, Want, kinds_of, next, head_of, parts_of, inside, at_depth, allowed, Derives, done, token, rule}
use Rattle.chord_tree.proofs.Ahead.{imp, imp_true, both_left, both_right, both_true, all_below, below, next_small}

-- a token of the terminal there is, or the nonterminal is one of the grammar
abbrev pub listed : Symbol → Bool
listed (Terminal c) = nat_eq (terminal_of (sample c)) c
listed (Nonterminal x) = nat_lt x nonterminal_count

-- and it is not `else`
abbrev pub not_else : Symbol → Bool
not_else (Terminal c) = nat_eq (terminal_of (sample c)) c && not (nat_eq c else_terminal)
not_else (Nonterminal x) = nat_lt x nonterminal_count

-- no symbol that is wanted is `else`
abbrev pub all_not_else : List Want → Bool
all_not_else [] = true
all_not_else ((p, d) ∷ s) = not_else p && all_not_else s

-- no symbol of these is `else`
abbrev pub not_else_parts : List Symbol → Bool
not_else_parts [] = true
not_else_parts (p ∷ ps) = not_else p && not_else_parts ps

-- only the first may be `else`
abbrev pub else_first : List Want → Bool
else_first [] = true
else_first ((p, d) ∷ s) = listed p && all_not_else s

-- none but the first of these symbols is `else`
abbrev pub else_first_parts : List Symbol → Bool
else_first_parts [] = true
else_first_parts (p ∷ ps) = listed p && not_else_parts ps

-- a bound on the steps to the end of a symbol
abbrev pub weight : Symbol → ℕ
weight (Terminal c) = 1
weight (Nonterminal x) = get_or weights x 0

-- a bound on the steps to the end of what is wanted
abbrev pub total_weight : List Want → ℕ
total_weight [] = 0
total_weight ((p, d) ∷ s) = weight p + total_weight s

-- a bound on the steps to the end of symbols
abbrev pub total_parts : List Symbol → ℕ
total_parts [] = 0
total_parts (p ∷ ps) = weight p + total_parts ps

-- the production by which a nonterminal ends soonest
pub finish : ℕ → ℕ
finish x = get_or finishes x 0

-- the production that ends nonterminal x soonest has less weight than x, is one of x, and has no `else`
check_finish : ℕ → Bool
check_finish x = nat_lt (total_parts (parts_of (finish x))) (get_or weights x 0) && (nat_eq (head_of (finish x)) x && (nat_lt (finish x) rule_count && not_else_parts (parts_of (finish x))))

-- the production that ends nonterminal x soonest is allowed at terminal c, if that is not `else`
check_open : ℕ → ℕ → Bool
check_open x c = imp (not (nat_eq c else_terminal)) (allowed (finish x) c)

-- no symbol of production i but its first may be `else`
check_else_first : ℕ → Bool
check_else_first i = else_first_parts (parts_of i)

-- the production that ends a nonterminal soonest has less weight, is one of that nonterminal, and has no `else`
table_finish : all_below nonterminal_count check_finish ≡ true
unfolding check_finish finish head_of parts_of productions finishes weights rule_count nonterminal_count else_terminal
table_finish = refl

-- the production that ends a nonterminal soonest is allowed wherever `else` does not come next
table_open : all_below nonterminal_count (λ x. all_below (suc terminal_count) (λ c. check_open x c)) ≡ true
unfolding check_open finish allowed finishes no_else nonterminal_count terminal_count else_terminal
table_open = refl

-- no symbol of a production but its first is `else`
table_else_first : all_below rule_count check_else_first ≡ true
unfolding check_else_first head_of parts_of productions rule_count nonterminal_count else_terminal
table_else_first = refl

-- no production has an `else` but as its first symbol
pub rule_else_first : (i : ℕ) → i < rule_count → else_first_parts (parts_of i) ≡ true
unfolding check_else_first
rule_else_first i l = below rule_count check_else_first table_else_first i l

-- the production that ends a nonterminal soonest has less weight, is one of that nonterminal, and has no `else`
finish_fits : (x : ℕ) → x < nonterminal_count → (total_parts (parts_of (finish x)) < get_or weights x 0) × (head_of (finish x) ≡ x) × (finish x < rule_count) × (not_else_parts (parts_of (finish x)) ≡ true)
unfolding check_finish
finish_fits x l =
    let h = below nonterminal_count check_finish table_finish x l in
    let t = both_right (nat_lt (total_parts (parts_of (finish x))) (get_or weights x 0)) _ h in
    let u = both_right (nat_eq (head_of (finish x)) x) _ t in
    (ltb-true _ _ (both_left _ _ h), eqb-true _ _ (both_left _ _ t), ltb-true _ _ (both_left _ _ u), both_right (nat_lt (finish x) rule_count) _ u)

-- numbers that are not equal are not equal by test
not_eq : (a b : ℕ) → a ≢ b → not (nat_eq a b) ≡ true
not_eq a b h = elim (eqb_tells a b) [ inl (t, e) ↦ absurd (h e) | inr (t, e) ↦ ap not t ]

-- numbers that are not equal by test are not equal
eq_not : (a b : ℕ) → not (nat_eq a b) ≡ true → a ≢ b
eq_not a b h e = let t = eq-eqb a b e in let u = sym (ap not t) ∙ h in cc

-- the production that ends a nonterminal soonest is allowed at each terminal but `else`
finish_open : (x c : ℕ) → x < nonterminal_count → c < suc terminal_count → c ≢ else_terminal → allowed (finish x) c ≡ true
unfolding check_open
finish_open x c l m h = imp_true _ _ (below (suc terminal_count) (λ c. check_open x c) (below nonterminal_count _ table_open x l) c m) (not_eq c else_terminal h)

-- what is wanted has no `else` where its symbols have none
pub not_else_at_depth : (d : ℕ) (ps : List Symbol) (s : List Want) → not_else_parts ps ≡ true → all_not_else s ≡ true → all_not_else (at_depth d ps ++ s) ≡ true
not_else_at_depth d [] s h k = k
not_else_at_depth d (p ∷ ps) s h k = both_true _ _ (both_left _ _ h) (not_else_at_depth d ps s (both_right (not_else p) _ h) k)

-- symbols and what is wanted after them weigh as much as both
total_at_depth : (d : ℕ) (ps : List Symbol) (s : List Want) → total_weight (at_depth d ps ++ s) ≡ total_parts ps + total_weight s
total_at_depth d [] s = omega arith
total_at_depth d (p ∷ ps) s = let h = total_at_depth d ps s in omega arith

-- a symbol that is not `else` is one of the grammar
pub not_else_listed : (p : Symbol) → not_else p ≡ true → listed p ≡ true
not_else_listed (Terminal c) h = both_left _ _ h
not_else_listed (Nonterminal x) h = h

-- what has no `else` has none but as its first
pub not_else_else_first : (s : List Want) → all_not_else s ≡ true → else_first s ≡ true
not_else_else_first [] h = refl
not_else_else_first ((p, d) ∷ s) h = both_true _ _ (not_else_listed p (both_left _ _ h)) (both_right (not_else p) _ h)

-- what is wanted has no `else` but as its first where its symbols have none
pub else_first_at_depth : (d : ℕ) (ps : List Symbol) (s : List Want) → else_first_parts ps ≡ true → all_not_else s ≡ true → else_first (at_depth d ps ++ s) ≡ true
else_first_at_depth d [] s h k = not_else_else_first s k
else_first_at_depth d (p ∷ ps) s h k = both_true _ _ (both_left _ _ h) (not_else_at_depth d ps s (both_right (listed p) _ h) k)

-- something is derived from what is wanted
abbrev pub Finished : List Want → Type 0
Finished s = (w : List Spelled) × Derives s w × (next (kinds_of w) ≢ else_terminal)

-- the end is not `else`
end_not_else : terminal_count ≢ else_terminal
unfolding terminal_count else_terminal
end_not_else e = omega arith

-- where something is derived from what is wanted, so it is with a terminal before that, which is not `else`
finish_word : (c d : ℕ) (s : List Want) → not_else (Terminal c) ≡ true → Finished s → Finished ((Terminal c, d) ∷ s)
finish_word c d s h (w, r, n) =
    let e = eqb-true _ _ (both_left _ _ h) in
    let m = eq_not _ _ (both_right (nat_eq (terminal_of (sample c)) c) _ h) in
    ((sample c, d) ∷ w, token e r, λ q. m (sym e ∙ q))

-- where something is derived from a nonterminal's soonest end and what is wanted after it, so it is from the nonterminal and that
finish_tree : (x d : ℕ) (s : List Want) → x < nonterminal_count → Finished (at_depth (inside x d) (parts_of (finish x)) ++ s) → Finished ((Nonterminal x, d) ∷ s)
finish_tree x d s l (w, r, n) =
    let f = finish_fits x l in
    (w, rule (finish x) f.2 f.1 (finish_open x (next (kinds_of w)) l (next_small (kinds_of w)) n) r, n)

-- where nothing that is wanted is `else`, and its weight is at most n, something is derived from it
finished_in : (n : ℕ) (s : List Want) → all_not_else s ≡ true → total_weight s ≤ n → Finished s
finished_in n [] h l = ([], done, end_not_else)
finished_in zero ((Terminal c, d) ∷ s) h l = absurd (omega arith)
finished_in (suc n) ((Terminal c, d) ∷ s) h l = finish_word c d s (both_left _ _ h) (finished_in n s (both_right (not_else (Terminal c)) _ h) (omega arith))
finished_in zero ((Nonterminal x, d) ∷ s) h l = let f = finish_fits x (ltb-true _ _ (both_left _ _ h)) in absurd (omega arith)
finished_in (suc n) ((Nonterminal x, d) ∷ s) h l =
    let m = ltb-true _ _ (both_left _ _ h) in
    let f = finish_fits x m in
    let t = total_at_depth (inside x d) (parts_of (finish x)) s in
    finish_tree x d s m (finished_in n (at_depth (inside x d) (parts_of (finish x)) ++ s) (not_else_at_depth (inside x d) (parts_of (finish x)) s f.3 (both_right (not_else (Nonterminal x)) _ h)) (omega arith))

-- what is wanted, `else` at most first, derives some list
pub finished : (s : List Want) → else_first s ≡ true → (w : List Spelled) × Derives s w
finished [] h = ([], done)
finished ((Terminal c, d) ∷ s) h =
    let f = finished_in (total_weight s) s (both_right (listed (Terminal c)) _ h) (omega arith) in
    ((sample c, d) ∷ f.0, token (eqb-true _ _ (both_left _ _ h)) f.1)
finished ((Nonterminal x, d) ∷ s) h = let f = finished_in (total_weight ((Nonterminal x, d) ∷ s)) ((Nonterminal x, d) ∷ s) h (omega arith) in (f.0, f.1)
