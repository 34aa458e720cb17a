-- At every list of tokens the reader comes to a verdict: before it takes a token or ends, only so many productions follow each other.
use Rattle.std.proofs.Common.{◌≡◌, ℕ, zero, suc, ◌+◌, ◌<◌, ◌≤◌, Bool, true, false, ◌&&◌, cond, List, [], ◌∷◌, ◌++◌, get_or, refl, sym, ap, subst, ◌∙◌, arith, inl, inr}
use Rattle.std.specs.Prelude.{nat_lt}
use Rattle.std.proofs.lemmas.Bool.{cases_lt, eqb-true, ltb-true}
use Rattle.std.proofs.lemmas.Bool.Decides.{eqb_tells}
use Rattle.chord_lexer.specs.declared.token.Kind.{Kind}
use Rattle.chord_tree.specs.Symbol.{Symbol, Terminal, Nonterminal}
use Rattle.chord_tree.specs.Grammar.{productions, rule_count, nonterminal_count, terminal_count}
use Rattle.chord_tree.specs.Terminals.{terminal_of}
use Rattle.chord_tree.specs.Derivation.{Want, next, head_of, parts_of, inside, at_depth}
use Rattle.chord_tree.specs.OneAhead.{choice, empties}
use Rattle.chord_tree.proofs.Ahead.{imp, imp_true, both_left, both_right, all_below, below, may_be_empty, part_empty, small, next_small, choice_fits}
use Rattle.chord_parser.specs.Runs.{Verdict, Fine, Runs, fine, extra, take, tall, other, expand, stuck}
use Rattle.chord_parser.specs.Samples.{sample}
use Rattle.chord_parser.proofs.Finish.{listed, else_first, not_else_else_first, else_first_at_depth, rule_else_first}
use Rattle.chord_parser.proofs.made.Ranks.{ranks}

-- a bound on the productions of a nonterminal that follow each other
rank : ℕ → ℕ
rank x = get_or ranks x 0

-- a bound for symbols, where after is one for what follows them
abbrev ranks_under : List Symbol → ℕ → ℕ
ranks_under [] after = after
ranks_under (Terminal c ∷ ps) after = 0
ranks_under (Nonterminal x ∷ ps) after = rank x + cond (may_be_empty x) (ranks_under ps after) 0

-- a bound for what is wanted
abbrev ranks_of : List Want → ℕ
ranks_of [] = 0
ranks_of ((Terminal c, d) ∷ s) = 0
ranks_of ((Nonterminal x, d) ∷ s) = rank x + cond (may_be_empty x) (ranks_of s) 0

-- each of these symbols may derive nothing
abbrev all_empty : List Symbol → Bool
all_empty [] = true
all_empty (p ∷ ps) = part_empty p && all_empty ps

-- the bound of a production's symbols is below that of its nonterminal, which may derive nothing if they may
check_rank : ℕ → Bool
check_rank i = nat_lt (ranks_under (parts_of i) 0) (rank (head_of i)) && imp (all_empty (parts_of i)) (may_be_empty (head_of i))

-- the bounds are so for each production
table_rank : all_below rule_count check_rank ≡ true
unfolding check_rank rank ranks may_be_empty empties head_of parts_of productions rule_count
table_rank = refl

-- a production's symbols have a lesser bound than its nonterminal, and derive nothing only where that may
rule_rank : (i : ℕ) → i < rule_count → (ranks_under (parts_of i) 0 < rank (head_of i)) × (all_empty (parts_of i) ≡ true → may_be_empty (head_of i) ≡ true)
unfolding check_rank
rule_rank i l =
    let h = below rule_count check_rank table_rank i l in
    (ltb-true _ _ (both_left _ _ h), imp_true _ _ (both_right (nat_lt (ranks_under (parts_of i) 0) (rank (head_of i))) _ h))

-- what is wanted is bounded as its symbols are
ranks_at_depth : (d : ℕ) (ps : List Symbol) (s : List Want) → ranks_of (at_depth d ps ++ s) ≡ ranks_under ps (ranks_of s)
ranks_at_depth d [] s = refl
ranks_at_depth d (Terminal c ∷ ps) s = refl
ranks_at_depth d (Nonterminal x ∷ ps) s = ap (λ z. rank x + cond (may_be_empty x) z 0) (ranks_at_depth d ps s)

-- a sum under a test is the sum of both under the test
cond_plus : (b : Bool) (r u v w : ℕ) → u ≡ v + w → r + cond b u 0 ≡ r + cond b v 0 + cond b w 0
cond_plus true r u v w e = omega arith
cond_plus false r u v w e = omega arith

-- a test within a test is one of both
cond_and : (a b : Bool) (w : ℕ) → cond a (cond b w 0) 0 ≡ cond (a && b) w 0
cond_and true b w = refl
cond_and false b w = refl

-- what follows symbols counts where all of them may derive nothing
ranks_split : (ps : List Symbol) (after : ℕ) → ranks_under ps after ≡ ranks_under ps 0 + cond (all_empty ps) after 0
ranks_split [] after = omega arith
ranks_split (Terminal c ∷ ps) after = refl
ranks_split (Nonterminal x ∷ ps) after =
    cond_plus (may_be_empty x) (rank x) (ranks_under ps after) (ranks_under ps 0) (cond (all_empty ps) after 0) (ranks_split ps after)
    ∙ ap (λ z. rank x + cond (may_be_empty x) (ranks_under ps 0) 0 + z) (cond_and (may_be_empty x) (all_empty ps) after)

-- what counts under a test counts under a wider one
cond_mono : (a b : Bool) (w : ℕ) → (a ≡ true → b ≡ true) → cond a w 0 ≤ cond b w 0
cond_mono true true w f = omega arith
cond_mono true false w f = let e = f refl in cc
cond_mono false true w f = omega arith
cond_mono false false w f = omega arith

-- by a production the bound falls
fewer : (x d i n : ℕ) (s : List Want) → i < rule_count → head_of i ≡ x → ranks_of ((Nonterminal x, d) ∷ s) ≤ suc n → ranks_of (at_depth (inside x d) (parts_of i) ++ s) ≤ n
fewer x d i n s l e m =
    let r = rule_rank i l in
    let a : ranks_under (parts_of i) 0 < rank x = subst (λ z. ranks_under (parts_of i) 0 < rank z) e r.0 in
    let f : all_empty (parts_of i) ≡ true → may_be_empty x ≡ true = λ h. sym (ap may_be_empty e) ∙ r.1 h in
    let b = cond_mono (all_empty (parts_of i)) (may_be_empty x) (ranks_of s) f in
    let c = ranks_at_depth (inside x d) (parts_of i) s ∙ ranks_split (parts_of i) (ranks_of s) in
    omega (arith, m)

-- a nonterminal has a production, so its bound is not zero
no_rank : (x d i : ℕ) (s : List Want) → i < rule_count → head_of i ≡ x → ranks_of ((Nonterminal x, d) ∷ s) ≤ 0 → ⊥
no_rank x d i s l e m = let r = (rule_rank i l).0 in let a : ranks_under (parts_of i) 0 < rank x = subst (λ z. ranks_under (parts_of i) 0 < rank z) e r in omega (arith, m)

-- the reader comes to a verdict
record Ended (s : List Want) (ks : List Kind) : Type 0 where
  pub verdict : Verdict
  pub runs : Runs s ks verdict

-- after the next token the reader comes to a verdict, whatever is wanted
abbrev EndsAfter : List Kind → Type 0
EndsAfter [] = Unit {0}
EndsAfter (k ∷ ks) = (s : List Want) → else_first s ≡ true → Ended s ks

-- the next token, where it is the one that is wanted
at_token : (c d : ℕ) (s : List Want) (ks : List Kind) → else_first ((Terminal c, d) ∷ s) ≡ true → EndsAfter ks → next ks ≡ c → Ended ((Terminal c, d) ∷ s) ks
at_token c d s [] t a e =
    let f : terminal_of (sample c) ≡ c = eqb-true _ _ (both_left _ _ t) in
    let l = small (sample c) in
    let g : terminal_of (sample c) ≡ terminal_count = f ∙ sym e in
    absurd (omega arith)
at_token c d s (k ∷ ks) t a e = elim (cases_lt 200 d) [
  | inl l ↦ record { verdict = _; runs = tall e l }
  | inr l ↦ let r = a s (not_else_else_first s (both_right (listed (Terminal c)) _ t)) in record { verdict = _; runs = take e l r.runs }
]

-- a terminal is wanted
at_terminal : (c d : ℕ) (s : List Want) (ks : List Kind) → else_first ((Terminal c, d) ∷ s) ≡ true → EndsAfter ks → Ended ((Terminal c, d) ∷ s) ks
at_terminal c d s ks t a = elim (eqb_tells (next ks) c) [
  | inl e ↦ at_token c d s ks t a e.1
  | inr e ↦ record { verdict = _; runs = other e.1 }
]

-- nothing is wanted
at_nothing : (ks : List Kind) → Ended [] ks
at_nothing [] = record { verdict = Fine; runs = fine }
at_nothing (k ∷ ks) = record { verdict = _; runs = extra }

-- what a production makes wanted has `else` at most first
else_after : (x d : ℕ) (s : List Want) (i : ℕ) → i < rule_count → else_first ((Nonterminal x, d) ∷ s) ≡ true → else_first (at_depth (inside x d) (parts_of i) ++ s) ≡ true
else_after x d s i l t = else_first_at_depth (inside x d) (parts_of i) s (rule_else_first i l) (both_right (nat_lt x nonterminal_count) _ t)

-- the production that is chosen is one of the nonterminal
chosen_head : (x d : ℕ) (s : List Want) (ks : List Kind) → else_first ((Nonterminal x, d) ∷ s) ≡ true → choice x (next ks) < rule_count → head_of (choice x (next ks)) ≡ x
chosen_head x d s ks t l = (choice_fits x (next ks) (ltb-true _ _ (both_left _ _ t)) (next_small ks) l).0

-- a nonterminal comes to the verdict of its production
expanded_by : (x d : ℕ) (s : List Want) (ks : List Kind) → choice x (next ks) < rule_count → Ended (at_depth (inside x d) (parts_of (choice x (next ks))) ++ s) ks → Ended ((Nonterminal x, d) ∷ s) ks
expanded_by x d s ks l e = record { verdict = e.verdict; runs = expand l e.runs }

-- within a bound on the productions the reader comes to a verdict, where it does after the next token
ends_within : (n : ℕ) (ks : List Kind) → EndsAfter ks → (s : List Want) → else_first s ≡ true → ranks_of s ≤ n → Ended s ks
ends_within n ks a [] t m = at_nothing ks
ends_within n ks a ((Terminal c, d) ∷ s) t m = at_terminal c d s ks t a
ends_within zero ks a ((Nonterminal x, d) ∷ s) t m = elim (cases_lt (choice x (next ks)) rule_count) [
  | inl l ↦ absurd (no_rank x d (choice x (next ks)) s l (chosen_head x d s ks t l) m)
  | inr l ↦ record { verdict = _; runs = stuck l }
]
ends_within (suc n) ks a ((Nonterminal x, d) ∷ s) t m = elim (cases_lt (choice x (next ks)) rule_count) [
  | inl l ↦ expanded_by x d s ks l (ends_within n ks a (at_depth (inside x d) (parts_of (choice x (next ks))) ++ s) (else_after x d s (choice x (next ks)) l t) (fewer x d (choice x (next ks)) n s l (chosen_head x d s ks t l) m))
  | inr l ↦ record { verdict = _; runs = stuck l }
]

-- the reader comes to a verdict
ends : (ks : List Kind) (s : List Want) → else_first s ≡ true → Ended s ks
ends [] s t = ends_within (ranks_of s) [] tt s t (omega arith)
ends (k ∷ ks) s t = ends_within (ranks_of s) (k ∷ ks) (ends ks) s t (omega arith)

-- At every list of tokens the reader comes to a verdict, if no `else` is wanted but first.
pub some_verdict : (ks : List Kind) (s : List Want) → else_first s ≡ true → (v : Verdict) × Runs s ks v
some_verdict ks s t = let e = ends ks s t in (e.verdict, e.runs)
