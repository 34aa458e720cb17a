-- Single tokens.
use Rattle.std.proofs.Common.{◌≡◌, ℕ, suc, ◌-◌, ◌<◌, ◌≤◌, ◌≢◌, List, [], ◌∷◌, length, refl, sym, ap, subst, ◌∙◌, arith, true, false, cond}
use Rattle.chord_lexer.specs.declared.token.Kind.TheVariants as kinds
use Rattle.chord_lexer.specs.declared.token.Keyword.TheVariants as keywords
use Rattle.chord_lexer.specs.declared.token.Mark.TheVariants as marks
use Rattle.chord_parser.specs.declared.faults.Fault.TheVariants as faults
use Rattle.chord_lexer.specs.declared.token.Kind.{Kind}
use Rattle.chord_lexer.specs.declared.token.Keyword.{Keyword}
use Rattle.chord_lexer.specs.declared.token.Mark.{Mark}
use Rattle.chord_lexer.specs.declared.token.Token.{Token}
use Rattle.chord_tree.specs.Symbol.{Terminal, number_of}
use Rattle.chord_tree.specs.Grammar.{terminal_count}
use Rattle.chord_tree.specs.Terminals.{terminal_of, keyword_symbol, mark_symbol}
use Rattle.chord_tree.specs.Derivation.{includes, next}
use Rattle.chord_parser.specs.Samples.{sample}
use Rattle.chord_parser.specs.Runs.{Wrong, Tall, Runs, other, tall, Reads, token}
use Rattle.chord_tree.specs.Node.{Leaf, unnumbered, number_at}
use Rattle.chord_parser.specs.Reading.{Heads, StopsAs, valued}
use Rattle.chord_tree.specs.Program.{token_kinds}

-- there are as many kinds as tokens
pub told_length : (ts : List Token) → length (token_kinds ts) ≡ length ts
told_length [] = refl
told_length (t ∷ ts) = ap suc (told_length ts)

-- the sample of a keyword is the keyword
pub bare_word : (w : Keyword) → sample (number_of (keyword_symbol w)) ≡ kinds.Word w
bare_word keywords.Using = refl
bare_word _ = refl

-- the sample of a mark is the mark
pub bare_mark : (m : Mark) → sample (number_of (mark_symbol m)) ≡ kinds.Mark m
bare_mark marks.Semicolon = refl
bare_mark _ = refl

-- the sample of a kind's terminal is the kind, where it carries no value
bare_kind : (k : Kind) → includes valued (terminal_of k) ≡ false → sample (terminal_of k) ≡ k
bare_kind (kinds.Word w) h = bare_word w
bare_kind (kinds.Name x) h = cc
bare_kind (kinds.Number x) h = cc
bare_kind (kinds.Literal x) h = cc
bare_kind (kinds.Mark m) h = bare_mark m

-- a kind that carries no value is the sample of its terminal
pub of_terminal : (c : ℕ) (k : Kind) → terminal_of k ≡ c → includes valued c ≡ false → sample c ≡ k
of_terminal c k e h = ap sample (sym e) ∙ bare_kind k (ap (includes valued) e ∙ h)

-- a token of a terminal is read
pub read : (count c d : ℕ) (ks rest : List Kind) (k : Kind) → Heads c ks rest k → d ≤ 200 → Reads count (Terminal c) d ks rest (Leaf k (number_at k (count - length ks)))
read count c d ks rest k h l = subst (λ z. Reads count (Terminal c) d z rest (Leaf k (number_at k (count - length z)))) (sym h.same) (token h.terminal l)

-- a token without a number is read
pub skipped : (count c d : ℕ) (ks rest : List Kind) (k : Kind) → Heads c ks rest k → d ≤ 200 → includes valued c ≡ false → includes unnumbered c ≡ true → Reads count (Terminal c) d ks rest (Leaf (sample c) 0)
skipped count c d ks rest k h l b p =
    let e : number_at k (count - length ks) ≡ 0 = ap (λ z. cond (includes unnumbered z) 0 (count - length ks)) h.terminal ∙ ap (λ z. cond z 0 (count - length ks)) p in
    subst (λ z. Reads count (Terminal c) d ks rest (Leaf z 0)) (sym (of_terminal c k h.terminal b)) (subst (λ z. Reads count (Terminal c) d ks rest (Leaf k z)) e (read count c d ks rest k h l))

-- a token with its number is read
pub taken : (count c d at : ℕ) (ks rest : List Kind) (k : Kind) → Heads c ks rest k → d ≤ 200 → includes valued c ≡ false → includes unnumbered c ≡ false → at ≡ count - length ks → Reads count (Terminal c) d ks rest (Leaf (sample c) at)
taken count c d at ks rest k h l b p q =
    let e : number_at k (count - length ks) ≡ at = ap (λ z. cond (includes unnumbered z) 0 (count - length ks)) h.terminal ∙ ap (λ z. cond z 0 (count - length ks)) p ∙ sym q in
    subst (λ z. Reads count (Terminal c) d ks rest (Leaf z at)) (sym (of_terminal c k h.terminal b)) (subst (λ z. Reads count (Terminal c) d ks rest (Leaf k z)) e (read count c d ks rest k h l))

-- at another token the reader stops
pub stops_other : (c d n : ℕ) (ts : List Token) → n ≡ length ts → next (token_kinds ts) ≢ c → StopsAs (Terminal c) d (token_kinds ts) (faults.At n)
stops_other c d n ts e h = λ s. subst (λ z. Runs ((Terminal c, d) ∷ s) (token_kinds ts) (Wrong z)) (told_length ts ∙ sym e) (other h)

-- at a tall token the reader stops
pub stops_tall : (c d n : ℕ) (ts : List Token) (rest : List Kind) (k : Kind) → n ≡ length ts → Heads c (token_kinds ts) rest k → 200 < d → StopsAs (Terminal c) d (token_kinds ts) (faults.Tall n)
stops_tall c d n ts rest k e h l = λ s. subst (λ z. Runs ((Terminal c, d) ∷ s) (token_kinds ts) (Tall z)) (told_length ts ∙ sym e)
    (subst (λ z. Runs ((Terminal c, d) ∷ s) z (Tall (length z))) (sym h.same) (tall h.terminal l))

-- at the end no token comes next
pub end_next : (ts : List Token) → length ts ≡ 0 → 52 ≡ next (token_kinds ts)
unfolding terminal_count
end_next [] e = refl
end_next (t ∷ ts) e = cc

-- at the end no terminal comes next
pub none_left : (c : ℕ) (ts : List Token) → length ts ≡ 0 → c < 52 → next (token_kinds ts) ≢ c
none_left c ts e l q = let f = end_next ts e in omega arith

-- a token that carries a value is read
pub read_as : (count c d at : ℕ) (ks rest : List Kind) (k y : Kind) → Heads c ks rest k → d ≤ 200 → k ≡ y → at ≡ count - length ks → includes unnumbered (terminal_of y) ≡ false → Reads count (Terminal c) d ks rest (Leaf y at)
read_as count c d at ks rest k y h l e q p =
    let f : number_at k (count - length ks) ≡ at = ap (λ z. cond (includes unnumbered (terminal_of z)) 0 (count - length ks)) e ∙ ap (λ z. cond z 0 (count - length ks)) p ∙ sym q in
    subst (λ z. Reads count (Terminal c) d ks rest (Leaf z at)) e (subst (λ z. Reads count (Terminal c) d ks rest (Leaf k z)) f (read count c d ks rest k h l))
