-- What the tables of the grammar have to meet, computed over the whole of them.
use Rattle.std.proofs.Common.{◌≡◌, ℕ, zero, suc, ◌<◌, ◌≢◌, Bool, true, false, not, ◌&&◌, ◌||◌, List, [], ◌∷◌, get_or, refl, sym, ap, subst, ◌∙◌, arith, inl, inr, lit<}
use Rattle.std.specs.Prelude.{nat_eq, nat_lt}
use Rattle.std.proofs.lemmas.Bool.{eqb-true, lt-ltb}
use Rattle.std.proofs.lemmas.Bool.Decides.{eqb_tells}
use Rattle.chord_lexer.specs.declared.token.Kind.TheVariants as kinds
use Rattle.chord_lexer.specs.declared.token.Mark.TheVariants as marks
use Rattle.chord_lexer.specs.declared.token.Keyword.TheVariants as keywords
use Rattle.chord_lexer.specs.declared.token.Kind.{Kind}
use Rattle.chord_lexer.specs.declared.token.Keyword.{Keyword}
use Rattle.chord_lexer.specs.declared.token.Mark.{Mark}
use Rattle.chord_tree.specs.Symbol.{number_of, Symbol, Terminal, Nonterminal}
use Rattle.chord_tree.specs.Grammar.{productions, rule_count, nonterminal_count, terminal_count, else_terminal, no_else}
use Rattle.chord_tree.specs.OneAhead.{firsts, follows, choices, choice, empties}
use Rattle.chord_tree.specs.Terminals.{terminal_of, keyword_symbol, mark_symbol}
use Rattle.chord_tree.specs.Derivation.{includes, Want, next, head_of, parts_of, allowed}

-- the second holds where the first does
abbrev pub imp : Bool → Bool → Bool
imp a b = not a || b

-- what follows from what holds
pub imp_true : (a b : Bool) → imp a b ≡ true → a ≡ true → b ≡ true
imp_true true b h e = h
imp_true false b h e = cc

-- the first of two that hold
pub both_left : (a b : Bool) → (a && b) ≡ true → a ≡ true
both_left true b h = refl
both_left false b h = cc

-- the second of two that hold
pub both_right : (a b : Bool) → (a && b) ≡ true → b ≡ true
both_right true b h = h
both_right false b h = cc

-- two that hold, together
pub both_true : (a b : Bool) → a ≡ true → b ≡ true → (a && b) ≡ true
both_true true b h k = k
both_true false b h k = cc

-- the first holds, and so one of the two
pub either_left : (a b : Bool) → a ≡ true → (a || b) ≡ true
either_left true b h = refl
either_left false b h = cc

-- the test holds of each number below n
abbrev pub all_below : ℕ → (ℕ → Bool) → Bool
all_below zero f = true
all_below (suc n) f = f n && all_below n f

-- what holds of all numbers below n holds of one
pub below : (n : ℕ) (f : ℕ → Bool) → all_below n f ≡ true → (i : ℕ) → i < n → f i ≡ true
below zero f h i l = absurd (omega arith)
below (suc n) f h i l = elim (eqb_tells i n) [ inl (t, e) ↦ subst (λ j. f j ≡ true) (sym e) (both_left (f n) _ h) | inr (t, e) ↦ below n f (both_right (f n) _ h) i (omega arith) ]

-- nonterminal x may begin at terminal c
unfoldable pub begins : ℕ → ℕ → Bool
begins x c = includes (get_or firsts x []) c

-- nonterminal x may derive nothing
unfoldable pub may_be_empty : ℕ → Bool
may_be_empty x = includes empties x

-- terminal c may follow nonterminal x
unfoldable pub follows_at : ℕ → ℕ → Bool
follows_at x c = includes (get_or follows x []) c

-- the symbol may begin at terminal c
abbrev pub part_begins : Symbol → ℕ → Bool
part_begins (Terminal a) c = nat_eq a c
part_begins (Nonterminal x) c = begins x c

-- the symbol may derive nothing
abbrev pub part_empty : Symbol → Bool
part_empty (Terminal a) = false
part_empty (Nonterminal x) = may_be_empty x

-- terminal c may follow the symbol
abbrev pub part_follows : Symbol → ℕ → Bool
part_follows (Terminal a) c = true
part_follows (Nonterminal x) c = follows_at x c

-- symbols may begin at terminal c, where after says whether what follows them may
abbrev pub begin_under : List Symbol → Bool → ℕ → Bool
begin_under [] after c = after
begin_under (p ∷ ps) after c = part_begins p c || (part_empty p && begin_under ps after c)

-- the wants may begin at terminal c; nothing more is terminal_count
abbrev pub begin_at : List Want → ℕ → Bool
begin_at [] c = nat_eq c terminal_count
begin_at ((p, d) ∷ s) c = part_begins p c || (part_empty p && begin_at s c)

-- each terminal that may begin what follows a symbol may follow it
abbrev pub legal_under : List Symbol → Bool → ℕ → Bool
legal_under [] after c = true
legal_under (p ∷ ps) after c = imp (begin_under ps after c) (part_follows p c) && legal_under ps after c

-- where the right side of production i may begin at terminal c, whether what follows it may or not, so may its nonterminal
check_begin : ℕ → ℕ → Bool
check_begin i c = imp (begin_under (parts_of i) true c) (begins (head_of i) c || (may_be_empty (head_of i) && true)) && imp (begin_under (parts_of i) false c) (begins (head_of i) c || (may_be_empty (head_of i) && false))

-- each symbol of production i may be followed by terminal c, where what stands behind it may begin at c
check_legal : ℕ → ℕ → Bool
check_legal i c = legal_under (parts_of i) (follows_at (head_of i) c) c

-- where production i may begin at terminal c and is allowed there, it is the choice for its nonterminal
check_choice : ℕ → ℕ → Bool
check_choice i c = imp (begin_under (parts_of i) (follows_at (head_of i) c) c && allowed i c) (nat_eq (choice (head_of i) c) i)

-- where nonterminal x has a choice at terminal c, that is a production of x which is allowed there
check_taken : ℕ → ℕ → Bool
check_taken x c = imp (nat_lt (choice x c) rule_count) (nat_eq (head_of (choice x c)) x && allowed (choice x c) c)

-- the test holds of each production with each terminal, and with the end
over_rules : (ℕ → ℕ → Bool) → Bool
over_rules f = all_below rule_count (λ i. all_below (suc terminal_count) (λ c. f i c))

-- the test holds of each nonterminal with each terminal, and with the end
over_symbols : (ℕ → ℕ → Bool) → Bool
over_symbols f = all_below nonterminal_count (λ i. all_below (suc terminal_count) (λ c. f i c))

-- wherever a right side may begin, its nonterminal may
table_begin : over_rules check_begin ≡ true
unfolding over_rules check_begin begins may_be_empty head_of parts_of productions firsts empties rule_count terminal_count
table_begin = refl

-- whatever may begin behind a symbol of a right side may follow that symbol
table_legal : over_rules check_legal ≡ true
unfolding over_rules check_legal begins may_be_empty head_of parts_of productions firsts empties rule_count terminal_count follows_at follows
table_legal = refl

-- wherever a production may begin and is allowed, it is the choice for its nonterminal
table_choice : over_rules check_choice ≡ true
unfolding over_rules check_choice begins may_be_empty head_of parts_of productions firsts empties rule_count terminal_count follows_at follows choice choices allowed no_else else_terminal
table_choice = refl

-- each choice for a nonterminal is a production of it that is allowed
table_taken : over_symbols check_taken ≡ true
unfolding over_symbols check_taken head_of productions rule_count terminal_count nonterminal_count choice choices allowed no_else else_terminal
table_taken = refl

-- where the right side may begin, its nonterminal may
pub rule_begins : (i c : ℕ) (after : Bool) → i < rule_count → c < suc terminal_count → begin_under (parts_of i) after c ≡ true → (begins (head_of i) c || (may_be_empty (head_of i) && after)) ≡ true
unfolding over_rules check_begin
rule_begins i c true l m h = imp_true _ _ (both_left _ _ (below (suc terminal_count) (λ c. check_begin i c) (below rule_count _ table_begin i l) c m)) h
rule_begins i c false l m h = imp_true _ _ (both_right (imp (begin_under (parts_of i) true c) (begins (head_of i) c || (may_be_empty (head_of i) && true))) _ (below (suc terminal_count) (λ c. check_begin i c) (below rule_count _ table_begin i l) c m)) h

-- the right side is legal where its nonterminal is
pub rule_legal : (i c : ℕ) → i < rule_count → c < suc terminal_count → legal_under (parts_of i) (follows_at (head_of i) c) c ≡ true
unfolding over_rules check_legal
rule_legal i c l m = below (suc terminal_count) (λ c. check_legal i c) (below rule_count _ table_legal i l) c m

-- where a production fits, it is the choice
pub rule_chosen : (i c : ℕ) → i < rule_count → c < suc terminal_count → begin_under (parts_of i) (follows_at (head_of i) c) c ≡ true → allowed i c ≡ true → choice (head_of i) c ≡ i
unfolding over_rules check_choice
rule_chosen i c l m h a = eqb-true _ _ (imp_true _ _ (below (suc terminal_count) (λ c. check_choice i c) (below rule_count _ table_choice i l) c m) (both_true _ _ h a))

-- the choice is a production of the nonterminal that is allowed
pub choice_fits : (x c : ℕ) → x < nonterminal_count → c < suc terminal_count → choice x c < rule_count → (head_of (choice x c) ≡ x) × (allowed (choice x c) c ≡ true)
unfolding over_symbols check_taken
choice_fits x c l m h =
    let k : (nat_eq (head_of (choice x c)) x && allowed (choice x c) c) ≡ true = imp_true _ _ (below (suc terminal_count) (λ c. check_taken x c) (below nonterminal_count _ table_taken x l) c m) (lt-ltb _ _ h) in
    (eqb-true _ _ (both_left _ _ k), both_right (nat_eq (head_of (choice x c)) x) _ k)

-- the terminal of a reserved word is one of the grammar
word_small : (k : Keyword) → number_of (keyword_symbol k) < terminal_count
unfolding terminal_count
word_small keywords.Using = lit< tt
word_small _ = lit< tt

-- the terminal of a mark is one of the grammar
mark_small : (k : Mark) → number_of (mark_symbol k) < terminal_count
unfolding terminal_count
mark_small marks.Semicolon = lit< tt
mark_small _ = lit< tt

-- the terminal of a kind is one of the grammar
pub small : (k : Kind) → terminal_of k < terminal_count
unfolding terminal_count
small (kinds.Word k) = word_small k
small (kinds.Name x) = lit< tt
small (kinds.Number x) = lit< tt
small (kinds.Literal x) = lit< tt
small (kinds.Mark k) = mark_small k

-- the next terminal is one of the grammar, or the end
pub next_small : (ks : List Kind) → next ks < suc terminal_count
next_small [] = omega arith
next_small (k ∷ ks) = let h = small k in omega arith

-- what holds of each number but one holds of a number that is another
pub else_rule : (c b : ℕ) (x : Bool) → c ≢ b → (nat_eq c b || x) ≡ true → x ≡ true
else_rule c b x n h = elim (eqb_tells c b) [ inl (t, e) ↦ absurd (n e) | inr (t, e) ↦ sym (ap (λ z. z || x) t) ∙ h ]
