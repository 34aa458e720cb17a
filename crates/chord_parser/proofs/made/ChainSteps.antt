-- How chains of operators begin, by each production, and which production each of these nonterminals has at a terminal. Made by tools/grammar.py.
use Rattle.std.proofs.Common.{◌≡◌, ℕ, suc, ◌+◌, ◌<◌, ◌≢◌, List, [], ◌∷◌, ◌||◌, refl, ap, lit<, eqb-true}
use Rattle.std.specs.Prelude.{nat_eq}
use Rattle.chord_lexer.specs.declared.token.Kind.{Kind}
use Rattle.chord_tree.specs.Symbol.{Terminal, Nonterminal}
use Rattle.chord_tree.specs.Grammar.{productions, counted, rule_count, terminal_count}
use Rattle.chord_tree.specs.Derivation.{next, parts_of, inside}
use Rattle.chord_tree.specs.Node.{Made}
use Rattle.chord_tree.specs.OneAhead.{choices, choice}
use Rattle.chord_tree.proofs.Ahead.{below, else_rule}
use Rattle.chord_parser.specs.Runs.{Onward}
use Rattle.chord_parser.proofs.Reading.{begun}

pub expr_and : {count d : ℕ} {ks : List Kind} → choice 37 (next ks) ≡ 82 → Onward count (Nonterminal 37) d ks (Nonterminal 39 ∷ Nonterminal 38 ∷ []) (d + 1) ks (Made (Nonterminal 37))
unfolding parts_of inside productions counted rule_count
expr_and e = begun 37 82 e (lit< tt)

pub more_or_none : {count d : ℕ} {ks : List Kind} → choice 38 (next ks) ≡ 83 → Onward count (Nonterminal 38) d ks ([]) (d) ks (Made (Nonterminal 38))
unfolding parts_of inside productions counted rule_count
more_or_none e = begun 38 83 e (lit< tt)

pub more_or_or : {count d : ℕ} {ks : List Kind} → choice 38 (next ks) ≡ 84 → Onward count (Nonterminal 38) d ks (Terminal 30 ∷ Nonterminal 39 ∷ Nonterminal 38 ∷ []) (d) ks (Made (Nonterminal 38))
unfolding parts_of inside productions counted rule_count
more_or_or e = begun 38 84 e (lit< tt)

pub and_equal : {count d : ℕ} {ks : List Kind} → choice 39 (next ks) ≡ 85 → Onward count (Nonterminal 39) d ks (Nonterminal 41 ∷ Nonterminal 40 ∷ []) (d) ks (Made (Nonterminal 39))
unfolding parts_of inside productions counted rule_count
and_equal e = begun 39 85 e (lit< tt)

pub more_and_none : {count d : ℕ} {ks : List Kind} → choice 40 (next ks) ≡ 86 → Onward count (Nonterminal 40) d ks ([]) (d) ks (Made (Nonterminal 40))
unfolding parts_of inside productions counted rule_count
more_and_none e = begun 40 86 e (lit< tt)

pub more_and_and : {count d : ℕ} {ks : List Kind} → choice 40 (next ks) ≡ 87 → Onward count (Nonterminal 40) d ks (Terminal 31 ∷ Nonterminal 41 ∷ Nonterminal 40 ∷ []) (d) ks (Made (Nonterminal 40))
unfolding parts_of inside productions counted rule_count
more_and_and e = begun 40 87 e (lit< tt)

pub equal_order : {count d : ℕ} {ks : List Kind} → choice 41 (next ks) ≡ 88 → Onward count (Nonterminal 41) d ks (Nonterminal 43 ∷ Nonterminal 42 ∷ []) (d) ks (Made (Nonterminal 41))
unfolding parts_of inside productions counted rule_count
equal_order e = begun 41 88 e (lit< tt)

pub more_equal_none : {count d : ℕ} {ks : List Kind} → choice 42 (next ks) ≡ 89 → Onward count (Nonterminal 42) d ks ([]) (d) ks (Made (Nonterminal 42))
unfolding parts_of inside productions counted rule_count
more_equal_none e = begun 42 89 e (lit< tt)

pub more_equal_equal : {count d : ℕ} {ks : List Kind} → choice 42 (next ks) ≡ 90 → Onward count (Nonterminal 42) d ks (Terminal 32 ∷ Nonterminal 43 ∷ Nonterminal 42 ∷ []) (d) ks (Made (Nonterminal 42))
unfolding parts_of inside productions counted rule_count
more_equal_equal e = begun 42 90 e (lit< tt)

pub more_equal_not_equal : {count d : ℕ} {ks : List Kind} → choice 42 (next ks) ≡ 91 → Onward count (Nonterminal 42) d ks (Terminal 33 ∷ Nonterminal 43 ∷ Nonterminal 42 ∷ []) (d) ks (Made (Nonterminal 42))
unfolding parts_of inside productions counted rule_count
more_equal_not_equal e = begun 42 91 e (lit< tt)

pub order_sum : {count d : ℕ} {ks : List Kind} → choice 43 (next ks) ≡ 92 → Onward count (Nonterminal 43) d ks (Nonterminal 45 ∷ Nonterminal 44 ∷ []) (d) ks (Made (Nonterminal 43))
unfolding parts_of inside productions counted rule_count
order_sum e = begun 43 92 e (lit< tt)

pub more_order_none : {count d : ℕ} {ks : List Kind} → choice 44 (next ks) ≡ 93 → Onward count (Nonterminal 44) d ks ([]) (d) ks (Made (Nonterminal 44))
unfolding parts_of inside productions counted rule_count
more_order_none e = begun 44 93 e (lit< tt)

pub more_order_less : {count d : ℕ} {ks : List Kind} → choice 44 (next ks) ≡ 94 → Onward count (Nonterminal 44) d ks (Terminal 34 ∷ Nonterminal 45 ∷ Nonterminal 44 ∷ []) (d) ks (Made (Nonterminal 44))
unfolding parts_of inside productions counted rule_count
more_order_less e = begun 44 94 e (lit< tt)

pub more_order_greater : {count d : ℕ} {ks : List Kind} → choice 44 (next ks) ≡ 95 → Onward count (Nonterminal 44) d ks (Terminal 35 ∷ Nonterminal 45 ∷ Nonterminal 44 ∷ []) (d) ks (Made (Nonterminal 44))
unfolding parts_of inside productions counted rule_count
more_order_greater e = begun 44 95 e (lit< tt)

pub more_order_less_or_equal : {count d : ℕ} {ks : List Kind} → choice 44 (next ks) ≡ 96 → Onward count (Nonterminal 44) d ks (Terminal 36 ∷ Nonterminal 45 ∷ Nonterminal 44 ∷ []) (d) ks (Made (Nonterminal 44))
unfolding parts_of inside productions counted rule_count
more_order_less_or_equal e = begun 44 96 e (lit< tt)

pub more_order_greater_or_equal : {count d : ℕ} {ks : List Kind} → choice 44 (next ks) ≡ 97 → Onward count (Nonterminal 44) d ks (Terminal 37 ∷ Nonterminal 45 ∷ Nonterminal 44 ∷ []) (d) ks (Made (Nonterminal 44))
unfolding parts_of inside productions counted rule_count
more_order_greater_or_equal e = begun 44 97 e (lit< tt)

pub sum_product : {count d : ℕ} {ks : List Kind} → choice 45 (next ks) ≡ 98 → Onward count (Nonterminal 45) d ks (Nonterminal 47 ∷ Nonterminal 46 ∷ []) (d) ks (Made (Nonterminal 45))
unfolding parts_of inside productions counted rule_count
sum_product e = begun 45 98 e (lit< tt)

pub more_sum_none : {count d : ℕ} {ks : List Kind} → choice 46 (next ks) ≡ 99 → Onward count (Nonterminal 46) d ks ([]) (d) ks (Made (Nonterminal 46))
unfolding parts_of inside productions counted rule_count
more_sum_none e = begun 46 99 e (lit< tt)

pub more_sum_plus : {count d : ℕ} {ks : List Kind} → choice 46 (next ks) ≡ 100 → Onward count (Nonterminal 46) d ks (Terminal 38 ∷ Nonterminal 47 ∷ Nonterminal 46 ∷ []) (d) ks (Made (Nonterminal 46))
unfolding parts_of inside productions counted rule_count
more_sum_plus e = begun 46 100 e (lit< tt)

pub more_sum_minus : {count d : ℕ} {ks : List Kind} → choice 46 (next ks) ≡ 101 → Onward count (Nonterminal 46) d ks (Terminal 39 ∷ Nonterminal 47 ∷ Nonterminal 46 ∷ []) (d) ks (Made (Nonterminal 46))
unfolding parts_of inside productions counted rule_count
more_sum_minus e = begun 46 101 e (lit< tt)

pub product_unary : {count d : ℕ} {ks : List Kind} → choice 47 (next ks) ≡ 102 → Onward count (Nonterminal 47) d ks (Nonterminal 49 ∷ Nonterminal 48 ∷ []) (d) ks (Made (Nonterminal 47))
unfolding parts_of inside productions counted rule_count
product_unary e = begun 47 102 e (lit< tt)

pub more_product_none : {count d : ℕ} {ks : List Kind} → choice 48 (next ks) ≡ 103 → Onward count (Nonterminal 48) d ks ([]) (d) ks (Made (Nonterminal 48))
unfolding parts_of inside productions counted rule_count
more_product_none e = begun 48 103 e (lit< tt)

pub more_product_times : {count d : ℕ} {ks : List Kind} → choice 48 (next ks) ≡ 104 → Onward count (Nonterminal 48) d ks (Terminal 40 ∷ Nonterminal 49 ∷ Nonterminal 48 ∷ []) (d) ks (Made (Nonterminal 48))
unfolding parts_of inside productions counted rule_count
more_product_times e = begun 48 104 e (lit< tt)

pub more_product_divide : {count d : ℕ} {ks : List Kind} → choice 48 (next ks) ≡ 105 → Onward count (Nonterminal 48) d ks (Terminal 41 ∷ Nonterminal 49 ∷ Nonterminal 48 ∷ []) (d) ks (Made (Nonterminal 48))
unfolding parts_of inside productions counted rule_count
more_product_divide e = begun 48 105 e (lit< tt)

pub more_product_remainder : {count d : ℕ} {ks : List Kind} → choice 48 (next ks) ≡ 106 → Onward count (Nonterminal 48) d ks (Terminal 42 ∷ Nonterminal 49 ∷ Nonterminal 48 ∷ []) (d) ks (Made (Nonterminal 48))
unfolding parts_of inside productions counted rule_count
more_product_remainder e = begun 48 106 e (lit< tt)

pub expr_and_at : (c : ℕ) → c < suc terminal_count → choice 37 c ≡ 82
unfolding choice choices terminal_count rule_count
expr_and_at c l = eqb-true _ _ (below 53 (λ x. nat_eq (choice 37 x) 82) refl c l)

pub more_or_none_at : (c : ℕ) → c < suc terminal_count → c ≢ 30 → choice 38 c ≡ 83
unfolding choice choices terminal_count rule_count
more_or_none_at c l n30 = eqb-true _ _ (else_rule c 30 _ n30 (below 53 (λ x. nat_eq x 30 || (nat_eq (choice 38 x) 83)) refl c l))

pub more_or_or_at : (c : ℕ) → c ≡ 30 → choice 38 c ≡ 84
unfolding choice choices
more_or_or_at c e = ap (choice 38) e

pub and_equal_at : (c : ℕ) → c < suc terminal_count → choice 39 c ≡ 85
unfolding choice choices terminal_count rule_count
and_equal_at c l = eqb-true _ _ (below 53 (λ x. nat_eq (choice 39 x) 85) refl c l)

pub more_and_none_at : (c : ℕ) → c < suc terminal_count → c ≢ 31 → choice 40 c ≡ 86
unfolding choice choices terminal_count rule_count
more_and_none_at c l n31 = eqb-true _ _ (else_rule c 31 _ n31 (below 53 (λ x. nat_eq x 31 || (nat_eq (choice 40 x) 86)) refl c l))

pub more_and_and_at : (c : ℕ) → c ≡ 31 → choice 40 c ≡ 87
unfolding choice choices
more_and_and_at c e = ap (choice 40) e

pub equal_order_at : (c : ℕ) → c < suc terminal_count → choice 41 c ≡ 88
unfolding choice choices terminal_count rule_count
equal_order_at c l = eqb-true _ _ (below 53 (λ x. nat_eq (choice 41 x) 88) refl c l)

pub more_equal_none_at : (c : ℕ) → c < suc terminal_count → c ≢ 32 → c ≢ 33 → choice 42 c ≡ 89
unfolding choice choices terminal_count rule_count
more_equal_none_at c l n32 n33 = eqb-true _ _ (else_rule c 33 _ n33 (else_rule c 32 _ n32 (below 53 (λ x. nat_eq x 32 || (nat_eq x 33 || (nat_eq (choice 42 x) 89))) refl c l)))

pub more_equal_equal_at : (c : ℕ) → c ≡ 32 → choice 42 c ≡ 90
unfolding choice choices
more_equal_equal_at c e = ap (choice 42) e

pub more_equal_not_equal_at : (c : ℕ) → c ≡ 33 → choice 42 c ≡ 91
unfolding choice choices
more_equal_not_equal_at c e = ap (choice 42) e

pub order_sum_at : (c : ℕ) → c < suc terminal_count → choice 43 c ≡ 92
unfolding choice choices terminal_count rule_count
order_sum_at c l = eqb-true _ _ (below 53 (λ x. nat_eq (choice 43 x) 92) refl c l)

pub more_order_none_at : (c : ℕ) → c < suc terminal_count → c ≢ 34 → c ≢ 35 → c ≢ 36 → c ≢ 37 → choice 44 c ≡ 93
unfolding choice choices terminal_count rule_count
more_order_none_at c l n34 n35 n36 n37 = eqb-true _ _ (else_rule c 37 _ n37 (else_rule c 36 _ n36 (else_rule c 35 _ n35 (else_rule c 34 _ n34 (below 53 (λ x. nat_eq x 34 || (nat_eq x 35 || (nat_eq x 36 || (nat_eq x 37 || (nat_eq (choice 44 x) 93))))) refl c l)))))

pub more_order_less_at : (c : ℕ) → c ≡ 34 → choice 44 c ≡ 94
unfolding choice choices
more_order_less_at c e = ap (choice 44) e

pub more_order_greater_at : (c : ℕ) → c ≡ 35 → choice 44 c ≡ 95
unfolding choice choices
more_order_greater_at c e = ap (choice 44) e

pub more_order_less_or_equal_at : (c : ℕ) → c ≡ 36 → choice 44 c ≡ 96
unfolding choice choices
more_order_less_or_equal_at c e = ap (choice 44) e

pub more_order_greater_or_equal_at : (c : ℕ) → c ≡ 37 → choice 44 c ≡ 97
unfolding choice choices
more_order_greater_or_equal_at c e = ap (choice 44) e

pub sum_product_at : (c : ℕ) → c < suc terminal_count → choice 45 c ≡ 98
unfolding choice choices terminal_count rule_count
sum_product_at c l = eqb-true _ _ (below 53 (λ x. nat_eq (choice 45 x) 98) refl c l)

pub more_sum_none_at : (c : ℕ) → c < suc terminal_count → c ≢ 38 → c ≢ 39 → choice 46 c ≡ 99
unfolding choice choices terminal_count rule_count
more_sum_none_at c l n38 n39 = eqb-true _ _ (else_rule c 39 _ n39 (else_rule c 38 _ n38 (below 53 (λ x. nat_eq x 38 || (nat_eq x 39 || (nat_eq (choice 46 x) 99))) refl c l)))

pub more_sum_plus_at : (c : ℕ) → c ≡ 38 → choice 46 c ≡ 100
unfolding choice choices
more_sum_plus_at c e = ap (choice 46) e

pub more_sum_minus_at : (c : ℕ) → c ≡ 39 → choice 46 c ≡ 101
unfolding choice choices
more_sum_minus_at c e = ap (choice 46) e

pub product_unary_at : (c : ℕ) → c < suc terminal_count → choice 47 c ≡ 102
unfolding choice choices terminal_count rule_count
product_unary_at c l = eqb-true _ _ (below 53 (λ x. nat_eq (choice 47 x) 102) refl c l)

pub more_product_none_at : (c : ℕ) → c < suc terminal_count → c ≢ 40 → c ≢ 41 → c ≢ 42 → choice 48 c ≡ 103
unfolding choice choices terminal_count rule_count
more_product_none_at c l n40 n41 n42 = eqb-true _ _ (else_rule c 42 _ n42 (else_rule c 41 _ n41 (else_rule c 40 _ n40 (below 53 (λ x. nat_eq x 40 || (nat_eq x 41 || (nat_eq x 42 || (nat_eq (choice 48 x) 103)))) refl c l))))

pub more_product_times_at : (c : ℕ) → c ≡ 40 → choice 48 c ≡ 104
unfolding choice choices
more_product_times_at c e = ap (choice 48) e

pub more_product_divide_at : (c : ℕ) → c ≡ 41 → choice 48 c ≡ 105
unfolding choice choices
more_product_divide_at c e = ap (choice 48) e

pub more_product_remainder_at : (c : ℕ) → c ≡ 42 → choice 48 c ≡ 106
unfolding choice choices
more_product_remainder_at c e = ap (choice 48) e
