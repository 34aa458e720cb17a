-- How operands and calls begin, by each production, and which production each of these nonterminals has at a terminal. Made by tools/grammar.py.
use Rattle.std.proofs.Common.{◌≡◌, ℕ, suc, ◌+◌, ◌<◌, ◌≢◌, List, [], ◌∷◌, ◌||◌, refl, ap, lit<, eqb-true}
use Rattle.std.specs.Prelude.{nat_eq}
use Rattle.chord_lexer.specs.declared.token.Kind.{Kind}
use Rattle.chord_tree.specs.Symbol.{Terminal, Nonterminal}
use Rattle.chord_tree.specs.Grammar.{productions, counted, rule_count, terminal_count}
use Rattle.chord_tree.specs.Derivation.{next, parts_of, inside}
use Rattle.chord_tree.specs.Node.{Made}
use Rattle.chord_tree.specs.OneAhead.{choices, choice}
use Rattle.chord_tree.proofs.Ahead.{below, else_rule}
use Rattle.chord_parser.specs.Runs.{Onward}
use Rattle.chord_parser.proofs.Reading.{begun}

pub unary_minus : {count d : ℕ} {ks : List Kind} → choice 49 (next ks) ≡ 107 → Onward count (Nonterminal 49) d ks (Terminal 39 ∷ Nonterminal 49 ∷ []) (d + 1) ks (Made (Nonterminal 49))
unfolding parts_of inside productions counted rule_count
unary_minus e = begun 49 107 e (lit< tt)

pub unary_not : {count d : ℕ} {ks : List Kind} → choice 49 (next ks) ≡ 108 → Onward count (Nonterminal 49) d ks (Terminal 43 ∷ Nonterminal 49 ∷ []) (d + 1) ks (Made (Nonterminal 49))
unfolding parts_of inside productions counted rule_count
unary_not e = begun 49 108 e (lit< tt)

pub unary_primary : {count d : ℕ} {ks : List Kind} → choice 49 (next ks) ≡ 109 → Onward count (Nonterminal 49) d ks (Nonterminal 50 ∷ []) (d + 1) ks (Made (Nonterminal 49))
unfolding parts_of inside productions counted rule_count
unary_primary e = begun 49 109 e (lit< tt)

pub primary_operand_start : {count d : ℕ} {ks : List Kind} → choice 50 (next ks) ≡ 110 → Onward count (Nonterminal 50) d ks (Nonterminal 51 ∷ Nonterminal 33 ∷ []) (d) ks (Made (Nonterminal 50))
unfolding parts_of inside productions counted rule_count
primary_operand_start e = begun 50 110 e (lit< tt)

pub operand_start_name : {count d : ℕ} {ks : List Kind} → choice 51 (next ks) ≡ 111 → Onward count (Nonterminal 51) d ks (Terminal 1 ∷ Nonterminal 52 ∷ []) (d) ks (Made (Nonterminal 51))
unfolding parts_of inside productions counted rule_count
operand_start_name e = begun 51 111 e (lit< tt)

pub operand_start_this : {count d : ℕ} {ks : List Kind} → choice 51 (next ks) ≡ 112 → Onward count (Nonterminal 51) d ks (Terminal 27 ∷ []) (d) ks (Made (Nonterminal 51))
unfolding parts_of inside productions counted rule_count
operand_start_this e = begun 51 112 e (lit< tt)

pub operand_start_new : {count d : ℕ} {ks : List Kind} → choice 51 (next ks) ≡ 113 → Onward count (Nonterminal 51) d ks (Terminal 28 ∷ Terminal 1 ∷ Nonterminal 34 ∷ []) (d) ks (Made (Nonterminal 51))
unfolding parts_of inside productions counted rule_count
operand_start_new e = begun 51 113 e (lit< tt)

pub operand_start_number : {count d : ℕ} {ks : List Kind} → choice 51 (next ks) ≡ 114 → Onward count (Nonterminal 51) d ks (Terminal 44 ∷ []) (d) ks (Made (Nonterminal 51))
unfolding parts_of inside productions counted rule_count
operand_start_number e = begun 51 114 e (lit< tt)

pub operand_start_literal : {count d : ℕ} {ks : List Kind} → choice 51 (next ks) ≡ 115 → Onward count (Nonterminal 51) d ks (Terminal 45 ∷ []) (d) ks (Made (Nonterminal 51))
unfolding parts_of inside productions counted rule_count
operand_start_literal e = begun 51 115 e (lit< tt)

pub operand_start_true : {count d : ℕ} {ks : List Kind} → choice 51 (next ks) ≡ 116 → Onward count (Nonterminal 51) d ks (Terminal 46 ∷ []) (d) ks (Made (Nonterminal 51))
unfolding parts_of inside productions counted rule_count
operand_start_true e = begun 51 116 e (lit< tt)

pub operand_start_false : {count d : ℕ} {ks : List Kind} → choice 51 (next ks) ≡ 117 → Onward count (Nonterminal 51) d ks (Terminal 47 ∷ []) (d) ks (Made (Nonterminal 51))
unfolding parts_of inside productions counted rule_count
operand_start_false e = begun 51 117 e (lit< tt)

pub operand_start_open : {count d : ℕ} {ks : List Kind} → choice 51 (next ks) ≡ 118 → Onward count (Nonterminal 51) d ks (Terminal 20 ∷ Nonterminal 37 ∷ Terminal 21 ∷ []) (d) ks (Made (Nonterminal 51))
unfolding parts_of inside productions counted rule_count
operand_start_open e = begun 51 118 e (lit< tt)

pub optional_actuals_none : {count d : ℕ} {ks : List Kind} → choice 52 (next ks) ≡ 119 → Onward count (Nonterminal 52) d ks ([]) (d) ks (Made (Nonterminal 52))
unfolding parts_of inside productions counted rule_count
optional_actuals_none e = begun 52 119 e (lit< tt)

pub optional_actuals_actuals : {count d : ℕ} {ks : List Kind} → choice 52 (next ks) ≡ 120 → Onward count (Nonterminal 52) d ks (Nonterminal 34 ∷ []) (d) ks (Made (Nonterminal 52))
unfolding parts_of inside productions counted rule_count
optional_actuals_actuals e = begun 52 120 e (lit< tt)

pub dot_dot : {count d : ℕ} {ks : List Kind} → choice 32 (next ks) ≡ 74 → Onward count (Nonterminal 32) d ks (Terminal 3 ∷ Terminal 1 ∷ Nonterminal 34 ∷ []) (d) ks (Made (Nonterminal 32))
unfolding parts_of inside productions counted rule_count
dot_dot e = begun 32 74 e (lit< tt)

pub dots_none : {count d : ℕ} {ks : List Kind} → choice 33 (next ks) ≡ 75 → Onward count (Nonterminal 33) d ks ([]) (d) ks (Made (Nonterminal 33))
unfolding parts_of inside productions counted rule_count
dots_none e = begun 33 75 e (lit< tt)

pub dots_dot : {count d : ℕ} {ks : List Kind} → choice 33 (next ks) ≡ 76 → Onward count (Nonterminal 33) d ks (Nonterminal 32 ∷ Nonterminal 33 ∷ []) (d) ks (Made (Nonterminal 33))
unfolding parts_of inside productions counted rule_count
dots_dot e = begun 33 76 e (lit< tt)

pub actuals_open : {count d : ℕ} {ks : List Kind} → choice 34 (next ks) ≡ 77 → Onward count (Nonterminal 34) d ks (Terminal 20 ∷ Nonterminal 35 ∷ Terminal 21 ∷ []) (d) ks (Made (Nonterminal 34))
unfolding parts_of inside productions counted rule_count
actuals_open e = begun 34 77 e (lit< tt)

pub optional_exprs_none : {count d : ℕ} {ks : List Kind} → choice 35 (next ks) ≡ 78 → Onward count (Nonterminal 35) d ks ([]) (d) ks (Made (Nonterminal 35))
unfolding parts_of inside productions counted rule_count
optional_exprs_none e = begun 35 78 e (lit< tt)

pub optional_exprs_expr : {count d : ℕ} {ks : List Kind} → choice 35 (next ks) ≡ 79 → Onward count (Nonterminal 35) d ks (Nonterminal 37 ∷ Nonterminal 36 ∷ []) (d) ks (Made (Nonterminal 35))
unfolding parts_of inside productions counted rule_count
optional_exprs_expr e = begun 35 79 e (lit< tt)

pub more_exprs_none : {count d : ℕ} {ks : List Kind} → choice 36 (next ks) ≡ 80 → Onward count (Nonterminal 36) d ks ([]) (d) ks (Made (Nonterminal 36))
unfolding parts_of inside productions counted rule_count
more_exprs_none e = begun 36 80 e (lit< tt)

pub more_exprs_comma : {count d : ℕ} {ks : List Kind} → choice 36 (next ks) ≡ 81 → Onward count (Nonterminal 36) d ks (Terminal 22 ∷ Nonterminal 37 ∷ Nonterminal 36 ∷ []) (d) ks (Made (Nonterminal 36))
unfolding parts_of inside productions counted rule_count
more_exprs_comma e = begun 36 81 e (lit< tt)

pub unary_minus_at : (c : ℕ) → c ≡ 39 → choice 49 c ≡ 107
unfolding choice choices
unary_minus_at c e = ap (choice 49) e

pub unary_not_at : (c : ℕ) → c ≡ 43 → choice 49 c ≡ 108
unfolding choice choices
unary_not_at c e = ap (choice 49) e

pub unary_primary_at : (c : ℕ) → c < suc terminal_count → c ≢ 39 → c ≢ 43 → choice 49 c ≡ 109
unfolding choice choices terminal_count rule_count
unary_primary_at c l n39 n43 = eqb-true _ _ (else_rule c 43 _ n43 (else_rule c 39 _ n39 (below 53 (λ x. nat_eq x 39 || (nat_eq x 43 || (nat_eq (choice 49 x) 109))) refl c l)))

pub primary_operand_start_at : (c : ℕ) → c < suc terminal_count → choice 50 c ≡ 110
unfolding choice choices terminal_count rule_count
primary_operand_start_at c l = eqb-true _ _ (below 53 (λ x. nat_eq (choice 50 x) 110) refl c l)

pub operand_start_name_at : (c : ℕ) → c ≡ 1 → choice 51 c ≡ 111
unfolding choice choices
operand_start_name_at c e = ap (choice 51) e

pub operand_start_this_at : (c : ℕ) → c ≡ 27 → choice 51 c ≡ 112
unfolding choice choices
operand_start_this_at c e = ap (choice 51) e

pub operand_start_new_at : (c : ℕ) → c ≡ 28 → choice 51 c ≡ 113
unfolding choice choices
operand_start_new_at c e = ap (choice 51) e

pub operand_start_number_at : (c : ℕ) → c ≡ 44 → choice 51 c ≡ 114
unfolding choice choices
operand_start_number_at c e = ap (choice 51) e

pub operand_start_literal_at : (c : ℕ) → c ≡ 45 → choice 51 c ≡ 115
unfolding choice choices
operand_start_literal_at c e = ap (choice 51) e

pub operand_start_true_at : (c : ℕ) → c ≡ 46 → choice 51 c ≡ 116
unfolding choice choices
operand_start_true_at c e = ap (choice 51) e

pub operand_start_false_at : (c : ℕ) → c ≡ 47 → choice 51 c ≡ 117
unfolding choice choices
operand_start_false_at c e = ap (choice 51) e

pub operand_start_open_at : (c : ℕ) → c ≡ 20 → choice 51 c ≡ 118
unfolding choice choices
operand_start_open_at c e = ap (choice 51) e

pub operand_start_stuck : (c : ℕ) → c < suc terminal_count → c ≢ 1 → c ≢ 20 → c ≢ 27 → c ≢ 28 → c ≢ 44 → c ≢ 45 → c ≢ 46 → c ≢ 47 → choice 51 c ≡ rule_count
unfolding choice choices terminal_count rule_count
operand_start_stuck c l n1 n20 n27 n28 n44 n45 n46 n47 = eqb-true _ _ (else_rule c 47 _ n47 (else_rule c 46 _ n46 (else_rule c 45 _ n45 (else_rule c 44 _ n44 (else_rule c 28 _ n28 (else_rule c 27 _ n27 (else_rule c 20 _ n20 (else_rule c 1 _ n1 (below 53 (λ x. nat_eq x 1 || (nat_eq x 20 || (nat_eq x 27 || (nat_eq x 28 || (nat_eq x 44 || (nat_eq x 45 || (nat_eq x 46 || (nat_eq x 47 || (nat_eq (choice 51 x) rule_count))))))))) refl c l)))))))))

pub optional_actuals_none_at : (c : ℕ) → c < suc terminal_count → c ≢ 20 → choice 52 c ≡ 119
unfolding choice choices terminal_count rule_count
optional_actuals_none_at c l n20 = eqb-true _ _ (else_rule c 20 _ n20 (below 53 (λ x. nat_eq x 20 || (nat_eq (choice 52 x) 119)) refl c l))

pub optional_actuals_actuals_at : (c : ℕ) → c ≡ 20 → choice 52 c ≡ 120
unfolding choice choices
optional_actuals_actuals_at c e = ap (choice 52) e

pub dot_dot_at : (c : ℕ) → c < suc terminal_count → choice 32 c ≡ 74
unfolding choice choices terminal_count rule_count
dot_dot_at c l = eqb-true _ _ (below 53 (λ x. nat_eq (choice 32 x) 74) refl c l)

pub dots_none_at : (c : ℕ) → c < suc terminal_count → c ≢ 3 → choice 33 c ≡ 75
unfolding choice choices terminal_count rule_count
dots_none_at c l n3 = eqb-true _ _ (else_rule c 3 _ n3 (below 53 (λ x. nat_eq x 3 || (nat_eq (choice 33 x) 75)) refl c l))

pub dots_dot_at : (c : ℕ) → c ≡ 3 → choice 33 c ≡ 76
unfolding choice choices
dots_dot_at c e = ap (choice 33) e

pub actuals_open_at : (c : ℕ) → c < suc terminal_count → choice 34 c ≡ 77
unfolding choice choices terminal_count rule_count
actuals_open_at c l = eqb-true _ _ (below 53 (λ x. nat_eq (choice 34 x) 77) refl c l)

pub optional_exprs_none_at : (c : ℕ) → c ≡ 21 → choice 35 c ≡ 78
unfolding choice choices
optional_exprs_none_at c e = ap (choice 35) e

pub optional_exprs_expr_at : (c : ℕ) → c < suc terminal_count → c ≢ 21 → choice 35 c ≡ 79
unfolding choice choices terminal_count rule_count
optional_exprs_expr_at c l n21 = eqb-true _ _ (else_rule c 21 _ n21 (below 53 (λ x. nat_eq x 21 || (nat_eq (choice 35 x) 79)) refl c l))

pub more_exprs_none_at : (c : ℕ) → c < suc terminal_count → c ≢ 22 → choice 36 c ≡ 80
unfolding choice choices terminal_count rule_count
more_exprs_none_at c l n22 = eqb-true _ _ (else_rule c 22 _ n22 (below 53 (λ x. nat_eq x 22 || (nat_eq (choice 36 x) 80)) refl c l))

pub more_exprs_comma_at : (c : ℕ) → c ≡ 22 → choice 36 c ≡ 81
unfolding choice choices
more_exprs_comma_at c e = ap (choice 36) e
