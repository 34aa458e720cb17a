-- How blocks and statements begin, by each production, and which production each of these nonterminals has at a terminal. Made by tools/grammar.py.
use Rattle.std.proofs.Common.{◌≡◌, ℕ, suc, ◌+◌, ◌<◌, ◌≢◌, List, [], ◌∷◌, ◌||◌, refl, ap, lit<, eqb-true}
use Rattle.std.specs.Prelude.{nat_eq}
use Rattle.chord_lexer.specs.declared.token.Kind.{Kind}
use Rattle.chord_tree.specs.Symbol.{Terminal, Nonterminal}
use Rattle.chord_tree.specs.Grammar.{productions, counted, rule_count, terminal_count}
use Rattle.chord_tree.specs.Derivation.{next, parts_of, inside}
use Rattle.chord_tree.specs.Node.{Made}
use Rattle.chord_tree.specs.OneAhead.{choices, choice}
use Rattle.chord_tree.proofs.Ahead.{below, else_rule}
use Rattle.chord_parser.specs.Runs.{Onward}
use Rattle.chord_parser.proofs.Reading.{begun}

pub block_open_brace : {count d : ℕ} {ks : List Kind} → choice 23 (next ks) ≡ 48 → Onward count (Nonterminal 23) d ks (Terminal 5 ∷ Nonterminal 24 ∷ Terminal 6 ∷ []) (d) ks (Made (Nonterminal 23))
unfolding parts_of inside productions counted rule_count
block_open_brace e = begun 23 48 e (lit< tt)

pub items_none : {count d : ℕ} {ks : List Kind} → choice 24 (next ks) ≡ 49 → Onward count (Nonterminal 24) d ks ([]) (d) ks (Made (Nonterminal 24))
unfolding parts_of inside productions counted rule_count
items_none e = begun 24 49 e (lit< tt)

pub items_item : {count d : ℕ} {ks : List Kind} → choice 24 (next ks) ≡ 50 → Onward count (Nonterminal 24) d ks (Nonterminal 25 ∷ Nonterminal 24 ∷ []) (d) ks (Made (Nonterminal 24))
unfolding parts_of inside productions counted rule_count
items_item e = begun 24 50 e (lit< tt)

pub item_int : {count d : ℕ} {ks : List Kind} → choice 25 (next ks) ≡ 51 → Onward count (Nonterminal 25) d ks (Terminal 17 ∷ Terminal 1 ∷ Terminal 23 ∷ Nonterminal 37 ∷ Terminal 2 ∷ []) (d + 1) ks (Made (Nonterminal 25))
unfolding parts_of inside productions counted rule_count
item_int e = begun 25 51 e (lit< tt)

pub item_bool : {count d : ℕ} {ks : List Kind} → choice 25 (next ks) ≡ 52 → Onward count (Nonterminal 25) d ks (Terminal 18 ∷ Terminal 1 ∷ Terminal 23 ∷ Nonterminal 37 ∷ Terminal 2 ∷ []) (d + 1) ks (Made (Nonterminal 25))
unfolding parts_of inside productions counted rule_count
item_bool e = begun 25 52 e (lit< tt)

pub item_string : {count d : ℕ} {ks : List Kind} → choice 25 (next ks) ≡ 53 → Onward count (Nonterminal 25) d ks (Terminal 19 ∷ Terminal 1 ∷ Terminal 23 ∷ Nonterminal 37 ∷ Terminal 2 ∷ []) (d + 1) ks (Made (Nonterminal 25))
unfolding parts_of inside productions counted rule_count
item_string e = begun 25 53 e (lit< tt)

pub item_name : {count d : ℕ} {ks : List Kind} → choice 25 (next ks) ≡ 54 → Onward count (Nonterminal 25) d ks (Terminal 1 ∷ Nonterminal 26 ∷ Terminal 2 ∷ []) (d + 1) ks (Made (Nonterminal 25))
unfolding parts_of inside productions counted rule_count
item_name e = begun 25 54 e (lit< tt)

pub item_other : {count d : ℕ} {ks : List Kind} → choice 25 (next ks) ≡ 55 → Onward count (Nonterminal 25) d ks (Nonterminal 29 ∷ []) (d + 1) ks (Made (Nonterminal 25))
unfolding parts_of inside productions counted rule_count
item_other e = begun 25 55 e (lit< tt)

pub after_name_name : {count d : ℕ} {ks : List Kind} → choice 26 (next ks) ≡ 56 → Onward count (Nonterminal 26) d ks (Terminal 1 ∷ Terminal 23 ∷ Nonterminal 37 ∷ []) (d) ks (Made (Nonterminal 26))
unfolding parts_of inside productions counted rule_count
after_name_name e = begun 26 56 e (lit< tt)

pub after_name_tail : {count d : ℕ} {ks : List Kind} → choice 26 (next ks) ≡ 57 → Onward count (Nonterminal 26) d ks (Nonterminal 28 ∷ []) (d) ks (Made (Nonterminal 26))
unfolding parts_of inside productions counted rule_count
after_name_tail e = begun 26 57 e (lit< tt)

pub stmt_name : {count d : ℕ} {ks : List Kind} → choice 27 (next ks) ≡ 58 → Onward count (Nonterminal 27) d ks (Terminal 1 ∷ Nonterminal 28 ∷ Terminal 2 ∷ []) (d + 1) ks (Made (Nonterminal 27))
unfolding parts_of inside productions counted rule_count
stmt_name e = begun 27 58 e (lit< tt)

pub stmt_other : {count d : ℕ} {ks : List Kind} → choice 27 (next ks) ≡ 59 → Onward count (Nonterminal 27) d ks (Nonterminal 29 ∷ []) (d + 1) ks (Made (Nonterminal 27))
unfolding parts_of inside productions counted rule_count
stmt_other e = begun 27 59 e (lit< tt)

pub tail_assign : {count d : ℕ} {ks : List Kind} → choice 28 (next ks) ≡ 60 → Onward count (Nonterminal 28) d ks (Terminal 23 ∷ Nonterminal 37 ∷ []) (d) ks (Made (Nonterminal 28))
unfolding parts_of inside productions counted rule_count
tail_assign e = begun 28 60 e (lit< tt)

pub tail_actuals : {count d : ℕ} {ks : List Kind} → choice 28 (next ks) ≡ 61 → Onward count (Nonterminal 28) d ks (Nonterminal 34 ∷ Nonterminal 33 ∷ []) (d) ks (Made (Nonterminal 28))
unfolding parts_of inside productions counted rule_count
tail_actuals e = begun 28 61 e (lit< tt)

pub tail_dot : {count d : ℕ} {ks : List Kind} → choice 28 (next ks) ≡ 62 → Onward count (Nonterminal 28) d ks (Nonterminal 32 ∷ Nonterminal 33 ∷ []) (d) ks (Made (Nonterminal 28))
unfolding parts_of inside productions counted rule_count
tail_dot e = begun 28 62 e (lit< tt)

pub other_block : {count d : ℕ} {ks : List Kind} → choice 29 (next ks) ≡ 63 → Onward count (Nonterminal 29) d ks (Nonterminal 23 ∷ []) (d) ks (Made (Nonterminal 29))
unfolding parts_of inside productions counted rule_count
other_block e = begun 29 63 e (lit< tt)

pub other_semicolon : {count d : ℕ} {ks : List Kind} → choice 29 (next ks) ≡ 64 → Onward count (Nonterminal 29) d ks (Terminal 2 ∷ []) (d) ks (Made (Nonterminal 29))
unfolding parts_of inside productions counted rule_count
other_semicolon e = begun 29 64 e (lit< tt)

pub other_if : {count d : ℕ} {ks : List Kind} → choice 29 (next ks) ≡ 65 → Onward count (Nonterminal 29) d ks (Terminal 24 ∷ Terminal 20 ∷ Nonterminal 37 ∷ Terminal 21 ∷ Nonterminal 27 ∷ Nonterminal 30 ∷ []) (d) ks (Made (Nonterminal 29))
unfolding parts_of inside productions counted rule_count
other_if e = begun 29 65 e (lit< tt)

pub other_while : {count d : ℕ} {ks : List Kind} → choice 29 (next ks) ≡ 66 → Onward count (Nonterminal 29) d ks (Terminal 25 ∷ Terminal 20 ∷ Nonterminal 37 ∷ Terminal 21 ∷ Nonterminal 27 ∷ []) (d) ks (Made (Nonterminal 29))
unfolding parts_of inside productions counted rule_count
other_while e = begun 29 66 e (lit< tt)

pub other_return : {count d : ℕ} {ks : List Kind} → choice 29 (next ks) ≡ 67 → Onward count (Nonterminal 29) d ks (Terminal 26 ∷ Nonterminal 31 ∷ Terminal 2 ∷ []) (d) ks (Made (Nonterminal 29))
unfolding parts_of inside productions counted rule_count
other_return e = begun 29 67 e (lit< tt)

pub other_this : {count d : ℕ} {ks : List Kind} → choice 29 (next ks) ≡ 68 → Onward count (Nonterminal 29) d ks (Terminal 27 ∷ Nonterminal 32 ∷ Nonterminal 33 ∷ Terminal 2 ∷ []) (d) ks (Made (Nonterminal 29))
unfolding parts_of inside productions counted rule_count
other_this e = begun 29 68 e (lit< tt)

pub other_new : {count d : ℕ} {ks : List Kind} → choice 29 (next ks) ≡ 69 → Onward count (Nonterminal 29) d ks (Terminal 28 ∷ Terminal 1 ∷ Nonterminal 34 ∷ Nonterminal 33 ∷ Terminal 2 ∷ []) (d) ks (Made (Nonterminal 29))
unfolding parts_of inside productions counted rule_count
other_new e = begun 29 69 e (lit< tt)

pub optional_else_none : {count d : ℕ} {ks : List Kind} → choice 30 (next ks) ≡ 70 → Onward count (Nonterminal 30) d ks ([]) (d) ks (Made (Nonterminal 30))
unfolding parts_of inside productions counted rule_count
optional_else_none e = begun 30 70 e (lit< tt)

pub optional_else_else : {count d : ℕ} {ks : List Kind} → choice 30 (next ks) ≡ 71 → Onward count (Nonterminal 30) d ks (Terminal 29 ∷ Nonterminal 27 ∷ []) (d) ks (Made (Nonterminal 30))
unfolding parts_of inside productions counted rule_count
optional_else_else e = begun 30 71 e (lit< tt)

pub optional_expr_none : {count d : ℕ} {ks : List Kind} → choice 31 (next ks) ≡ 72 → Onward count (Nonterminal 31) d ks ([]) (d) ks (Made (Nonterminal 31))
unfolding parts_of inside productions counted rule_count
optional_expr_none e = begun 31 72 e (lit< tt)

pub optional_expr_expr : {count d : ℕ} {ks : List Kind} → choice 31 (next ks) ≡ 73 → Onward count (Nonterminal 31) d ks (Nonterminal 37 ∷ []) (d) ks (Made (Nonterminal 31))
unfolding parts_of inside productions counted rule_count
optional_expr_expr e = begun 31 73 e (lit< tt)

pub block_open_brace_at : (c : ℕ) → c < suc terminal_count → choice 23 c ≡ 48
unfolding choice choices terminal_count rule_count
block_open_brace_at c l = eqb-true _ _ (below 53 (λ x. nat_eq (choice 23 x) 48) refl c l)

pub items_none_at : (c : ℕ) → c ≡ 6 → choice 24 c ≡ 49
unfolding choice choices
items_none_at c e = ap (choice 24) e

pub items_item_at : (c : ℕ) → c < suc terminal_count → c ≢ 6 → choice 24 c ≡ 50
unfolding choice choices terminal_count rule_count
items_item_at c l n6 = eqb-true _ _ (else_rule c 6 _ n6 (below 53 (λ x. nat_eq x 6 || (nat_eq (choice 24 x) 50)) refl c l))

pub item_int_at : (c : ℕ) → c ≡ 17 → choice 25 c ≡ 51
unfolding choice choices
item_int_at c e = ap (choice 25) e

pub item_bool_at : (c : ℕ) → c ≡ 18 → choice 25 c ≡ 52
unfolding choice choices
item_bool_at c e = ap (choice 25) e

pub item_string_at : (c : ℕ) → c ≡ 19 → choice 25 c ≡ 53
unfolding choice choices
item_string_at c e = ap (choice 25) e

pub item_name_at : (c : ℕ) → c ≡ 1 → choice 25 c ≡ 54
unfolding choice choices
item_name_at c e = ap (choice 25) e

pub item_other_at : (c : ℕ) → c < suc terminal_count → c ≢ 1 → c ≢ 17 → c ≢ 18 → c ≢ 19 → choice 25 c ≡ 55
unfolding choice choices terminal_count rule_count
item_other_at c l n1 n17 n18 n19 = eqb-true _ _ (else_rule c 19 _ n19 (else_rule c 18 _ n18 (else_rule c 17 _ n17 (else_rule c 1 _ n1 (below 53 (λ x. nat_eq x 1 || (nat_eq x 17 || (nat_eq x 18 || (nat_eq x 19 || (nat_eq (choice 25 x) 55))))) refl c l)))))

pub after_name_name_at : (c : ℕ) → c ≡ 1 → choice 26 c ≡ 56
unfolding choice choices
after_name_name_at c e = ap (choice 26) e

pub after_name_tail_at : (c : ℕ) → c < suc terminal_count → c ≢ 1 → choice 26 c ≡ 57
unfolding choice choices terminal_count rule_count
after_name_tail_at c l n1 = eqb-true _ _ (else_rule c 1 _ n1 (below 53 (λ x. nat_eq x 1 || (nat_eq (choice 26 x) 57)) refl c l))

pub stmt_name_at : (c : ℕ) → c ≡ 1 → choice 27 c ≡ 58
unfolding choice choices
stmt_name_at c e = ap (choice 27) e

pub stmt_other_at : (c : ℕ) → c < suc terminal_count → c ≢ 1 → choice 27 c ≡ 59
unfolding choice choices terminal_count rule_count
stmt_other_at c l n1 = eqb-true _ _ (else_rule c 1 _ n1 (below 53 (λ x. nat_eq x 1 || (nat_eq (choice 27 x) 59)) refl c l))

pub tail_assign_at : (c : ℕ) → c ≡ 23 → choice 28 c ≡ 60
unfolding choice choices
tail_assign_at c e = ap (choice 28) e

pub tail_actuals_at : (c : ℕ) → c ≡ 20 → choice 28 c ≡ 61
unfolding choice choices
tail_actuals_at c e = ap (choice 28) e

pub tail_dot_at : (c : ℕ) → c ≡ 3 → choice 28 c ≡ 62
unfolding choice choices
tail_dot_at c e = ap (choice 28) e

pub tail_stuck : (c : ℕ) → c < suc terminal_count → c ≢ 3 → c ≢ 20 → c ≢ 23 → choice 28 c ≡ rule_count
unfolding choice choices terminal_count rule_count
tail_stuck c l n3 n20 n23 = eqb-true _ _ (else_rule c 23 _ n23 (else_rule c 20 _ n20 (else_rule c 3 _ n3 (below 53 (λ x. nat_eq x 3 || (nat_eq x 20 || (nat_eq x 23 || (nat_eq (choice 28 x) rule_count)))) refl c l))))

pub other_block_at : (c : ℕ) → c ≡ 5 → choice 29 c ≡ 63
unfolding choice choices
other_block_at c e = ap (choice 29) e

pub other_semicolon_at : (c : ℕ) → c ≡ 2 → choice 29 c ≡ 64
unfolding choice choices
other_semicolon_at c e = ap (choice 29) e

pub other_if_at : (c : ℕ) → c ≡ 24 → choice 29 c ≡ 65
unfolding choice choices
other_if_at c e = ap (choice 29) e

pub other_while_at : (c : ℕ) → c ≡ 25 → choice 29 c ≡ 66
unfolding choice choices
other_while_at c e = ap (choice 29) e

pub other_return_at : (c : ℕ) → c ≡ 26 → choice 29 c ≡ 67
unfolding choice choices
other_return_at c e = ap (choice 29) e

pub other_this_at : (c : ℕ) → c ≡ 27 → choice 29 c ≡ 68
unfolding choice choices
other_this_at c e = ap (choice 29) e

pub other_new_at : (c : ℕ) → c ≡ 28 → choice 29 c ≡ 69
unfolding choice choices
other_new_at c e = ap (choice 29) e

pub other_stuck : (c : ℕ) → c < suc terminal_count → c ≢ 2 → c ≢ 5 → c ≢ 24 → c ≢ 25 → c ≢ 26 → c ≢ 27 → c ≢ 28 → choice 29 c ≡ rule_count
unfolding choice choices terminal_count rule_count
other_stuck c l n2 n5 n24 n25 n26 n27 n28 = eqb-true _ _ (else_rule c 28 _ n28 (else_rule c 27 _ n27 (else_rule c 26 _ n26 (else_rule c 25 _ n25 (else_rule c 24 _ n24 (else_rule c 5 _ n5 (else_rule c 2 _ n2 (below 53 (λ x. nat_eq x 2 || (nat_eq x 5 || (nat_eq x 24 || (nat_eq x 25 || (nat_eq x 26 || (nat_eq x 27 || (nat_eq x 28 || (nat_eq (choice 29 x) rule_count)))))))) refl c l))))))))

pub optional_else_none_at : (c : ℕ) → c < suc terminal_count → c ≢ 29 → choice 30 c ≡ 70
unfolding choice choices terminal_count rule_count
optional_else_none_at c l n29 = eqb-true _ _ (else_rule c 29 _ n29 (below 53 (λ x. nat_eq x 29 || (nat_eq (choice 30 x) 70)) refl c l))

pub optional_else_else_at : (c : ℕ) → c ≡ 29 → choice 30 c ≡ 71
unfolding choice choices
optional_else_else_at c e = ap (choice 30) e

pub optional_expr_none_at : (c : ℕ) → c ≡ 2 → choice 31 c ≡ 72
unfolding choice choices
optional_expr_none_at c e = ap (choice 31) e

pub optional_expr_expr_at : (c : ℕ) → c < suc terminal_count → c ≢ 2 → choice 31 c ≡ 73
unfolding choice choices terminal_count rule_count
optional_expr_expr_at c l n2 = eqb-true _ _ (else_rule c 2 _ n2 (below 53 (λ x. nat_eq x 2 || (nat_eq (choice 31 x) 73)) refl c l))
