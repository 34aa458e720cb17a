-- How members, headers and parameters begin, by each production, and which production each of these nonterminals has at a terminal. Made by tools/grammar.py.
use Rattle.std.proofs.Common.{◌≡◌, ℕ, suc, ◌<◌, ◌≢◌, List, [], ◌∷◌, ◌||◌, refl, ap, lit<, eqb-true}
use Rattle.std.specs.Prelude.{nat_eq}
use Rattle.chord_lexer.specs.declared.token.Kind.{Kind}
use Rattle.chord_tree.specs.Symbol.{Terminal, Nonterminal}
use Rattle.chord_tree.specs.Grammar.{productions, counted, rule_count, terminal_count}
use Rattle.chord_tree.specs.Derivation.{next, parts_of, inside}
use Rattle.chord_tree.specs.Node.{Made}
use Rattle.chord_tree.specs.OneAhead.{choices, choice}
use Rattle.chord_tree.proofs.Ahead.{below, else_rule}
use Rattle.chord_parser.specs.Runs.{Onward}
use Rattle.chord_parser.proofs.Reading.{begun}

pub member_modifiers : {count d : ℕ} {ks : List Kind} → choice 9 (next ks) ≡ 15 → Onward count (Nonterminal 9) d ks (Nonterminal 10 ∷ Nonterminal 12 ∷ []) (d) ks (Made (Nonterminal 9))
unfolding parts_of inside productions counted rule_count
member_modifiers e = begun 9 15 e (lit< tt)

pub modifiers_none : {count d : ℕ} {ks : List Kind} → choice 10 (next ks) ≡ 16 → Onward count (Nonterminal 10) d ks ([]) (d) ks (Made (Nonterminal 10))
unfolding parts_of inside productions counted rule_count
modifiers_none e = begun 10 16 e (lit< tt)

pub modifiers_modifier : {count d : ℕ} {ks : List Kind} → choice 10 (next ks) ≡ 17 → Onward count (Nonterminal 10) d ks (Nonterminal 11 ∷ Nonterminal 10 ∷ []) (d) ks (Made (Nonterminal 10))
unfolding parts_of inside productions counted rule_count
modifiers_modifier e = begun 10 17 e (lit< tt)

pub modifier_public : {count d : ℕ} {ks : List Kind} → choice 11 (next ks) ≡ 18 → Onward count (Nonterminal 11) d ks (Terminal 7 ∷ []) (d) ks (Made (Nonterminal 11))
unfolding parts_of inside productions counted rule_count
modifier_public e = begun 11 18 e (lit< tt)

pub modifier_private : {count d : ℕ} {ks : List Kind} → choice 11 (next ks) ≡ 19 → Onward count (Nonterminal 11) d ks (Terminal 9 ∷ []) (d) ks (Made (Nonterminal 11))
unfolding parts_of inside productions counted rule_count
modifier_private e = begun 11 19 e (lit< tt)

pub modifier_protected : {count d : ℕ} {ks : List Kind} → choice 11 (next ks) ≡ 20 → Onward count (Nonterminal 11) d ks (Terminal 10 ∷ []) (d) ks (Made (Nonterminal 11))
unfolding parts_of inside productions counted rule_count
modifier_protected e = begun 11 20 e (lit< tt)

pub modifier_virtual : {count d : ℕ} {ks : List Kind} → choice 11 (next ks) ≡ 21 → Onward count (Nonterminal 11) d ks (Terminal 11 ∷ []) (d) ks (Made (Nonterminal 11))
unfolding parts_of inside productions counted rule_count
modifier_virtual e = begun 11 21 e (lit< tt)

pub modifier_override : {count d : ℕ} {ks : List Kind} → choice 11 (next ks) ≡ 22 → Onward count (Nonterminal 11) d ks (Terminal 12 ∷ []) (d) ks (Made (Nonterminal 11))
unfolding parts_of inside productions counted rule_count
modifier_override e = begun 11 22 e (lit< tt)

pub modifier_static : {count d : ℕ} {ks : List Kind} → choice 11 (next ks) ≡ 23 → Onward count (Nonterminal 11) d ks (Terminal 13 ∷ []) (d) ks (Made (Nonterminal 11))
unfolding parts_of inside productions counted rule_count
modifier_static e = begun 11 23 e (lit< tt)

pub rest_name : {count d : ℕ} {ks : List Kind} → choice 12 (next ks) ≡ 24 → Onward count (Nonterminal 12) d ks (Terminal 1 ∷ Nonterminal 13 ∷ []) (d) ks (Made (Nonterminal 12))
unfolding parts_of inside productions counted rule_count
rest_name e = begun 12 24 e (lit< tt)

pub rest_plain : {count d : ℕ} {ks : List Kind} → choice 12 (next ks) ≡ 25 → Onward count (Nonterminal 12) d ks (Nonterminal 17 ∷ Terminal 1 ∷ Nonterminal 18 ∷ Nonterminal 14 ∷ Nonterminal 23 ∷ []) (d) ks (Made (Nonterminal 12))
unfolding parts_of inside productions counted rule_count
rest_plain e = begun 12 25 e (lit< tt)

pub after_formals : {count d : ℕ} {ks : List Kind} → choice 13 (next ks) ≡ 26 → Onward count (Nonterminal 13) d ks (Nonterminal 18 ∷ Nonterminal 23 ∷ []) (d) ks (Made (Nonterminal 13))
unfolding parts_of inside productions counted rule_count
after_formals e = begun 13 26 e (lit< tt)

pub after_name : {count d : ℕ} {ks : List Kind} → choice 13 (next ks) ≡ 27 → Onward count (Nonterminal 13) d ks (Terminal 1 ∷ Nonterminal 18 ∷ Nonterminal 14 ∷ Nonterminal 23 ∷ []) (d) ks (Made (Nonterminal 13))
unfolding parts_of inside productions counted rule_count
after_name e = begun 13 27 e (lit< tt)

pub headers_none : {count d : ℕ} {ks : List Kind} → choice 14 (next ks) ≡ 28 → Onward count (Nonterminal 14) d ks ([]) (d) ks (Made (Nonterminal 14))
unfolding parts_of inside productions counted rule_count
headers_none e = begun 14 28 e (lit< tt)

pub headers_ampersand : {count d : ℕ} {ks : List Kind} → choice 14 (next ks) ≡ 29 → Onward count (Nonterminal 14) d ks (Terminal 14 ∷ Nonterminal 15 ∷ Nonterminal 14 ∷ []) (d) ks (Made (Nonterminal 14))
unfolding parts_of inside productions counted rule_count
headers_ampersand e = begun 14 29 e (lit< tt)

pub header_modifiers : {count d : ℕ} {ks : List Kind} → choice 15 (next ks) ≡ 30 → Onward count (Nonterminal 15) d ks (Nonterminal 10 ∷ Nonterminal 16 ∷ Terminal 1 ∷ Nonterminal 18 ∷ []) (d) ks (Made (Nonterminal 15))
unfolding parts_of inside productions counted rule_count
header_modifiers e = begun 15 30 e (lit< tt)

pub result_plain : {count d : ℕ} {ks : List Kind} → choice 16 (next ks) ≡ 31 → Onward count (Nonterminal 16) d ks (Nonterminal 17 ∷ []) (d) ks (Made (Nonterminal 16))
unfolding parts_of inside productions counted rule_count
result_plain e = begun 16 31 e (lit< tt)

pub result_name : {count d : ℕ} {ks : List Kind} → choice 16 (next ks) ≡ 32 → Onward count (Nonterminal 16) d ks (Terminal 1 ∷ []) (d) ks (Made (Nonterminal 16))
unfolding parts_of inside productions counted rule_count
result_name e = begun 16 32 e (lit< tt)

pub plain_async : {count d : ℕ} {ks : List Kind} → choice 17 (next ks) ≡ 33 → Onward count (Nonterminal 17) d ks (Terminal 15 ∷ []) (d) ks (Made (Nonterminal 17))
unfolding parts_of inside productions counted rule_count
plain_async e = begun 17 33 e (lit< tt)

pub plain_void : {count d : ℕ} {ks : List Kind} → choice 17 (next ks) ≡ 34 → Onward count (Nonterminal 17) d ks (Terminal 16 ∷ []) (d) ks (Made (Nonterminal 17))
unfolding parts_of inside productions counted rule_count
plain_void e = begun 17 34 e (lit< tt)

pub plain_int : {count d : ℕ} {ks : List Kind} → choice 17 (next ks) ≡ 35 → Onward count (Nonterminal 17) d ks (Terminal 17 ∷ []) (d) ks (Made (Nonterminal 17))
unfolding parts_of inside productions counted rule_count
plain_int e = begun 17 35 e (lit< tt)

pub plain_bool : {count d : ℕ} {ks : List Kind} → choice 17 (next ks) ≡ 36 → Onward count (Nonterminal 17) d ks (Terminal 18 ∷ []) (d) ks (Made (Nonterminal 17))
unfolding parts_of inside productions counted rule_count
plain_bool e = begun 17 36 e (lit< tt)

pub plain_string : {count d : ℕ} {ks : List Kind} → choice 17 (next ks) ≡ 37 → Onward count (Nonterminal 17) d ks (Terminal 19 ∷ []) (d) ks (Made (Nonterminal 17))
unfolding parts_of inside productions counted rule_count
plain_string e = begun 17 37 e (lit< tt)

pub formals_open : {count d : ℕ} {ks : List Kind} → choice 18 (next ks) ≡ 38 → Onward count (Nonterminal 18) d ks (Terminal 20 ∷ Nonterminal 19 ∷ Terminal 21 ∷ []) (d) ks (Made (Nonterminal 18))
unfolding parts_of inside productions counted rule_count
formals_open e = begun 18 38 e (lit< tt)

pub optional_formals_none : {count d : ℕ} {ks : List Kind} → choice 19 (next ks) ≡ 39 → Onward count (Nonterminal 19) d ks ([]) (d) ks (Made (Nonterminal 19))
unfolding parts_of inside productions counted rule_count
optional_formals_none e = begun 19 39 e (lit< tt)

pub optional_formals_formal : {count d : ℕ} {ks : List Kind} → choice 19 (next ks) ≡ 40 → Onward count (Nonterminal 19) d ks (Nonterminal 21 ∷ Nonterminal 20 ∷ []) (d) ks (Made (Nonterminal 19))
unfolding parts_of inside productions counted rule_count
optional_formals_formal e = begun 19 40 e (lit< tt)

pub more_formals_none : {count d : ℕ} {ks : List Kind} → choice 20 (next ks) ≡ 41 → Onward count (Nonterminal 20) d ks ([]) (d) ks (Made (Nonterminal 20))
unfolding parts_of inside productions counted rule_count
more_formals_none e = begun 20 41 e (lit< tt)

pub more_formals_comma : {count d : ℕ} {ks : List Kind} → choice 20 (next ks) ≡ 42 → Onward count (Nonterminal 20) d ks (Terminal 22 ∷ Nonterminal 21 ∷ Nonterminal 20 ∷ []) (d) ks (Made (Nonterminal 20))
unfolding parts_of inside productions counted rule_count
more_formals_comma e = begun 20 42 e (lit< tt)

pub formal_value_type : {count d : ℕ} {ks : List Kind} → choice 21 (next ks) ≡ 43 → Onward count (Nonterminal 21) d ks (Nonterminal 22 ∷ Terminal 1 ∷ []) (d) ks (Made (Nonterminal 21))
unfolding parts_of inside productions counted rule_count
formal_value_type e = begun 21 43 e (lit< tt)

pub value_type_int : {count d : ℕ} {ks : List Kind} → choice 22 (next ks) ≡ 44 → Onward count (Nonterminal 22) d ks (Terminal 17 ∷ []) (d) ks (Made (Nonterminal 22))
unfolding parts_of inside productions counted rule_count
value_type_int e = begun 22 44 e (lit< tt)

pub value_type_bool : {count d : ℕ} {ks : List Kind} → choice 22 (next ks) ≡ 45 → Onward count (Nonterminal 22) d ks (Terminal 18 ∷ []) (d) ks (Made (Nonterminal 22))
unfolding parts_of inside productions counted rule_count
value_type_bool e = begun 22 45 e (lit< tt)

pub value_type_string : {count d : ℕ} {ks : List Kind} → choice 22 (next ks) ≡ 46 → Onward count (Nonterminal 22) d ks (Terminal 19 ∷ []) (d) ks (Made (Nonterminal 22))
unfolding parts_of inside productions counted rule_count
value_type_string e = begun 22 46 e (lit< tt)

pub value_type_name : {count d : ℕ} {ks : List Kind} → choice 22 (next ks) ≡ 47 → Onward count (Nonterminal 22) d ks (Terminal 1 ∷ []) (d) ks (Made (Nonterminal 22))
unfolding parts_of inside productions counted rule_count
value_type_name e = begun 22 47 e (lit< tt)

pub member_modifiers_at : (c : ℕ) → c < suc terminal_count → choice 9 c ≡ 15
unfolding choice choices terminal_count rule_count
member_modifiers_at c l = eqb-true _ _ (below 53 (λ x. nat_eq (choice 9 x) 15) refl c l)

pub modifiers_none_at : (c : ℕ) → c < suc terminal_count → c ≢ 7 → c ≢ 9 → c ≢ 10 → c ≢ 11 → c ≢ 12 → c ≢ 13 → choice 10 c ≡ 16
unfolding choice choices terminal_count rule_count
modifiers_none_at c l n7 n9 n10 n11 n12 n13 = eqb-true _ _ (else_rule c 13 _ n13 (else_rule c 12 _ n12 (else_rule c 11 _ n11 (else_rule c 10 _ n10 (else_rule c 9 _ n9 (else_rule c 7 _ n7 (below 53 (λ x. nat_eq x 7 || (nat_eq x 9 || (nat_eq x 10 || (nat_eq x 11 || (nat_eq x 12 || (nat_eq x 13 || (nat_eq (choice 10 x) 16))))))) refl c l)))))))

pub modifiers_modifier_at_public : (c : ℕ) → c ≡ 7 → choice 10 c ≡ 17
unfolding choice choices
modifiers_modifier_at_public c e = ap (choice 10) e

pub modifiers_modifier_at_private : (c : ℕ) → c ≡ 9 → choice 10 c ≡ 17
unfolding choice choices
modifiers_modifier_at_private c e = ap (choice 10) e

pub modifiers_modifier_at_protected : (c : ℕ) → c ≡ 10 → choice 10 c ≡ 17
unfolding choice choices
modifiers_modifier_at_protected c e = ap (choice 10) e

pub modifiers_modifier_at_virtual : (c : ℕ) → c ≡ 11 → choice 10 c ≡ 17
unfolding choice choices
modifiers_modifier_at_virtual c e = ap (choice 10) e

pub modifiers_modifier_at_override : (c : ℕ) → c ≡ 12 → choice 10 c ≡ 17
unfolding choice choices
modifiers_modifier_at_override c e = ap (choice 10) e

pub modifiers_modifier_at_static : (c : ℕ) → c ≡ 13 → choice 10 c ≡ 17
unfolding choice choices
modifiers_modifier_at_static c e = ap (choice 10) e

pub modifier_public_at : (c : ℕ) → c ≡ 7 → choice 11 c ≡ 18
unfolding choice choices
modifier_public_at c e = ap (choice 11) e

pub modifier_private_at : (c : ℕ) → c ≡ 9 → choice 11 c ≡ 19
unfolding choice choices
modifier_private_at c e = ap (choice 11) e

pub modifier_protected_at : (c : ℕ) → c ≡ 10 → choice 11 c ≡ 20
unfolding choice choices
modifier_protected_at c e = ap (choice 11) e

pub modifier_virtual_at : (c : ℕ) → c ≡ 11 → choice 11 c ≡ 21
unfolding choice choices
modifier_virtual_at c e = ap (choice 11) e

pub modifier_override_at : (c : ℕ) → c ≡ 12 → choice 11 c ≡ 22
unfolding choice choices
modifier_override_at c e = ap (choice 11) e

pub modifier_static_at : (c : ℕ) → c ≡ 13 → choice 11 c ≡ 23
unfolding choice choices
modifier_static_at c e = ap (choice 11) e

pub modifier_stuck : (c : ℕ) → c < suc terminal_count → c ≢ 7 → c ≢ 9 → c ≢ 10 → c ≢ 11 → c ≢ 12 → c ≢ 13 → choice 11 c ≡ rule_count
unfolding choice choices terminal_count rule_count
modifier_stuck c l n7 n9 n10 n11 n12 n13 = eqb-true _ _ (else_rule c 13 _ n13 (else_rule c 12 _ n12 (else_rule c 11 _ n11 (else_rule c 10 _ n10 (else_rule c 9 _ n9 (else_rule c 7 _ n7 (below 53 (λ x. nat_eq x 7 || (nat_eq x 9 || (nat_eq x 10 || (nat_eq x 11 || (nat_eq x 12 || (nat_eq x 13 || (nat_eq (choice 11 x) rule_count))))))) refl c l)))))))

pub rest_name_at : (c : ℕ) → c ≡ 1 → choice 12 c ≡ 24
unfolding choice choices
rest_name_at c e = ap (choice 12) e

pub rest_plain_at_async : (c : ℕ) → c ≡ 15 → choice 12 c ≡ 25
unfolding choice choices
rest_plain_at_async c e = ap (choice 12) e

pub rest_plain_at_void : (c : ℕ) → c ≡ 16 → choice 12 c ≡ 25
unfolding choice choices
rest_plain_at_void c e = ap (choice 12) e

pub rest_plain_at_int : (c : ℕ) → c ≡ 17 → choice 12 c ≡ 25
unfolding choice choices
rest_plain_at_int c e = ap (choice 12) e

pub rest_plain_at_bool : (c : ℕ) → c ≡ 18 → choice 12 c ≡ 25
unfolding choice choices
rest_plain_at_bool c e = ap (choice 12) e

pub rest_plain_at_string : (c : ℕ) → c ≡ 19 → choice 12 c ≡ 25
unfolding choice choices
rest_plain_at_string c e = ap (choice 12) e

pub rest_stuck : (c : ℕ) → c < suc terminal_count → c ≢ 1 → c ≢ 15 → c ≢ 16 → c ≢ 17 → c ≢ 18 → c ≢ 19 → choice 12 c ≡ rule_count
unfolding choice choices terminal_count rule_count
rest_stuck c l n1 n15 n16 n17 n18 n19 = eqb-true _ _ (else_rule c 19 _ n19 (else_rule c 18 _ n18 (else_rule c 17 _ n17 (else_rule c 16 _ n16 (else_rule c 15 _ n15 (else_rule c 1 _ n1 (below 53 (λ x. nat_eq x 1 || (nat_eq x 15 || (nat_eq x 16 || (nat_eq x 17 || (nat_eq x 18 || (nat_eq x 19 || (nat_eq (choice 12 x) rule_count))))))) refl c l)))))))

pub after_formals_at : (c : ℕ) → c ≡ 20 → choice 13 c ≡ 26
unfolding choice choices
after_formals_at c e = ap (choice 13) e

pub after_name_at : (c : ℕ) → c ≡ 1 → choice 13 c ≡ 27
unfolding choice choices
after_name_at c e = ap (choice 13) e

pub after_stuck : (c : ℕ) → c < suc terminal_count → c ≢ 1 → c ≢ 20 → choice 13 c ≡ rule_count
unfolding choice choices terminal_count rule_count
after_stuck c l n1 n20 = eqb-true _ _ (else_rule c 20 _ n20 (else_rule c 1 _ n1 (below 53 (λ x. nat_eq x 1 || (nat_eq x 20 || (nat_eq (choice 13 x) rule_count))) refl c l)))

pub headers_none_at : (c : ℕ) → c < suc terminal_count → c ≢ 14 → choice 14 c ≡ 28
unfolding choice choices terminal_count rule_count
headers_none_at c l n14 = eqb-true _ _ (else_rule c 14 _ n14 (below 53 (λ x. nat_eq x 14 || (nat_eq (choice 14 x) 28)) refl c l))

pub headers_ampersand_at : (c : ℕ) → c ≡ 14 → choice 14 c ≡ 29
unfolding choice choices
headers_ampersand_at c e = ap (choice 14) e

pub header_modifiers_at : (c : ℕ) → c < suc terminal_count → choice 15 c ≡ 30
unfolding choice choices terminal_count rule_count
header_modifiers_at c l = eqb-true _ _ (below 53 (λ x. nat_eq (choice 15 x) 30) refl c l)

pub result_plain_at_async : (c : ℕ) → c ≡ 15 → choice 16 c ≡ 31
unfolding choice choices
result_plain_at_async c e = ap (choice 16) e

pub result_plain_at_void : (c : ℕ) → c ≡ 16 → choice 16 c ≡ 31
unfolding choice choices
result_plain_at_void c e = ap (choice 16) e

pub result_plain_at_int : (c : ℕ) → c ≡ 17 → choice 16 c ≡ 31
unfolding choice choices
result_plain_at_int c e = ap (choice 16) e

pub result_plain_at_bool : (c : ℕ) → c ≡ 18 → choice 16 c ≡ 31
unfolding choice choices
result_plain_at_bool c e = ap (choice 16) e

pub result_plain_at_string : (c : ℕ) → c ≡ 19 → choice 16 c ≡ 31
unfolding choice choices
result_plain_at_string c e = ap (choice 16) e

pub result_name_at : (c : ℕ) → c ≡ 1 → choice 16 c ≡ 32
unfolding choice choices
result_name_at c e = ap (choice 16) e

pub result_stuck : (c : ℕ) → c < suc terminal_count → c ≢ 1 → c ≢ 15 → c ≢ 16 → c ≢ 17 → c ≢ 18 → c ≢ 19 → choice 16 c ≡ rule_count
unfolding choice choices terminal_count rule_count
result_stuck c l n1 n15 n16 n17 n18 n19 = eqb-true _ _ (else_rule c 19 _ n19 (else_rule c 18 _ n18 (else_rule c 17 _ n17 (else_rule c 16 _ n16 (else_rule c 15 _ n15 (else_rule c 1 _ n1 (below 53 (λ x. nat_eq x 1 || (nat_eq x 15 || (nat_eq x 16 || (nat_eq x 17 || (nat_eq x 18 || (nat_eq x 19 || (nat_eq (choice 16 x) rule_count))))))) refl c l)))))))

pub plain_async_at : (c : ℕ) → c ≡ 15 → choice 17 c ≡ 33
unfolding choice choices
plain_async_at c e = ap (choice 17) e

pub plain_void_at : (c : ℕ) → c ≡ 16 → choice 17 c ≡ 34
unfolding choice choices
plain_void_at c e = ap (choice 17) e

pub plain_int_at : (c : ℕ) → c ≡ 17 → choice 17 c ≡ 35
unfolding choice choices
plain_int_at c e = ap (choice 17) e

pub plain_bool_at : (c : ℕ) → c ≡ 18 → choice 17 c ≡ 36
unfolding choice choices
plain_bool_at c e = ap (choice 17) e

pub plain_string_at : (c : ℕ) → c ≡ 19 → choice 17 c ≡ 37
unfolding choice choices
plain_string_at c e = ap (choice 17) e

pub plain_stuck : (c : ℕ) → c < suc terminal_count → c ≢ 15 → c ≢ 16 → c ≢ 17 → c ≢ 18 → c ≢ 19 → choice 17 c ≡ rule_count
unfolding choice choices terminal_count rule_count
plain_stuck c l n15 n16 n17 n18 n19 = eqb-true _ _ (else_rule c 19 _ n19 (else_rule c 18 _ n18 (else_rule c 17 _ n17 (else_rule c 16 _ n16 (else_rule c 15 _ n15 (below 53 (λ x. nat_eq x 15 || (nat_eq x 16 || (nat_eq x 17 || (nat_eq x 18 || (nat_eq x 19 || (nat_eq (choice 17 x) rule_count)))))) refl c l))))))

pub formals_open_at : (c : ℕ) → c < suc terminal_count → choice 18 c ≡ 38
unfolding choice choices terminal_count rule_count
formals_open_at c l = eqb-true _ _ (below 53 (λ x. nat_eq (choice 18 x) 38) refl c l)

pub optional_formals_none_at : (c : ℕ) → c ≡ 21 → choice 19 c ≡ 39
unfolding choice choices
optional_formals_none_at c e = ap (choice 19) e

pub optional_formals_formal_at : (c : ℕ) → c < suc terminal_count → c ≢ 21 → choice 19 c ≡ 40
unfolding choice choices terminal_count rule_count
optional_formals_formal_at c l n21 = eqb-true _ _ (else_rule c 21 _ n21 (below 53 (λ x. nat_eq x 21 || (nat_eq (choice 19 x) 40)) refl c l))

pub more_formals_none_at : (c : ℕ) → c < suc terminal_count → c ≢ 22 → choice 20 c ≡ 41
unfolding choice choices terminal_count rule_count
more_formals_none_at c l n22 = eqb-true _ _ (else_rule c 22 _ n22 (below 53 (λ x. nat_eq x 22 || (nat_eq (choice 20 x) 41)) refl c l))

pub more_formals_comma_at : (c : ℕ) → c ≡ 22 → choice 20 c ≡ 42
unfolding choice choices
more_formals_comma_at c e = ap (choice 20) e

pub formal_value_type_at : (c : ℕ) → c < suc terminal_count → choice 21 c ≡ 43
unfolding choice choices terminal_count rule_count
formal_value_type_at c l = eqb-true _ _ (below 53 (λ x. nat_eq (choice 21 x) 43) refl c l)

pub value_type_int_at : (c : ℕ) → c ≡ 17 → choice 22 c ≡ 44
unfolding choice choices
value_type_int_at c e = ap (choice 22) e

pub value_type_bool_at : (c : ℕ) → c ≡ 18 → choice 22 c ≡ 45
unfolding choice choices
value_type_bool_at c e = ap (choice 22) e

pub value_type_string_at : (c : ℕ) → c ≡ 19 → choice 22 c ≡ 46
unfolding choice choices
value_type_string_at c e = ap (choice 22) e

pub value_type_name_at : (c : ℕ) → c ≡ 1 → choice 22 c ≡ 47
unfolding choice choices
value_type_name_at c e = ap (choice 22) e

pub value_type_stuck : (c : ℕ) → c < suc terminal_count → c ≢ 1 → c ≢ 17 → c ≢ 18 → c ≢ 19 → choice 22 c ≡ rule_count
unfolding choice choices terminal_count rule_count
value_type_stuck c l n1 n17 n18 n19 = eqb-true _ _ (else_rule c 19 _ n19 (else_rule c 18 _ n18 (else_rule c 17 _ n17 (else_rule c 1 _ n1 (below 53 (λ x. nat_eq x 1 || (nat_eq x 17 || (nat_eq x 18 || (nat_eq x 19 || (nat_eq (choice 22 x) rule_count))))) refl c l)))))
