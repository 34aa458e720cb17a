-- How using lines and classes begin, by each production, and which production each of these nonterminals has at a terminal. Made by tools/grammar.py.
use Rattle.std.proofs.Common.{◌≡◌, ℕ, suc, ◌<◌, ◌≢◌, List, [], ◌∷◌, ◌||◌, refl, ap, lit<, eqb-true}
use Rattle.std.specs.Prelude.{nat_eq}
use Rattle.chord_lexer.specs.declared.token.Kind.{Kind}
use Rattle.chord_tree.specs.Symbol.{Terminal, Nonterminal}
use Rattle.chord_tree.specs.Grammar.{productions, counted, rule_count, terminal_count}
use Rattle.chord_tree.specs.Derivation.{next, parts_of, inside}
use Rattle.chord_tree.specs.Node.{Made}
use Rattle.chord_tree.specs.OneAhead.{choices, choice}
use Rattle.chord_tree.proofs.Ahead.{below, else_rule}
use Rattle.chord_parser.specs.Runs.{Onward}
use Rattle.chord_parser.proofs.Reading.{begun}

pub whole_program_usings : {count d : ℕ} {ks : List Kind} → choice 0 (next ks) ≡ 0 → Onward count (Nonterminal 0) d ks (Nonterminal 1 ∷ Nonterminal 5 ∷ Nonterminal 2 ∷ []) (d) ks (Made (Nonterminal 0))
unfolding parts_of inside productions counted rule_count
whole_program_usings e = begun 0 0 e (lit< tt)

pub usings_none : {count d : ℕ} {ks : List Kind} → choice 1 (next ks) ≡ 1 → Onward count (Nonterminal 1) d ks ([]) (d) ks (Made (Nonterminal 1))
unfolding parts_of inside productions counted rule_count
usings_none e = begun 1 1 e (lit< tt)

pub usings_using : {count d : ℕ} {ks : List Kind} → choice 1 (next ks) ≡ 2 → Onward count (Nonterminal 1) d ks (Nonterminal 3 ∷ Nonterminal 1 ∷ []) (d) ks (Made (Nonterminal 1))
unfolding parts_of inside productions counted rule_count
usings_using e = begun 1 2 e (lit< tt)

pub using_using : {count d : ℕ} {ks : List Kind} → choice 3 (next ks) ≡ 5 → Onward count (Nonterminal 3) d ks (Terminal 0 ∷ Terminal 1 ∷ Nonterminal 4 ∷ Terminal 2 ∷ []) (d) ks (Made (Nonterminal 3))
unfolding parts_of inside productions counted rule_count
using_using e = begun 3 5 e (lit< tt)

pub name_parts_none : {count d : ℕ} {ks : List Kind} → choice 4 (next ks) ≡ 6 → Onward count (Nonterminal 4) d ks ([]) (d) ks (Made (Nonterminal 4))
unfolding parts_of inside productions counted rule_count
name_parts_none e = begun 4 6 e (lit< tt)

pub name_parts_dot : {count d : ℕ} {ks : List Kind} → choice 4 (next ks) ≡ 7 → Onward count (Nonterminal 4) d ks (Terminal 3 ∷ Terminal 1 ∷ Nonterminal 4 ∷ []) (d) ks (Made (Nonterminal 4))
unfolding parts_of inside productions counted rule_count
name_parts_dot e = begun 4 7 e (lit< tt)

pub classes_none : {count d : ℕ} {ks : List Kind} → choice 2 (next ks) ≡ 3 → Onward count (Nonterminal 2) d ks ([]) (d) ks (Made (Nonterminal 2))
unfolding parts_of inside productions counted rule_count
classes_none e = begun 2 3 e (lit< tt)

pub classes_class : {count d : ℕ} {ks : List Kind} → choice 2 (next ks) ≡ 4 → Onward count (Nonterminal 2) d ks (Nonterminal 5 ∷ Nonterminal 2 ∷ []) (d) ks (Made (Nonterminal 2))
unfolding parts_of inside productions counted rule_count
classes_class e = begun 2 4 e (lit< tt)

pub class_optional_public : {count d : ℕ} {ks : List Kind} → choice 5 (next ks) ≡ 8 → Onward count (Nonterminal 5) d ks (Nonterminal 6 ∷ Terminal 4 ∷ Terminal 1 ∷ Nonterminal 7 ∷ Terminal 5 ∷ Nonterminal 8 ∷ Terminal 6 ∷ []) (d) ks (Made (Nonterminal 5))
unfolding parts_of inside productions counted rule_count
class_optional_public e = begun 5 8 e (lit< tt)

pub optional_public_none : {count d : ℕ} {ks : List Kind} → choice 6 (next ks) ≡ 9 → Onward count (Nonterminal 6) d ks ([]) (d) ks (Made (Nonterminal 6))
unfolding parts_of inside productions counted rule_count
optional_public_none e = begun 6 9 e (lit< tt)

pub optional_public_public : {count d : ℕ} {ks : List Kind} → choice 6 (next ks) ≡ 10 → Onward count (Nonterminal 6) d ks (Terminal 7 ∷ []) (d) ks (Made (Nonterminal 6))
unfolding parts_of inside productions counted rule_count
optional_public_public e = begun 6 10 e (lit< tt)

pub optional_base_none : {count d : ℕ} {ks : List Kind} → choice 7 (next ks) ≡ 11 → Onward count (Nonterminal 7) d ks ([]) (d) ks (Made (Nonterminal 7))
unfolding parts_of inside productions counted rule_count
optional_base_none e = begun 7 11 e (lit< tt)

pub optional_base_colon : {count d : ℕ} {ks : List Kind} → choice 7 (next ks) ≡ 12 → Onward count (Nonterminal 7) d ks (Terminal 8 ∷ Terminal 1 ∷ []) (d) ks (Made (Nonterminal 7))
unfolding parts_of inside productions counted rule_count
optional_base_colon e = begun 7 12 e (lit< tt)

pub members_none : {count d : ℕ} {ks : List Kind} → choice 8 (next ks) ≡ 13 → Onward count (Nonterminal 8) d ks ([]) (d) ks (Made (Nonterminal 8))
unfolding parts_of inside productions counted rule_count
members_none e = begun 8 13 e (lit< tt)

pub members_member : {count d : ℕ} {ks : List Kind} → choice 8 (next ks) ≡ 14 → Onward count (Nonterminal 8) d ks (Nonterminal 9 ∷ Nonterminal 8 ∷ []) (d) ks (Made (Nonterminal 8))
unfolding parts_of inside productions counted rule_count
members_member e = begun 8 14 e (lit< tt)

pub whole_program_usings_at : (c : ℕ) → c < suc terminal_count → choice 0 c ≡ 0
unfolding choice choices terminal_count rule_count
whole_program_usings_at c l = eqb-true _ _ (below 53 (λ x. nat_eq (choice 0 x) 0) refl c l)

pub usings_none_at : (c : ℕ) → c < suc terminal_count → c ≢ 0 → choice 1 c ≡ 1
unfolding choice choices terminal_count rule_count
usings_none_at c l n0 = eqb-true _ _ (else_rule c 0 _ n0 (below 53 (λ x. nat_eq x 0 || (nat_eq (choice 1 x) 1)) refl c l))

pub usings_using_at : (c : ℕ) → c ≡ 0 → choice 1 c ≡ 2
unfolding choice choices
usings_using_at c e = ap (choice 1) e

pub using_using_at : (c : ℕ) → c < suc terminal_count → choice 3 c ≡ 5
unfolding choice choices terminal_count rule_count
using_using_at c l = eqb-true _ _ (below 53 (λ x. nat_eq (choice 3 x) 5) refl c l)

pub name_parts_none_at : (c : ℕ) → c < suc terminal_count → c ≢ 3 → choice 4 c ≡ 6
unfolding choice choices terminal_count rule_count
name_parts_none_at c l n3 = eqb-true _ _ (else_rule c 3 _ n3 (below 53 (λ x. nat_eq x 3 || (nat_eq (choice 4 x) 6)) refl c l))

pub name_parts_dot_at : (c : ℕ) → c ≡ 3 → choice 4 c ≡ 7
unfolding choice choices
name_parts_dot_at c e = ap (choice 4) e

pub classes_class_at : (c : ℕ) → c < suc terminal_count → c ≢ 52 → choice 2 c ≡ 4
unfolding choice choices terminal_count rule_count
classes_class_at c l n52 = eqb-true _ _ (else_rule c 52 _ n52 (below 53 (λ x. nat_eq x 52 || (nat_eq (choice 2 x) 4)) refl c l))

pub class_optional_public_at : (c : ℕ) → c < suc terminal_count → choice 5 c ≡ 8
unfolding choice choices terminal_count rule_count
class_optional_public_at c l = eqb-true _ _ (below 53 (λ x. nat_eq (choice 5 x) 8) refl c l)

pub optional_public_none_at : (c : ℕ) → c < suc terminal_count → c ≢ 7 → choice 6 c ≡ 9
unfolding choice choices terminal_count rule_count
optional_public_none_at c l n7 = eqb-true _ _ (else_rule c 7 _ n7 (below 53 (λ x. nat_eq x 7 || (nat_eq (choice 6 x) 9)) refl c l))

pub optional_public_public_at : (c : ℕ) → c ≡ 7 → choice 6 c ≡ 10
unfolding choice choices
optional_public_public_at c e = ap (choice 6) e

pub optional_base_none_at : (c : ℕ) → c < suc terminal_count → c ≢ 8 → choice 7 c ≡ 11
unfolding choice choices terminal_count rule_count
optional_base_none_at c l n8 = eqb-true _ _ (else_rule c 8 _ n8 (below 53 (λ x. nat_eq x 8 || (nat_eq (choice 7 x) 11)) refl c l))

pub optional_base_colon_at : (c : ℕ) → c ≡ 8 → choice 7 c ≡ 12
unfolding choice choices
optional_base_colon_at c e = ap (choice 7) e

pub members_none_at : (c : ℕ) → c ≡ 6 → choice 8 c ≡ 13
unfolding choice choices
members_none_at c e = ap (choice 8) e

pub members_member_at : (c : ℕ) → c < suc terminal_count → c ≢ 6 → choice 8 c ≡ 14
unfolding choice choices terminal_count rule_count
members_member_at c l n6 = eqb-true _ _ (else_rule c 6 _ n6 (below 53 (λ x. nat_eq x 6 || (nat_eq (choice 8 x) 14)) refl c l))
