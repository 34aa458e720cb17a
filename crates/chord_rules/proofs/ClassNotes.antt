-- What a class breaks, part by part.
use Rattle.std.proofs.Common.{◌≡◌, ℕ, ◌+◌, ◌-◌, List, [], ◌∷◌, ◌++◌, length, drop, flat_map, sym, ap, ◌∙◌, Option}
use Rattle.chord_tree.specs.Tree.{HeaderTree, MemberTree, ClassTree}
use Rattle.chord_tree.specs.Walk.{member_headers, headers_of}
use Rattle.chord_bodies.specs.Resolved.{ChordOf, ClassOf}
use Rattle.chord_classes.specs.Table.{Shape, base_of, inherited, shape_of}
use Rattle.chord_classes.specs.Plan.{base_chords, overridden, class_plan, plans_after}
use Rattle.chord_classes.specs.ChordRules.{header_tokens, new_headers, chord_tokens, over_plans}
use Rattle.chord_classes.specs.DeclarationRules.{overriding}
use Rattle.chord_classes.specs.Least.{least, keys}
use Rattle.chord_classes.proofs.Leasts.{noted_four}
use Rattle.chord_rules.specs.Splits.{split_from, split}
use Rattle.chord_rules.specs.ClassKeys.{keys_of_member, header_keys, chord_places, name_keys, place_keys, method_limits, inner_keys, class_keys}

-- what a class breaks by its members and their headers, where its parts lie in memory
pub inner_noted : (done : List Shape) (plans : List ClassOf) (class : ClassTree) (base : Option ℕ) (members others : List MemberTree) (room : ℕ) (chords : List ChordOf) (headers : List HeaderTree) (taken : List ℕ) (o p q r s : Option ℕ)
    → base ≡ base_of done class → members ≡ class.members → others ≡ class.members → room ≡ 256 - length chords → chords ≡ base_chords plans base → headers ≡ headers_of class
    → taken ≡ overridden (inherited done (base_of done class)) (headers_of class)
    → p ≡ least o (flat_map keys_of_member members) → q ≡ least p (keys 4 (drop room (chord_tokens others))) → r ≡ least q (flat_map (header_keys headers (inherited done base)) headers)
    → s ≡ least r (keys 11 (split_from chords taken (inherited done base) [] (overriding (inherited done base) headers))) → s ≡ least o (inner_keys done plans class)
inner_noted done plans class base members others room chords headers taken o p q r s b m n l k h t hp hq hr hs =
    noted_four o p q r s (flat_map keys_of_member class.members) (keys 4 (chord_places plans (base_of done class) class.members)) (flat_map (header_keys (headers_of class) (inherited done (base_of done class))) (headers_of class)) (keys 11 (split done plans class))
    (hp ∙ ap (λ z. least o (flat_map keys_of_member z)) m)
    (hq ∙ ap (λ z. least p (keys 4 (drop z (chord_tokens others)))) (l ∙ ap (λ z. 256 - length z) k ∙ ap (λ z. 256 - length (base_chords plans z)) b) ∙ ap (λ z. least p (keys 4 (chord_places plans (base_of done class) z))) n)
    (hr ∙ ap (λ z. least q (flat_map (header_keys z (inherited done base)) z)) h ∙ ap (λ z. least q (flat_map (header_keys (headers_of class) (inherited done z)) (headers_of class))) b)
    (hs ∙ ap (λ z. least r (keys 11 (split_from z taken (inherited done base) [] (overriding (inherited done base) headers)))) k
    ∙ ap (λ z. least r (keys 11 (split_from (base_chords plans base) z (inherited done base) [] (overriding (inherited done base) headers)))) t
    ∙ ap (λ z. least r (keys 11 (split_from (base_chords plans base) (overridden (inherited done (base_of done class)) (headers_of class)) (inherited done base) [] (overriding (inherited done base) z)))) h
    ∙ ap (λ z. least r (keys 11 (split_from (base_chords plans z) (overridden (inherited done (base_of done class)) (headers_of class)) (inherited done z) [] (overriding (inherited done z) (headers_of class))))) b)

-- what a class breaks, where its parts lie in memory
pub class_noted : (classes : List ClassTree) (done : List Shape) (plans others : List ClassOf) (class : ClassTree) (base : Option ℕ) (owner : ℕ) (members : List MemberTree) (o p q r s : Option ℕ)
    → base ≡ base_of done class → owner ≡ length done → members ≡ class.members → others ≡ plans
    → p ≡ least o (name_keys classes done class) → q ≡ least p (place_keys done class)
    → r ≡ least q (keys 4 (drop (16 - length (inherited done base)) (header_tokens (new_headers owner (inherited done base) (flat_map member_headers members)))))
    → s ≡ least r (inner_keys done others class) → s ≡ least o (class_keys classes done plans class)
class_noted classes done plans others class base owner members o p q r s b n m e hp hq hr hs =
    noted_four o p q r s (name_keys classes done class) (place_keys done class) (keys 4 (method_limits done class)) (inner_keys done plans class) hp hq
    (hr ∙ ap (λ z. least q (keys 4 (drop (16 - length (inherited done base)) (header_tokens (new_headers z (inherited done base) (flat_map member_headers members)))))) n
    ∙ ap (λ z. least q (keys 4 (drop (16 - length (inherited done base)) (header_tokens (new_headers (length done) (inherited done base) (flat_map member_headers z)))))) m
    ∙ ap (λ z. least q (keys 4 (drop (16 - length (inherited done z)) (header_tokens (new_headers (length done) (inherited done z) (headers_of class)))))) b)
    (hs ∙ ap (λ z. least r (inner_keys done z class)) e)

-- a class that breaks no rule, and then those after it
pub next_class : (rule : List Shape → List ClassOf → ClassTree → List ℕ) (done table : List Shape) (plans after : List ClassOf) (number next : ℕ) (class : ClassTree) (rest : List ClassTree)
    → table ≡ done ++ (shape_of done class ∷ []) → after ≡ plans ++ (class_plan done plans number class ∷ []) → next ≡ number + length class.members
    → rule done plans class ≡ [] → over_plans rule done plans number (class ∷ rest) ≡ over_plans rule table after next rest
next_class rule done table plans after number next class rest t a n h =
    ap (λ z. z ++ over_plans rule (done ++ (shape_of done class ∷ [])) (plans ++ (class_plan done plans number class ∷ [])) (number + length class.members) rest) h
    ∙ ap (λ z. over_plans rule z (plans ++ (class_plan done plans number class ∷ [])) (number + length class.members) rest) (sym t)
    ∙ ap (λ z. over_plans rule table z (number + length class.members) rest) (sym a) ∙ ap (λ z. over_plans rule table after z rest) (sym n)

-- the plan of a class, and then those after it
pub next_plans : (done table : List Shape) (plans after : List ClassOf) (number next : ℕ) (class : ClassTree) (rest : List ClassTree)
    → table ≡ done ++ (shape_of done class ∷ []) → after ≡ plans ++ (class_plan done plans number class ∷ []) → next ≡ number + length class.members
    → plans_after done plans number (class ∷ rest) ≡ plans_after table after next rest
next_plans done table plans after number next class rest t a n =
    ap (λ z. plans_after z (plans ++ (class_plan done plans number class ∷ [])) (number + length class.members) rest) (sym t)
    ∙ ap (λ z. plans_after table z (number + length class.members) rest) (sym a) ∙ ap (λ z. plans_after table after z rest) (sym n)
