-- Names that stand before a parameter or a header.
use Rattle.std.proofs.Common.{◌≡◌, ℕ, ◌+◌, ◌<◌, List, [], ◌∷◌, ◌++◌, length, Bool, true, false, cond, ◌||◌, arith, refl, sym, ap, ◌∙◌, append_assoc, Option, Some, is_some}
use Rattle.std.specs.Prelude.{reverse, not, ◌&&◌}
use Rattle.std.specs.Str.{bytes_eq}
use Rattle.std.specs.Cmp.Lexicographic.{nat_list_eq_equiv}
use Rattle.std.proofs.Math.Bool.{or-false, or_assoc, or_comm}
use Rattle.std.proofs.lemmas.List.{reverse-append, append-nil}
use Rattle.chord_tree.specs.declared.classes.Formal.{Formal}
use Rattle.chord_classes.specs.NameRules.{when}
use Rattle.chord_tree.specs.Tree.{HeaderTree}
use Rattle.chord_classes.specs.Table.{is_main}
use Rattle.chord_classes.specs.ChordRules.{named_in, repeated}
use Rattle.chord_classes.specs.DeclarationRules.{repeated_formals}
use Rattle.chord_classes.specs.NamePlaces.{name_place_from, name_place}
use Rattle.chord_rules.specs.FormalNames.{formal_names}
use Rattle.chord_classes.specs.Least.{least, keys}
use Rattle.chord_rules.proofs.Noted.{then_noted}

-- a name stands among two lists joined exactly if it stands in the first or in the second
named_append : (x : List ℕ) (ys zs : List (List ℕ)) → named_in x (ys ++ zs) ≡ (named_in x ys || named_in x zs)
named_append x [] zs = refl
named_append x (y ∷ ys) zs = ap (λ z. bytes_eq x y || z) (named_append x ys zs) ∙ sym (or_assoc (bytes_eq x y) (named_in x ys) (named_in x zs))

-- there is a place with a name in front exactly if that is the name or there is one among the later names
is_first : (b : Bool) (n : ℕ) (o : Option ℕ) → is_some (cond b (Some n) o) ≡ (b || is_some o)
is_first true n o = refl
is_first false n o = refl

-- the last name of a list that is turned round
last_in : (x y : List ℕ) (ys : List (List ℕ)) → named_in x (reverse (y ∷ ys)) ≡ (bytes_eq y x || named_in x (reverse ys))
last_in x y ys =
    ap (named_in x) (reverse-append (y ∷ []) ys) ∙ named_append x (reverse ys) (y ∷ []) ∙ ap (λ z. named_in x (reverse ys) || z) (or-false (bytes_eq x y) ∙ nat_list_eq_equiv.symm x y) ∙ or_comm (named_in x (reverse ys)) (bytes_eq y x)

-- a name stands among names exactly if it has a place there, from any number on
named_from : (n : ℕ) (x : List ℕ) (names : List (List ℕ)) → named_in x (reverse names) ≡ is_some (name_place_from n names x)
named_from n x [] = refl
named_from n x (y ∷ ys) = last_in x y ys ∙ ap (λ z. bytes_eq y x || z) (named_from (n + 1) x ys) ∙ sym (is_first (bytes_eq y x) n (name_place_from (n + 1) ys x))

-- a name stands among names exactly if it has a place there
pub named_place : (x : List ℕ) (names : List (List ℕ)) → named_in x (reverse names) ≡ is_some (name_place names x)
named_place x names = named_from 0 x names

-- names and one more, turned round
pub reverse_push : (names : List (List ℕ)) (x : List ℕ) → reverse (names ++ (x ∷ [])) ≡ x ∷ reverse names
reverse_push names x = reverse-append names (x ∷ [])

-- a parameter, and then those after it
pub next_formal : (names after : List (List ℕ)) (name : List ℕ) (formal : Formal) (rest : List Formal) (o p : Option ℕ) → after ≡ names ++ (name ∷ []) → name ≡ formal.name.text
    → p ≡ least o (keys 8 (when (is_some (name_place names name)) formal.name.at))
    → least o (keys 8 (repeated_formals (reverse names) (formal ∷ rest))) ≡ least p (keys 8 (repeated_formals (reverse after) rest))
next_formal names after name formal rest o p e f h =
    then_noted 8 o p (when (named_in formal.name.text (reverse names)) formal.name.at) (repeated_formals (formal.name.text ∷ reverse names) rest)
    (h ∙ ap (λ z. least o (keys 8 (when z formal.name.at))) (ap (λ z. is_some (name_place names z)) f ∙ sym (named_place formal.name.text names)))
    ∙ ap (λ z. least p (keys 8 (repeated_formals z rest))) (sym (ap reverse (e ∙ ap (λ z. names ++ (z ∷ [])) f) ∙ reverse_push names formal.name.text))

-- a name, and then those of the parameters after it
pub next_names : (names after : List (List ℕ)) (name : List ℕ) (formal : Formal) (rest : List Formal) → after ≡ names ++ (name ∷ []) → name ≡ formal.name.text → names ++ formal_names (formal ∷ rest) ≡ after ++ formal_names rest
next_names names after name formal rest e f =
    sym (ap (λ z. z ++ formal_names rest) (e ∙ ap (λ z. names ++ (z ∷ [])) f) ∙ append_assoc names (formal.name.text ∷ []) (formal_names rest))

-- parameters, and then others
repeated_more : (names : List (List ℕ)) (xs ys : List Formal) → repeated_formals (reverse names) (xs ++ ys) ≡ repeated_formals (reverse names) xs ++ repeated_formals (reverse (names ++ formal_names xs)) ys
repeated_more names [] ys = ap (λ z. repeated_formals (reverse z) ys) (sym (append-nil names))
repeated_more names (x ∷ xs) ys =
    let here = when (named_in x.name.text (reverse names)) x.name.at in
    ap (λ z. here ++ repeated_formals z (xs ++ ys)) (sym (reverse_push names x.name.text))
    ∙ ap (λ z. here ++ z) (repeated_more (names ++ (x.name.text ∷ [])) xs ys)
    ∙ sym (append_assoc here (repeated_formals (reverse (names ++ (x.name.text ∷ []))) xs) (repeated_formals (reverse ((names ++ (x.name.text ∷ [])) ++ formal_names xs)) ys))
    ∙ ap (λ z. (here ++ repeated_formals z xs) ++ repeated_formals (reverse ((names ++ (x.name.text ∷ [])) ++ formal_names xs)) ys) (reverse_push names x.name.text)
    ∙ ap (λ z. (here ++ repeated_formals (x.name.text ∷ reverse names) xs) ++ repeated_formals (reverse z) ys) (append_assoc names (x.name.text ∷ []) (formal_names xs))

-- parameters, and then others
pub next_formals : (names after : List (List ℕ)) (xs ys : List Formal) (o p : Option ℕ) → after ≡ names ++ formal_names xs → p ≡ least o (keys 8 (repeated_formals (reverse names) xs))
    → least o (keys 8 (repeated_formals (reverse names) (xs ++ ys))) ≡ least p (keys 8 (repeated_formals (reverse after) ys))
next_formals names after xs ys o p e h =
    ap (λ z. least o (keys 8 z)) (repeated_more names xs ys) ∙ then_noted 8 o p (repeated_formals (reverse names) xs) _ h ∙ ap (λ z. least p (keys 8 (repeated_formals (reverse z) ys))) (sym e)

-- a header, and then those after it
pub next_repeated : (names after : List (List ℕ)) (name : List ℕ) (header : HeaderTree) (rest : List HeaderTree) (o p : Option ℕ) → after ≡ names ++ (name ∷ []) → name ≡ header.name.text
    → p ≡ least o (keys 7 (when (not (is_main header) && is_some (name_place names header.name.text)) header.name.at))
    → least o (keys 7 (repeated (reverse names) (header ∷ rest))) ≡ least p (keys 7 (repeated (reverse after) rest))
next_repeated names after name header rest o p e f h =
    then_noted 7 o p (when (not (is_main header) && named_in header.name.text (reverse names)) header.name.at) (repeated (header.name.text ∷ reverse names) rest)
    (h ∙ ap (λ z. least o (keys 7 (when (not (is_main header) && z) header.name.at))) (sym (named_place header.name.text names)))
    ∙ ap (λ z. least p (keys 7 (repeated z rest))) (sym (ap reverse (e ∙ ap (λ z. names ++ (z ∷ [])) f) ∙ reverse_push names header.name.text))

-- one header stands behind no other
alone : (other : Bool) (at : ℕ) → when (other && false) at ++ [] ≡ []
alone true at = refl
alone false at = refl

-- of fewer than two headers none is repeated
pub few_repeated : (headers : List HeaderTree) → length headers < 2 → repeated [] headers ≡ []
few_repeated [] few = refl
few_repeated (header ∷ []) few = alone (not (is_main header)) header.name.at
few_repeated (header ∷ other ∷ more) few = absurd (omega (arith, few))
