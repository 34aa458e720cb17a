-- The first places of names, as a scope keeps them: one variable more, one variable less, and what is found.
use Rattle.std.proofs.Common.{◌≡◌, ℕ, suc, ◌+◌, ◌<◌, List, [], ◌∷◌, ◌++◌, map, Bool, true, false, cond, length, refl, sym, ap, ◌∙◌, arith, Option, Some, None, is_some, slice_get, option_map, nat_eq, nat_lt, get_or, inl, inr}
use Rattle.std.specs.Option.{option_copied, option_eq, IfSome}
use Rattle.std.proofs.lemmas.Option.{slice_get_cases, slice_get_read}
use Rattle.std.specs.Str.{bytes_eq}
use Rattle.std.specs.Map.{update}
use Rattle.std.specs.Borrow.{Bor}
use Rattle.std.specs.BTreeMap.{BTreeMap, get_by}
use Rattle.std.specs.Ordering.{nat_cmp}
use Rattle.std.specs.Cmp.Lexicographic.{slice_cmp, bytes_decides}
use Rattle.std.proofs.lemmas.Bool.{false≢true, eqb-true, eq-eqb, ltb-true, lt-ltb}
use Rattle.chord_classes.specs.NamePlaces.{name_place_from, name_place, FindsNames}
use Rattle.chord_classes.specs.Site as sites
use Rattle.chord_types.specs.declared.scope.Local.{Local}
use Rattle.chord_types.specs.Views.{see_local, local_names}

-- first places by name
abbrev pub Places : Type 0
Places = BTreeMap (Bor (List ℕ)) ℕ

-- the first place that a map has for a name
abbrev pub found_place : Places → List ℕ → Option ℕ
found_place places name = get_by (λ k. slice_cmp nat_cmp name k.now) places

-- the first of two places if it is there, else the second
abbrev or_place : Option ℕ → Option ℕ → Option ℕ
or_place (Some j) others = Some j
or_place None others = others

-- where the place among later names is one among the earlier of them or the last, so is the place with a name in front
push_by : (b : Bool) (number : ℕ) (others others' last last' : Option ℕ) → others ≡ or_place others' last' → last' ≡ last → cond b (Some number) others ≡ or_place (cond b (Some number) others') last
push_by true number others others' last last' h e = refl
push_by false number others others' last last' h e = h ∙ ap (or_place others') e

-- the first place of a name among names and one more is that among them, else the last if that is the name, from any number on
place_push : (number : ℕ) (names : List (List ℕ)) (w x : List ℕ) → name_place_from number (names ++ (w ∷ [])) x ≡ or_place (name_place_from number names x) (cond (bytes_eq w x) (Some (number + length names)) None)
place_push number [] w x = ap (λ z. cond (bytes_eq w x) (Some z) None) (omega arith)
place_push number (y ∷ ys) w x =
    push_by (bytes_eq y x) number _ _ _ _ (place_push (number + 1) ys w x) (ap (λ z. cond (bytes_eq w x) (Some z) None) (omega arith))

-- the first place of a name among names with one more
place_end : (names : List (List ℕ)) (w x : List ℕ) → name_place (names ++ (w ∷ [])) x ≡ or_place (name_place names x) (cond (bytes_eq w x) (Some (length names)) None)
place_end names w x = place_push 0 names w x ∙ ap (λ z. or_place (name_place names x) (cond (bytes_eq w x) (Some z) None)) (omega arith)

-- equal options that are there hold equal values
some_is : {X : Type 0} {x y : X} → ◌≡◌ {A = Option X} (Some x) (Some y) → x ≡ y
some_is e = cc

-- a place with a name in front is below the end, if each place among the later names is
below_by : (b : Bool) (n i count : ℕ) (others : Option ℕ) → (others ≡ Some i → i < n + 1 + count) → cond b (Some n) others ≡ Some i → i < n + suc count
below_by true n i count others f h = let e = some_is h in omega arith
below_by false n i count others f h = let l = f h in omega arith

-- a place is one of the names' places
place_below : (n : ℕ) (names : List (List ℕ)) (x : List ℕ) (i : ℕ) → name_place_from n names x ≡ Some i → i < n + length names
place_below n [] x i h = cc
place_below n (y ∷ ys) x i h = below_by (bytes_eq y x) n i (length ys) (name_place_from (n + 1) ys x) (place_below (n + 1) ys x i) h

-- a place or none is that place
or_none : (o : Option ℕ) → or_place o None ≡ o
or_none None = refl
or_none (Some i) = refl

-- where a name had no place, to give it one is to add one behind the places that others have
more_by : (b : Bool) (w x : List ℕ) (count : ℕ) (at_w at_x : Option ℕ) → (b ≡ true → at_w ≡ at_x) → at_w ≡ None → cond b (Some count) at_x ≡ or_place at_x (cond b (Some count) None)
more_by true w x count at_w None e h = refl
more_by true w x count None (Some j) e h = absurd (false≢true (ap is_some (e refl)))
more_by true w x count (Some i) (Some j) e h = absurd (false≢true (sym (ap is_some h)))
more_by false w x count at_w at_x e h = sym (or_none at_x)

-- where a name had a place, one more of that name changes no first place
same_by : (b : Bool) (count : ℕ) (at_w at_x : Option ℕ) → (b ≡ true → at_w ≡ at_x) → is_some at_w ≡ true → at_x ≡ or_place at_x (cond b (Some count) None)
same_by b count at_w (Some j) e h = refl
same_by true count at_w None e h = absurd (false≢true (sym (ap is_some (e refl)) ∙ h))
same_by false count at_w None e h = refl

-- where a name had no place, to give it one and take it away again leaves the places before
less_by : (b : Bool) (count : ℕ) (at_w at_x : Option ℕ) → (b ≡ true → at_w ≡ at_x) → at_w ≡ None → cond b None (or_place at_x (cond b (Some count) None)) ≡ at_x
less_by true count at_w at_x e h = sym h ∙ e refl
less_by false count at_w at_x e h = or_none at_x

-- where all places before are below the last and the first place is the last, there was none before
none_before : (o : Option ℕ) (count : ℕ) → ((i : ℕ) → o ≡ Some i → i < count) → or_place o (Some count) ≡ Some count → o ≡ None
none_before None count l h = refl
none_before (Some i) count l h = let b = l i refl in let e = some_is h in absurd (omega arith)

-- where the first place is not the last, there was one before
some_before : (o : Option ℕ) (count : ℕ) → (or_place o (Some count) ≡ Some count → ⊥) → is_some o ≡ true
some_before None count h = absurd (h refl)
some_before (Some i) count h = refl

-- a name equals itself, byte by byte
is_itself : (w : List ℕ) → bytes_eq w w ≡ true
is_itself w = (bytes_decides w w).1 refl

-- the same name has the same place
same_place : (names : List (List ℕ)) (w x : List ℕ) → bytes_eq w x ≡ true → name_place names w ≡ name_place names x
same_place names w x t = ap (name_place names) ((bytes_decides w x).0 t)

-- the place of the last name
last_place : (names : List (List ℕ)) (w : List ℕ) → name_place (names ++ (w ∷ [])) w ≡ or_place (name_place names w) (Some (length names))
last_place names w = place_end names w w ∙ ap (λ z. or_place (name_place names w) (cond z (Some (length names)) None)) (is_itself w)

-- one name more, which was not there
pub places_more : (m n : Places) (names : List (List ℕ)) (w : List ℕ) → FindsNames m names → found_place m w ≡ None → ((x : List ℕ) → found_place n x ≡ update bytes_eq (found_place m) w (Some (length names)) x) → FindsNames n (names ++ (w ∷ []))
places_more m n names w finds none updates = record {
  each = λ x. updates x ∙ ap (cond (bytes_eq w x) (Some (length names))) (finds.each x)
      ∙ more_by (bytes_eq w x) w x (length names) (name_place names w) (name_place names x) (same_place names w x) (sym (finds.each w) ∙ none) ∙ sym (place_end names w x);
}

-- one name more, which was there
pub finds_there : (m : Places) (names : List (List ℕ)) (w : List ℕ) → FindsNames m names → is_some (found_place m w) ≡ true → FindsNames m (names ++ (w ∷ []))
finds_there m names w finds some = record {
  each = λ x. finds.each x ∙ same_by (bytes_eq w x) (length names) (name_place names w) (name_place names x) (same_place names w x) (ap is_some (sym (finds.each w)) ∙ some) ∙ sym (place_end names w x);
}

-- one name less, whose first place was the last
pub finds_less : (m n : Places) (names : List (List ℕ)) (w : List ℕ) → FindsNames m (names ++ (w ∷ [])) → found_place m w ≡ Some (length names) → ((x : List ℕ) → found_place n x ≡ update bytes_eq (found_place m) w None x) → FindsNames n names
finds_less m n names w finds here updates = record {
  each = λ x. updates x ∙ ap (cond (bytes_eq w x) None) (finds.each x ∙ place_end names w x) ∙ less_by (bytes_eq w x) (length names) (name_place names w) (name_place names x) (same_place names w x) none;
}
  where
    none : name_place names w ≡ None
    none = none_before (name_place names w) (length names) (λ i h. let l = place_below 0 names w i h in omega arith) (sym (last_place names w) ∙ sym (finds.each w) ∙ here)

-- one name less, whose first place was another
pub finds_others : (m : Places) (names : List (List ℕ)) (w : List ℕ) → FindsNames m (names ++ (w ∷ [])) → (found_place m w ≡ Some (length names) → ⊥) → FindsNames m names
finds_others m names w finds other = record {
  each = λ x. finds.each x ∙ place_end names w x ∙ sym (same_by (bytes_eq w x) (length names) (name_place names w) (name_place names x) (same_place names w x) some);
}
  where
    some : is_some (name_place names w) ≡ true
    some = some_before (name_place names w) (length names) (λ h. other (finds.each w ∙ last_place names w ∙ h))

-- a value that was compared is that
pub compared_same : (o : Option ℕ) (n : ℕ) → true ≡ option_eq nat_eq o (Some n) → o ≡ Some n
compared_same None n h = cc
compared_same (Some m) n h = ap Some (eqb-true m n (sym h))

-- a value that was compared is another
pub compared_other : (o : Option ℕ) (n : ℕ) → false ≡ option_eq nat_eq o (Some n) → o ≡ Some n → ⊥
compared_other None n h e = cc
compared_other (Some m) n h e = false≢true (h ∙ eq-eqb m n (some_is e))

-- where the variable stands at a place among the later ones, it stands at its place with one in front
there_by : (b : Bool) (n i : ℕ) (local : Local) (more : List Local) (others : Option ℕ) (variable : Option sites.Local) → (others ≡ Some i → (k : ℕ) × (i ≡ n + 1 + k) × (option_map see_local (slice_get more k) ≡ variable)) → cond b (Some n) others ≡ Some i
    → (k : ℕ) × (i ≡ n + k) × (option_map see_local (slice_get (local ∷ more) k) ≡ cond b (Some (see_local local)) variable)
there_by true n i local more others variable f h = (0, sym (some_is h) ∙ omega arith, refl)
there_by false n i local more others variable f h = let r = f h in let e = r.1 in (suc r.0, omega arith, r.2)

-- the variable at the place of a name is the one of that name, from any number on
there_from : (n : ℕ) (locals : List Local) (x : List ℕ) (i : ℕ) → name_place_from n (local_names locals) x ≡ Some i → (k : ℕ) × (i ≡ n + k) × (option_map see_local (slice_get locals k) ≡ sites.variable_named (map see_local locals) x)
there_from n [] x i h = cc
there_from n (local ∷ more) x i h = there_by (bytes_eq local.name.now x) n i local more (name_place_from (n + 1) (local_names more) x) (sites.variable_named (map see_local more) x) (there_from (n + 1) more x i) h

-- the variable at the place of a name
pub variable_there : (locals : List Local) (x : List ℕ) (i : ℕ) → name_place (local_names locals) x ≡ Some i → option_map see_local (slice_get locals i) ≡ sites.variable_named (map see_local locals) x
variable_there locals x i h = let r = there_from 0 locals x i h in ap (λ z. option_map see_local (slice_get locals z)) (r.1 ∙ omega arith) ∙ r.2

-- where without a place there is no variable among the later ones, there is none with one in front
absent_by : (b : Bool) (n : ℕ) (local : sites.Local) (others : Option ℕ) (variable : Option sites.Local) → (others ≡ None → variable ≡ None) → cond b (Some n) others ≡ None → cond b (Some local) variable ≡ None
absent_by true n local others variable f h = cc
absent_by false n local others variable f h = f h

-- no variable has a name that has no place, from any number on
absent_from : (n : ℕ) (locals : List Local) (x : List ℕ) → name_place_from n (local_names locals) x ≡ None → sites.variable_named (map see_local locals) x ≡ None
absent_from n [] x h = refl
absent_from n (local ∷ more) x h = absent_by (bytes_eq local.name.now x) n (see_local local) (name_place_from (n + 1) (local_names more) x) (sites.variable_named (map see_local more) x) (absent_from (n + 1) more x) h

-- no variable has a name that has no place
pub variable_absent : (locals : List Local) (x : List ℕ) → name_place (local_names locals) x ≡ None → sites.variable_named (map see_local locals) x ≡ None
variable_absent locals x h = absent_from 0 locals x h

-- the names of variables with one more
pub names_end : (locals : List Local) (local : Local) → local_names (locals ++ (local ∷ [])) ≡ local_names locals ++ (local.name.now ∷ [])
names_end [] local = refl
names_end (x ∷ xs) local = ap (λ z. x.name.now ∷ z) (names_end xs local)

-- as many names as variables
pub names_length : (locals : List Local) → length (local_names locals) ≡ length locals
names_length [] = refl
names_length (x ∷ xs) = ap suc (names_length xs)

-- what was read of a map is there where it is in the map
pub copied_some : (found : Option (Bor ℕ)) (o : Option ℕ) → option_copied found ≡ o → is_some found ≡ is_some o
copied_some None o h = ap is_some h
copied_some (Some x) o h = ap is_some h

-- a copy of what was read of a slice
pub copied_local : (locals : List Local) (i : ℕ) (found : Option (Bor Local)) → is_some found ≡ nat_lt i (length locals) → IfSome found (λ x. x.now ≡ get_or locals i x.now) → option_copied found ≡ slice_get locals i
copied_local locals i None h r = elim (slice_get_cases locals i).1 [ inl y ↦ absurd (false≢true (h ∙ lt-ltb i (length locals) y.1)) | inr o ↦ sym o.1 ]
copied_local locals i (Some x) h r = sym (slice_get_read locals (length locals) i x.now refl (ltb-true i (length locals) (sym h)) r)

-- what is not there is none
pub none_of : (o : Option ℕ) → is_some o ≡ false → o ≡ None
none_of None h = refl
none_of (Some x) h = absurd (false≢true (sym h))
