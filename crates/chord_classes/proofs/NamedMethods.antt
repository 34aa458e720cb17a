-- The method of a name by its first place.
use Rattle.std.proofs.Common.{◌≡◌, ℕ, suc, ◌+◌, List, [], ◌∷◌, map, Bool, true, false, cond, refl, sym, ap, ◌∙◌, arith, Option, Some, None, slice_get}
use Rattle.std.specs.Str.{bytes_eq}
use Rattle.chord_classes.specs.Table as table
use Rattle.chord_classes.specs.declared.method.Method.{Method}
use Rattle.chord_classes.specs.NamePlaces.{name_place_from, name_place}
use Rattle.chord_classes.specs.MethodViews.{see_method, at_place, names_of}
use Rattle.chord_classes.proofs.Facts.{same_some, none_some}

-- a method was found at a place
pub record IsFound (ms : List Method) (n i : ℕ) (o : Option table.Found) : Type 0 where
  pub k : ℕ
  pub m : Method
  pub is : i ≡ n + k
  pub item : slice_get ms k ≡ Some m
  pub found : o ≡ Some (at_place i m)

-- a name without a place from a method on is that of no method from there on, if so it is behind that one
unnamed_by : (b : Bool) (n : ℕ) (found : table.Found) (others : Option ℕ) (all : Option table.Found) → (others ≡ None → all ≡ None) → cond b (Some n) others ≡ None → cond b (Some found) all ≡ None
unnamed_by true n found others all f h = absurd (none_some (sym h))
unnamed_by false n found others all f h = f h

-- a name that has no place among the names of methods is that of no method
unnamed_from : (n : ℕ) (ms : List Method) (x : List ℕ) → name_place_from n (names_of ms) x ≡ None → table.method_from n (map see_method ms) x ≡ None
unnamed_from n [] x h = refl
unnamed_from n (m ∷ ms) x h = unnamed_by (bytes_eq m.header.now.name.text x) n (at_place n m) (name_place_from (n + 1) (names_of ms) x) (table.method_from (n + 1) (map see_method ms) x) (unnamed_from (n + 1) ms x) h

-- a name with a place from a method on is that of the method at this place, if so it is behind that one
named_by : (b : Bool) (n i : ℕ) (m : Method) (ms : List Method) (others : Option ℕ) (all : Option table.Found) → (others ≡ Some i → IsFound ms (n + 1) i all) → cond b (Some n) others ≡ Some i
    → IsFound (m ∷ ms) n i (cond b (Some (at_place n m)) all)
named_by true n i m ms others all f h = record { k = 0; m = m; is = sym (same_some h) ∙ omega arith; item = refl; found = ap (λ z. Some (at_place z m)) (same_some h) }
named_by false n i m ms others all f h = let r = f h in let e = r.is in record { k = suc r.k; m = r.m; is = omega arith; item = r.item; found = r.found }

-- the method of a name is at the first place of the name
named_from : (n : ℕ) (ms : List Method) (x : List ℕ) (i : ℕ) → name_place_from n (names_of ms) x ≡ Some i → IsFound ms n i (table.method_from n (map see_method ms) x)
named_from n [] x i h = absurd (none_some h)
named_from n (m ∷ ms) x i h = named_by (bytes_eq m.header.now.name.text x) n i m ms (name_place_from (n + 1) (names_of ms) x) (table.method_from (n + 1) (map see_method ms) x) (named_from (n + 1) ms x i) h

-- no method has a name that has no place
pub unnamed : (names : List (List ℕ)) (ms : List Method) (x : List ℕ) → names ≡ names_of ms → name_place names x ≡ None → ◌≡◌ {A = Option table.Found} None (table.method_named (map see_method ms) x)
unnamed names ms x e h = sym (unnamed_from 0 ms x (ap (λ z. name_place z x) (sym e) ∙ h))

-- the place of the name and the method
pub named : (names : List (List ℕ)) (ms : List Method) (x : List ℕ) (i : ℕ) → names ≡ names_of ms → name_place names x ≡ Some i → (m : Method) × (slice_get ms i ≡ Some m) × (table.method_named (map see_method ms) x ≡ Some (at_place i m))
named names ms x i e h =
    let r = named_from 0 ms x i (ap (λ z. name_place z x) (sym e) ∙ h) in
    (r.m, ap (slice_get ms) (r.is ∙ omega arith) ∙ r.item, r.found)

-- a method that is there
pub of_some : {m method : Method} {o : Option table.Found} (i : ℕ) → ◌≡◌ {A = Option Method} (Some m) (Some method) → o ≡ Some (at_place i m) → ◌≡◌ {A = Option table.Found} (Some (at_place i method)) o
of_some i e h = ap (λ z. Some (at_place i z)) (sym (same_some e)) ∙ sym h

-- a method that is there is not missing
pub not_none : {m : Method} {P : Type 0} → ◌≡◌ {A = Option Method} (Some m) None → P
not_none e = absurd (none_some (sym e))
