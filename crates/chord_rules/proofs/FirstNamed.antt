-- The first header of a name by its first place.
use Rattle.std.proofs.Common.{◌≡◌, ℕ, suc, ◌+◌, List, [], ◌∷◌, map, Bool, true, false, cond, refl, sym, ap, ◌∙◌, arith, Option, Some, None, slice_get}
use Rattle.std.specs.Prelude.{option_map}
use Rattle.std.specs.Str.{bytes_eq}
use Rattle.std.specs.Borrow.{Bor}
use Rattle.chord_tree.specs.declared.classes.Header.{Header}
use Rattle.chord_tree.specs.Tree.{HeaderTree}
use Rattle.chord_classes.specs.NamePlaces.{name_place_from, name_place}
use Rattle.chord_classes.specs.OverrideRules.{first_named}
use Rattle.chord_classes.proofs.Facts.{none_some, same_some}
use Rattle.chord_rules.specs.FirstHeaders.{see_lent, names_of_headers}

-- a header was found at a place
record IsFirst (hs : List (Bor Header)) (n i : ℕ) (o : Option HeaderTree) : Type 0 where
  k : ℕ
  is : i ≡ n + k
  found : o ≡ option_map see_lent (slice_get hs k)

-- where without a place there is no header among the later ones, there is none with one in front
unnamed_by : (b : Bool) (n : ℕ) (found : HeaderTree) (others : Option ℕ) (all : Option HeaderTree) → (others ≡ None → all ≡ None) → cond b (Some n) others ≡ None → cond b (Some found) all ≡ None
unnamed_by true n found others all f h = absurd (none_some (sym h))
unnamed_by false n found others all f h = f h

-- no header has a name that has no place, from any number on
unnamed_from : (n : ℕ) (hs : List (Bor Header)) (x : List ℕ) → name_place_from n (names_of_headers hs) x ≡ None → first_named (map see_lent hs) x ≡ None
unnamed_from n [] x h = refl
unnamed_from n (y ∷ ys) x h = unnamed_by (bytes_eq y.now.name.text x) n (see_lent y) (name_place_from (n + 1) (names_of_headers ys) x) (first_named (map see_lent ys) x) (unnamed_from (n + 1) ys x) h

-- where the header stands at a place among the later ones, it stands at its place with one in front
named_by : (b : Bool) (n i : ℕ) (y : Bor Header) (ys : List (Bor Header)) (others : Option ℕ) (all : Option HeaderTree) → (others ≡ Some i → IsFirst ys (n + 1) i all) → cond b (Some n) others ≡ Some i → IsFirst (y ∷ ys) n i (cond b (Some (see_lent y)) all)
named_by true n i y ys others all f h = record { k = 0; is = sym (same_some h) ∙ omega arith; found = refl }
named_by false n i y ys others all f h = let r = f h in let e = r.is in record { k = suc r.k; is = omega arith; found = r.found }

-- the first header of a name stands at the name's first place, from any number on
named_from : (n : ℕ) (hs : List (Bor Header)) (x : List ℕ) (i : ℕ) → name_place_from n (names_of_headers hs) x ≡ Some i → IsFirst hs n i (first_named (map see_lent hs) x)
named_from n [] x i h = absurd (none_some h)
named_from n (y ∷ ys) x i h = named_by (bytes_eq y.now.name.text x) n i y ys (name_place_from (n + 1) (names_of_headers ys) x) (first_named (map see_lent ys) x) (named_from (n + 1) ys x i) h

-- no header has a name that has no place
pub no_first : (names : List (List ℕ)) (hs : List (Bor Header)) (x : List ℕ) → names ≡ names_of_headers hs → name_place names x ≡ None → ◌≡◌ {A = Option HeaderTree} None (first_named (map see_lent hs) x)
no_first names hs x e h = sym (unnamed_from 0 hs x (ap (λ z. name_place z x) (sym e) ∙ h))

-- the first header of a name is the one at the name's first place
pub first_at : (names : List (List ℕ)) (hs : List (Bor Header)) (x : List ℕ) (i : ℕ) → names ≡ names_of_headers hs → name_place names x ≡ Some i → first_named (map see_lent hs) x ≡ option_map see_lent (slice_get hs i)
first_at names hs x i e h = let r = named_from 0 hs x i (ap (λ z. name_place z x) (sym e) ∙ h) in r.found ∙ ap (λ z. option_map see_lent (slice_get hs z)) (sym (r.is ∙ omega arith))
