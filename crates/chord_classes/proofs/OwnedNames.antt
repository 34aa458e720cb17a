-- One more method among those of which it is known in which class they are new.
use Rattle.std.proofs.Common.{◌≡◌, ℕ, ◌+◌, ◌*◌, ◌^◌, ◌<◌, ◌≤◌, List, [], ◌∷◌, ◌++◌, Bool, true, false, cond, ◌||◌, length, map, take, drop, get_or, refl, sym, ap, subst, ◌∙◌, arith, Option, Some, None, is_some, zero, suc, length-append, append-nil, append_assoc, add-one}
use Rattle.std.proofs.Math.Nat.{add-mul, one-mul, zero-mul}
use Rattle.std.specs.Prelude.{option_and_then}
use Rattle.std.specs.Str.{bytes_eq}
use Rattle.std.specs.Cmp.Lexicographic.{bytes_decides}
use Rattle.std.proofs.lemmas.Bool.{false≢true, eq-eqb, ne_eqb}
use Rattle.chord_classes.specs.Table.{Found, method_named}
use Rattle.chord_classes.specs.declared.method.Method as rust_method
use Rattle.chord_classes.specs.declared.owners.Owners.{Owners}
use Rattle.chord_classes.specs.NamePlaces.{name_place_from, name_place}
use Rattle.chord_classes.specs.MethodViews.{see_method, names_of}
use Rattle.chord_classes.specs.Forks.{under, IsVersion, IsNextVersion}
use Rattle.chord_classes.specs.Owned.{owner_in, IsOwned, IsOwning, AddsNames}
use Rattle.chord_classes.proofs.NamePlaces.{or_place, place_end}
use Rattle.chord_classes.proofs.SharedForks.{version_of_more, few_halves}
use Rattle.chord_classes.proofs.GrownMethods.{map_end, named_joined}
use Rattle.chord_classes.proofs.Search.{item_here}
use Rattle.chord_classes.proofs.Facts.{same_some}

-- what is there is not nothing
some_none : {x : ℕ} → ◌≡◌ {A = Option ℕ} None (Some x) → ⊥
some_none e = cc

-- Places of names.

-- a name's place is not before the first one
place_least : (j : ℕ) (names : List (List ℕ)) (x : List ℕ) (p : ℕ) → name_place_from j names x ≡ Some p → j ≤ p
place_least j [] x p h = cc
place_least j (o ∷ os) x p h = by_first (bytes_eq o x) h (place_least (j + 1) os x p)
  where
    by_first : (b : Bool) → cond b (Some j) (name_place_from (j + 1) os x) ≡ Some p → (name_place_from (j + 1) os x ≡ Some p → j + 1 ≤ p) → j ≤ p
    by_first true e more = let same : j ≡ p = same_some e in omega (arith, same)
    by_first false e more = let least = more e in omega (arith, least)

-- a name's place is one of as many as there are names
place_below : (j : ℕ) (names : List (List ℕ)) (x : List ℕ) (p : ℕ) → name_place_from j names x ≡ Some p → p < j + length names
place_below j [] x p h = cc
place_below j (o ∷ os) x p h = by_first (bytes_eq o x) h (place_below (j + 1) os x p)
  where
    by_first : (b : Bool) → cond b (Some j) (name_place_from (j + 1) os x) ≡ Some p → (name_place_from (j + 1) os x ≡ Some p → p < j + 1 + length os) → p < j + suc (length os)
    by_first true e more = let same : j ≡ p = same_some e in omega (arith, same)
    by_first false e more = let less = more e in omega (arith, less)

-- names with one place are one
one_name : (j : ℕ) (names : List (List ℕ)) (x y : List ℕ) (p : ℕ) → name_place_from j names x ≡ Some p → name_place_from j names y ≡ Some p → x ≡ y
one_name j [] x y p h k = cc
one_name j (o ∷ os) x y p h k = by_both (bytes_eq o x) (bytes_eq o y) refl refl h k (one_name (j + 1) os x y p)
  where
    by_both : (b d : Bool) → bytes_eq o x ≡ b → bytes_eq o y ≡ d → cond b (Some j) (name_place_from (j + 1) os x) ≡ Some p → cond d (Some j) (name_place_from (j + 1) os y) ≡ Some p
        → (name_place_from (j + 1) os x ≡ Some p → name_place_from (j + 1) os y ≡ Some p → x ≡ y) → x ≡ y
    by_both true true e f h k more = sym ((bytes_decides o x).0 e) ∙ (bytes_decides o y).0 f
    by_both true false e f h k more = let same : j ≡ p = same_some h in let later = place_least (j + 1) os y p k in absurd (omega (arith, same, later))
    by_both false true e f h k more = let same : j ≡ p = same_some k in let later = place_least (j + 1) os x p h in absurd (omega (arith, same, later))
    by_both false false e f h k more = more h k

-- a name keeps its place where one more comes
place_stays : (names : List (List ℕ)) (w x : List ℕ) (p : ℕ) → name_place names x ≡ Some p → name_place (names ++ (w ∷ [])) x ≡ Some p
place_stays names w x p h = place_end names w x ∙ ap (λ z. or_place z (cond (bytes_eq w x) (Some (length names)) None)) h

-- One more name.

module _ (old new : Owners) (w : List ℕ) (version : Option ℕ) (place owner made : ℕ) (names : new.names ≡ old.names ++ (w ∷ [])) (at : name_place new.names w ≡ Some place)
    (next : IsNextVersion old.versions new.versions version place owner made) (known : IsOwned old version) where
  -- there is one name more
  longer : length new.names ≡ length old.names + 1
  longer = let e = ap length names in let f = length-append old.names (w ∷ []) in omega (arith, e, f)

  -- the place of the name is one of those that there are
  place_less : place < length new.names
  place_less = let less = place_below 0 new.names w place at in omega (arith, less)

  -- a version that was there has nothing under later numbers
  other_none : (other : Option ℕ) → IsOwned old other → (p : ℕ) → length new.names ≤ p → under new.versions other p ≡ None
  other_none other o p l = next.stays other o.there p ∙ o.none p (let e = longer in omega (arith, e, l))

  -- the forks are at least as many as they were
  more_forks : length old.versions ≤ length new.versions
  more_forks = let e = ap length next.forks in let f = length-append old.versions next.more in omega (arith, e, f)

  -- a version that was there stays there
  other_stays : (other : Option ℕ) → IsOwned old other → IsOwned new other
  other_stays other o = record { there = version_of_more _ _ other more_forks o.there; none = other_none other o }

  -- a version that was there has the owners that it had
  other_same : (other : Option ℕ) → IsOwned old other → (x : List ℕ) → owner_in new other x ≡ owner_in old other x
  other_same other o x = by_place (name_place old.names x) refl
    where
      by_name : (b : Bool) → option_and_then (under new.versions other) (cond b (Some (length old.names)) None) ≡ None
      by_name true = next.stays other o.there (length old.names) ∙ o.none (length old.names) (omega arith)
      by_name false = refl

      by_place : (q : Option ℕ) → name_place old.names x ≡ q → owner_in new other x ≡ owner_in old other x
      by_place None h =
          ap (option_and_then (under new.versions other)) (ap (λ z. name_place z x) names ∙ place_end old.names w x ∙ ap (λ z. or_place z (cond (bytes_eq w x) (Some (length old.names)) None)) h)
          ∙ by_name (bytes_eq w x) ∙ ap (option_and_then (under old.versions other)) (sym h)
      by_place (Some p) h =
          ap (option_and_then (under new.versions other)) (ap (λ z. name_place z x) names ∙ place_stays old.names w x p h)
          ∙ next.stays other o.there p ∙ ap (option_and_then (under old.versions other)) (sym h)

  -- the new version has nothing under later numbers
  made_none : (p : ℕ) → length new.names ≤ p → under new.versions (Some made) p ≡ None
  made_none p l =
      next.each p ∙ ap (λ z. cond z (Some owner) (under old.versions version p)) (ne_eqb p place (λ e. let less = place_less in omega (arith, e, less, l)))
      ∙ known.none p (let e = longer in omega (arith, e, l))

  -- the new version is there
  made_there : IsVersion (length new.versions) (Some made)
  made_there at e = let less = next.within in let same : made ≡ at = same_some e in omega (arith, less, same)

  -- the new version has the new owner of the name, and else those that the other one has
  made_each : (x : List ℕ) → owner_in new (Some made) x ≡ cond (bytes_eq w x) (Some owner) (owner_in old version x)
  made_each x = by_name (bytes_eq w x) refl
    where
      before : (b : Bool) → bytes_eq w x ≡ b → name_place new.names x ≡ or_place (name_place old.names x) (cond b (Some (length old.names)) None)
      before b e = ap (λ z. name_place z x) names ∙ place_end old.names w x ∙ ap (λ z. or_place (name_place old.names x) (cond z (Some (length old.names)) None)) e

      by_place : (q : Option ℕ) → name_place old.names x ≡ q → bytes_eq w x ≡ false → owner_in new (Some made) x ≡ owner_in old version x
      by_place None h e = ap (option_and_then (under new.versions (Some made))) (before false e ∙ ap (λ z. or_place z None) h) ∙ ap (option_and_then (under old.versions version)) (sym h)
      by_place (Some p) h e =
          let here : name_place new.names x ≡ Some p = before false e ∙ ap (λ z. or_place z None) h in
          ap (option_and_then (under new.versions (Some made))) here ∙ next.each p
          ∙ ap (λ z. cond z (Some owner) (under old.versions version p))
          (ne_eqb p place (λ f. absurd (false≢true (sym e ∙ (bytes_decides w x).1 (one_name 0 new.names w x p (at ∙ ap Some (sym f)) here)))))
          ∙ ap (option_and_then (under old.versions version)) (sym h)

      by_name : (b : Bool) → bytes_eq w x ≡ b → owner_in new (Some made) x ≡ cond b (Some owner) (owner_in old version x)
      by_name true e =
          ap (option_and_then (under new.versions (Some made))) (ap (name_place new.names) (sym ((bytes_decides w x).0 e)) ∙ at)
          ∙ next.each place ∙ ap (λ z. cond z (Some owner) (under old.versions version place)) (eq-eqb place place refl)
      by_name false e = by_place (name_place old.names x) refl e

  -- a version with one more name was made of another
  pub owning_one : IsOwning old new version (Some made) (bytes_eq w) owner
  owning_one = record { stays = other_stays; same = other_same; is_owned = record { there = made_there; none = made_none }; each = made_each }

  -- the new version took at most as many forks as the number of names has halves
  few_more : (halves : ℕ) → length new.names < 2 ^ halves → length new.versions ≤ length old.versions + 1 * halves
  few_more halves less =
      let count = ap length next.forks in
      let split = length-append old.versions next.more in
      let most = few_halves (length next.more) place (length new.names) halves next.few place_less less in
      let one = one-mul halves in
      omega (arith, count, split, most, one)

  -- one name came, and few forks
  pub names_one : AddsNames old new (w ∷ [])
  names_one = record { names = names; few = few_more }

-- a place is found for each name that stands at the end
pub place_there : (names more : List (List ℕ)) (w : List ℕ) → more ≡ names ++ (w ∷ []) → name_place more w ≡ None → ⊥
place_there names more w e h = by_place (name_place names w) (sym (ap (λ z. name_place z w) e ∙ place_end names w w ∙ ap (λ z. or_place (name_place names w) (cond z (Some (length names)) None)) ((bytes_decides w w).1 refl)) ∙ h)
  where
    by_place : (q : Option ℕ) → or_place q (Some (length names)) ≡ None → ⊥
    by_place None e = some_none (sym e)
    by_place (Some p) e = some_none (sym e)

-- Several names.

-- without a method nothing is added
pub owning_none : (owners : Owners) (version : Option ℕ) (owner : ℕ) → IsOwned owners version → IsOwning owners owners version version (λ x. is_some (method_named [] x)) owner
owning_none owners version owner known = record { stays = λ other o. o; same = λ other o x. refl; is_owned = known; each = λ x. refl }

-- without a name nothing comes
pub names_none : (owners : Owners) → AddsNames owners owners []
names_none owners = record { names = sym (append-nil owners.names); few = λ halves less. let none = zero-mul halves in omega (arith, none) }

-- names came, and then others
pub names_more : (first mid last : Owners) (names more : List (List ℕ)) → AddsNames first mid names → AddsNames mid last more → AddsNames first last (names ++ more)
names_more first mid last names more a b = record {
  names = b.names ∙ ap (λ z. z ++ more) a.names ∙ append_assoc first.names names more;
  few = λ halves less.
      let count = ap length b.names in
      let split = length-append mid.names more in
      let before = a.few halves (omega (arith, count, split, less)) in
      let after = b.few halves less in
      let all : length (names ++ more) * halves ≡ length names * halves + length more * halves = ap (λ z. z * halves) (length-append names more) ∙ add-mul (length names) (length more) halves in
      omega (arith, before, after, all);
}

-- one more is taken
taken : {A : Type 0} (xs : List A) (i : ℕ) (x : A) (rest : List A) → drop i xs ≡ x ∷ rest → take (suc i) xs ≡ take i xs ++ (x ∷ [])
taken [] zero x rest e = cc
taken [] (suc i) x rest e = cc
taken (y ∷ ys) zero x rest e = ap (take 1) e
taken (y ∷ ys) (suc i) x rest e = ap (λ z. y ∷ z) (taken ys i x rest e)

-- the same of the next place
take_more : {A : Type 0} (xs : List A) (i : ℕ) (x : A) (rest : List A) → drop i xs ≡ x ∷ rest → take (i + 1) xs ≡ take i xs ++ (x ∷ [])
take_more xs i x rest h = rw add-one (taken xs i x rest h)

-- a choice and then another is one by both
chosen_again : (a b : Bool) (owner : ℕ) (others : Option ℕ) → cond b (Some owner) (cond a (Some owner) others) ≡ cond (a || b) (Some owner) others
chosen_again true true owner others = refl
chosen_again true false owner others = refl
chosen_again false true owner others = refl
chosen_again false false owner others = refl

-- one more method after others
pub owning_more : (first mid last : Owners) (version made next : Option ℕ) (methods : List rust_method.Method) (method : rust_method.Method) (owner : ℕ)
    → IsOwning first mid version made (λ x. is_some (method_named (map see_method methods) x)) owner → IsOwning mid last made next (bytes_eq method.header.now.name.text) owner
    → IsOwning first last version next (λ x. is_some (method_named (map see_method (methods ++ (method ∷ []))) x)) owner
owning_more first mid last version made next methods method owner a b = record {
  stays = λ other o. b.stays other (a.stays other o);
  same = λ other o x. b.same other (a.stays other o) x ∙ a.same other o x;
  is_owned = b.is_owned;
  each = λ x. b.each x ∙ ap (cond (bytes_eq method.header.now.name.text x) (Some owner)) (a.each x)
      ∙ chosen_again (is_some (method_named (map see_method methods) x)) (bytes_eq method.header.now.name.text x) owner (owner_in first version x)
      ∙ ap (λ z. cond z (Some owner) (owner_in first version x)) (sym (ap (λ z. is_some (method_named z x)) (map_end see_method methods method)
      ∙ named_joined (map see_method methods) (see_method method ∷ []) x ∙ ap (λ z. is_some (method_named (map see_method methods) x) || z) (alone (bytes_eq method.header.now.name.text x))));
}
  where
    alone : (b : Bool) → is_some {T = Found} (cond b (Some (record { number = 0; method = see_method method })) None) ≡ b
    alone true = refl
    alone false = refl

-- the same of the next of some methods, whose name was read
pub owning_next : (first mid last : Owners) (version made next : Option ℕ) (methods : List rust_method.Method) (i : ℕ) (method : rust_method.Method) (name : List ℕ) (owner : ℕ)
    → i < length methods → method ≡ get_or methods i method → name ≡ method.header.now.name.text
    → IsOwning first mid version made (λ x. is_some (method_named (map see_method (take i methods)) x)) owner → IsOwning mid last made next (bytes_eq name) owner
    → IsOwning first last version next (λ x. is_some (method_named (map see_method (take (i + 1) methods)) x)) owner
owning_next first mid last version made next methods i method name owner l g same a b =
    subst (λ z. IsOwning first last version next (λ x. is_some (method_named (map see_method z) x)) owner) (sym (take_more methods i method (drop (i + 1) methods) (item_here methods i method l g)))
    (owning_more first mid last version made next (take i methods) method owner a (subst (λ z. IsOwning mid last made next (bytes_eq z) owner) same b))

-- the name of the next of some methods came behind those before it
pub names_next : (first mid last : Owners) (methods : List rust_method.Method) (i : ℕ) (method : rust_method.Method) (name : List ℕ)
    → i < length methods → method ≡ get_or methods i method → name ≡ method.header.now.name.text
    → AddsNames first mid (names_of (take i methods)) → AddsNames mid last (name ∷ []) → AddsNames first last (names_of (take (i + 1) methods))
names_next first mid last methods i method name l g same a b =
    subst (AddsNames first last)
    (sym (ap names_of (take_more methods i method (drop (i + 1) methods) (item_here methods i method l g)) ∙ map_end (λ (m : rust_method.Method). m.header.now.name.text) (take i methods) method))
    (names_more first mid last (names_of (take i methods)) (method.header.now.name.text ∷ []) a (subst (λ z. AddsNames mid last (z ∷ [])) same b))
