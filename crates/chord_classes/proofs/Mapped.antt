-- Look-ups by the versions of a class, and one more class with its versions.
use Rattle.std.proofs.Common.{◌≡◌, ℕ, ◌+◌, ◌*◌, ◌^◌, ◌<◌, ◌≤◌, List, [], ◌∷◌, ◌++◌, Bool, true, false, cond, ◌||◌, map, length, refl, sym, ap, subst, ◌∙◌, arith, Option, Some, None, is_some, zero, suc, slice_get, nat_eq, nat_lt, get_or, inl, inr, length-append, append-nil}
use Rattle.std.proofs.Math.Nat.{add-mul, one-mul}
use Rattle.std.proofs.lemmas.Grind.{flat_map-append}
use Rattle.std.specs.Prelude.{option_map, option_and_then}
use Rattle.std.proofs.lemmas.Option.{slice_get_read, slice_get_past}
use Rattle.std.proofs.lemmas.Bool.{ltb-true, ltb-false}
use Rattle.chord_tree.specs.Tree.{ClassTree}
use Rattle.chord_tree.specs.View.{see_class}
use Rattle.chord_classes.specs.Table.{Found, Shape, among, method_named, methods_at, methods_in, above, above_in, inherited, from_base, derives, shape_of}
use Rattle.chord_classes.specs.declared.entry.Entry.{Entry}
use Rattle.chord_classes.specs.declared.owners.Owners.{Owners}
use Rattle.chord_classes.specs.declared.versions.Fork.{Fork}
use Rattle.chord_classes.specs.MethodViews.{see_method, names_of}
use Rattle.chord_classes.specs.NamePlaces.{name_place}
use Rattle.chord_classes.specs.Forks.{under, IsVersion, IsNextVersion}
use Rattle.chord_classes.specs.Entries.{IsEntry, shapes_of}
use Rattle.chord_classes.specs.Owned.{owner_in, IsOwned, IsOwning, shift, new_method, owned_method, line_in, line_at, owned_in, owned_at, IsMapped, AddsNames, no_owners, new_names, IsShapeTable}
use Rattle.chord_classes.proofs.TableLookups.{method_append, or_found, own_absent, eq_turned}
use Rattle.chord_classes.proofs.SharedForks.{stands_earlier, empty_version, under_none, version_of_more, few_halves}
use Rattle.chord_classes.proofs.OwnedNames.{names_more}
use Rattle.chord_classes.proofs.Adding.{IsNext, appended, inherited_kept, bases_kept, base_below, is_entry, either_at, kept_at, entries_extended, shapes_more}
use Rattle.chord_classes.proofs.Facts.{same_some, none_some}
use Rattle.chord_classes.proofs.Lists.{get_last}

-- an element is there at each place of a list
past : {A : Type 0} (xs : List A) (i : ℕ) → i < length xs → slice_get xs i ≡ None → ⊥
past [] i less e = omega (arith, less)
past (x ∷ xs) zero less e = cc
past (x ∷ xs) (suc i) less e = past xs i (let shorter : suc i < suc (length xs) = less in omega (arith, shorter)) e

-- an entry that was read stands in the table
pub entry_read : (entries xs : List Entry) (i : ℕ) (e : Entry) → xs ≡ entries → true ≡ nat_lt i (length xs) → e ≡ get_or xs i e → slice_get entries i ≡ Some e
entry_read entries xs i e h l g = subst (λ z. slice_get z i ≡ Some e) h (slice_get_read xs (length xs) i e refl (ltb-true i (length xs) (sym l)) g)

-- where none was read there is none
pub none_read : (entries xs : List Entry) (i : ℕ) → xs ≡ entries → false ≡ nat_lt i (length xs) → slice_get entries i ≡ None
none_read entries xs i h l = subst (λ z. slice_get z i ≡ None) h (slice_get_past xs i (ltb-false i (length xs) (sym l)))

-- what a class derives from, where no class is there
pub derives_alone : (shapes : List Shape) (class base : ℕ) → slice_get shapes class ≡ None → nat_eq class base ≡ derives shapes class base
derives_alone shapes class base h = or_nothing (nat_eq class base) ∙ ap (λ z. nat_eq class base || among base (above_in z)) (sym h)
  where
    or_nothing : (b : Bool) → b ≡ (b || false)
    or_nothing true = refl
    or_nothing false = refl

-- Versions of a base class.

module _ (shapes : List Shape) (entries : List Entry) (names : List (List ℕ)) (lines : List Fork) (owners : Owners) (t : IsShapeTable shapes entries names lines owners) where
  -- the version of a base class is there
  pub line_there : (base : Option ℕ) → IsVersion (length lines) (line_at entries base)
  line_there None = empty_version (length lines)
  line_there (Some class) = by_entry (slice_get entries class) refl
    where
      by_entry : (o : Option Entry) → slice_get entries class ≡ o → IsVersion (length lines) (line_in o)
      by_entry None h = empty_version (length lines)
      by_entry (Some entry) h = (t.mapped class entry h).line

  -- nothing has no owner
  nothing_owned : IsOwned owners None
  nothing_owned = record { there = empty_version (length owners.versions); none = λ place l. under_none owners.versions place }

  -- the version of a base class's methods is there
  pub owned_there : (base : Option ℕ) → IsOwned owners (owned_at entries base)
  owned_there None = nothing_owned
  owned_there (Some class) = by_entry (slice_get entries class) refl
    where
      by_entry : (o : Option Entry) → slice_get entries class ≡ o → IsOwned owners (owned_in o)
      by_entry None h = nothing_owned
      by_entry (Some entry) h = (t.mapped class entry h).owned

  -- an entry is there for each class
  entry_there : (class : ℕ) → class < length shapes → slice_get entries class ≡ None → ⊥
  entry_there class l h = past entries class (let count = t.are.count in omega (arith, count, l)) h

  -- a base class's version tells it and the classes above it
  pub base_line : (base : Option ℕ) → ((b : ℕ) → base ≡ Some b → b < length shapes) → (k : ℕ) → is_some (under lines (line_at entries base) k) ≡ among k (from_base shapes base)
  base_line None within k = ap is_some (under_none lines k)
  base_line (Some class) within k = by_entry (slice_get entries class) refl
    where
      by_entry : (o : Option Entry) → slice_get entries class ≡ o → is_some (under lines (line_in o) k) ≡ (nat_eq k class || among k (above shapes class))
      by_entry None h = absurd (entry_there class (within class refl) h)
      by_entry (Some entry) h = (t.mapped class entry h).derives_from k ∙ ap (λ z. z || among k (above shapes class)) (eq_turned class k)

  -- a base class's version finds the methods that are inherited from it
  pub base_found : (base : Option ℕ) → ((b : ℕ) → base ≡ Some b → b < length shapes) → (name : List ℕ) → method_named (inherited shapes base) name ≡ owned_method entries (owner_in owners (owned_at entries base) name) name
  base_found None within name = ap (λ z. owned_method entries z name) (sym (nothing_found (name_place owners.names name)))
    where
      nothing_found : (o : Option ℕ) → option_and_then (under owners.versions None) o ≡ None
      nothing_found None = refl
      nothing_found (Some p) = under_none owners.versions p
  base_found (Some class) within name = by_entry (slice_get entries class) refl
    where
      by_entry : (o : Option Entry) → slice_get entries class ≡ o → method_named (methods_at shapes class) name ≡ owned_method entries (owner_in owners (owned_in o) name) name
      by_entry None h = absurd (entry_there class (within class refl) h)
      by_entry (Some entry) h = (t.mapped class entry h).found name

  -- the empty version has no owners
  none_owned : (name : List ℕ) (owner : ℕ) → owner_in owners None name ≡ Some owner → ⊥
  none_owned name owner e = none_found (name_place owners.names name) e
    where
      none_found : (o : Option ℕ) → option_and_then (under owners.versions None) o ≡ Some owner → ⊥
      none_found None e = none_some e
      none_found (Some p) e = none_some (sym (under_none owners.versions p) ∙ e)

  -- the owners of a base class's methods are there
  pub base_owner : (base : Option ℕ) (name : List ℕ) (owner : ℕ) → owner_in owners (owned_at entries base) name ≡ Some owner → owner < length entries
  base_owner None name owner e = absurd (none_owned name owner e)
  base_owner (Some class) name owner e = by_entry (slice_get entries class) refl e
    where
      by_entry : (o : Option Entry) → slice_get entries class ≡ o → owner_in owners (owned_in o) name ≡ Some owner → owner < length entries
      by_entry None h e = absurd (none_owned name owner e)
      by_entry (Some entry) h e = (t.mapped class entry h).there name owner e

-- One more class.

module _ (done : List Shape) (entries : List Entry) (names : List (List ℕ)) (lines : List Fork) (owners : Owners) (t : IsShapeTable done entries names lines owners)
    (class : ClassTree) (entry : Entry) (next : IsNext done class entry) (new_lines : List Fork) (new_owners : Owners) (line value : ℕ) (line_is : entry.line ≡ Some line)
    (lined : IsNextVersion lines new_lines (line_at entries entry.base) (length entries) value line)
    (owned : IsOwning owners new_owners (owned_at entries entry.base) entry.owned (λ name. is_some (method_named (map see_method entry.own.all.items) name)) (length entries)) where
  -- the new class
  abbrev shape : Shape
  shape = shape_of done class

  -- the classes with it
  abbrev shapes : List Shape
  shapes = done ++ (shape_of done class ∷ [])

  -- the entries with its own
  abbrev all_entries : List Entry
  all_entries = entries ++ (entry ∷ [])

  -- there is one entry more
  one_more : length all_entries ≡ length entries + 1
  one_more = appended entries entry

  -- the forks are at least as many as they were
  more_forks : length lines ≤ length new_lines
  more_forks = let e = ap length lined.forks in let f = length-append lines lined.more in omega (arith, e, f)

  -- the base of the new class is one of the classes so far
  within : (b : ℕ) → entry.base ≡ Some b → b < length done
  within b h = base_below done class b (sym next.base ∙ h)

  -- a method that is new in a class so far stays
  method_kept : (o : Option ℕ) (name : List ℕ) → ((owner : ℕ) → o ≡ Some owner → owner < length entries) → owned_method entries o name ≡ owned_method all_entries o name
  method_kept None name h = refl
  method_kept (Some owner) name h = ap (λ z. new_method z name) (sym (stands_earlier entries (entry ∷ []) owner (h owner refl)))

  -- a class so far keeps what its versions tell
  old_mapped : (k : ℕ) (e : Entry) → k < length entries → slice_get entries k ≡ Some e → IsMapped shapes all_entries new_lines new_owners k e
  old_mapped k e less h = record {
    line = version_of_more _ _ e.line more_forks m.line;
    derives_from = λ b. ap is_some (lined.stays e.line m.line b) ∙ m.derives_from b ∙ ap (λ z. nat_eq k b || among b (above_in z)) (sym kept);
    owned = owned.stays e.owned m.owned;
    there = λ name owner f. let lower = m.there name owner (sym (owned.same e.owned m.owned name) ∙ f) in let more = one_more in omega (arith, lower, more);
    found = λ name. ap (λ z. method_named (methods_in z) name) kept ∙ m.found name ∙ method_kept (owner_in owners e.owned name) name (m.there name) ∙ ap (λ z. owned_method all_entries z name) (sym (owned.same e.owned m.owned name));
  }
    where
      m : IsMapped done entries lines owners k e
      m = t.mapped k e h

      kept : slice_get shapes k ≡ slice_get done k
      kept = kept_at done (shape_of done class) k (let count = t.are.count in omega (arith, count, less))

  -- the new entry is that of the new class
  new_entry : IsEntry shapes (length entries) entry
  new_entry = subst (λ z. IsEntry shapes z entry) (sym t.are.count) (is_entry done class entry next)

  -- what is there by a choice
  chosen_there : (b : Bool) (o : Option ℕ) → is_some (cond b (Some value) o) ≡ (b || is_some o)
  chosen_there true o = refl
  chosen_there false o = refl

  -- the owners of the methods of the new class are there
  new_there : (b : Bool) (name : List ℕ) (owner : ℕ) → cond b (Some (length entries)) (owner_in owners (owned_at entries entry.base) name) ≡ Some owner → owner < length all_entries
  new_there true name owner e = let same : length entries ≡ owner = same_some e in let more = one_more in omega (arith, same, more)
  new_there false name owner e = let lower = base_owner done entries names lines owners t entry.base name owner e in let more = one_more in omega (arith, lower, more)

  -- a method of the new class is found by its owner
  new_found : (name : List ℕ) (q : Option Found) → method_named (map see_method entry.own.all.items) name ≡ q → method_named (methods_at shapes (length entries)) name ≡ owned_method all_entries (owner_in new_owners entry.owned name) name
  new_found name None h =
      own_absent new_entry name (sym h)
      ∙ ap (λ z. method_named z name) (inherited_kept done (shape_of done class) entry.base within)
      ∙ base_found done entries names lines owners t entry.base within name
      ∙ method_kept (owner_in owners (owned_at entries entry.base) name) name (base_owner done entries names lines owners t entry.base name)
      ∙ ap (λ z. owned_method all_entries z name) (sym (owned.each name ∙ ap (λ z. cond (is_some z) (Some (length entries)) (owner_in owners (owned_at entries entry.base) name)) h))
  new_found name (Some found) h =
      ap (λ z. method_named z name) new_entry.methods ∙ method_append (inherited shapes entry.base) (map see_method entry.own.all.items) name
      ∙ ap (λ z. or_found z (option_map (shift (length (inherited shapes entry.base))) (method_named (map see_method entry.own.all.items) name))) (new_entry.new name (ap is_some h))
      ∙ ap (λ z. option_map (shift z) (method_named (map see_method entry.own.all.items) name)) (sym new_entry.first)
      ∙ sym (ap (λ z. owned_method all_entries z name) (owned.each name ∙ ap (λ z. cond (is_some z) (Some (length entries)) (owner_in owners (owned_at entries entry.base) name)) h)
      ∙ ap (λ z. new_method z name) (get_last entries entry))

  -- the versions of the new class tell what is to be told of it
  new_mapped : IsMapped shapes all_entries new_lines new_owners (length entries) entry
  new_mapped = record {
    line = λ at e. let less = lined.within in let same : line ≡ at = same_some (sym line_is ∙ e) in omega (arith, less, same);
    derives_from = λ b. ap (λ z. is_some (under new_lines z b)) line_is ∙ ap is_some (lined.each b) ∙ chosen_there (nat_eq b (length entries)) (under lines (line_at entries entry.base) b)
        ∙ ap (λ z. nat_eq b (length entries) || z) (base_line done entries names lines owners t entry.base within b)
        ∙ ap (λ z. z || among b (from_base done entry.base)) (eq_turned b (length entries))
        ∙ ap (λ z. nat_eq (length entries) b || among b z) (sym (new_entry.bases ∙ bases_kept done (shape_of done class) entry.base within));
    owned = owned.is_owned;
    there = λ name owner e. new_there (is_some (method_named (map see_method entry.own.all.items) name)) name owner (sym (owned.each name) ∙ e);
    found = λ name. new_found name (method_named (map see_method entry.own.all.items) name) refl;
  }

  -- so do those of each class
  pub all_mapped : (k : ℕ) (e : Entry) → slice_get all_entries k ≡ Some e → IsMapped shapes all_entries new_lines new_owners k e
  all_mapped k e h = elim (either_at entries entry k e h) [
    | inl i ↦ old_mapped k e i.0 i.1
    | inr l ↦ subst (λ z. IsMapped shapes all_entries new_lines new_owners z e) (sym l.0) (subst (λ z. IsMapped shapes all_entries new_lines new_owners (length entries) z) l.1 new_mapped)
  ]

  -- there are few forks of what classes derive from
  pub few_lines : (halves : ℕ) → length all_entries < 2 ^ halves → length new_lines ≤ length all_entries * halves
  few_lines halves less =
      let one = one_more in
      let before = t.few halves (omega (arith, one, less)) in
      let count = ap length lined.forks in
      let split = length-append lines lined.more in
      let most = few_halves (length lined.more) (length entries) (length all_entries) halves lined.few (omega (arith, one)) less in
      let all : length all_entries * halves ≡ length entries * halves + halves = ap (λ z. z * halves) one ∙ add-mul (length entries) 1 halves ∙ ap (λ z. length entries * halves + z) (one-mul halves) in
      omega (arith, before, count, split, most, all)

-- the names of the methods that are new in classes with one more
names_end : (entries : List Entry) (entry : Entry) → new_names (entries ++ (entry ∷ [])) ≡ new_names entries ++ names_of entry.own.all.items
names_end entries entry = flat_map-append (λ (e : Entry). names_of e.own.all.items) entries (entry ∷ []) ∙ ap (λ z. new_names entries ++ z) (append-nil (names_of entry.own.all.items))

-- the table with one more
pub table_extended : (done : List Shape) (entries more : List Entry) (names more_names : List (List ℕ)) (lines new_lines : List Fork) (owners new_owners : Owners) (entry : Entry) (text : List ℕ) (line value : ℕ) → shapes_of entries ≡ done
    → IsShapeTable (shapes_of entries) entries names lines owners → length entries < 4294967295 → IsNext done (see_class entry.class.now) entry → more ≡ entries ++ (entry ∷ []) → more_names ≡ names ++ (text ∷ []) → text ≡ entry.class.now.name.text
    → entry.line ≡ Some line → IsNextVersion lines new_lines (line_at entries entry.base) (length entries) value line
    → IsOwning owners new_owners (owned_at entries entry.base) entry.owned (λ name. is_some (method_named (map see_method entry.own.all.items) name)) (length entries) → AddsNames owners new_owners (names_of entry.own.all.items)
    → IsShapeTable (shapes_of more) more more_names new_lines new_owners
table_extended done entries more names more_names lines new_lines owners new_owners entry text line value view t room next e n same line_is lined owned added = record {
  are = entries_extended done entries more names more_names entry text view t.are room next e n same;
  mapped =
      subst (λ z. (k : ℕ) (x : Entry) → slice_get z k ≡ Some x → IsMapped (shapes_of z) z new_lines new_owners k x) (sym e)
      (subst (λ z. (k : ℕ) (x : Entry) → slice_get (entries ++ (entry ∷ [])) k ≡ Some x → IsMapped z (entries ++ (entry ∷ [])) new_lines new_owners k x) (sym (shapes_more entries entry))
      (all_mapped (shapes_of entries) entries names lines owners t (see_class entry.class.now) entry (subst (λ z. IsNext z (see_class entry.class.now) entry) (sym view) next) new_lines new_owners line value line_is lined owned));
  owns = subst (λ z. AddsNames no_owners new_owners (new_names z)) (sym e)
      (subst (AddsNames no_owners new_owners) (sym (names_end entries entry)) (names_more no_owners owners new_owners (new_names entries) (names_of entry.own.all.items) t.owns added));
  few = subst (λ z. (halves : ℕ) → length z < 2 ^ halves → length new_lines ≤ length z * halves) (sym e)
      (few_lines (shapes_of entries) entries names lines owners t (see_class entry.class.now) entry (subst (λ z. IsNext z (see_class entry.class.now) entry) (sym view) next) new_lines new_owners line value line_is lined owned);
}
