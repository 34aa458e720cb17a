-- One more class in the table.
use Rattle.std.proofs.Common.{◌≡◌, ℕ, zero, suc, ◌+◌, ◌<◌, List, [], ◌∷◌, ◌++◌, map, length, refl, sym, ap, subst, ◌∙◌, Option, Some, None, slice_get, arith, ◌⊎◌, inl, inr}
use Rattle.std.proofs.lemmas.Bool.{false≢true}
use Rattle.std.specs.Prelude.{option_map, option_and_then}
use Rattle.chord_tree.specs.declared.names.Name.{Name}
use Rattle.chord_tree.specs.Tree.{ClassTree}
use Rattle.chord_tree.specs.View.{see_class}
use Rattle.chord_tree.specs.Walk.{headers_of}
use Rattle.chord_classes.specs.Table.{Method, Shape, methods_in, above_in, inherited, from_base, with_headers, first_builder, class_named, base_of, shapes_after, shape_of}
use Rattle.chord_classes.specs.declared.entry.Entry.{Entry}
use Rattle.chord_classes.specs.MethodViews.{see_method, see_builder}
use Rattle.chord_classes.specs.Entries.{AreNew, IsEntry, IsGrown, AreEntries, shapes_of}
use Rattle.chord_classes.proofs.TableLookups.{class_below}
use Rattle.chord_classes.proofs.GrownMethods.{map_end}

-- One more shape at the end.

-- one more class leaves each class before it at its place
pub kept_at : (done : List Shape) (shape : Shape) (k : ℕ) → k < length done → slice_get (done ++ (shape ∷ [])) k ≡ slice_get done k
kept_at [] shape k h = absurd (omega (arith, h))
kept_at (s ∷ ss) shape zero h = refl
kept_at (s ∷ ss) shape (suc k) h = kept_at ss shape k (let less : suc k < suc (length ss) = h in omega (arith, less))

-- one more class stands behind those before it
last_at : (done : List Shape) (shape : Shape) → slice_get (done ++ (shape ∷ [])) (length done) ≡ Some shape
last_at [] shape = refl
last_at (s ∷ ss) shape = last_at ss shape

-- one more class changes nothing of what is inherited from a base class before it
pub inherited_kept : (done : List Shape) (shape : Shape) (base : Option ℕ) → ((b : ℕ) → base ≡ Some b → b < length done) → inherited (done ++ (shape ∷ [])) base ≡ inherited done base
inherited_kept done shape None h = refl
inherited_kept done shape (Some b) h = ap methods_in (kept_at done shape b (h b refl))

-- one more class changes nothing of a base class before it and of the classes above that
pub bases_kept : (done : List Shape) (shape : Shape) (base : Option ℕ) → ((b : ℕ) → base ≡ Some b → b < length done) → from_base (done ++ (shape ∷ [])) base ≡ from_base done base
bases_kept done shape None h = refl
bases_kept done shape (Some b) h = ap (λ z. b ∷ above_in z) (kept_at done shape b (h b refl))

-- a list with one more element is longer by 1
pub appended : {A : Type 0} (xs : List A) (x : A) → length (xs ++ (x ∷ [])) ≡ length xs + 1
appended [] x = omega arith
appended (y ∷ ys) x = let e = appended ys x in omega (arith, e)

-- the shapes of classes with one more are those of the classes, and then that one's
after_end : (done : List Shape) (classes : List ClassTree) (class : ClassTree) → shapes_after done (classes ++ (class ∷ [])) ≡ shapes_after done classes ++ (shape_of (shapes_after done classes) class ∷ [])
after_end done [] class = refl
after_end done (c ∷ cs) class = after_end (done ++ (shape_of done c ∷ [])) cs class

-- the shapes of entries with one more
pub shapes_more : (entries : List Entry) (entry : Entry) → shapes_of (entries ++ (entry ∷ [])) ≡ shapes_of entries ++ (shape_of (shapes_of entries) (see_class entry.class.now) ∷ [])
shapes_more entries entry = ap (shapes_after []) (map_end _ entries entry) ∙ after_end [] (map _ entries) (see_class entry.class.now)

-- what is told of a new entry, of a class after these
pub record IsNext (done : List Shape) (class : ClassTree) (entry : Entry) : Type 0 where
  pub base : entry.base ≡ base_of done class
  pub first : entry.first ≡ length (inherited done entry.base)
  pub grown : IsGrown (inherited done entry.base) (length done) (headers_of class) [] entry.own.all.items
  pub fits : entry.first + length entry.own.all.items < 4294967296
  pub builder : option_map see_builder entry.builder ≡ first_builder class.members

-- the base of a class is one of the classes so far
pub base_below : (done : List Shape) (class : ClassTree) (b : ℕ) → base_of done class ≡ Some b → b < length done
base_below done class b h = by_base class.base h
  where
    by_base : (base : Option Name) → option_and_then (λ (name : Name). class_named done name.text) base ≡ Some b → b < length done
    by_base None e = cc
    by_base (Some name) e = class_below done name.text b e

-- the entry of a class after these
pub is_entry : (done : List Shape) (class : ClassTree) (entry : Entry) → IsNext done class entry → IsEntry (done ++ (shape_of done class ∷ [])) (length done) entry
is_entry done class entry n = record {
  below = below;
  bases = ap above_in here ∙ ap (from_base done) (sym n.base) ∙ sym (bases_kept done shape entry.base below);
  methods = ap methods_in here ∙ ap (λ z. with_headers (length done) (inherited done z) (headers_of class)) (sym n.base) ∙ no_own ∙ sym n.grown.methods
      ∙ ap (λ z. z ++ map see_method entry.own.all.items) (sym (inherited_kept done shape entry.base below));
  first = n.first ∙ ap length (sym (inherited_kept done shape entry.base below));
  new = subst (λ z. AreNew z entry.own.all.items) (sym (inherited_kept done shape entry.base below)) (n.grown.new (λ x some. absurd (false≢true some)));
  fits = n.fits;
  builder = n.builder ∙ sym (ap (option_and_then (λ (s : Shape). s.builder)) here);
}
  where
    shape : Shape
    shape = shape_of done class

    here : slice_get (done ++ (shape_of done class ∷ [])) (length done) ≡ Some (shape_of done class)
    here = last_at done (shape_of done class)

    below : (b : ℕ) → entry.base ≡ Some b → b < length done
    below b h = base_below done class b (sym n.base ∙ h)

    nothing : (xs : List Method) → xs ++ [] ≡ xs
    nothing [] = refl
    nothing (x ∷ xs) = ap (λ z. x ∷ z) (nothing xs)

    no_own : with_headers (length done) (inherited done entry.base) (headers_of class) ≡ with_headers (length done) (inherited done entry.base ++ map see_method []) (headers_of class)
    no_own = ap (λ z. with_headers (length done) z (headers_of class)) (sym (nothing (inherited done entry.base)))

-- an entry stays that of its class where one more class comes
entry_stays : (done : List Shape) (shape : Shape) (k : ℕ) (entry : Entry) → k < length done → IsEntry done k entry → IsEntry (done ++ (shape ∷ [])) k entry
entry_stays done shape k entry less e = record {
  below = e.below;
  bases = ap above_in (kept_at done shape k less) ∙ e.bases ∙ sym (bases_kept done shape entry.base within);
  methods = ap methods_in (kept_at done shape k less) ∙ e.methods ∙ ap (λ z. z ++ map see_method entry.own.all.items) (sym (inherited_kept done shape entry.base within));
  first = e.first ∙ ap length (sym (inherited_kept done shape entry.base within));
  new = subst (λ z. AreNew z entry.own.all.items) (sym (inherited_kept done shape entry.base within)) e.new;
  fits = e.fits;
  builder = e.builder ∙ sym (ap (option_and_then (λ (s : Shape). s.builder)) (kept_at done shape k less));
}
  where
    within : (b : ℕ) → entry.base ≡ Some b → b < length done
    within b h = let lower = e.below b h in omega (arith, lower, less)

-- an element of a list with one more is one of the list, or the last
pub either_at : (entries : List Entry) (last : Entry) (k : ℕ) (entry : Entry) → slice_get (entries ++ (last ∷ [])) k ≡ Some entry → ((k < length entries) × (slice_get entries k ≡ Some entry)) ⊎ ((k ≡ length entries) × (last ≡ entry))
either_at [] last zero entry h = inr (refl, cc)
either_at [] last (suc k) entry h = cc
either_at (e ∷ es) last zero entry h = inl (omega arith, h)
either_at (e ∷ es) last (suc k) entry h = elim (either_at es last k entry h) [ inl a ↦ inl ((let l = a.0 in omega (arith, l)), a.1) | inr b ↦ inr (ap suc b.0, b.1) ]

-- the entries with one more
pub entries_more : (done : List Shape) (entries : List Entry) (names : List (List ℕ)) (entry : Entry) (class : ClassTree) → AreEntries done entries names → length entries < 4294967295 → IsNext done class entry
    → AreEntries (done ++ (shape_of done class ∷ [])) (entries ++ (entry ∷ [])) (names ++ (class.name.text ∷ []))
entries_more done entries names entry class a room n = record {
  count = let c = a.count in let x = appended entries entry in let y = appended done (shape_of done class) in omega (arith, c, x, y);
  few = let x = appended entries entry in omega (arith, x, room);
  named = ap (λ z. z ++ (class.name.text ∷ [])) a.named ∙ sym (map_end (λ (s : Shape). s.name) done (shape_of done class));
  all = λ k e h. elim (either_at entries entry k e h) [
    | inl i ↦ entry_stays done (shape_of done class) k e (let l = i.0 in let c = a.count in omega (arith, l, c)) (a.all k e i.1)
    | inr l ↦ subst (λ z. IsEntry (done ++ (shape_of done class ∷ [])) z e) (sym (l.0 ∙ a.count)) (subst (λ z. IsEntry (done ++ (shape_of done class ∷ [])) (length done) z) l.1 (is_entry done class entry n))
  ];
}

-- the table with one more
pub entries_extended : (done : List Shape) (entries more : List Entry) (names more_names : List (List ℕ)) (entry : Entry) (text : List ℕ) → shapes_of entries ≡ done → AreEntries (shapes_of entries) entries names → length entries < 4294967295
    → IsNext done (see_class entry.class.now) entry → more ≡ entries ++ (entry ∷ []) → more_names ≡ names ++ (text ∷ []) → text ≡ entry.class.now.name.text → AreEntries (shapes_of more) more more_names
entries_extended done entries more names more_names entry text view a room next e n same =
    subst (λ z. AreEntries (shapes_of z) z more_names) (sym e)
    (subst (λ z. AreEntries z (entries ++ (entry ∷ [])) more_names) (sym (shapes_more entries entry))
    (subst (λ z. AreEntries (shapes_of entries ++ (shape_of (shapes_of entries) (see_class entry.class.now) ∷ [])) (entries ++ (entry ∷ [])) z) (sym (n ∙ ap (λ z. names ++ (z ∷ [])) same))
    (entries_more (shapes_of entries) entries names entry (see_class entry.class.now) a room (subst (λ z. IsNext z (see_class entry.class.now) entry) (sym view) next))))
