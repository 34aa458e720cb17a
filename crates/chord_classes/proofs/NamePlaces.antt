-- One more name at the end of names, and in a map of their first places.
use Rattle.std.proofs.Common.{◌≡◌, ℕ, ◌+◌, List, [], ◌∷◌, ◌++◌, Bool, true, false, cond, length, refl, sym, ap, subst, ◌∙◌, arith, Option, Some, None, is_some, suc}
use Rattle.std.specs.Option.{option_copied}
use Rattle.std.specs.Str.{bytes_eq}
use Rattle.std.specs.Map.{update}
use Rattle.std.specs.Borrow.{Bor}
use Rattle.std.specs.BTreeMap.{BTreeMap, get_by}
use Rattle.std.specs.Ordering.{nat_cmp}
use Rattle.std.specs.Cmp.Lexicographic.{slice_cmp, bytes_decides}
use Rattle.std.proofs.lemmas.Bool.{false≢true}
use Rattle.chord_classes.specs.NamePlaces.{texts_in, name_place_from, name_place, FindsNames}

-- the first of two places that is there
abbrev pub or_place : Option ℕ → Option ℕ → Option ℕ
or_place (Some j) others = Some j
or_place None others = others

-- where the place behind a name is that among others or else the last one, so is the place with this name before them
push_by : (b : Bool) (number : ℕ) (others others' last last' : Option ℕ) → others ≡ or_place others' last' → last' ≡ last → cond b (Some number) others ≡ or_place (cond b (Some number) others') last
push_by true number others others' last last' h e = refl
push_by false number others others' last last' h e = h ∙ ap (or_place others') e

-- the first place of a name among names with one more
place_push : (number : ℕ) (names : List (List ℕ)) (w x : List ℕ) → name_place_from number (names ++ (w ∷ [])) x ≡ or_place (name_place_from number names x) (cond (bytes_eq w x) (Some (number + length names)) None)
place_push number [] w x = ap (λ z. cond (bytes_eq w x) (Some z) None) (omega arith)
place_push number (y ∷ ys) w x =
    push_by (bytes_eq y x) number _ _ _ _ (place_push (number + 1) ys w x) (ap (λ z. cond (bytes_eq w x) (Some z) None) (omega arith))

-- where a name was not there, to ask first whether another is that name gives the same place as to ask first for its old place
absent : (b : Bool) (w x : List ℕ) (count : ℕ) (at_w at_x : Option ℕ) → (b ≡ true → at_w ≡ at_x) → at_w ≡ None → cond b (Some count) at_x ≡ or_place at_x (cond b (Some count) None)
absent true w x count at_w None e h = refl
absent true w x count None (Some j) e h = absurd (false≢true (ap is_some (e refl)))
absent true w x count (Some i) (Some j) e h = absurd (false≢true (sym (ap is_some h)))
absent false w x count at_w None e h = refl
absent false w x count at_w (Some j) e h = refl

-- where a name was there, one more of it at the end changes no name's place
present : (b : Bool) (count : ℕ) (at_w at_x : Option ℕ) → (b ≡ true → at_w ≡ at_x) → is_some at_w ≡ true → at_x ≡ or_place at_x (cond b (Some count) None)
present true count at_w (Some j) e h = refl
present true count at_w None e h = absurd (false≢true (sym (ap is_some (e refl)) ∙ h))
present false count at_w None e h = refl
present false count at_w (Some j) e h = refl

-- the same from the beginning
pub place_end : (names : List (List ℕ)) (w x : List ℕ) → name_place (names ++ (w ∷ [])) x ≡ or_place (name_place names x) (cond (bytes_eq w x) (Some (length names)) None)
place_end names w x = place_push 0 names w x ∙ ap (λ z. or_place (name_place names x) (cond (bytes_eq w x) (Some z) None)) (omega arith)

module _ {m n : BTreeMap (Bor (List ℕ)) ℕ} {names : List (List ℕ)} (w : List ℕ) where
  -- a map that gets a new name with the count of names as its place has the first place of each name
  pub finds_more : FindsNames m names → name_place names w ≡ None
      → ((x : List ℕ) → get_by (λ k. slice_cmp nat_cmp x k.now) n ≡ update bytes_eq (λ ds. get_by (λ k. slice_cmp nat_cmp ds k.now) m) w (Some (length names)) x)
      → FindsNames n (names ++ (w ∷ []))
  finds_more finds none updates = record {
    each = λ x. updates x ∙ ap (cond (bytes_eq w x) (Some (length names))) (finds.each x)
        ∙ absent (bytes_eq w x) w x (length names) (name_place names w) (name_place names x) (λ t. ap (name_place names) ((bytes_decides w x).0 t)) none
        ∙ sym (place_end names w x);
  }

-- a name that is there keeps its place
pub finds_same : {m : BTreeMap (Bor (List ℕ)) ℕ} {names : List (List ℕ)} (w : List ℕ) → FindsNames m names → is_some (name_place names w) ≡ true → FindsNames m (names ++ (w ∷ []))
finds_same {m} {names} w finds some = record {
  each = λ x. finds.each x ∙ present (bytes_eq w x) (length names) (name_place names w) (name_place names x) (λ t. ap (name_place names) ((bytes_decides w x).0 t)) some ∙ sym (place_end names w x);
}

-- the texts of slices with one more are those of the slices, and then that one's
texts_push : (items : List (Bor (List ℕ))) (name : Bor (List ℕ)) → texts_in (items ++ (name ∷ [])) ≡ texts_in items ++ (name.now ∷ [])
texts_push [] name = refl
texts_push (x ∷ xs) name = ap (λ z. x.now ∷ z) (texts_push xs name)

-- there are as many texts as slices
texts_length : (items : List (Bor (List ℕ))) → length (texts_in items) ≡ length items
texts_length [] = refl
texts_length (x ∷ xs) = ap suc (texts_length xs)

-- what was found is there where its copy is
is_copied : (found : Option (Bor ℕ)) (o : Option ℕ) → option_copied found ≡ o → is_some found ≡ is_some o
is_copied None o h = ap is_some h
is_copied (Some x) o h = ap is_some h

-- what is not something is nothing
none_of : (o : Option ℕ) → is_some o ≡ false → o ≡ None
none_of None h = refl
none_of (Some x) h = absurd (false≢true (sym h))

-- a name that was not there
pub added : (old new last : BTreeMap (Bor (List ℕ)) ℕ) (items items' : List (Bor (List ℕ))) (name : Bor (List ℕ)) (found : Option (Bor ℕ)) (number : ℕ) →
    last ≡ new → items' ≡ items ++ (name ∷ []) → FindsNames old (texts_in items) → option_copied found ≡ get_by (λ k. slice_cmp nat_cmp name.now k.now) old → is_some found ≡ false → number ≡ length (texts_in items)
    → ((x : List ℕ) → get_by (λ k. slice_cmp nat_cmp x k.now) new ≡ update bytes_eq (λ ds. get_by (λ k. slice_cmp nat_cmp ds k.now) old) name.now (Some number) x) → FindsNames last (texts_in items')
added old new last items items' name found number e f finds value none count updates =
    subst (λ z. FindsNames z (texts_in items')) (sym e) (subst (λ z. FindsNames new z) (sym (ap texts_in f ∙ texts_push items name))
    (finds_more name.now finds (none_of (name_place (texts_in items) name.now) (sym (is_copied found (name_place (texts_in items) name.now) (value ∙ finds.each name.now)) ∙ none))
    (λ x. updates x ∙ ap (λ n. update bytes_eq (λ ds. get_by (λ k. slice_cmp nat_cmp ds k.now) old) name.now (Some n) x) count)))

-- a name that was there
pub kept : (old last : BTreeMap (Bor (List ℕ)) ℕ) (items items' : List (Bor (List ℕ))) (name : Bor (List ℕ)) (found : Option (Bor ℕ)) →
    last ≡ old → items' ≡ items ++ (name ∷ []) → FindsNames old (texts_in items) → option_copied found ≡ get_by (λ k. slice_cmp nat_cmp name.now k.now) old → is_some found ≡ true → FindsNames last (texts_in items')
kept old last items items' name found e f finds value some =
    subst (λ z. FindsNames z (texts_in items')) (sym e) (subst (λ z. FindsNames old z) (sym (ap texts_in f ∙ texts_push items name))
    (finds_same name.now finds (sym (is_copied found (name_place (texts_in items) name.now) (value ∙ finds.each name.now)) ∙ some)))
