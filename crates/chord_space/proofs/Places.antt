-- Place words that are read.
use Rattle.std.proofs.Common.{◌≡◌, inl, ℕ, ◌<◌, Option, Some, None, IsNone, IfSome, refl, sym, subst}
use Rattle.chord_base.specs.declared.value.Object.{Object}
use Rattle.chord_word.specs.Places.{PlaceFits, place_word, IsNoPlace}
use Rattle.chord_rule.specs.Moment.{Place, PlaceOk, word_at_place}

-- nothing is nothing
none_is : (r : Option Place) → IsNone r → r ≡ None
none_is None e = refl
none_is (Some p) e = absurd (cc)

-- what a place word unpacks to is the place that it shows
pub place_read : (pl : Option Place) (x : ℕ) (r : Option Place) → x ≡ word_at_place pl → PlaceOk pl → ((o : Object) (j : ℕ) → PlaceFits o j → place_word o j ≡ x → r ≡ Some (o, j)) → (IsNoPlace x → IsNone r) → r ≡ pl
place_read None x r is ok back none = none_is r (none (subst IsNoPlace (sym is) (inl refl)))
place_read (Some p) x r is ok back none = back p.0 p.1 ok (sym is)

-- a place is within the table
pub place_within : (n : ℕ) (pl : Option Place) → PlaceOk pl → ((q : Place) → pl ≡ Some q → (q.0.number < n) × (q.1 < 16)) → IfSome pl (λ p. (p.0.number < n) × (p.0.class < 1024) × (p.1 < 16))
place_within n None ok low = tt
place_within n (Some p) ok low = let t = low p refl in (t.0, ok.1, t.1)
