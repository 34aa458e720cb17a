-- The rule on groups, header by header: by the labels that were seen, and by the headers before.
use Rattle.std.proofs.Common.{◌≡◌, ℕ, zero, suc, ◌+◌, ◌<◌, ◌≤◌, List, [], ◌∷◌, ◌++◌, Bool, true, false, cond, not, ◌&&◌, ◌||◌, nat_eq, length, slice_index, refl, sym, ap, ◌∙◌, append_assoc, arith, Option, Some, None, is_some, bytes_eq}
use Rattle.std.specs.Prelude.{option_map, unwrap_or}
use Rattle.std.proofs.Math.Bool.{or-false, or-true}
use Rattle.std.proofs.lemmas.Bool.{eqb-true}
use Rattle.std.proofs.lemmas.Cmp.{nat_eq_equiv}
use Rattle.std.proofs.lemmas.List.Recursion.{or_push}
use Rattle.chord_tree.specs.Tree.{HeaderTree}
use Rattle.chord_bodies.specs.Resolved.{ChordOf}
use Rattle.chord_classes.specs.Table.{Method, Found, method_from, method_named, among}
use Rattle.chord_classes.specs.NameRules.{when}
use Rattle.chord_classes.specs.OverrideRules.{overrides}
use Rattle.chord_classes.specs.DeclarationRules.{overriding}
use Rattle.chord_classes.specs.Plan.{header_number, number_in, overridden}
use Rattle.chord_classes.proofs.Facts.{none_some, same_some}
use Rattle.chord_rules.specs.Groups.{label}
use Rattle.chord_rules.specs.Labels.{labels_of}
use Rattle.chord_rules.specs.Splits.{any_spared, any_labelled, split_from}
use Rattle.chord_rules.specs.SplitHeaders.{overridden_number, spared_below, with_label, seen_with_number, splits_at, splits_from}
use Rattle.chord_rules.proofs.Labels.{label_of}

-- the number of a method that is found is below the number of methods
number_within : (j : ℕ) (ms : List Method) (x : List ℕ) (f : Found) → method_from j ms x ≡ Some f → f.number < j + length ms
number_within j [] x f h = absurd (none_some h)
number_within j (m ∷ ms) x f h = by_same (bytes_eq m.name x) h (λ e. number_within (j + 1) ms x f e)
  where
    by_same : (b : Bool) → cond b (Some (record { number = j; method = m })) (method_from (j + 1) ms x) ≡ Some f → (method_from (j + 1) ms x ≡ Some f → f.number < j + 1 + length ms) → f.number < j + suc (length ms)
    by_same true e more = let same : j ≡ f.number = ap (λ (z : Found). z.number) (same_some e) in omega (arith, same)
    by_same false e more = let less = more e in omega (arith, less)

-- a number is among numbers and one more exactly if it is among them or is that one
among_end : (v : ℕ) (xs : List ℕ) (x : ℕ) → among v (xs ++ (x ∷ [])) ≡ (among v xs || nat_eq v x)
among_end v xs x = or_push (among v) (nat_eq v) refl (λ y ys. refl) xs x

module _ (chords : List ChordOf) (taken : List ℕ) (methods : List Method) (count : ℕ) where
  -- a label as it is kept
  abbrev kept : ℕ → ℕ
  kept method = slice_index (labels_of count chords) method

  -- below a bound a method's label is kept as it is
  spared_same : (n i : ℕ) → n ≤ count → i < count → spared_below kept taken (kept i) n ≡ any_spared chords taken methods i n
  spared_same zero i l m = refl
  spared_same (suc n) i l m =
      ap (λ z. (nat_eq (kept n) z && not (among n taken)) || spared_below kept taken (kept i) n) (label_of count chords i m)
      ∙ ap (λ z. (nat_eq z (label chords i) && not (among n taken)) || spared_below kept taken (kept i) n) (label_of count chords n (omega arith))
      ∙ ap (λ z. (z && not (among n taken)) || spared_below kept taken (kept i) n) (nat_eq_equiv.symm (label chords n) (label chords i))
      ∙ ap (λ z. (nat_eq (label chords i) (label chords n) && not (among n taken)) || z) (spared_same n i (omega arith) m)

  -- the labels that were seen are those of the headers before
  abbrev AreSeen : List ℕ → List HeaderTree → Type 0
  AreSeen seen before = (header : HeaderTree) → among (label chords (header_number methods header)) seen ≡ any_labelled chords taken methods header before

  -- one of some headers and one more has the label of this one exactly if one of them has it or that one has
  labelled_end : (header : HeaderTree) (before : List HeaderTree) (h : HeaderTree)
      → any_labelled chords taken methods header (before ++ (h ∷ [])) ≡ (any_labelled chords taken methods header before || nat_eq (label chords (header_number methods header)) (label chords (header_number methods h)))
  labelled_end header before h =
      or_push (any_labelled chords taken methods header) (λ (y : HeaderTree). nat_eq (label chords (header_number methods header)) (label chords (header_number methods y))) refl (λ y ys. refl) before h

  -- a label that is among others adds nothing to what is among them
  among_again : (v x : ℕ) (seen : List ℕ) → among x seen ≡ true → (among v seen || nat_eq v x) ≡ among v seen
  among_again v x seen h = by_same (nat_eq v x) refl
    where
      by_same : (b : Bool) → nat_eq v x ≡ b → (among v seen || nat_eq v x) ≡ among v seen
      by_same false e = ap (λ z. among v seen || z) e ∙ or-false (among v seen)
      by_same true e = ap (λ z. among v seen || z) e ∙ or-true (among v seen) ∙ sym (ap (λ z. among z seen) (eqb-true v x e) ∙ h)

  -- a label is among labels to which one was added exactly if it is among them or is that one
  with_label_among : (v x : ℕ) (seen : List ℕ) → among v (with_label seen x) ≡ (among v seen || nat_eq v x)
  with_label_among v x seen = by_there (among x seen) refl
    where
      by_there : (b : Bool) → among x seen ≡ b → among v (cond b seen (seen ++ (x ∷ []))) ≡ (among v seen || nat_eq v x)
      by_there true e = sym (among_again v x seen e)
      by_there false e = among_end v seen x

  -- the labels that were seen and that of one more header are those of the headers before and of that one
  seen_more : (seen : List ℕ) (before : List HeaderTree) (h : HeaderTree) (x : ℕ) → x ≡ label chords (header_number methods h) → AreSeen seen before → AreSeen (with_label seen x) (before ++ (h ∷ []))
  seen_more seen before h x e s header =
      with_label_among (label chords (header_number methods header)) x seen
      ∙ ap (λ z. among (label chords (header_number methods header)) seen || nat_eq (label chords (header_number methods header)) z) e
      ∙ ap (λ z. z || nat_eq (label chords (header_number methods header)) (label chords (header_number methods h))) (s header)
      ∙ sym (labelled_end header before h)

  module _ (few : length methods ≤ count) where
    -- where the list by labels is that by headers for the later headers, it is so with one header in front
    one_header : (over : Bool) (found : Option Found) (h : HeaderTree) (more : List HeaderTree) (seen : List ℕ) (before : List HeaderTree) → method_named methods h.name.text ≡ found → AreSeen seen before
        → ((others : List ℕ) (ahead : List HeaderTree) → AreSeen others ahead → splits_from kept taken methods others more ≡ split_from chords taken methods ahead (overriding methods more))
        → splits_at kept taken (length methods) seen (cond over (option_map (λ (f : Found). f.number) found) None) h.name.at ++ splits_from kept taken methods (seen_with_number kept seen (cond over (option_map (λ (f : Found). f.number) found) None)) more
        ≡ split_from chords taken methods before (cond (over && is_some found) (h ∷ overriding methods more) (overriding methods more))
    one_header false found h more seen before e s ih = ih seen before s
    one_header true None h more seen before e s ih = ih seen before s
    one_header true (Some f) h more seen before e s ih =
        let number : header_number methods h ≡ f.number = ap (λ o. unwrap_or (option_map (λ (z : Found). z.number) o) 0) e in
        let within : f.number < count = (let l = number_within 0 methods h.name.text f e in omega (arith, l, few)) in
        let here : kept f.number ≡ label chords (header_number methods h) = label_of count chords f.number within ∙ ap (label chords) (sym number) in
        ap (λ z. when (not z && spared_below kept taken (kept f.number) (length methods)) h.name.at ++ splits_from kept taken methods (with_label seen (kept f.number)) more) (ap (λ z. among z seen) here ∙ s h)
        ∙ ap (λ z. when (not (any_labelled chords taken methods h before) && z) h.name.at ++ splits_from kept taken methods (with_label seen (kept f.number)) more)
        (spared_same (length methods) f.number few within ∙ ap (λ z. any_spared chords taken methods z (length methods)) (sym number))
        ∙ ap (λ z. when (not (any_labelled chords taken methods h before) && any_spared chords taken methods (header_number methods h) (length methods)) h.name.at ++ z)
        (ih (with_label seen (kept f.number)) (before ++ (h ∷ [])) (seen_more seen before h (kept f.number) here s))

    -- the first headers of groups that are not overridden whole, by labels that were seen
    pub splits_same : (headers : List HeaderTree) (seen : List ℕ) (before : List HeaderTree) → AreSeen seen before → splits_from kept taken methods seen headers ≡ split_from chords taken methods before (overriding methods headers)
    splits_same [] seen before s = refl
    splits_same (h ∷ hs) seen before s = one_header (overrides h) (method_named methods h.name.text) h hs seen before refl s (λ others ahead t. splits_same hs others ahead t)

    -- the same from the beginning
    pub all_splits : (headers : List HeaderTree) → splits_from kept taken methods [] headers ≡ split_from chords taken methods [] (overriding methods headers)
    all_splits headers = splits_same headers [] [] (λ header. refl)

-- the number of a method that a header overrides, as a list
some_number : (over : Bool) (found : Option Found) (n : ℕ) → Some n ≡ cond over (option_map (λ (f : Found). f.number) found) None → cond over (number_in found) [] ≡ n ∷ []
some_number false found n e = absurd (none_some (sym e))
some_number true None n e = absurd (none_some (sym e))
some_number true (Some f) n e = ap (λ z. z ∷ []) (sym (same_some e))

-- no number where a header overrides no method
no_number : (over : Bool) (found : Option Found) → None ≡ cond over (option_map (λ (f : Found). f.number) found) None → cond over (number_in found) [] ≡ []
no_number false found e = refl
no_number true None e = refl
no_number true (Some f) e = absurd (none_some e)

-- a header that overrides a method, and then those after it
pub one_overridden : (methods : List Method) (h : HeaderTree) (rest : List HeaderTree) (numbers after : List ℕ) (o : Option ℕ) (n : ℕ) → o ≡ overridden_number methods h → o ≡ Some n → after ≡ numbers ++ (n ∷ [])
    → numbers ++ overridden methods (h ∷ rest) ≡ after ++ overridden methods rest
one_overridden methods h rest numbers after o n e is a =
    ap (λ z. numbers ++ (z ++ overridden methods rest)) (some_number (overrides h) (method_named methods h.name.text) n (sym is ∙ e)) ∙ sym (append_assoc numbers (n ∷ []) (overridden methods rest)) ∙ ap (λ z. z ++ overridden methods rest) (sym a)

-- a header that overrides no method, and then those after it
pub none_overridden : (methods : List Method) (h : HeaderTree) (rest : List HeaderTree) (numbers after : List ℕ) (o : Option ℕ) → o ≡ overridden_number methods h → o ≡ None → after ≡ numbers
    → numbers ++ overridden methods (h ∷ rest) ≡ after ++ overridden methods rest
none_overridden methods h rest numbers after o e is a =
    ap (λ z. numbers ++ (z ++ overridden methods rest)) (no_number (overrides h) (method_named methods h.name.text) (sym is ∙ e)) ∙ ap (λ z. z ++ overridden methods rest) (sym a)

-- where no method is overridden no header overrides one
pub none_overriding : (methods : List Method) (headers : List HeaderTree) → overridden methods headers ≡ [] → overriding methods headers ≡ []
none_overriding methods [] e = refl
none_overriding methods (h ∷ hs) e = by_found (overrides h) (method_named methods h.name.text) e (λ f. none_overriding methods hs f)
  where
    by_found : (over : Bool) (found : Option Found) → cond over (number_in found) [] ++ overridden methods hs ≡ [] → (overridden methods hs ≡ [] → overriding methods hs ≡ []) → cond (over && is_some found) (h ∷ overriding methods hs) (overriding methods hs) ≡ []
    by_found false found e ih = ih e
    by_found true None e ih = ih e
    by_found true (Some f) e ih = cc

-- a list of no length is empty
pub no_header_length : (xs : List ℕ) → nat_eq (length xs) 0 ≡ true → xs ≡ []
no_header_length [] h = refl
no_header_length (x ∷ xs) h = absurd (let e = eqb-true (suc (length xs)) 0 h in omega (arith, e))
