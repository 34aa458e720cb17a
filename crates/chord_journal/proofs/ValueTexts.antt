-- Objects, values and members: what is read has their text, and their text is read.
use Rattle.std.proofs.Common.{◌≡◌, ℕ, zero, suc, ◌≤◌, true, false, ◌==◌, List, [], ◌∷◌, ◌++◌, length, Option, Some, refl, ap, sym, ◌∙◌, append_assoc, arith, subst}
use Rattle.std.specs.Prelude.{codes, decimal, ℤ}
use Rattle.std.specs.List.{flat_map, prefix_len}
use Rattle.std.specs.Char.{is_ascii_digit}
use Rattle.std.specs.Fmt.{signed_decimal}
use Rattle.std.proofs.lemmas.Bool.Decides.{nat_tests}
use Rattle.chord_base.specs.Bounds.{IsObjectWithin, IsValueWithin, AreValuesWithin, AreNumbersWithin}
use Rattle.chord_base.specs.declared.value.Object.{Object}
use Rattle.chord_base.specs.declared.value.Value as value
use Rattle.chord_base.specs.declared.value.Value.TheVariants as a_value
use Rattle.chord_io.specs.Digits.{byte_text}
use Rattle.chord_journal.specs.Text.{object_text, value_text, values_text, numbers_text}
use Rattle.chord_journal.specs.Typed.{IsTypedValue, AreTypedValues}
use Rattle.chord_journal.specs.Reading.{Read, ◌>>=◌, after_text, decimal_at, int_at, text_at, object_at, value_at, begins_digit, begins_blank, next_value_at, values_at, next_number_at, numbers_at}
use Rattle.chord_journal.proofs.Binds.{bound, same_read, by_branch}
use Rattle.chord_journal.proofs.Fronts.{after_takes}
use Rattle.chord_journal.proofs.Numbers.{number_again, number_takes, int_again, int_takes}
use Rattle.chord_journal.proofs.Hexes.{text_again, text_takes}
use Rattle.chord_journal.proofs.Repeats.{Each, many_takes, many_again}

-- no digit follows, of either kind
pub record Stops (rest : List ℕ) : Type 0 where
  pub decimal : prefix_len is_ascii_digit rest ≡ 0
  pub hexadecimal : begins_digit rest ≡ false

-- an object is read, where no digit follows
pub object_again : (o : Object) (rest : List ℕ) → IsObjectWithin o → prefix_len is_ascii_digit rest ≡ 0 → object_at (object_text o ++ rest) ≡ Some (o, rest)
unfolding object_at
object_again o rest within none =
    let regrouped = append_assoc (decimal o.number) (46 ∷ decimal o.class) rest in
    let number = number_again 65536 o.number (46 ∷ (decimal o.class ++ rest)) within.number (omega arith) refl in
    let class = number_again 1024 o.class rest within.class (omega arith) none in
    rw (regrouped, number, class) refl

-- what is read is an object
pub object_takes : (bytes : List ℕ) (o : Object) (rest : List ℕ) → object_at bytes ≡ Some (o, rest) → (bytes ≡ object_text o ++ rest) × IsObjectWithin o
unfolding object_at
object_takes bytes o rest read =
    let (front, first, read₁) = bound (after_text (codes "o") bytes) after_o (o, rest) read in
    let (number, second, read₂) = bound (decimal_at 65536 front) after_number (o, rest) read₁ in
    let (dot, third, read₃) = bound (after_text (codes ".") number.1) (after_dot number.0) (o, rest) read₂ in
    let (class, fourth, is) = bound (decimal_at 1024 dot) (made number.0) (o, rest) read₃ in
    let (same, left) = same_read (record { number = number.0; class = class.0 }) o class.1 rest is in
    let whole₁ = after_takes (codes "o") bytes front first in
    let (whole₂, few) = number_takes 65536 front number.0 number.1 (omega arith) second in
    let whole₃ = after_takes (codes ".") number.1 dot third in
    let (whole₄, small) = number_takes 1024 dot class.0 class.1 (omega arith) fourth in
    let text : bytes ≡ object_text (record { number = number.0; class = class.0 }) ++ class.1 =
    whole₁ ∙ ap (λ b. 111 ∷ b) (whole₂ ∙ ap (λ b. decimal number.0 ++ b) (whole₃ ∙ ap (λ b. 46 ∷ b) whole₄) ∙ sym (append_assoc (decimal number.0) (46 ∷ decimal class.0) class.1)) in
    (text ∙ ap (λ p. object_text p ++ class.1) same ∙ ap (λ r. object_text o ++ r) left, subst IsObjectWithin same (record { number = few; class = small }))
  where
    made : ℕ → ℕ × List ℕ → Read Object
    made number class = Some (record { number = number; class = class.0 }, class.1)

    after_dot : ℕ → List ℕ → Read Object
    after_dot number dot = decimal_at 1024 dot >>= made number

    after_number : ℕ × List ℕ → Read Object
    after_number number = after_text (codes ".") number.1 >>= after_dot number.0

    after_o : List ℕ → Read Object
    after_o front = decimal_at 65536 front >>= after_number

-- a value is read, where no digit follows
pub value_again : (v : value.Value) (rest : List ℕ) → IsValueWithin v → IsTypedValue v → Stops rest → value_at (value_text v ++ rest) ≡ Some (v, rest)
unfolding value_at
value_again a_value.Unit rest within typed stops = refl
value_again (a_value.Int n) rest within typed stops = rw (int_again n rest typed stops.decimal) refl
value_again (a_value.Flag true) rest within typed stops = refl
value_again (a_value.Flag false) rest within typed stops = refl
value_again (a_value.Text t) rest within typed stops = rw (text_again t rest typed stops.hexadecimal) refl
value_again (a_value.Ref o) rest within typed stops = rw (object_again o rest within stops.decimal) refl

-- what stands at the front, and what was read of it
abbrev IsValueRead : List ℕ → value.Value → List ℕ → Type 0
IsValueRead bytes v rest = (bytes ≡ value_text v ++ rest) × IsValueWithin v × IsTypedValue v

-- a letter alone
letter_takes : (b : ℕ) (bytes : List ℕ) (w v : value.Value) (rest : List ℕ) → value_text w ≡ b ∷ [] → IsValueWithin w → IsTypedValue w →
    ◌≡◌ {A = Option (value.Value × List ℕ)} (Some (w, bytes)) (Some (v, rest)) → IsValueRead (b ∷ bytes) v rest
letter_takes b bytes w v rest text within typed read =
    let (same, left) = same_read w v bytes rest read in
    subst (λ x. IsValueRead (b ∷ bytes) x rest) same (rw text (ap (λ r. b ∷ r) left), within, typed)

-- parts that were read, as values
abbrev as_int_value : ℤ × List ℕ → Read value.Value
as_int_value n = Some (a_value.Int n.0, n.1)

-- a text that was read, as a value
abbrev as_text : List ℕ × List ℕ → Read value.Value
as_text t = Some (a_value.Text t.0, t.1)

-- an object that was read, as a value
abbrev as_object : Object × List ℕ → Read value.Value
as_object o = Some (a_value.Ref o.0, o.1)

-- a number behind its letter
int_value_takes : (bytes : List ℕ) (v : value.Value) (rest : List ℕ) → (int_at bytes >>= as_int_value) ≡ Some (v, rest) → IsValueRead (105 ∷ bytes) v rest
int_value_takes bytes v rest read =
    let (n, number, is) = bound (int_at bytes) as_int_value (v, rest) read in
    let (same, left) = same_read (a_value.Int n.0) v n.1 rest is in
    let (text, fits) = int_takes bytes n.0 n.1 number in
    subst (λ x. IsValueRead (105 ∷ bytes) x rest) same (ap (λ b. 105 ∷ b) (text ∙ ap (λ r. signed_decimal n.0 ++ r) left), tt, fits)

-- a text behind its letter
text_value_takes : (bytes : List ℕ) (v : value.Value) (rest : List ℕ) → (text_at bytes >>= as_text) ≡ Some (v, rest) → IsValueRead (120 ∷ bytes) v rest
text_value_takes bytes v rest read =
    let (t, found, is) = bound (text_at bytes) as_text (v, rest) read in
    let (same, left) = same_read (a_value.Text t.0) v t.1 rest is in
    let (text, fits) = text_takes bytes t.0 t.1 found in
    subst (λ x. IsValueRead (120 ∷ bytes) x rest) same (ap (λ b. 120 ∷ b) (text ∙ ap (λ r. flat_map byte_text t.0 ++ r) left), tt, fits)

-- an object
object_value_takes : (bytes : List ℕ) (v : value.Value) (rest : List ℕ) → (object_at bytes >>= as_object) ≡ Some (v, rest) → IsValueRead bytes v rest
object_value_takes bytes v rest read =
    let (o, found, is) = bound (object_at bytes) as_object (v, rest) read in
    let (same, left) = same_read (a_value.Ref o.0) v o.1 rest is in
    let (text, within) = object_takes bytes o.0 o.1 found in
    subst (λ x. IsValueRead bytes x rest) same (text ∙ ap (λ r. object_text o.0 ++ r) left, within, tt)

-- what is read is a value
pub value_takes : (bytes : List ℕ) (v : value.Value) (rest : List ℕ) → value_at bytes ≡ Some (v, rest) → IsValueRead bytes v rest
unfolding value_at
value_takes [] v rest read = absurd (cc)
value_takes (b ∷ bytes) v rest read =
    by_branch (b == 117) _ _ _ read (λ is found. rw (letter b 117 is) (letter_takes 117 bytes a_value.Unit v rest refl tt tt found))
    (λ no₁ read₁. by_branch (b == 105) _ _ _ read₁ (λ is found. rw (letter b 105 is) (int_value_takes bytes v rest found))
    (λ no₂ read₂. by_branch (b == 116) _ _ _ read₂ (λ is found. rw (letter b 116 is) (letter_takes 116 bytes (a_value.Flag true) v rest refl tt tt found))
    (λ no₃ read₃. by_branch (b == 102) _ _ _ read₃ (λ is found. rw (letter b 102 is) (letter_takes 102 bytes (a_value.Flag false) v rest refl tt tt found))
    (λ no₄ read₄. by_branch (b == 120) _ _ _ read₄ (λ is found. rw (letter b 120 is) (text_value_takes bytes v rest found))
    (λ no₅ read₅. object_value_takes (b ∷ bytes) v rest read₅)))))
  where
    letter : (b k : ℕ) → (b == k) ≡ true → b ≡ k
    letter b k is = grind (arith, nat_tests)

-- a value and how it is read behind a blank
abbrev IsGood : value.Value → Type 0
IsGood v = IsValueWithin v × IsTypedValue v

-- a value's text behind a blank
abbrev behind_blank : value.Value → List ℕ
behind_blank v = codes " " ++ value_text v

-- what is read behind a blank is a value
next_value_takes : (bytes : List ℕ) (v : value.Value) (more : List ℕ) → next_value_at bytes ≡ Some (v, more) → (bytes ≡ behind_blank v ++ more) × IsGood v
next_value_takes bytes v more read =
    let (front, first, second) = bound (after_text (codes " ") bytes) value_at (v, more) read in
    let blank = after_takes (codes " ") bytes front first in
    let (text, within, typed) = value_takes front v more second in
    (blank ∙ ap (λ b. 32 ∷ b) text, (within, typed))

-- values that are within their bounds and have their types are so each for itself
each_good : (vs : List value.Value) → AreValuesWithin vs → AreTypedValues vs → Each IsGood vs
each_good [] within typed = tt
each_good (v ∷ vs) (in_v, within) (of_v, typed) = ((in_v, of_v), each_good vs within typed)

-- values that are each within their bounds and have their types are so together
all_good : (vs : List value.Value) → Each IsGood vs → AreValuesWithin vs × AreTypedValues vs
all_good [] each = (tt, tt)
all_good (v ∷ vs) (here, each) = (let (within, typed) = all_good vs each in ((here.0, within), (here.1, typed)))

-- values are read, where neither a blank nor a digit follows
pub values_again : (most : ℕ) (vs : List value.Value) (rest : List ℕ) → length vs ≤ most → AreValuesWithin vs → AreTypedValues vs → Stops rest →
    begins_blank rest ≡ false → values_at most (values_text vs ++ rest) ≡ Some (vs, rest)
values_again most vs rest few within typed stops ended =
    many_again begins_blank next_value_at behind_blank IsGood rest (λ v ys good. (refl, value_again v (flat_map behind_blank ys ++ rest) good.0 good.1 (next ys))) ended most
    vs few (each_good vs within typed)
  where
    next : (ys : List value.Value) → Stops (flat_map behind_blank ys ++ rest)
    next [] = stops
    next (y ∷ ys) = record { decimal = refl; hexadecimal = refl }

-- what is read is values
pub values_takes : (most : ℕ) (bytes : List ℕ) (vs : List value.Value) (rest : List ℕ) → values_at most bytes ≡ Some (vs, rest) →
    (bytes ≡ values_text vs ++ rest) × (length vs ≤ most) × AreValuesWithin vs × AreTypedValues vs
values_takes most bytes vs rest read =
    let (text, each, few) = many_takes begins_blank next_value_at behind_blank IsGood next_value_takes most bytes vs rest read in
    let (within, typed) = all_good vs each in
    (text, few, within, typed)

-- numbers are read, where no digit follows
pub numbers_again : (ns : List ℕ) (rest : List ℕ) → AreNumbersWithin ns → prefix_len is_ascii_digit rest ≡ 0 →
    numbers_at (length ns) (numbers_text ns ++ rest) ≡ Some (ns, rest)
unfolding numbers_at
numbers_again [] rest within none = refl
numbers_again (n ∷ ns) rest (less, within) none =
    let regrouped = append_assoc (decimal n) (numbers_text ns) rest in
    let number = number_again 65536 n (numbers_text ns ++ rest) less (omega arith) (next ns) in
    let more = numbers_again ns rest within none in
    rw (regrouped, number, more) refl
  where
    next : (ms : List ℕ) → prefix_len is_ascii_digit (numbers_text ms ++ rest) ≡ 0
    next [] = none
    next (m ∷ ms) = refl

-- what is read is so many numbers
pub numbers_takes : (count : ℕ) (bytes : List ℕ) (ns : List ℕ) (rest : List ℕ) → numbers_at count bytes ≡ Some (ns, rest) →
    (bytes ≡ numbers_text ns ++ rest) × (length ns ≡ count) × AreNumbersWithin ns
unfolding numbers_at
numbers_takes zero bytes ns rest read =
    let (none, left) = same_read [] ns bytes rest read in
    subst (λ ms. (bytes ≡ numbers_text ms ++ rest) × (length ms ≡ 0) × AreNumbersWithin ms) none (left, refl, tt)
numbers_takes (suc count) bytes ns rest read =
    let (n, first, second) = bound (next_number_at bytes) then_numbers (ns, rest) read in
    let (ms, third, is) = bound (numbers_at count n.1) (put_number n.0) (ns, rest) second in
    let (all, left) = same_read (n.0 ∷ ms.0) ns ms.1 rest is in
    let (front, blank, number) = bound (after_text (codes " ") bytes) (decimal_at 65536) n first in
    let (text, less) = number_takes 65536 front n.0 n.1 (omega arith) number in
    let (others, counted, within) = numbers_takes count n.1 ms.0 ms.1 third in
    let whole : bytes ≡ numbers_text (n.0 ∷ ms.0) ++ rest =
    after_takes (codes " ") bytes front blank ∙
    ap (λ b. 32 ∷ b) (text ∙ ap (λ b. decimal n.0 ++ b) (others ∙ ap (λ r. numbers_text ms.0 ++ r) left) ∙ sym (append_assoc (decimal n.0) (numbers_text ms.0) rest)) in
    subst (λ xs. (bytes ≡ numbers_text xs ++ rest) × (length xs ≡ suc count) × AreNumbersWithin xs) all (whole, omega (arith, counted), (less, within))
  where
    put_number : ℕ → List ℕ × List ℕ → Read (List ℕ)
    put_number n xs = Some (n ∷ xs.0, xs.1)

    then_numbers : ℕ × List ℕ → Read (List ℕ)
    then_numbers n = numbers_at count n.1 >>= put_number n.0
