-- Look-ups in the table in memory.
use Rattle.std.proofs.Common.{◌≡◌, ℕ, suc, ◌+◌, ◌<◌, List, [], ◌∷◌, ◌++◌, map, length, Bool, true, false, cond, refl, sym, ap, subst, ◌∙◌, Option, Some, None, slice_get, get_or, arith, nat_eq, nat_lt, bytes_eq, length-append}
use Rattle.std.specs.Prelude.{option_map}
use Rattle.std.proofs.lemmas.Bool.{ltb-true, ltb-false, eqb-true, eq-eqb}
use Rattle.std.proofs.lemmas.Option.{slice_get_read, slice_get_past}
use Rattle.chord_classes.specs.Table.{Method, Found, Shape, class_from, class_named, method_from, method_named, methods_at, methods_in, inherited}
use Rattle.chord_classes.specs.NameRules.{builder_at}
use Rattle.chord_classes.specs.declared.method.OwnMethod.{OwnMethod}
use Rattle.chord_classes.specs.declared.entry.Entry.{Entry}
use Rattle.chord_classes.specs.NamePlaces.{name_place_from, name_place}
use Rattle.chord_classes.specs.MethodViews.{see_method, see_own}
use Rattle.chord_classes.specs.Entries.{IsEntry, AreEntries}
use Rattle.chord_classes.specs.Owned.{shift}
use Rattle.chord_classes.proofs.Facts.{same_some}
use Rattle.chord_classes.proofs.Search.{map_length}

-- Classes by name.

-- the names of classes
abbrev shape_names : List Shape → List (List ℕ)
shape_names shapes = map (λ (shape : Shape). shape.name) shapes

-- the first place of a name among the names of classes is the first class of that name
class_place : (n : ℕ) (shapes : List Shape) (x : List ℕ) → name_place_from n (shape_names shapes) x ≡ class_from n shapes x
class_place n [] x = refl
class_place n (s ∷ ss) x = ap (cond (bytes_eq s.name x) (Some n)) (class_place (n + 1) ss x)

-- the first class of a name is at the name's first place
pub class_found : {shapes : List Shape} {entries : List Entry} {names : List (List ℕ)} → AreEntries shapes entries names → (x : List ℕ) → name_place names x ≡ class_named shapes x
class_found {shapes} e x = ap (λ z. name_place z x) e.named ∙ class_place 0 shapes x

-- a class that was found by its name is one of those that were looked at
class_within : (n : ℕ) (shapes : List Shape) (x : List ℕ) (p : ℕ) → class_from n shapes x ≡ Some p → p < n + length shapes
class_within n [] x p h = cc
class_within n (s ∷ ss) x p h = by_same (bytes_eq s.name x) h (λ e. class_within (n + 1) ss x p e)
  where
    by_same : (b : Bool) → cond b (Some n) (class_from (n + 1) ss x) ≡ Some p → (class_from (n + 1) ss x ≡ Some p → p < n + 1 + length ss) → p < n + suc (length ss)
    by_same true e more = let same : n ≡ p = same_some e in omega (arith, same)
    by_same false e more = let less = more e in omega (arith, less)

-- the number of a class is less than the number of classes
pub class_below : (shapes : List Shape) (x : List ℕ) (p : ℕ) → class_named shapes x ≡ Some p → p < length shapes
class_below shapes x p h = let less = class_within 0 shapes x p h in omega (arith, less)

-- the number of a class fits
pub class_fits : {shapes : List Shape} {entries : List Entry} {names : List (List ℕ)} → AreEntries shapes entries names → (x : List ℕ) (p : ℕ) → name_place names x ≡ Some p → p < 4294967296
class_fits {shapes} e x p h = let less = class_below shapes x p (sym (class_found e x) ∙ h) in let count = e.count in let few = e.few in omega (arith, less, count, few)

-- Entries by number.

-- an entry that is there is that of its class
pub at_entry : {shapes : List Shape} {entries : List Entry} {names : List (List ℕ)} → AreEntries shapes entries names → (xs : List Entry) (i : ℕ) (e : Entry) → xs ≡ entries → true ≡ nat_lt i (length xs) → e ≡ get_or xs i e → IsEntry shapes i e
at_entry t xs i e h l g = t.all i e (subst (λ z. slice_get z i ≡ Some e) h (slice_get_read xs (length xs) i e refl (ltb-true i (length xs) (sym l)) g))

-- where no entry is there is no class
pub no_entry : {shapes : List Shape} {entries : List Entry} {names : List (List ℕ)} → AreEntries shapes entries names → (xs : List Entry) (i : ℕ) → xs ≡ entries → false ≡ nat_lt i (length xs) → slice_get shapes i ≡ None
no_entry {shapes = shapes} {entries = entries} t xs i h l = let e = ap length h in let f = t.count in let m = ltb-false i (length xs) (sym l) in slice_get_past shapes i (omega arith)

-- Deriving.

-- equality of numbers is the same either way
pub eq_turned : (m n : ℕ) → nat_eq m n ≡ nat_eq n m
eq_turned m n = by_same (nat_eq m n) (nat_eq n m) refl refl
  where
    by_same : (b d : Bool) → nat_eq m n ≡ b → nat_eq n m ≡ d → nat_eq m n ≡ nat_eq n m
    by_same true true e f = e ∙ sym f
    by_same false false e f = e ∙ sym f
    by_same true false e f = e ∙ sym (eq-eqb n m (sym (eqb-true m n e)))
    by_same false true e f = sym (f ∙ sym (eq-eqb m n (sym (eqb-true n m f))))

-- what is no class has no methods
pub no_methods : (shapes : List Shape) (c : ℕ) → slice_get shapes c ≡ None → methods_at shapes c ≡ []
no_methods shapes c h = ap methods_in h

-- what is no class has no constructor
pub no_builder : (shapes : List Shape) (c : ℕ) → slice_get shapes c ≡ None → None ≡ builder_at shapes c
no_builder shapes c h = rw h refl

-- Methods by name.

-- the first of two, if it is there
abbrev pub or_found : Option Found → Option Found → Option Found
or_found None others = others
or_found (Some found) others = Some found

-- where what was found behind a method is counted from 1 more on, so is what is chosen of the method and that
shifted_by : (b : Bool) (j : ℕ) (m : Method) (rest rest' : Option Found) → rest ≡ option_map (shift 1) rest'
    → cond b (Some (record { number = j + 1; method = m })) rest ≡ option_map (shift 1) (cond b (Some (record { number = j; method = m })) rest')
shifted_by true j m rest rest' h = ap (λ z. Some (record { number = z; method = m })) (omega arith)
shifted_by false j m rest rest' h = h

-- a method that is looked up from a number that is greater by 1 on is found with a number greater by 1
shifted : (j : ℕ) (ms : List Method) (x : List ℕ) → method_from (j + 1) ms x ≡ option_map (shift 1) (method_from j ms x)
shifted j [] x = refl
shifted j (m ∷ ms) x = shifted_by (bytes_eq m.name x) j m _ _ (shifted (j + 1) ms x)

-- to count from 0 on changes nothing
shift_none : (o : Option Found) → option_map (shift 0) o ≡ o
shift_none None = refl
shift_none (Some f) = ap (λ z. Some (record { number = z; method = f.method })) (omega arith)

-- to count from 1 on and then from k on is to count from k + 1 on
shift_more : (k : ℕ) (o : Option Found) → option_map (shift k) (option_map (shift 1) o) ≡ option_map (shift (suc k)) o
shift_more k None = refl
shift_more k (Some f) = ap (λ z. Some (record { number = z; method = f.method })) (omega arith)

-- where what was found behind a method is the first of two that is there, so is what is chosen of the method and that
append_by : (b : Bool) (f : Found) (all rest others others' : Option Found) → all ≡ or_found rest others → others ≡ others' → cond b (Some f) all ≡ or_found (cond b (Some f) rest) others'
append_by true f all rest others others' h e = refl
append_by false f all rest others others' h e = h ∙ ap (or_found rest) e

-- the first method of a name among two lists joined is that of the first, or else that of the second
append_from : (j : ℕ) (xs ys : List Method) (x : List ℕ) → method_from j (xs ++ ys) x ≡ or_found (method_from j xs x) (option_map (shift (length xs)) (method_from j ys x))
append_from j [] ys x = sym (shift_none (method_from j ys x))
append_from j (m ∷ ms) ys x =
    append_by (bytes_eq m.name x) (record { number = j; method = m }) _ _ _ _ (append_from (j + 1) ms ys x)
    (ap (option_map (shift (length ms))) (shifted j ys x) ∙ shift_more (length ms) (method_from j ys x))

-- the first method of a name among two lists joined
pub method_append : (xs ys : List Method) (x : List ℕ) → method_named (xs ++ ys) x ≡ or_found (method_named xs x) (option_map (shift (length xs)) (method_named ys x))
method_append xs ys x = append_from 0 xs ys x

-- a method that was found by its name is one of those that were looked at
number_within : (j : ℕ) (ms : List Method) (x : List ℕ) (f : Found) → method_from j ms x ≡ Some f → f.number < j + length ms
number_within j [] x f h = cc
number_within j (m ∷ ms) x f h = by_same (bytes_eq m.name x) h (λ e. number_within (j + 1) ms x f e)
  where
    by_same : (b : Bool) → cond b (Some (record { number = j; method = m })) (method_from (j + 1) ms x) ≡ Some f → (method_from (j + 1) ms x ≡ Some f → f.number < j + 1 + length ms) → f.number < j + suc (length ms)
    by_same true e more = let same : j ≡ f.number = ap (λ (z : Found). z.number) (same_some e) in omega (arith, same)
    by_same false e more = let less = more e in omega (arith, less)

-- a method that is not a class's own is looked up in its base
pub own_absent : {shapes : List Shape} {class : ℕ} {entry : Entry} → IsEntry shapes class entry → (x : List ℕ) → ◌≡◌ {A = Option Found} None (method_named (map see_method entry.own.all.items) x)
    → method_named (methods_at shapes class) x ≡ method_named (inherited shapes entry.base) x
own_absent {shapes} {class} {entry} e x h =
    let inherits = inherited shapes entry.base in
    ap (λ z. method_named z x) e.methods ∙ method_append inherits (map see_method entry.own.all.items) x
    ∙ ap (λ z. or_found (method_named inherits x) (option_map (shift (length inherits)) z)) (sym h) ∙ or_nothing (method_named inherits x)
  where
    or_nothing : (o : Option Found) → or_found o None ≡ o
    or_nothing None = refl
    or_nothing (Some f) = refl

-- the number of a method fits
pub own_fits : {shapes : List Shape} {class : ℕ} {entry : Entry} → IsEntry shapes class entry → (x : List ℕ) (own : OwnMethod) → ◌≡◌ {A = Option Found} (Some (see_own own)) (method_named (map see_method entry.own.all.items) x)
    → entry.first + own.place < 4294967296
own_fits {entry = entry} e x own h =
    let less = number_within 0 (map see_method entry.own.all.items) x (see_own own) (sym h) in
    let count = map_length see_method entry.own.all.items in
    let fits = e.fits in
    omega (arith, less, count, fits)

-- a class has its inherited methods and its own
pub methods_count : {shapes : List Shape} {class : ℕ} {entry : Entry} → IsEntry shapes class entry → entry.first + length entry.own.all.items ≡ length (methods_at shapes class)
methods_count {shapes} {class} {entry} e =
    let first = e.first in
    let own = map_length see_method entry.own.all.items in
    let both = length-append (inherited shapes entry.base) (map see_method entry.own.all.items) in
    omega (arith, first, own, both) ∙ ap length (sym e.methods)
