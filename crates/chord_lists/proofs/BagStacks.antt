-- The stacks of the bag: what changes where a list is added, or one is set.
use Rattle.std.proofs.Common.{◌≡◌, ℕ, zero, suc, ◌+◌, ◌<◌, ◌≤◌, true, false, ◌==◌, ◌&&◌, List, [], ◌∷◌, ◌++◌, length, reverse, get_or, set, Some, refl, sym, ap, ◌∙◌, subst, arith, inl, inr, if◌then◌else◌}
use Rattle.std.specs.Prelude.{slice_get}
use Rattle.std.specs.Global.{Vec}
use Rattle.std.proofs.lemmas.Bool.{eq-eqb, eqb-true, eqb-false, ne_eqb}
use Rattle.std.proofs.lemmas.List.{length-reverse, reverse-append}
use Rattle.std.proofs.lemmas.Option.{get_or_from_slice_get}
use Rattle.chord_base.proofs.Waits.{either}
use Rattle.chord_lists.specs.declared.bag.ClassStacks.{ClassStacks}
use Rattle.chord_lists.specs.Bag.{items_at, stacked_at, numbers_in, LacksBefore, IsFirstOf, AddsClass}

-- one more empty list adds no items
pub items_more : {A : Type 0} (vs : List (Vec A)) (v : Vec A) (i : ℕ) → v.items ≡ [] → items_at (vs ++ v ∷ []) i ≡ items_at vs i
items_more [] v zero e = e
items_more [] v (suc i) e = refl
items_more (w ∷ vs) v zero e = refl
items_more (w ∷ vs) v (suc i) e = items_more vs v i e

-- the list that was set has its items
items_same : {A : Type 0} (vs : List (Vec A)) (v : Vec A) (i : ℕ) → i < length vs → items_at (set vs i v) i ≡ v.items
items_same [] v i l = absurd (omega (arith, l))
items_same (w ∷ vs) v zero l = refl
items_same (w ∷ vs) v (suc i) l = items_same vs v i (omega (arith, l))

-- and the others have theirs
items_other : {A : Type 0} (vs : List (Vec A)) (v : Vec A) (i k : ℕ) → (i ≡ k → ⊥) → items_at (set vs i v) k ≡ items_at vs k
items_other [] v i k d = refl
items_other (w ∷ vs) v zero zero d = absurd (d refl)
items_other (w ∷ vs) v zero (suc k) d = refl
items_other (w ∷ vs) v (suc i) zero d = refl
items_other (w ∷ vs) v (suc i) (suc k) d = items_other vs v i k (λ e. d (ap suc e))

-- what the lists have after one was set
pub items_set : {A : Type 0} (vs : List (Vec A)) (v : Vec A) (i k : ℕ) → i < length vs → items_at (set vs i v) k ≡ (if i == k then v.items else items_at vs k)
items_set vs v i k l =
    elim (either (i == k)) [
      | inl q ↦ rw q (ap (items_at (set vs i v)) (sym (eqb-true i k q)) ∙ items_same vs v i l)
      | inr q ↦ rw q (items_other vs v i k (eqb-false i k q))
    ]

-- the items of a list that is there
pub items_there : {A : Type 0} (vs : List (Vec A)) (d : Vec A) (i : ℕ) → i < length vs → (get_or vs i d).items ≡ items_at vs i
items_there [] d i l = absurd (omega (arith, l))
items_there (w ∷ vs) d zero l = refl
items_there (w ∷ vs) d (suc i) l = items_there vs d i (omega (arith, l))

-- a list past the end has no items
pub items_past : {A : Type 0} (vs : List (Vec A)) (i : ℕ) → length vs ≤ i → items_at vs i ≡ []
items_past [] i l = refl
items_past (w ∷ vs) zero l = absurd (omega (arith, l))
items_past (w ∷ vs) (suc i) l = items_past vs i (omega (arith, l))

-- the items of a list that was looked up
pub items_of : {A : Type 0} (vs : List (Vec A)) (v : Vec A) (i : ℕ) → i < length vs → v ≡ get_or vs i v → v.items ≡ items_at vs i
items_of {A} vs v i l e = ap (λ (z : Vec A). z.items) e ∙ items_there vs v i l

-- a list with items is there
pub items_within : {A : Type 0} (vs : List (Vec A)) (i : ℕ) → (items_at vs i ≡ [] → ⊥) → i < length vs
items_within [] i some = absurd (some refl)
items_within (w ∷ vs) zero some = omega arith
items_within (w ∷ vs) (suc i) some = let l = items_within vs i some in omega (arith, l)

-- stacks that are before no others are not those of the class
lacks_head : (c : ℕ) (x : ClassStacks) (xs : List ClassStacks) (i : ℕ) → LacksBefore c (x ∷ xs) (suc i) → (x.class == c) ≡ false
lacks_head c x xs i lacks = elim (either (x.class == c)) [ inl y ↦ absurd (lacks 0 x (omega arith) refl (eqb-true x.class c y)) | inr o ↦ o ]

-- nor are those behind them
lacks_tail : (c : ℕ) (x : ClassStacks) (xs : List ClassStacks) (i : ℕ) → LacksBefore c (x ∷ xs) (suc i) → LacksBefore c xs i
lacks_tail c x xs i lacks = λ k y l e. lacks (suc k) y (omega (arith, l)) e

-- nor are these of it
pub lacks_next : (c : ℕ) (xs : List ClassStacks) (i : ℕ) (x : ClassStacks) → LacksBefore c xs i → slice_get xs i ≡ Some x → (x.class ≡ c → ⊥) → LacksBefore c xs (i + 1)
lacks_next c xs i x lacks e d = λ k y l f of_class.
    elim (either (k == i)) [
      | inl same ↦ (let z : Some y ≡ Some x = sym f ∙ ap (slice_get xs) (eqb-true k i same) ∙ e in let w : y ≡ x = cc in d (ap (λ (s : ClassStacks). s.class) (sym w) ∙ of_class))
      | inr other ↦ (let n = eqb-false k i other in lacks k y (omega (arith, l, n)) f of_class)
    ]

-- the numbers of a class are those of its first stacks
pub first_numbers : (c : ℕ) (xs : List ClassStacks) (i : ℕ) (x : ClassStacks) → slice_get xs i ≡ Some x → x.class ≡ c → LacksBefore c xs i → (j : ℕ) → numbers_in xs c j ≡ stacked_at x.stacks.items j
first_numbers c [] i x e of_class lacks j = cc
first_numbers c (y ∷ xs) zero x e of_class lacks j =
    let same : y ≡ x = cc in
    let here : (y.class == c) ≡ true = eq-eqb y.class c (ap (λ (s : ClassStacks). s.class) same ∙ of_class) in
    rw here (ap (λ (s : ClassStacks). stacked_at s.stacks.items j) same)
first_numbers c (y ∷ xs) (suc i) x e of_class lacks j = rw (lacks_head c y xs i lacks) (first_numbers c xs i x e of_class (lacks_tail c y xs i lacks) j)

-- a class without stacks has no numbers
pub none_numbers : (c : ℕ) (xs : List ClassStacks) → LacksBefore c xs (length xs) → (j : ℕ) → numbers_in xs c j ≡ []
none_numbers c [] lacks j = refl
none_numbers c (x ∷ xs) lacks j = rw (lacks_head c x xs (length xs) lacks) (none_numbers c xs (lacks_tail c x xs (length xs) lacks) j)

-- a class of other stacks is another one
other_class : (c : ℕ) (z : ClassStacks) (d : ℕ) → (z.class == c) ≡ false → (z.class == d) ≡ true → (c == d) ≡ false
other_class c z d head q = ap (λ n. c == n) (sym (eqb-true z.class d q)) ∙ ne_eqb c z.class (λ s. eqb-false z.class c head (sym s))

-- the first stacks of a class were set
pub set_numbers : (c : ℕ) (xs : List ClassStacks) (i : ℕ) (x y : ClassStacks) → slice_get xs i ≡ Some x → x.class ≡ c → y.class ≡ c → LacksBefore c xs i → (d j : ℕ) → numbers_in (set xs i y) d j ≡ (if c == d then stacked_at y.stacks.items j else numbers_in xs d j)
set_numbers c [] i x y e old new lacks d j = cc
set_numbers c (z ∷ xs) zero x y e old new lacks d j =
    let same : z ≡ x = cc in
    let of_class : z.class ≡ c = ap (λ (s : ClassStacks). s.class) same ∙ old in
    elim (either (c == d)) [
      | inl q ↦ (let r : (y.class == d) ≡ true = ap (λ n. n == d) new ∙ q in rw (q, r) refl)
      | inr q ↦
          (let r : (y.class == d) ≡ false = ap (λ n. n == d) new ∙ q in
          let s : (z.class == d) ≡ false = ap (λ n. n == d) of_class ∙ q in
          rw (q, r, s) refl)
    ]
set_numbers c (z ∷ xs) (suc i) x y e old new lacks d j =
    let rest = set_numbers c xs i x y e old new (lacks_tail c z xs i lacks) d j in
    let head = lacks_head c z xs i lacks in
    elim (either (z.class == d)) [
      | inl q ↦ rw (q, other_class c z d head q) refl
      | inr q ↦ rw q rest
    ]

-- stacks of a new class were added
pub more_numbers : (c : ℕ) (xs : List ClassStacks) (y : ClassStacks) → y.class ≡ c → LacksBefore c xs (length xs) → (d j : ℕ) → numbers_in (xs ++ y ∷ []) d j ≡ (if c == d then stacked_at y.stacks.items j else numbers_in xs d j)
more_numbers c [] y new lacks d j =
    elim (either (c == d)) [
      | inl q ↦ (let r : (y.class == d) ≡ true = ap (λ n. n == d) new ∙ q in rw (q, r) refl)
      | inr q ↦ (let r : (y.class == d) ≡ false = ap (λ n. n == d) new ∙ q in rw (q, r) refl)
    ]
more_numbers c (z ∷ xs) y new lacks d j =
    let rest = more_numbers c xs y new (lacks_tail c z xs (length xs) lacks) d j in
    let head = lacks_head c z xs (length xs) lacks in
    elim (either (z.class == d)) [
      | inl q ↦ rw (q, other_class c z d head q) refl
      | inr q ↦ rw q rest
    ]

-- ---- numbers come

-- the stack of a method got a number
pub pushed_on : (old lists : List (Vec ℕ)) (r w : Vec ℕ) (m n : ℕ) → m < length lists → ((i : ℕ) → items_at lists i ≡ items_at old i) → r ≡ get_or lists m r → w.items ≡ r.items ++ n ∷ [] → (j : ℕ) → stacked_at (set lists m w) j ≡ (if m == j then n ∷ stacked_at old j else stacked_at old j)
pushed_on old lists r w m n l same value items j =
    let there : r.items ≡ items_at old m = items_of lists r m l value ∙ same m in
    ap reverse (items_set lists w m j l)
    ∙ elim (either (m == j)) [
      | inl q ↦ (let last = ap reverse items ∙ reverse-append r.items (n ∷ []) ∙ ap (λ z. n ∷ reverse z) (there ∙ ap (items_at old) (eqb-true m j q)) in rw q last)
      | inr q ↦ rw q (ap reverse (same j))
    ]

-- the stacks that are first of their class
pub first_stacks : (c : ℕ) (xs : List ClassStacks) (i : ℕ) (f : IsFirstOf c xs i) (r : ClassStacks) → r ≡ get_or xs i r → r ≡ f.stacks
first_stacks c xs i f r e = e ∙ get_or_from_slice_get xs i f.stacks r f.is

-- they are of that class
first_class : (c : ℕ) (xs : List ClassStacks) (i : ℕ) (f : IsFirstOf c xs i) (r : ClassStacks) → r ≡ get_or xs i r → r.class ≡ c
first_class c xs i f r e = ap (λ (z : ClassStacks). z.class) (first_stacks c xs i f r e) ∙ f.of_class

-- and have its numbers
pub numbers_first : (c : ℕ) (xs : List ClassStacks) (i : ℕ) (f : IsFirstOf c xs i) (r : ClassStacks) → r ≡ get_or xs i r → (j : ℕ) → numbers_in xs c j ≡ stacked_at r.stacks.items j
numbers_first c xs i f r e j = first_numbers c xs i f.stacks f.is f.of_class f.lacks j ∙ ap (λ (z : ClassStacks). stacked_at z.stacks.items j) (sym (first_stacks c xs i f r e))

-- the numbers of a class after its first stacks were set
numbers_of_set : (c : ℕ) (xs : List ClassStacks) (i : ℕ) (f : IsFirstOf c xs i) (r : ClassStacks) (new : Vec (Vec ℕ)) → r ≡ get_or xs i r → (d j : ℕ) → numbers_in (set xs i (record { class = r.class; stacks = new })) d j ≡ (if c == d then stacked_at new.items j else numbers_in xs d j)
numbers_of_set c xs i f r new e d j = set_numbers c xs i f.stacks (record { class = r.class; stacks = new }) f.is f.of_class (first_class c xs i f r e) f.lacks d j

-- a class that has stacks got a number
pub noted_first : (c : ℕ) (xs : List ClassStacks) (i : ℕ) (f : IsFirstOf c xs i) (r : ClassStacks) (new : Vec (Vec ℕ)) (m n : ℕ) → r ≡ get_or xs i r → ((j : ℕ) → stacked_at new.items j ≡ (if m == j then n ∷ stacked_at r.stacks.items j else stacked_at r.stacks.items j)) → (d j : ℕ) → numbers_in (set xs i (record { class = r.class; stacks = new })) d j ≡ (if (c == d) && (m == j) then n ∷ numbers_in xs d j else numbers_in xs d j)
noted_first c xs i f r new m n e p d j =
    numbers_of_set c xs i f r new e d j
    ∙ elim (either (c == d)) [
      | inl q ↦
          (let old : stacked_at r.stacks.items j ≡ numbers_in xs d j = sym (numbers_first c xs i f r e j) ∙ ap (λ k. numbers_in xs k j) (eqb-true c d q) in
          rw q (p j ∙ ap (λ (z : List ℕ). if m == j then n ∷ z else z) old))
      | inr q ↦ rw q refl
    ]

-- a class that had no stacks got a number
pub noted_new : (c : ℕ) (xs : List ClassStacks) (none new : Vec (Vec ℕ)) (m n : ℕ) → none.items ≡ [] → LacksBefore c xs (length xs) → ((j : ℕ) → stacked_at new.items j ≡ (if m == j then n ∷ stacked_at none.items j else stacked_at none.items j)) → (d j : ℕ) → numbers_in (xs ++ record { class = c; stacks = new } ∷ []) d j ≡ (if (c == d) && (m == j) then n ∷ numbers_in xs d j else numbers_in xs d j)
noted_new c xs none new m n empty lacks p d j =
    more_numbers c xs (record { class = c; stacks = new }) refl lacks d j
    ∙ elim (either (c == d)) [
      | inl q ↦
          (let old : stacked_at none.items j ≡ numbers_in xs d j = ap (λ (z : List (Vec ℕ)). stacked_at z j) empty ∙ sym (none_numbers c xs lacks j) ∙ ap (λ k. numbers_in xs k j) (eqb-true c d q) in
          rw q (p j ∙ ap (λ (z : List ℕ). if m == j then n ∷ z else z) old))
      | inr q ↦ rw q refl
    ]

-- an object got a number
pub object_noted : (old lists : List (Vec ClassStacks)) (r w : Vec ClassStacks) (o c m n : ℕ) → o < length lists → ((i : ℕ) → items_at lists i ≡ items_at old i) → r ≡ get_or lists o r → ((d j : ℕ) → numbers_in w.items d j ≡ (if (c == d) && (m == j) then n ∷ numbers_in r.items d j else numbers_in r.items d j)) → (b d j : ℕ) → numbers_in (items_at (set lists o w) b) d j ≡ (if (o == b) && ((c == d) && (m == j)) then n ∷ numbers_in (items_at old b) d j else numbers_in (items_at old b) d j)
object_noted old lists r w o c m n l same value p b d j =
    ap (λ z. numbers_in z d j) (items_set lists w o b l)
    ∙ elim (either (o == b)) [
      | inl q ↦
          (let there : r.items ≡ items_at old b = items_of lists r o l value ∙ same o ∙ ap (items_at old) (eqb-true o b q) in
          rw q (p d j ∙ ap (λ (z : List ClassStacks). if (c == d) && (m == j) then n ∷ numbers_in z d j else numbers_in z d j) there))
      | inr q ↦ rw q (ap (λ z. numbers_in z d j) (same b))
    ]

-- an object has as many stacks as before where some were of the class, and one more where none were
pub object_classes : (old lists : List (Vec ClassStacks)) (r w : Vec ClassStacks) (o c : ℕ) → o < length lists → ((i : ℕ) → items_at lists i ≡ items_at old i) → r ≡ get_or lists o r → AddsClass c r.items w.items → AddsClass c (items_at old o) (items_at (set lists o w) o)
object_classes old lists r w o c l same value adds =
    let there : r.items ≡ items_at old o = items_of lists r o l value ∙ same o in
    let this : (o == o) ≡ true = eq-eqb o o refl in
    let after : items_at (set lists o w) o ≡ w.items = items_set lists w o o l ∙ rw this refl in
    subst (λ (z : List ClassStacks). AddsClass c z (items_at (set lists o w) o)) there (subst (λ (z : List ClassStacks). AddsClass c r.items z) (sym after) adds)

-- ---- numbers go

-- the numbers on a stack that is not empty are there
pub numbers_within : (vs : List (Vec ℕ)) (m n : ℕ) (ns : List ℕ) → stacked_at vs m ≡ n ∷ ns → m < length vs
numbers_within vs m n ns e = items_within vs m (λ none. let z : [] ≡ n ∷ ns = sym (ap reverse none) ∙ e in cc)

-- and so are the stacks of an object that has a message
pub stacks_within : (vs : List (Vec ClassStacks)) (o c m n : ℕ) (ns : List ℕ) → numbers_in (items_at vs o) c m ≡ n ∷ ns → o < length vs
stacks_within vs o c m n ns e = items_within vs o (λ none. let z : [] ≡ n ∷ ns = sym (ap (λ z. numbers_in z c m) none) ∙ e in cc)

-- a stack with numbers is not empty
pub not_empty : (vs : List (Vec ℕ)) (r : Vec ℕ) (m n : ℕ) (ns : List ℕ) → r ≡ get_or vs m r → stacked_at vs m ≡ n ∷ ns → length r.items ≡ 0 → ⊥
not_empty vs r m n ns value e none =
    let there = items_of vs r m (numbers_within vs m n ns e) value in
    let z : length r.items ≡ suc (length ns) = sym (length-reverse r.items) ∙ ap length (ap reverse there ∙ e) in
    omega (arith, z, none)

-- the stack from which the top went
pub popped_here : (vs : List (Vec ℕ)) (r w : Vec ℕ) (m n : ℕ) → m < length vs → r ≡ get_or vs m r → r.items ≡ w.items ++ n ∷ [] → stacked_at vs m ≡ n ∷ stacked_at (set vs m w) m
popped_here vs r w m n l value items =
    let same : (m == m) ≡ true = eq-eqb m m refl in
    let after : items_at (set vs m w) m ≡ w.items = items_set vs w m m l ∙ rw same refl in
    ap reverse (sym (items_of vs r m l value) ∙ items) ∙ reverse-append w.items (n ∷ []) ∙ ap (λ z. n ∷ reverse z) (sym after)

-- and the other stacks
pub popped_others : (vs : List (Vec ℕ)) (w : Vec ℕ) (m j : ℕ) → m < length vs → (m == j) ≡ false → stacked_at (set vs m w) j ≡ stacked_at vs j
popped_others vs w m j l q = let after : items_at (set vs m w) j ≡ items_at vs j = items_set vs w m j l ∙ rw q refl in ap reverse after

-- the class from whose stack the top went
pub taken_here : (c : ℕ) (xs : List ClassStacks) (i : ℕ) (f : IsFirstOf c xs i) (r : ClassStacks) (new : Vec (Vec ℕ)) (m n : ℕ) → r ≡ get_or xs i r → stacked_at r.stacks.items m ≡ n ∷ stacked_at new.items m → numbers_in xs c m ≡ n ∷ numbers_in (set xs i (record { class = r.class; stacks = new })) c m
taken_here c xs i f r new m n e p =
    let same : (c == c) ≡ true = eq-eqb c c refl in
    let after : numbers_in (set xs i (record { class = r.class; stacks = new })) c m ≡ stacked_at new.items m = numbers_of_set c xs i f r new e c m ∙ rw same refl in
    numbers_first c xs i f r e m ∙ p ∙ ap (λ z. n ∷ z) (sym after)

-- and what is beside that stack
pub taken_others : (c : ℕ) (xs : List ClassStacks) (i : ℕ) (f : IsFirstOf c xs i) (r : ClassStacks) (new : Vec (Vec ℕ)) (m : ℕ) → r ≡ get_or xs i r → ((j : ℕ) → (m == j) ≡ false → stacked_at new.items j ≡ stacked_at r.stacks.items j) → (d j : ℕ) → ((c == d) && (m == j)) ≡ false → numbers_in (set xs i (record { class = r.class; stacks = new })) d j ≡ numbers_in xs d j
taken_others c xs i f r new m e p d j h =
    numbers_of_set c xs i f r new e d j
    ∙ elim (either (c == d)) [
      | inl q ↦ rw q (p j (rw q at h) ∙ sym (numbers_first c xs i f r e j) ∙ ap (λ k. numbers_in xs k j) (eqb-true c d q))
      | inr q ↦ rw q refl
    ]

-- the object from whose stack the top went
pub went_here : (vs : List (Vec ClassStacks)) (r w : Vec ClassStacks) (o c m n : ℕ) → o < length vs → r ≡ get_or vs o r → numbers_in r.items c m ≡ n ∷ numbers_in w.items c m → numbers_in (items_at vs o) c m ≡ n ∷ numbers_in (items_at (set vs o w) o) c m
went_here vs r w o c m n l value p =
    let same : (o == o) ≡ true = eq-eqb o o refl in
    let after : items_at (set vs o w) o ≡ w.items = items_set vs w o o l ∙ rw same refl in
    ap (λ z. numbers_in z c m) (sym (items_of vs r o l value)) ∙ p ∙ ap (λ z. n ∷ numbers_in z c m) (sym after)

-- and what is beside that stack
pub went_others : (vs : List (Vec ClassStacks)) (r w : Vec ClassStacks) (o c m : ℕ) → o < length vs → r ≡ get_or vs o r → ((d j : ℕ) → ((c == d) && (m == j)) ≡ false → numbers_in w.items d j ≡ numbers_in r.items d j) → (b d j : ℕ) → ((o == b) && ((c == d) && (m == j))) ≡ false → numbers_in (items_at (set vs o w) b) d j ≡ numbers_in (items_at vs b) d j
went_others vs r w o c m l value p b d j h =
    ap (λ z. numbers_in z d j) (items_set vs w o b l)
    ∙ elim (either (o == b)) [
      | inl q ↦ rw q (p d j (rw q at h) ∙ ap (λ z. numbers_in z d j) (items_of vs r o l value ∙ ap (items_at vs) (eqb-true o b q)))
      | inr q ↦ rw q refl
    ]
