-- Scopes: what a declaration changes, and how much room there is.
use Rattle.std.proofs.Common.{◌≡◌, ℕ, zero, suc, ◌+◌, ◌≤◌, ◌<◌, List, [], ◌∷◌, ◌++◌, length, refl, sym, ap, ◌∙◌, subst, Option, Some, None, slice_get, arith, length-append, ◌⊎◌, inl, inr}
use Rattle.chord_base.specs.declared.static_type.StaticType.{StaticType}
use Rattle.chord_tree.specs.declared.names.ValueType.{ValueType}
use Rattle.chord_classes.specs.Table.{Shape}
use Rattle.chord_classes.specs.Types.{type_known}
use Rattle.chord_bodies.specs.Types.{Scope, Keeps, Extends, declared}
use Rattle.chord_classes.proofs.Facts.{none_some, same_some}
use Rattle.chord_classes.proofs.Lists.{get_left}

-- a slot keeps its own type
keeps_itself : (x : Option StaticType) → Keeps x x
keeps_itself None = tt
keeps_itself (Some t) = refl

-- keeping the type of a slot is transitive
keeps_on : (x y z : Option StaticType) → Keeps x y → Keeps y z → Keeps x z
keeps_on x y None h k = tt
keeps_on x y (Some t) h k = subst (Keeps x) k h

-- a scope extends itself
pub extends_itself : (g : Scope) → Extends g g
extends_itself [] = tt
extends_itself (x ∷ xs) = (keeps_itself x, extends_itself xs)

-- extending is transitive
pub extends_on : (f g h : Scope) → Extends f g → Extends g h → Extends f h
extends_on [] [] [] a b = tt
extends_on (x ∷ xs) (y ∷ ys) (z ∷ zs) a b = (keeps_on x y z a.0 b.0, extends_on xs ys zs a.1 b.1)
extends_on [] [] (z ∷ zs) a b = absurd b
extends_on [] (y ∷ ys) h a b = absurd a
extends_on (x ∷ xs) [] h a b = absurd a
extends_on (x ∷ xs) (y ∷ ys) [] a b = absurd b

-- a slot that is declared anew has the type that it had
pub declared_same : (i : ℕ) (t : StaticType) (g : Scope) → slice_get g i ≡ Some (Some t) → declared i t g ≡ g
declared_same i t [] h = refl
declared_same zero t (x ∷ xs) h = ap (λ z. z ∷ xs) (sym (same_some h))
declared_same (suc i) t (x ∷ xs) h = ap (λ z. x ∷ z) (declared_same i t xs h)

-- a declaration keeps the number of slots
pub declared_length : (i : ℕ) (t : StaticType) (g : Scope) → length (declared i t g) ≡ length g
declared_length i t [] = refl
declared_length zero t (x ∷ xs) = refl
declared_length (suc i) t (x ∷ xs) = ap suc (declared_length i t xs)

-- a declared slot is in scope
pub declared_there : (i : ℕ) (t : StaticType) (g : Scope) (x : Option StaticType) → slice_get g i ≡ Some x → slice_get (declared i t g) i ≡ Some (Some t)
declared_there i t [] x h = absurd (none_some h)
declared_there zero t (y ∷ ys) x h = refl
declared_there (suc i) t (y ∷ ys) x h = declared_there i t ys x h

-- where slot i was free, what is in scope stays
pub declared_keeps : (i : ℕ) (t : StaticType) (g : Scope) (j : ℕ) (a : StaticType) → slice_get g i ≡ Some None → slice_get g j ≡ Some (Some a) → slice_get (declared i t g) j ≡ Some (Some a)
declared_keeps i t [] j a h k = k
declared_keeps zero t (x ∷ xs) zero a h k = absurd (none_some (same_some (sym h ∙ k)))
declared_keeps zero t (x ∷ xs) (suc j) a h k = k
declared_keeps (suc i) t (x ∷ xs) zero a h k = k
declared_keeps (suc i) t (x ∷ xs) (suc j) a h k = declared_keeps i t xs j a h k

-- a declaration keeps the slots behind it
pub declared_past : (i : ℕ) (t : StaticType) (g : Scope) (j : ℕ) → i < j → slice_get (declared i t g) j ≡ slice_get g j
declared_past i t [] j h = refl
declared_past zero t (x ∷ xs) zero h = absurd (none_below h)
  where
    none_below : 0 < 0 → ⊥
    none_below h = omega arith
declared_past zero t (x ∷ xs) (suc j) h = refl
declared_past (suc i) t (x ∷ xs) zero h = refl
declared_past (suc i) t (x ∷ xs) (suc j) h = let k : i < j = omega (arith, h) in declared_past i t xs j k

-- a declaration of a free slot extends the scope
pub declared_extends : (i : ℕ) (t : StaticType) (g : Scope) → slice_get g i ≡ Some None → Extends (declared i t g) g
declared_extends i t [] h = tt
declared_extends zero t (None ∷ xs) h = (tt, extends_itself xs)
declared_extends zero t (Some a ∷ xs) h = absurd (none_some (same_some (sym h)))
declared_extends (suc i) t (x ∷ xs) h = (keeps_itself x, declared_extends i t xs h)

-- what is in scope after a declaration was declared, or was in scope before
pub declared_back : (i : ℕ) (t : StaticType) (g : Scope) (j : ℕ) (a : StaticType) → slice_get (declared i t g) j ≡ Some (Some a) → ((j ≡ i) × (t ≡ a)) ⊎ (slice_get g j ≡ Some (Some a))
declared_back i t [] j a h = inr h
declared_back zero t (x ∷ xs) zero a h = inl (refl, same_some (same_some h))
declared_back zero t (x ∷ xs) (suc j) a h = inr h
declared_back (suc i) t (x ∷ xs) zero a h = inr h
declared_back (suc i) t (x ∷ xs) (suc j) a h = elim (declared_back i t xs j a h) [ inl b ↦ inl (ap suc b.0, b.1) | inr b ↦ inr b ]

-- There is a slot for each of these locals from the next one on, which has its type, and none of these is in scope. What is in scope has the type of its slot.
pub record HasRoom (table : List Shape) (types scope : Scope) (next : ℕ) (locals : List ValueType) : Type 0 where
  pub fits : next + length locals ≤ length scope
  pub free : (i : ℕ) → next ≤ i → i < length scope → slice_get scope i ≡ Some None
  pub typed : (j : ℕ) (written : ValueType) → slice_get locals j ≡ Some written → slice_get types (next + j) ≡ Some (Some (type_known table written))
  pub agrees : (i : ℕ) (t : StaticType) → slice_get scope i ≡ Some (Some t) → slice_get types i ≡ Some (Some t)

-- an element of the second of two lists joined stands behind as many more as the first has
get_second : {X : Type 0} (xs ys : List X) (j : ℕ) (x : X) → slice_get ys j ≡ Some x → slice_get (xs ++ ys) (length xs + j) ≡ Some x
get_second [] ys j x h = let same : 0 + j ≡ j = omega arith in ap (slice_get ys) same ∙ h
get_second (a ∷ xs) ys j x h = let same : suc (length xs) + j ≡ suc (length xs + j) = omega arith in ap (slice_get (a ∷ (xs ++ ys))) same ∙ get_second xs ys j x h

-- there is room for the first of two lists of locals
pub room_first : (table : List Shape) (types scope : Scope) (next : ℕ) (xs ys : List ValueType) → HasRoom table types scope next (xs ++ ys) → HasRoom table types scope next xs
room_first table types scope next xs ys r =
    let both = length-append xs ys in
    let all : next + length (xs ++ ys) ≤ length scope = r.fits in
    record { fits = omega (arith, both, all); free = r.free; typed = λ j w h. r.typed j w (get_left xs ys j w h); agrees = r.agrees }

-- there is room for the second behind the first
pub room_rest : (table : List Shape) (types scope : Scope) (next : ℕ) (xs ys : List ValueType) → HasRoom table types scope next (xs ++ ys) → HasRoom table types scope (next + length xs) ys
room_rest table types scope next xs ys r =
    let both = length-append xs ys in
    let all : next + length (xs ++ ys) ≤ length scope = r.fits in
    record {
      fits = omega (arith, both, all);
      free = λ i above below. r.free i (let from : next + length xs ≤ i = above in omega (arith, from)) below;
      typed = λ j w h. let same : next + length xs + j ≡ next + (length xs + j) = omega arith in ap (slice_get types) same ∙ r.typed (length xs + j) w (get_second xs ys j w h);
      agrees = r.agrees;
    }

-- the next slot is free
pub room_here : (table : List Shape) (types scope : Scope) (next : ℕ) (written : ValueType) (rest : List ValueType) → HasRoom table types scope next (written ∷ rest) → slice_get scope next ≡ Some None
room_here table types scope next written rest r = let all : next + suc (length rest) ≤ length scope = r.fits in r.free next (omega arith) (omega (arith, all))

-- the next slot has the type of the next local
pub room_typed : (table : List Shape) (types scope : Scope) (next : ℕ) (written : ValueType) (rest : List ValueType) → HasRoom table types scope next (written ∷ rest) → slice_get types next ≡ Some (Some (type_known table written))
room_typed table types scope next written rest r = let same : next ≡ next + 0 = omega arith in ap (slice_get types) same ∙ r.typed 0 written refl

-- there is room behind a declaration
pub room_after : (table : List Shape) (types scope : Scope) (next : ℕ) (written : ValueType) (rest : List ValueType) → HasRoom table types scope next (written ∷ rest) → HasRoom table types (declared next (type_known table written) scope) (next + 1) rest
room_after table types scope next written rest r =
    let t = type_known table written in
    let same = declared_length next t scope in
    let all : next + suc (length rest) ≤ length scope = r.fits in
    record {
      fits = omega (arith, same, all);
      free = λ i above below.
          let past : next < i = omega (arith, above) in
          declared_past next t scope i past ∙ r.free i (omega (arith, past)) (let within : i < length (declared next t scope) = below in omega (arith, within, same));
      typed = λ j w h. let moved : next + 1 + j ≡ next + suc j = omega arith in ap (slice_get types) moved ∙ r.typed (suc j) w h;
      agrees = λ i a h. elim (declared_back next t scope i a h) [ inl b ↦ ap (slice_get types) b.0 ∙ room_typed table types scope next written rest r ∙ ap (λ (z : StaticType). Some (Some z)) b.1 | inr b ↦ r.agrees i a b ];
    }
