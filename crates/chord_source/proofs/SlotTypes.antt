-- What the slots of a body hold: values of the types that its scope tells.
use Rattle.std.proofs.Common.{◌≡◌, ℕ, zero, suc, ◌+◌, List, [], ◌∷◌, ◌++◌, true, Option, Some, None, refl, ◌∙◌, ap, subst, arith, length, map, slice_get}
use Rattle.std.proofs.lemmas.Option.{none-some, same_Some}
use Rattle.std.proofs.lemmas.Bool.{false≢true}
use Rattle.chord_base.specs.declared.value.Value.{Value}
use Rattle.chord_base.specs.declared.value.Value.TheVariants.{Unit as NoValue, Int, Flag, Text, Ref}
use Rattle.chord_base.specs.declared.static_type.StaticType.{StaticType}
use Rattle.chord_base.specs.declared.static_type.StaticType.TheVariants as ty
use Rattle.chord_code.specs.Slots.{with_first, set_slot, first_slots}
use Rattle.chord_bodies.specs.Types.{Signatures, fits, Has, HaveAll, Scope, Extends, declared}
use Rattle.chord_bodies.specs.Planned.{Inherits}

-- a value has the type that a scope tells of its slot, if it tells one
abbrev pub HasAny : Signatures → Option StaticType → Value → Type 0
HasAny sig None v = Unit {0}
HasAny sig (Some t) v = Has sig (Some t) v

-- slots are as many as those of the scope, and each holds a value of the type that is told of it
abbrev pub SlotsAre : Signatures → Scope → List Value → Type 0
SlotsAre sig [] [] = Unit {0}
SlotsAre sig (x ∷ g) (v ∷ vs) = HasAny sig x v × SlotsAre sig g vs
SlotsAre sig [] (v ∷ vs) = ⊥
SlotsAre sig (x ∷ g) [] = ⊥

module _ (sig : Signatures) (law : Inherits sig) where
  -- a value of a type has each type that this one fits
  pub fitting_has : (a t : StaticType) (v : Value) → fits sig a t ≡ true → Has sig (Some a) v → Has sig (Some t) v
  fitting_has ty.Int ty.Int v f i = i
  fitting_has ty.Bool ty.Bool v f i = i
  fitting_has ty.Text ty.Text v f i = i
  fitting_has (ty.Class d) (ty.Class c) (Ref o) f i = law.along o.class d c i f
  fitting_has (ty.Class d) (ty.Class c) NoValue f i = i
  fitting_has (ty.Class d) (ty.Class c) (Int n) f i = i
  fitting_has (ty.Class d) (ty.Class c) (Flag b) f i = i
  fitting_has (ty.Class d) (ty.Class c) (Text s) f i = i
  fitting_has _ _ v f i = absurd (false≢true f)

  -- slots that hold what a scope tells hold what it tells of fewer slots
  pub fewer_slots : (a g : Scope) (vs : List Value) → Extends a g → SlotsAre sig a vs → SlotsAre sig g vs
  fewer_slots [] [] vs e s = s
  fewer_slots (m ∷ a) (k ∷ g) [] e s = absurd s
  fewer_slots (m ∷ a) (None ∷ g) (v ∷ vs) e s = (tt, fewer_slots a g vs e.1 s.1)
  fewer_slots (m ∷ a) (Some k ∷ g) (v ∷ vs) e s = (subst (λ o. HasAny sig o v) e.0 s.0, fewer_slots a g vs e.1 s.1)
  fewer_slots [] (k ∷ g) vs e s = absurd e
  fewer_slots (m ∷ a) [] vs e s = absurd e

  -- a slot in scope is there, and holds a value of its type
  pub slot_has : (g : Scope) (i : ℕ) (t : StaticType) (vs : List Value) → slice_get g i ≡ Some (Some t) → SlotsAre sig g vs → (v : Value) × (slice_get vs i ≡ Some v) × Has sig (Some t) v
  slot_has [] i t vs e s = absurd (none-some _ e)
  slot_has (x ∷ g) i t [] e s = absurd s
  slot_has (x ∷ g) zero t (v ∷ vs) e s = (v, refl, subst (λ o. HasAny sig o v) (same_Some _ _ e) s.0)
  slot_has (x ∷ g) (suc i) t (v ∷ vs) e s = slot_has g i t vs e s.1

  -- a value that is put into a slot of its type leaves slots that hold what is then in scope
  pub stored_has : (i : ℕ) (t : StaticType) (old : Option StaticType) (g : Scope) (v : Value) (vs : List Value) → slice_get g i ≡ Some old → Has sig (Some t) v → SlotsAre sig g vs
      → (ws : List Value) × (set_slot i v vs ≡ Some ws) × SlotsAre sig (declared i t g) ws
  stored_has i t old [] v vs e h s = absurd (none-some _ e)
  stored_has i t old (x ∷ g) v [] e h s = absurd s
  stored_has zero t old (x ∷ g) v (w ∷ vs) e h s = (v ∷ vs, refl, (h, s.1))
  stored_has (suc i) t old (x ∷ g) v (w ∷ vs) e h s =
      let q = stored_has i t old g v vs e h s.1 in
      (w ∷ q.0, ap (with_first w) q.1, (s.0, q.2))

  -- there are slots for locals, of which nothing is told yet
  pub locals_open : (ls : List StaticType) → (vs : List Value) × (first_slots (length ls) [] ≡ Some vs) × SlotsAre sig (map (λ t. None) ls) vs
  locals_open [] = ([], refl, tt)
  locals_open (t ∷ ls) = let q = locals_open ls in (NoValue ∷ q.0, ap (with_first NoValue) q.1, (tt, q.2))

  -- as many slots are filled alike
  pub filled_alike : (m n : ℕ) (xs : List Value) (vs : List Value) → m ≡ n → first_slots n xs ≡ Some vs → first_slots m xs ≡ Some vs
  filled_alike m n xs vs e f = ap (λ z. first_slots z xs) e ∙ f

  -- a body that begins on values of its parameters' types has slots, which hold what is in scope there
  pub slots_open : (ps ls : List StaticType) (xs : List Value) → HaveAll sig ps xs → (vs : List Value) × (first_slots (length ps + length ls) xs ≡ Some vs) × SlotsAre sig (map (λ t. Some t) ps ++ map (λ t. None) ls) vs
  slots_open [] ls [] h =
      let q = locals_open ls in
      let e : length {A = StaticType} [] + length ls ≡ length ls = omega arith in
      (q.0, filled_alike (length {A = StaticType} [] + length ls) (length ls) [] q.0 e q.1, q.2)
  slots_open [] ls (x ∷ xs) h = absurd h
  slots_open (t ∷ ps) ls [] h = absurd h
  slots_open (t ∷ ps) ls (x ∷ xs) h =
      let q = slots_open ps ls xs h.1 in
      let e : length (t ∷ ps) + length ls ≡ suc (length ps + length ls) = omega arith in
      (x ∷ q.0, filled_alike (length (t ∷ ps) + length ls) (suc (length ps + length ls)) (x ∷ xs) (x ∷ q.0) e (ap (with_first x) q.1), (h.0, q.2))
