-- `new` never goes wrong, nor do the constructors that it runs.
use Rattle.std.proofs.Common.{◌≡◌, ℕ, zero, suc, ◌<◌, ◌≤◌, ◌==◌, List, [], ◌∷◌, true, Option, Some, None, refl, sym, ◌∙◌, ap, subst, arith, length, slice_get}
use Rattle.std.specs.Prelude.{option_and_then}
use Rattle.chord_base.specs.declared.value.Object.{Object}
use Rattle.chord_base.specs.declared.value.Value.{Value}
use Rattle.chord_base.specs.declared.value.Value.TheVariants.{Ref}
use Rattle.chord_base.specs.declared.static_type.StaticType.{StaticType}
use Rattle.chord_bodies.specs.Resolved.{ClassOf, Resolved}
use Rattle.std.proofs.lemmas.Bool.{eq-eqb}
use Rattle.std.proofs.lemmas.Option.{same_Some, slice_get_within}
use Rattle.chord_bodies.specs.Types.{Signatures, HaveAll, this_in}
use Rattle.chord_bodies.specs.Planned.{IsPlanned}
use Rattle.chord_code.specs.Plays.{Play, MakesObject, Good}
use Rattle.chord_source.specs.Continuing.{Maker}
use Rattle.chord_source.specs.Objects.{constructor_of, constructor_arity, class_arity, run_constructor, build, if_arity, make_object}
use Rattle.chord_source.specs.Laws.{AreWellTyped}
use Rattle.chord_source.proofs.SlotTypes.{HasAny}
use Rattle.chord_source.proofs.GoodWays.{found_good, MakerIsGood}
use Rattle.chord_source.proofs.GoodStatements.{body_good}

-- values of some types are as many as these
pub as_many_values : (sig : Signatures) (ts : List StaticType) (vs : List Value) → HaveAll sig ts vs → length vs ≡ length ts
as_many_values sig [] [] h = refl
as_many_values sig (t ∷ ts) (v ∷ vs) h = ap suc (as_many_values sig ts vs h.1)
as_many_values sig [] (v ∷ vs) h = absurd h
as_many_values sig (t ∷ ts) [] h = absurd h

module _ (sig : Signatures) (p : Resolved) (typed : AreWellTyped sig p) (plan : IsPlanned sig p) where
  -- a class takes as many arguments as the parameters from which its objects are built
  arity_is_right : (c : ℕ) (x : ClassOf) (ps : List StaticType) → slice_get p.classes c ≡ Some x → sig.builders c ≡ Some ps → class_arity p x ≡ length ps
  arity_is_right c x ps e k = by_own x.constructor_body refl
    where
      by_own : (i : Option ℕ) → x.constructor_body ≡ i → constructor_arity (option_and_then (λ i. slice_get p.bodies i) i) ≡ length ps
      by_own None q = sym (ap length (same_Some _ _ (sym k ∙ plan.unbuilt c x e q)))
      by_own (Some i) q =
          let own = plan.own c i x e q in
          ap constructor_arity own.there ∙ ap length (same_Some _ _ (sym own.parameters ∙ k))

  module _ (r : Option StaticType) where
    -- the own constructor of a class is good on an object of the class and arguments of its parameters
    constructor_good : (room : ℕ) (maker : Maker) → MakerIsGood sig r maker → (c : ℕ) (x : ClassOf) (ps : List StaticType) → slice_get p.classes c ≡ Some x → sig.builders c ≡ Some ps → (o : Object) → sig.derives o.class c ≡ true → (xs : List Value) → HaveAll sig ps xs → (k : ℕ → Play) (n : ℕ)
        → ((m : ℕ) → m ≤ n → Good sig r (k m)) → Good sig r (run_constructor room maker (constructor_of p x) (Ref o) xs k n)
    constructor_good room maker ng c x ps e built o is xs a k n h = by_own x.constructor_body refl
      where
        by_own : (i : Option ℕ) → x.constructor_body ≡ i → Good sig r (run_constructor room maker (option_and_then (λ i. slice_get p.bodies i) i) (Ref o) xs k n)
        by_own None q = h n (omega arith)
        by_own (Some i) q =
            let own = plan.own c i x e q in
            let this : HasAny sig (this_in own.body.is_main own.body.class) (Ref o) = subst (λ z. HasAny sig (this_in z own.body.class) (Ref o)) (sym own.not_main) (subst (λ z. sig.derives o.class z ≡ true) (sym own.class) is) in
            let values : HaveAll sig own.body.parameters xs = subst (λ z. HaveAll sig z xs) (same_Some _ _ (sym built ∙ own.parameters)) a in
            subst (λ z. Good sig r (run_constructor room maker z (Ref o) xs k n)) (sym own.there)
            (body_good sig r plan.inherits room maker ng (Some k) own.body (typed i own.body own.there) (Ref o) xs n this values (own.result, h))

    -- the constructors of a class and of those above it are good, where what follows is
    building_good : (room : ℕ) (maker : Maker) → MakerIsGood sig r maker → (count c : ℕ) (x : ClassOf) (ps : List StaticType) → c < count → slice_get p.classes c ≡ Some x → sig.builders c ≡ Some ps → (o : Object) → sig.derives o.class c ≡ true → (xs : List Value) → HaveAll sig ps xs → (k : ℕ → Play) (n : ℕ)
        → ((m : ℕ) → m ≤ n → Good sig r (k m)) → Good sig r (build p room maker (Some x) count (Ref o) xs k n)
    building_good room maker ng zero c x ps l e built o is xs a k n h = absurd (omega arith)
    building_good room maker ng (suc count) c x ps l e built o is xs a k n h =
        by_base (λ b y less there bs ds. building_good room maker ng count b y [] less there bs o ds [] tt (run_constructor room maker (constructor_of p x) (Ref o) xs k) n (λ m l2. own m l2)) x.base refl
      where
        own : (m : ℕ) → m ≤ n → Good sig r (run_constructor room maker (constructor_of p x) (Ref o) xs k m)
        own m l2 = constructor_good room maker ng c x ps e built o is xs a k m (λ m2 l3. h m2 (omega arith))

        by_class : (b : ℕ) → x.base ≡ Some b → ((y : ClassOf) → b < count → slice_get p.classes b ≡ Some y → sig.builders b ≡ Some [] → sig.derives o.class b ≡ true → Good sig r (build p room maker (Some y) count (Ref o) [] (run_constructor room maker (constructor_of p x) (Ref o) xs k) n))
            → (z : Option ClassOf) → slice_get p.classes b ≡ z → Good sig r (build p room maker z count (Ref o) [] (run_constructor room maker (constructor_of p x) (Ref o) xs k) n)
        by_class b q f None w = own n (omega arith)
        by_class b q f (Some y) w = let less = plan.bases c b x e q in f y (omega (arith, less)) w (plan.bases_built c b x e q) (plan.inherits.along o.class c b is (plan.derives c b x e q))

        by_base : ((b : ℕ) (y : ClassOf) → b < count → slice_get p.classes b ≡ Some y → sig.builders b ≡ Some [] → sig.derives o.class b ≡ true → Good sig r (build p room maker (Some y) count (Ref o) [] (run_constructor room maker (constructor_of p x) (Ref o) xs k) n))
            → (base : Option ℕ) → x.base ≡ base → Good sig r (build p room maker (option_and_then (λ b. slice_get p.classes b) base) count (Ref o) [] (run_constructor room maker (constructor_of p x) (Ref o) xs k) n)
        by_base f None q = own n (omega arith)
        by_base f (Some b) q = by_class b q (f b) (slice_get p.classes b) refl

    -- `new` is good at each depth
    pub objects_good : (room : ℕ) → MakerIsGood sig r (make_object p room)
    objects_good zero c ps xs k n e a h = tt
    objects_good (suc room) c ps xs k n e a h =
        let x = plan.classes c ps e in
        let count : length xs ≡ class_arity p x.0 = as_many_values sig ps xs a ∙ sym (arity_is_right c x.0 ps x.1 e) in
        let right : (length xs == class_arity p x.0) ≡ true = eq-eqb (length xs) (class_arity p x.0) count in
        let within : c < length p.classes = slice_get_within p.classes c x.0 x.1 in
        found_good sig r (slice_get p.classes c) x.0 _ x.1
        (subst (λ z. Good sig r (if_arity z (MakesObject c (λ o. build p room (make_object p room) (Some x.0) (length p.classes) (Ref o) xs (k (Ref o)) n)))) (sym right)
        (λ o q.
        (let is : sig.derives o.class c ≡ true = subst (λ z. sig.derives z c ≡ true) (sym q) (plan.inherits.itself c) in
        building_good room (make_object p room) (objects_good room) (length p.classes) c x.0 ps within x.1 e o is xs a (k (Ref o)) n (λ m l. h (Ref o) m is l))))
