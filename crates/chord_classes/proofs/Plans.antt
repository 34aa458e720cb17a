-- The plan of a program that breaks none of its rules is as sound code needs it.
use Rattle.std.proofs.Common.{◌≡◌, ℕ, zero, suc, ◌+◌, ◌<◌, ◌≤◌, List, [], ◌∷◌, ◌++◌, Bool, true, false, not, ◌||◌, nat_eq, length, map, refl, sym, ap, ◌∙◌, subst, Option, Some, None, slice_get, arith, length-append}
use Rattle.std.specs.Prelude.{option_map, option_and_then}
use Rattle.std.proofs.lemmas.Bool.{eqb-true}
use Rattle.std.proofs.lemmas.Option.{slice_get_within, slice_get-map}
use Rattle.std.proofs.lemmas.List.{length-map}
use Rattle.chord_tree.specs.declared.names.Name.{Name}
use Rattle.chord_tree.specs.declared.classes.Formal.{Formal}
use Rattle.chord_tree.specs.Tree.{MemberTree, ConstructorMember, ChordMember, ClassTree, ProgramTree}
use Rattle.chord_base.specs.declared.static_type.StaticType.{StaticType}
use Rattle.chord_bodies.specs.Types.{Signature, Signatures}
use Rattle.chord_bodies.specs.Resolved.{MethodOf, ClassOf}
use Rattle.chord_classes.specs.Table.{Method, Shape, formal_types, first_builder, methods_in, methods_at, class_named, base_of, shape_of, shapes_after, table_of}
use Rattle.chord_classes.specs.Types.{type_known, signature, signatures, signatures_of, built_from}
use Rattle.chord_classes.specs.OverrideRules.{over_shapes, in_classes}
use Rattle.chord_classes.specs.Plan.{method_plan, own_builder, class_plan, plans_after, plan_of}
use Rattle.chord_classes.specs.ChordRules.{wrong_constructors, misnamed_constructors, any_has, class_has, base_has, base_token}
use Rattle.chord_classes.specs.Rules.{C04, C12, C13, limits_in}
use Rattle.chord_classes.specs.Laws.{PlanKept}
use Rattle.chord_classes.proofs.Every.{Every, every_get}
use Rattle.chord_classes.proofs.Facts.{none_some, same_some, true_false, when_not, left_nil, right_nil}
use Rattle.chord_classes.proofs.Kept.{none_contained}
use Rattle.chord_classes.proofs.Inherits.{Begins, base_there, methods_inherited}
use Rattle.chord_classes.proofs.Headers.{shapes_begin}
use Rattle.chord_classes.proofs.Heads.{have_headers}
use Rattle.chord_classes.proofs.Planned.{chords_planned}
use Rattle.chord_classes.proofs.Limits.{FewBuiltShape, few_builders, FewOf, SmallShape, shapes_small, few_classes, FewChords, few_chords}
use Rattle.chord_classes.proofs.Mains.{main_body}
use Rattle.chord_classes.proofs.Whole.{method_planned, base_derived, chord_owned, built_planned, builder_planned}
use Rattle.chord_classes.proofs.Lists.{get_left, get_last, get_two}

-- a class in the plan: what it was made from
record PlanAt (p : ProgramTree) (c : ℕ) (x : ClassOf) : Type 0 where
  done : List Shape
  plans : List ClassOf
  number : ℕ
  class : ClassTree
  is : class_plan done plans number class ≡ x
  shape : slice_get (table_of p) c ≡ Some (shape_of done class)
  count : length done ≡ c
  earlier : Begins done (table_of p)
  built : wrong_constructors p.classes done class ≡ []

-- each class of a plan was made from a class of the text, where each so far was
plan_at : (p : ProgramTree) (done : List Shape) (plans : List ClassOf) (number : ℕ) (classes : List ClassTree) → shapes_after done classes ≡ table_of p → length plans ≡ length done → over_shapes (wrong_constructors p.classes) done classes ≡ []
    → ((c : ℕ) (x : ClassOf) → slice_get plans c ≡ Some x → PlanAt p c x) → (c : ℕ) (x : ClassOf) → slice_get (plans_after done plans number classes) c ≡ Some x → PlanAt p c x
plan_at p done plans number [] whole same built h = h
plan_at p done plans number (class ∷ more) whole same built h =
    let new = shape_of done class in
    let plan = class_plan done plans number class in
    let a = length-append done (new ∷ []) in
    let b = length-append plans (plan ∷ []) in
    let there : slice_get (table_of p) (length done) ≡ Some new = ap (λ z. slice_get z (length done)) (sym whole) ∙ shapes_begin (done ++ (new ∷ [])) more (length done) new (get_last done new) in
    let early : Begins done (table_of p) = λ j x e. ap (λ z. slice_get z j) (sym whole) ∙ shapes_begin (done ++ (new ∷ [])) more j x (get_left done (new ∷ []) j x e) in
    let here : wrong_constructors p.classes done class ≡ [] = left_nil (wrong_constructors p.classes done class) (over_shapes (wrong_constructors p.classes) (done ++ (new ∷ [])) more) built in
    plan_at p (done ++ (new ∷ [])) (plans ++ (plan ∷ [])) (number + length class.members) more whole (omega (arith, a, b, same)) (right_nil (wrong_constructors p.classes done class) _ built)
    (λ c x e. get_two (PlanAt p c x) plans plan c x e (h c x) (λ k l.
    let place : length done ≡ c = omega (arith, k, same) in
    record { done = done; plans = plans; number = number; class = class; is = l; shape = ap (slice_get (table_of p)) (sym place) ∙ there; count = place; earlier = early; built = here }))

-- Constructors.

-- a class of the table: what it was made from
record ShapeAt (done : List Shape) (classes : List ClassTree) (i : ℕ) (s : Shape) : Type 0 where
  before : List Shape
  class : ClassTree
  there : slice_get classes i ≡ Some class
  is : shape_of before class ≡ s

-- each class of the table was made from a class of the text
shape_at : (done : List Shape) (classes : List ClassTree) (i : ℕ) (s : Shape) → slice_get (shapes_after done classes) (length done + i) ≡ Some s → ShapeAt done classes i s
shape_at done [] i s e =
    let within = slice_get_within done (length done + i) s e in
    absurd (past within)
  where
    past : length done + i < length done → ⊥
    past h = omega (arith, h)
shape_at done (c ∷ cs) zero s e =
    let place : length done ≡ length done + 0 = omega arith in
    let here : slice_get (shapes_after (done ++ (shape_of done c ∷ [])) cs) (length done) ≡ Some (shape_of done c) = shapes_begin (done ++ (shape_of done c ∷ [])) cs (length done) (shape_of done c) (get_last done (shape_of done c)) in
    record { before = done; class = c; there = refl; is = same_some (sym here ∙ ap (slice_get (shapes_after (done ++ (shape_of done c ∷ [])) cs)) place ∙ e) }
shape_at done (c ∷ cs) (suc i) s e =
    let a = length-append done (shape_of done c ∷ []) in
    let place : length (done ++ (shape_of done c ∷ [])) + i ≡ length done + suc i = omega (arith, a) in
    let r = shape_at (done ++ (shape_of done c ∷ [])) cs i s (ap (slice_get (shapes_after (done ++ (shape_of done c ∷ [])) cs)) place ∙ e) in
    record { before = r.before; class = r.class; there = r.there; is = r.is }

-- parameters whose count is 0 have no written types
no_formals : (formals : List Formal) → not (nat_eq (length formals) 0) ≡ false → formal_types formals ≡ []
no_formals [] h = refl
no_formals (f ∷ fs) h = absurd (by_test (nat_eq (suc (length fs)) 0) refl h)
  where
    differ : ◌≡◌ {A = ℕ} (suc (length fs)) 0 → ⊥
    differ e = omega arith

    by_test : (b : Bool) → nat_eq (suc (length fs)) 0 ≡ b → not b ≡ false → ⊥
    by_test true e k = differ (eqb-true (suc (length fs)) 0 e)
    by_test false e k = true_false k

-- a class none of whose constructors has parameters is built from nothing
built_from_none : (members : List MemberTree) → any_has members ≡ false → built_from (first_builder members) ≡ []
built_from_none [] h = refl
built_from_none (ConstructorMember modifiers name formals body ∷ more) h = no_formals formals.parameters (first_false (not (nat_eq (length formals.parameters) 0)) (any_has more) h)
  where
    first_false : (a b : Bool) → (a || b) ≡ false → a ≡ false
    first_false true b h = h
    first_false false b h = refl
built_from_none (ChordMember headers body ∷ more) h = built_from_none more h

-- a class without a constructor
unbuilt_is : (number : ℕ) (members : List MemberTree) → own_builder number members ≡ None → built_from (first_builder members) ≡ []
unbuilt_is number [] h = refl
unbuilt_is number (ConstructorMember modifiers name formals body ∷ more) h = absurd (none_some (sym h))
unbuilt_is number (ChordMember headers body ∷ more) h = unbuilt_is (number + 1) more h

-- a class that is built from nothing is so by its signatures
builders_are : (table : List Shape) (c : ℕ) (s : Shape) → slice_get table c ≡ Some s → built_from s.builder ≡ [] → (signatures table).builders c ≡ Some []
builders_are table c s there e = ap (option_map (λ (z : Shape). map (type_known table) (built_from z.builder))) there ∙ ap (λ ws. Some (map (type_known table) ws)) e

-- where a base name is there and nothing is noted at it, the condition is false
base_unbroken : (o : Option Name) (b : ℕ) (flag : Bool) → (o ≡ None → ⊥) → base_token o flag ≡ [] → flag ≡ false
base_unbroken None b flag some h = absurd (some refl)
base_unbroken (Some name) b flag some h = when_not flag name.at h

-- a base class is built from nothing
base_built : (p : ProgramTree) (c b : ℕ) (x : ClassOf) → PlanAt p c x → x.base ≡ Some b → (signatures_of p).builders b ≡ Some []
base_built p c b x a e =
    let base : base_of a.done a.class ≡ Some b = ap (λ (z : ClassOf). z.base) a.is ∙ e in
    let s = base_there a.done a.class.base b base in
    let in_table : slice_get (table_of p) b ≡ Some s.0 = a.earlier b s.0 s.1 in
    let place : 0 + b ≡ b = omega arith in
    let r = shape_at [] p.classes b s.0 (ap (slice_get (table_of p)) place ∙ in_table) in
    let unbroken : base_has p.classes (base_of a.done a.class) ≡ false = base_unbroken a.class.base b (base_has p.classes (base_of a.done a.class)) (λ n. none_some (sym (ap (option_and_then (λ (z : Name). class_named a.done z.text)) n) ∙ base))
    (right_nil (misnamed_constructors a.class.name.text a.class.members) (base_token a.class.base (base_has p.classes (base_of a.done a.class))) a.built) in
    let none : any_has r.class.members ≡ false = ap class_has (sym r.there) ∙ ap (base_has p.classes) (sym base) ∙ unbroken in
    builders_are (table_of p) b s.0 in_table (ap (λ (z : Shape). built_from z.builder) (sym r.is) ∙ built_from_none r.class.members none)

-- Methods.

-- a method of a plan has the kind and the number of parameters of its signature
record HasKind (sig : Signatures) (c j : ℕ) (y : MethodOf) : Type 0 where
  signature : Signature
  there : sig.methods c j ≡ Some signature
  kind : y.is_sync ≡ signature.is_sync
  parameters : y.parameters ≡ length signature.parameters

-- what a plan says of a method, it says of a method that is there
planned_method : (o : Option Method) (y : MethodOf) → option_map method_plan o ≡ Some y → (m : Method) × (o ≡ Some m) × (method_plan m ≡ y)
planned_method None y e = absurd (none_some e)
planned_method (Some m) y e = (m, refl, same_some e)

-- the method behind a plan's method
record MethodAt (p : ProgramTree) (c j : ℕ) (y : MethodOf) : Type 0 where
  method : Method
  there : slice_get (methods_at (table_of p) c) j ≡ Some method
  is : method_plan method ≡ y

-- each method of a class of the plan is that of the table
method_at : (p : ProgramTree) (c j : ℕ) (x : ClassOf) (y : MethodOf) → PlanAt p c x → slice_get x.methods j ≡ Some y → MethodAt p c j y
method_at p c j x y a e =
    let methods = (shape_of a.done a.class).methods in
    let here : option_map method_plan (slice_get methods j) ≡ Some y = sym (slice_get-map method_plan methods j) ∙ ap (λ (z : ClassOf). slice_get z.methods j) a.is ∙ e in
    let m = planned_method (slice_get methods j) y here in
    record { method = m.0; there = ap (λ o. slice_get (methods_in o) j) a.shape ∙ m.1; is = m.2 }

-- each method of a class of the plan has the kind and the number of parameters of its signature
has_kind : (p : ProgramTree) (c j : ℕ) (x : ClassOf) (y : MethodOf) → PlanAt p c x → slice_get x.methods j ≡ Some y → HasKind (signatures_of p) c j y
has_kind p c j x y a e =
    let m = method_at p c j x y a e in
    record {
      signature = signature (table_of p) m.method;
      there = ap (option_map (signature (table_of p))) m.there;
      kind = ap (λ (z : MethodOf). z.is_sync) (sym m.is);
      parameters = ap (λ (z : MethodOf). z.parameters) (sym m.is) ∙ sym (length-map m.method.formals (type_known (table_of p)));
    }

-- methods of the plan are as many as those of the table
length_plans : (methods : List Method) → length (map method_plan methods) ≡ length methods
length_plans [] = refl
length_plans (m ∷ ms) = ap suc (length_plans ms)

-- an object is built from at most eight values where each constructor takes at most eight
few_built_here : (p : ProgramTree) → Every FewBuiltShape (table_of p) → (c : ℕ) (ps : List StaticType) → (signatures_of p).builders c ≡ Some ps → length ps ≤ 8
few_built_here p few c ps e = by_class (slice_get (table_of p) c) refl e
  where
    by_class : (o : Option Shape) → slice_get (table_of p) c ≡ o → option_map (λ (s : Shape). map (type_known (table_of p)) (built_from s.builder)) o ≡ Some ps → length ps ≤ 8
    by_class None w f = absurd (none_some f)
    by_class (Some s) w f =
        let within = every_get FewBuiltShape (table_of p) c s few w in
        let known = length-map (built_from s.builder) (type_known (table_of p)) in
        let same : length (map (type_known (table_of p)) (built_from s.builder)) ≡ length ps = ap length (same_some f) in
        omega (arith, within, known, same)

pub plan_kept : PlanKept
plan_kept p program free =
    let limits = none_contained (limits_in p) (λ a h. free 4 a refl (C04 a h)) in
    let built = none_contained (in_classes (wrong_constructors p.classes) p) (λ a h. free 12 a refl (C12 a h)) in
    let at : (c : ℕ) (x : ClassOf) → slice_get (plan_of p) c ≡ Some x → PlanAt p c x = plan_at p [] [] 0 p.classes refl refl built (λ c x e. absurd (none_some e)) in
    let small : Every SmallShape (table_of p) = shapes_small [] [] 0 p.classes tt limits in
    let few = few_chords [] [] 0 p.classes (have_headers p program) tt limits in
    let m = main_body p _ (none_contained _ (λ a h. free 13 a refl (C13 a h))) in
    record {
      few = few_classes [] [] 0 p.classes refl (omega arith) limits;
      few_methods = λ c x e.
          let a = at c x e in
          let s = every_get SmallShape (table_of p) c (shape_of a.done a.class) small a.shape in
          let plans = length_plans (shape_of a.done a.class).methods in
          let same : length (map method_plan (shape_of a.done a.class).methods) ≡ length x.methods = ap (λ (z : ClassOf). length z.methods) a.is in
          let within : length (shape_of a.done a.class).methods ≤ 16 = s.few in
          omega (arith, plans, same, within);
      few_chords = λ c x e. every_get FewChords (plan_of p) c x few e;
      few_parameters = λ c j x y e f.
          let a = at c x e in
          let s = every_get SmallShape (table_of p) c (shape_of a.done a.class) small a.shape in
          let w = method_at p c j x y a f in
          let here : slice_get (shape_of a.done a.class).methods j ≡ Some w.method = ap (λ o. slice_get (methods_in o) j) (sym a.shape) ∙ w.there in
          let within : length w.method.formals ≤ 8 = every_get FewOf (shape_of a.done a.class).methods j w.method s.each here in
          subst (λ (z : MethodOf). z.parameters ≤ 8) w.is within;
      bases = λ c b x e f.
          let a = at c x e in
          let s = base_there a.done a.class.base b (ap (λ (z : ClassOf). z.base) a.is ∙ f) in
          let within = slice_get_within a.done b s.0 s.1 in
          let count = a.count in
          omega (arith, within, count);
      inherits = methods_inherited p;
      kinds = λ c j x y e f. let k = has_kind p c j x y (at c x e) f in (k.signature, k.there, k.kind, k.parameters);
      chords = λ c k x y e f. chords_planned p program free c k x y e f;
      main = (m.body, m.there, m.is_main, m.parameters, m.result);
      few_built = λ c ps e. few_built_here p (few_builders [] [] 0 p.classes tt limits) c ps e;
      methods = method_planned p;
      derives = base_derived p;
      owned = chord_owned p;
      classes = built_planned p;
      own = builder_planned p;
      bases_built = λ c b x e f. base_built p c b x (at c x e) f;
      unbuilt = λ c x e f.
          let a = at c x e in
          builders_are (table_of p) c (shape_of a.done a.class) a.shape (unbuilt_is a.number a.class.members (ap (λ (z : ClassOf). z.constructor_body) a.is ∙ f));
    }
