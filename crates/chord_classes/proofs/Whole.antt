-- What the plan of a program has: each class of the table, each constructor, and each chord's body among some class's own.
use Rattle.std.proofs.Common.{◌≡◌, ℕ, zero, suc, ◌+◌, ◌<◌, ◌==◌, List, [], ◌∷◌, ◌++◌, Bool, true, false, cond, ◌||◌, nat_eq, length, map, refl, sym, ap, ◌∙◌, subst, Option, Some, None, slice_get, arith, length-append}
use Rattle.std.specs.Prelude.{option_map}
use Rattle.std.proofs.lemmas.Bool.{eq-eqb}
use Rattle.std.proofs.lemmas.Option.{slice_get_within, slice_get-map}
use Rattle.std.proofs.lemmas.List.{length-map}
use Rattle.chord_base.specs.Messages.{has}
use Rattle.chord_tree.specs.declared.classes.Formal.{Formal}
use Rattle.chord_tree.specs.Tree.{MemberTree, ConstructorMember, ChordMember, ClassTree, ProgramTree}
use Rattle.chord_tree.specs.Walk.{headers_of}
use Rattle.chord_base.specs.declared.static_type.StaticType.{StaticType}
use Rattle.chord_bodies.specs.Types.{Signature}
use Rattle.chord_bodies.specs.Resolved.{MethodOf, ChordOf, ClassOf}
use Rattle.chord_classes.specs.Table.{Method, Shape, formal_types, first_builder, methods_in, methods_at, above_in, above, inherited, from_base, base_of, shape_of, shapes_after, table_of, among}
use Rattle.chord_classes.specs.Types.{type_known, signature, signatures_of, built_from}
use Rattle.chord_classes.specs.Resolve.{resolved_member, resolved_classes, bodies_of}
use Rattle.chord_classes.specs.Plan.{method_plan, overridden, spared, chords_without, own_chords, own_builder, chords_in, base_chords, class_plan, plans_after, plan_of, resolved_program}
use Rattle.chord_classes.specs.Laws.{IsBuilder}
use Rattle.chord_classes.proofs.Every.{Every, every_both, every_map, every_get}
use Rattle.chord_classes.proofs.Facts.{none_some, same_some}
use Rattle.chord_classes.proofs.Inherits.{Begins}
use Rattle.chord_classes.proofs.Headers.{shapes_begin}
use Rattle.chord_classes.proofs.Planned.{get_behind, get_mapped, length_members}
use Rattle.chord_classes.proofs.Lists.{get_left, get_last, get_two}

-- what a class of the plan was planned from
pub record Made (p : ProgramTree) (c : ℕ) (x : ClassOf) : Type 0 where
  pub done : List Shape
  pub plans : List ClassOf
  pub number : ℕ
  pub class : ClassTree
  pub is : class_plan done plans number class ≡ x
  pub shape : slice_get (table_of p) c ≡ Some (shape_of done class)
  pub count : length plans ≡ c
  pub earlier : Begins plans (plan_of p)
  pub members : (j : ℕ) (m : MemberTree) → slice_get class.members j ≡ Some m → slice_get (bodies_of p) (number + j) ≡ Some (resolved_member (table_of p) c class m)

-- the plans so far begin the list of them and the others
plans_begin : (done : List Shape) (plans : List ClassOf) (number : ℕ) (classes : List ClassTree) → Begins plans (plans_after done plans number classes)
plans_begin done plans number [] j x h = h
plans_begin done plans number (c ∷ cs) j x h =
    plans_begin (done ++ (shape_of done c ∷ [])) (plans ++ (class_plan done plans number c ∷ [])) (number + length c.members) cs j x (get_left plans (class_plan done plans number c ∷ []) j x h)

-- each class of a plan was made from a class of the text, where each so far was
made_at : (p : ProgramTree) (done : List Shape) (plans : List ClassOf) (number : ℕ) (classes : List ClassTree) → shapes_after done classes ≡ table_of p → plans_after done plans number classes ≡ plan_of p → length plans ≡ length done
    → ((j : ℕ) → slice_get (bodies_of p) (number + j) ≡ slice_get (resolved_classes (table_of p) (length done) classes) j)
    → ((c : ℕ) (x : ClassOf) → slice_get plans c ≡ Some x → Made p c x) → (c : ℕ) (x : ClassOf) → slice_get (plans_after done plans number classes) c ≡ Some x → Made p c x
made_at p done plans number [] whole all same bodies h = h
made_at p done plans number (class ∷ more) whole all same bodies h =
    let new = shape_of done class in
    let plan = class_plan done plans number class in
    let a = length-append done (new ∷ []) in
    let b = length-append plans (plan ∷ []) in
    let there : slice_get (table_of p) (length done) ≡ Some new = ap (λ z. slice_get z (length done)) (sym whole) ∙ shapes_begin (done ++ (new ∷ [])) more (length done) new (get_last done new) in
    let earlier : Begins plans (plan_of p) = λ j x e. ap (λ z. slice_get z j) (sym all) ∙ plans_begin done plans number (class ∷ more) j x e in
    made_at p (done ++ (new ∷ [])) (plans ++ (plan ∷ [])) (number + length class.members) more whole all (omega (arith, a, b, same))
    (λ j.
    let members = map (resolved_member (table_of p) (length done) class) class.members in
    let many : length members ≡ length class.members = length_members p (length done) class class.members in
    let here : number + length class.members + j ≡ number + (length members + j) = omega (arith, many) in
    let next : length done + 1 ≡ length (done ++ (new ∷ [])) = omega (arith, a) in
    ap (slice_get (bodies_of p)) here ∙ bodies (length members + j) ∙ get_behind p members (resolved_classes (table_of p) (length done + 1) more) j ∙ ap (λ z. slice_get (resolved_classes (table_of p) z more) j) next)
    (λ c x e. get_two (Made p c x) plans plan c x e (h c x) (λ k l.
    let place : length done ≡ c = omega (arith, k, same) in
    record {
      done = done;
      plans = plans;
      number = number;
      class = class;
      is = l;
      shape = ap (slice_get (table_of p)) (sym place) ∙ there;
      count = sym k;
      earlier = earlier;
      members = λ j m f. bodies j ∙ get_mapped p (length done) class class.members (resolved_classes (table_of p) (length done + 1) more) j m f ∙ ap (λ z. Some (resolved_member (table_of p) z class m)) place;
    }))

-- a class of the plan was planned from a class of the text
pub planned_from : (p : ProgramTree) (c : ℕ) (x : ClassOf) → slice_get (plan_of p) c ≡ Some x → Made p c x
planned_from p = made_at p [] [] 0 p.classes refl refl refl (λ j. let e : 0 + j ≡ j = omega arith in ap (slice_get (bodies_of p)) e) (λ c x e. absurd (none_some e))

-- Each class of the table is one of the plan.

-- there are as many plans of classes as shapes, where there were so far
same_count : (done : List Shape) (plans : List ClassOf) (number : ℕ) (classes : List ClassTree) → length plans ≡ length done → length (plans_after done plans number classes) ≡ length (shapes_after done classes)
same_count done plans number [] e = e
same_count done plans number (c ∷ cs) e =
    let a = length-append done (shape_of done c ∷ []) in
    let b = length-append plans (class_plan done plans number c ∷ []) in
    same_count (done ++ (shape_of done c ∷ [])) (plans ++ (class_plan done plans number c ∷ [])) (number + length c.members) cs (omega (arith, a, b, e))

-- each place within a list has an element
get_within : {X : Type 0} (xs : List X) (c : ℕ) → c < length xs → (x : X) × (slice_get xs c ≡ Some x)
get_within [] c h = absurd (omega (arith, h))
get_within (x ∷ xs) zero h = (x, refl)
get_within (x ∷ xs) (suc c) h = get_within xs c (omega (arith, h))

-- what is built is a class of the plan
pub class_planned : (p : ProgramTree) (c : ℕ) (s : Shape) → slice_get (table_of p) c ≡ Some s → (x : ClassOf) × (slice_get (plan_of p) c ≡ Some x)
class_planned p c s e =
    let within = slice_get_within (table_of p) c s e in
    let count = same_count [] [] 0 p.classes refl in
    get_within (plan_of p) c (omega (arith, within, count))

-- what a function gives of an option is what it gives of a value that is there
mapped_some : {A B : Type 0} (f : A → B) (o : Option A) (y : B) → option_map f o ≡ Some y → (x : A) × (o ≡ Some x) × (f x ≡ y)
mapped_some f None y e = absurd (none_some e)
mapped_some f (Some x) y e = (x, refl, same_some e)

-- the constructor of a class is one of its bodies
pub built_planned : (p : ProgramTree) (c : ℕ) (ps : List StaticType) → (signatures_of p).builders c ≡ Some ps → (x : ClassOf) × (slice_get (plan_of p) c ≡ Some x)
built_planned p c ps e =
    let s = mapped_some (λ (s : Shape). map (type_known (table_of p)) (built_from s.builder)) (slice_get (table_of p) c) ps e in
    class_planned p c s.0 s.1

-- Each method of the signatures is one of the plan.

-- a method of a signature is one of the plan
pub method_planned : (p : ProgramTree) (c j : ℕ) (m : Signature) → (signatures_of p).methods c j ≡ Some m → (x : ClassOf) × (y : MethodOf) × (slice_get (plan_of p) c ≡ Some x) × (slice_get x.methods j ≡ Some y) × (y.is_sync ≡ m.is_sync) × (y.parameters ≡ length m.parameters)
method_planned p c j m e =
    let q = mapped_some (signature (table_of p)) (slice_get (methods_at (table_of p) c) j) m e in
    by_class q.0 q.1 q.2 (slice_get (table_of p) c) refl
  where
    by_class : (y : Method) → slice_get (methods_at (table_of p) c) j ≡ Some y → signature (table_of p) y ≡ m → (o : Option Shape) → slice_get (table_of p) c ≡ o
        → (x : ClassOf) × (y : MethodOf) × (slice_get (plan_of p) c ≡ Some x) × (slice_get x.methods j ≡ Some y) × (y.is_sync ≡ m.is_sync) × (y.parameters ≡ length m.parameters)
    by_class y f g None w = absurd (none_some (ap (λ o. slice_get (methods_in o) j) (sym w) ∙ f))
    by_class y f g (Some s) w =
        let x = class_planned p c s w in
        let a = planned_from p c x.0 x.1 in
        let here : slice_get (shape_of a.done a.class).methods j ≡ Some y = ap (λ o. slice_get (methods_in o) j) (sym a.shape) ∙ f in
        let planned : slice_get x.0.methods j ≡ Some (method_plan y) = ap (λ (z : ClassOf). slice_get z.methods j) (sym a.is) ∙ slice_get-map method_plan (shape_of a.done a.class).methods j ∙ ap (option_map method_plan) here in
        (x.0, method_plan y, x.1, planned, ap (λ (z : Signature). z.is_sync) g, sym (length-map y.formals (type_known (table_of p))) ∙ ap (λ (z : Signature). length z.parameters) g)

-- A class derives from its base.

-- a class derives from its base
pub base_derived : (p : ProgramTree) (c b : ℕ) (x : ClassOf) → slice_get (plan_of p) c ≡ Some x → x.base ≡ Some b → (signatures_of p).derives c b ≡ true
base_derived p c b x e f =
    let a = planned_from p c x e in
    let base : base_of a.done a.class ≡ Some b = ap (λ (z : ClassOf). z.base) a.is ∙ f in
    let all : above (table_of p) c ≡ b ∷ above a.done b = ap above_in a.shape ∙ ap (from_base a.done) base in
    let listed : among b (above (table_of p) c) ≡ true = ap (among b) all ∙ first_true (nat_eq b b) (among b (above a.done b)) (eq-eqb b b refl) in
    second_true (nat_eq c b) (among b (above (table_of p) c)) listed
  where
    first_true : (a b : Bool) → a ≡ true → (a || b) ≡ true
    first_true a b h = rw h refl

    second_true : (a b : Bool) → b ≡ true → (a || b) ≡ true
    second_true true b h = refl
    second_true false b h = h

-- The constructor of a class.

-- a constructor among members: it is not `Main`, has no result, and its parameters are those of the first constructor
record BuilderMember (number i : ℕ) (members : List MemberTree) (table : List Shape) (c : ℕ) (class : ClassTree) : Type 0 where
  member : MemberTree
  place : ℕ
  there : slice_get members place ≡ Some member
  is : i ≡ number + place
  not_main : (resolved_member table c class member).is_main ≡ false
  is_constructor : (resolved_member table c class member).is_constructor ≡ true
  result : (resolved_member table c class member).result ≡ None
  formals : map (type_known table) (built_from (first_builder members)) ≡ (resolved_member table c class member).parameters

-- the static types that the written types of parameters stand for are the types of these parameters
known_formals : (table : List Shape) (fs : List Formal) → map (type_known table) (formal_types fs) ≡ map (λ (f : Formal). type_known table f.value_type) fs
known_formals table [] = refl
known_formals table (f ∷ fs) = ap (λ zs. type_known table f.value_type ∷ zs) (known_formals table fs)

-- the first constructor among members is such a constructor
builder_member : (table : List Shape) (c : ℕ) (class : ClassTree) (number i : ℕ) (members : List MemberTree) → own_builder number members ≡ Some i → BuilderMember number i members table c class
builder_member table c class number i [] e = absurd (none_some e)
builder_member table c class number i (ConstructorMember modifiers name formals body ∷ more) e =
    let first : number ≡ number + 0 = omega arith in
    record { member = ConstructorMember modifiers name formals body; place = 0; there = refl; is = sym (same_some e) ∙ first; not_main = refl; is_constructor = refl; result = refl; formals = known_formals table formals.parameters }
builder_member table c class number i (ChordMember headers body ∷ more) e =
    let r = builder_member table c class (number + 1) i more e in
    let next : number + 1 + r.place ≡ number + suc r.place = omega arith in
    record { member = r.member; place = suc r.place; there = r.there; is = r.is ∙ next; not_main = r.not_main; is_constructor = r.is_constructor; result = r.result; formals = r.formals }

-- a class without a constructor is built from nothing
pub builder_planned : (p : ProgramTree) (c i : ℕ) (x : ClassOf) → slice_get (plan_of p) c ≡ Some x → x.constructor_body ≡ Some i → IsBuilder (signatures_of p) (resolved_program p) c i
builder_planned p c i x e f =
    let a = planned_from p c x e in
    let r = builder_member (table_of p) c a.class a.number i a.class.members (ap (λ (z : ClassOf). z.constructor_body) a.is ∙ f) in
    record {
      body = resolved_member (table_of p) c a.class r.member;
      there = ap (slice_get (bodies_of p)) r.is ∙ a.members r.place r.member r.there;
      not_main = r.not_main;
      is_constructor = r.is_constructor;
      class = refl;
      result = r.result;
      parameters = ap (option_map (λ (s : Shape). map (type_known (table_of p)) (built_from s.builder))) a.shape ∙ ap Some r.formals;
    }

-- The body of each chord is one of some class's own.

-- whether a number is among others, and so among more
has_itself : (k : ℕ) (ks : List ℕ) → has k (k ∷ ks) ≡ true
has_itself k ks = let e : (k == k) ≡ true = eq-eqb k k refl in rw e refl

-- a number that is among others is among more
has_later : (n k : ℕ) (ks : List ℕ) → has n ks ≡ true → has n (k ∷ ks) ≡ true
has_later n k ks h = second_true (n == k) (has n ks) h
  where
    second_true : (a b : Bool) → b ≡ true → (a || b) ≡ true
    second_true true b h = refl
    second_true false b h = h

-- the body of each chord is among the bodies of the chords
each_has : (ks : List ChordOf) → Every (λ (y : ChordOf). has y.body (map (λ (z : ChordOf). z.body) ks) ≡ true) ks
each_has [] = tt
each_has (k ∷ ks) = (has_itself k.body (map (λ (z : ChordOf). z.body) ks), every_map (λ (y : ChordOf). has y.body (map (λ (z : ChordOf). z.body) ks) ≡ true) (λ (y : ChordOf). has y.body (k.body ∷ map (λ (z : ChordOf). z.body) ks) ≡ true) ks (λ y h. has_later y.body k.body (map (λ (z : ChordOf). z.body) ks) h) (each_has ks))

module _ (p : ProgramTree) where
  -- the body of a chord is one of some class's own
  abbrev Owned : ChordOf → Type 0
  Owned y = (d : ℕ) × (z : ClassOf) × (slice_get (plan_of p) d ≡ Some z) × (has y.body z.own ≡ true)

  -- where the body of each of some chords is some class's own, so is that of each that has none of these methods
  owned_without : (others : List ℕ) (chords : List ChordOf) → Every Owned chords → Every Owned (chords_without others chords)
  owned_without others [] h = tt
  owned_without others (k ∷ ks) h = every_both Owned (cond (spared others k.methods) (k ∷ []) []) (chords_without others ks) (by_choice (spared others k.methods)) (owned_without others ks h.1)
    where
      by_choice : (b : Bool) → Every Owned (cond b (k ∷ []) [])
      by_choice true = (h.0, tt)
      by_choice false = tt

  -- the body of each effective chord of a class below n is one of some class's own
  all_owned : (n c : ℕ) (x : ClassOf) → c < n → slice_get (plan_of p) c ≡ Some x → Every Owned x.chords
  all_owned zero c x l e = absurd (omega (arith, l))
  all_owned (suc n) c x l e =
      let a = planned_from p c x e in
      let methods = (shape_of a.done a.class).methods in
      let ks = own_chords methods a.number a.class.members in
      let own_is : map (λ (z : ChordOf). z.body) ks ≡ x.own = ap (λ (z : ClassOf). z.own) a.is in
      let own : Every Owned ks = every_map (λ (y : ChordOf). has y.body (map (λ (z : ChordOf). z.body) ks) ≡ true) Owned ks (λ y h. (c, x, e, subst (λ z. has y.body z ≡ true) own_is h)) (each_has ks) in
      let others = overridden (inherited a.done (base_of a.done a.class)) (headers_of a.class) in
      let base : Every Owned (base_chords a.plans (base_of a.done a.class)) = by_base a (λ b y less there. all_owned n b y less there) (base_of a.done a.class) in
      subst (Every Owned) (ap (λ (z : ClassOf). z.chords) a.is)
      (every_both Owned (chords_without others (base_chords a.plans (base_of a.done a.class))) ks (owned_without others (base_chords a.plans (base_of a.done a.class)) base) own)
    where
      by_base : (a : Made p c x) → ((b : ℕ) (y : ClassOf) → b < n → slice_get (plan_of p) b ≡ Some y → Every Owned y.chords) → (base : Option ℕ) → Every Owned (base_chords a.plans base)
      by_base a f None = tt
      by_base a f (Some b) = by_plan (slice_get a.plans b) refl
        where
          by_plan : (o : Option ClassOf) → slice_get a.plans b ≡ o → Every Owned (chords_in o)
          by_plan None w = tt
          by_plan (Some y) w =
              let within = slice_get_within a.plans b y w in
              let count = a.count in
              f b y (omega (arith, within, count, l)) (a.earlier b y w)

  -- the body of each effective chord of a class is one of some class's own
  pub chord_owned : (c k : ℕ) (x : ClassOf) (y : ChordOf) → slice_get (plan_of p) c ≡ Some x → slice_get x.chords k ≡ Some y → (d : ℕ) × (z : ClassOf) × (slice_get (plan_of p) d ≡ Some z) × (has y.body z.own ≡ true)
  chord_owned c k x y e f = every_get Owned x.chords k y (all_owned (suc c) c x (omega arith) e) f
