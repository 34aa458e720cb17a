-- The plan of a class after those before it, part by part.
use Rattle.std.proofs.Common.{◌≡◌, ℕ, zero, suc, ◌+◌, ◌<◌, List, [], ◌∷◌, ◌++◌, map, length, Bool, true, false, cond, refl, sym, ap, subst, ◌∙◌, Option, Some, None, slice_get, arith, ◌⊎◌, inl, inr, bytes_eq, length-append}
use Rattle.std.specs.Prelude.{unwrap_or, option_and_then}
use Rattle.std.proofs.lemmas.List.{append-nil}
use Rattle.chord_tree.specs.declared.names.Name.{Name}
use Rattle.chord_tree.specs.Tree.{ClassTree}
use Rattle.chord_tree.specs.Walk.{headers_of}
use Rattle.chord_bodies.specs.Resolved.{MethodOf, ChordOf, ClassOf}
use Rattle.chord_classes.specs.Table.{Method, Shape, above_in, from_base, methods_in, methods_at, inherited, class_from, class_named, base_of, shape_of, with_headers}
use Rattle.chord_classes.specs.Plan.{method_plan, chords_without, base_chords, overridden, class_plan}
use Rattle.chord_classes.specs.MethodViews.{see_method}
use Rattle.chord_classes.specs.declared.method.Method as rust_method
use Rattle.chord_classes.specs.Entries.{IsGrown}
use Rattle.chord_classes.proofs.GrownMethods.{map_end}
use Rattle.chord_rules.specs.Limits.{base_depth}
use Rattle.chord_rules.specs.Planning.{planned_methods, base_methods, ArePlanned, AreAlike, depths_of, plan_parts}
use Rattle.chord_classes.proofs.Facts.{none_some, same_some}

-- the item at a place of a list and one more
at_end : {A : Type 0} (xs : List A) (x : A) → slice_get (xs ++ (x ∷ [])) (length xs) ≡ Some x
at_end [] x = refl
at_end (y ∷ ys) x = at_end ys x

-- the items before the last stay
before_end : {A : Type 0} (xs : List A) (x : A) (i : ℕ) → i < length xs → slice_get (xs ++ (x ∷ [])) i ≡ slice_get xs i
before_end [] x i l = absurd (omega arith)
before_end (y ∷ ys) x zero l = refl
before_end (y ∷ ys) x (suc i) l = before_end ys x i (omega arith)

-- behind the last there is none
past_end : {A : Type 0} (xs : List A) (x : A) (i : ℕ) → length xs < i → slice_get (xs ++ (x ∷ [])) i ≡ None
past_end [] x zero l = absurd (omega arith)
past_end [] x (suc i) l = refl
past_end (y ∷ ys) x zero l = absurd (omega arith)
past_end (y ∷ ys) x (suc i) l = past_end ys x i (omega arith)

-- the number of a class that is found is below the first number plus the number of classes
class_within : (n : ℕ) (shapes : List Shape) (x : List ℕ) (p : ℕ) → class_from n shapes x ≡ Some p → p < n + length shapes
class_within n [] x p h = absurd (none_some h)
class_within n (s ∷ ss) x p h = by_same (bytes_eq s.name x) h (λ e. class_within (n + 1) ss x p e)
  where
    by_same : (b : Bool) → cond b (Some n) (class_from (n + 1) ss x) ≡ Some p → (class_from (n + 1) ss x ≡ Some p → p < n + 1 + length ss) → p < n + suc (length ss)
    by_same true e more = let same : n ≡ p = same_some e in omega (arith, same)
    by_same false e more = let less = more e in omega (arith, less)

-- a base class is one of those so far
pub base_within : (done : List Shape) (class : ClassTree) (p : ℕ) → base_of done class ≡ Some p → p < length done
base_within done class p h = by_base class.base h
  where
    by_base : (base : Option Name) → option_and_then (λ (name : Name). class_named done name.text) base ≡ Some p → p < length done
    by_base None e = absurd (none_some e)
    by_base (Some name) e = let l = class_within 0 done name.text p e in omega (arith, l)

-- how many classes are above one with this base
pub depth_is : (done : List Shape) (base : Option ℕ) → (((p : ℕ) → base ≡ Some p → p < length done)) → base_depth (depths_of done) base ≡ length (from_base done base)
depth_is done None l = refl
depth_is done (Some p) l = at_place done p (l p refl) ∙ omega arith
  where
    at_place : (shapes : List Shape) (i : ℕ) → i < length shapes → unwrap_or (slice_get (depths_of shapes) i) 0 + 1 ≡ length (above_in (slice_get shapes i)) + 1
    at_place [] i m = absurd (omega arith)
    at_place (s ∷ ss) zero m = refl
    at_place (s ∷ ss) (suc i) m = at_place ss i (omega arith)

-- one more class among those so far
pub depths_more : (done : List Shape) (class : ClassTree) (depths after : List ℕ) (depth : ℕ) → depths ≡ depths_of done → after ≡ depths ++ (depth ∷ []) → depth ≡ base_depth depths (base_of done class) → after ≡ depths_of (done ++ (shape_of done class ∷ []))
depths_more done class depths after depth e f g =
    f ∙ ap (λ z. z ++ (depth ∷ [])) e ∙ ap (λ z. depths_of done ++ (z ∷ [])) (g ∙ ap (λ z. base_depth z (base_of done class)) e ∙ depth_is done (base_of done class) (base_within done class)) ∙ sym (map_end (λ (shape : Shape). length shape.above) done (shape_of done class))

-- the methods of the base of a class by the plans
pub base_planned : (done : List Shape) (plans : List ClassOf) (base : Option ℕ) → ArePlanned done plans → base_methods plans base ≡ map method_plan (inherited done base)
base_planned done plans None h = refl
base_planned done plans (Some p) h = h p

-- what a function makes of two lists joined is what it makes of the first and then of the second
map_joined : {A B : Type 0} (f : A → B) (xs ys : List A) → map f (xs ++ ys) ≡ map f xs ++ map f ys
map_joined f [] ys = refl
map_joined f (x ∷ xs) ys = ap (λ z. f x ∷ z) (map_joined f xs ys)

-- the methods of a class after those before it
pub methods_grown : (done : List Shape) (class : ClassTree) (own : List rust_method.Method) → IsGrown (inherited done (base_of done class)) (length done) (headers_of class) [] own → inherited done (base_of done class) ++ map see_method own ≡ (shape_of done class).methods
methods_grown done class own g = g.methods ∙ ap (λ z. with_headers (length done) z (headers_of class)) (append-nil (inherited done (base_of done class)))

-- the methods of the plan of a class
pub methods_planned : (done : List Shape) (plans : List ClassOf) (class : ClassTree) (own : List rust_method.Method) → ArePlanned done plans → IsGrown (inherited done (base_of done class)) (length done) (headers_of class) [] own
    → base_methods plans (base_of done class) ++ map method_plan (map see_method own) ≡ map method_plan (shape_of done class).methods
methods_planned done plans class own h g =
    ap (λ z. z ++ map method_plan (map see_method own)) (base_planned done plans (base_of done class) h) ∙ sym (map_joined method_plan (inherited done (base_of done class)) (map see_method own)) ∙ ap (map method_plan) (methods_grown done class own g)

-- a number is before another, it, or behind it
split : (i n : ℕ) → (i < n) ⊎ ((i ≡ n) ⊎ (n < i))
split zero zero = inr (inl refl)
split zero (suc n) = inl (omega arith)
split (suc i) zero = inr (inr (omega arith))
split (suc i) (suc n) = elim (split i n) [ inl l ↦ inl (omega arith) | inr r ↦ inr (elim r [ inl e ↦ inl (ap suc e) | inr l ↦ inr (omega arith) ]) ]

-- one more class and its plan
pub planned_more : (done : List Shape) (plans : List ClassOf) (shape : Shape) (plan : ClassOf) → length plans ≡ length done → plan.methods ≡ map method_plan shape.methods → ArePlanned done plans → ArePlanned (done ++ (shape ∷ [])) (plans ++ (plan ∷ []))
planned_more done plans shape plan count e h i = elim (split i (length done)) [
  | inl l ↦ ap planned_methods (before_end plans plan i (omega (arith, count))) ∙ h i ∙ sym (ap (λ z. map method_plan (methods_in z)) (before_end done shape i l))
  | inr r ↦ elim r [
    | inl s ↦ ap (λ z. planned_methods (slice_get (plans ++ (plan ∷ [])) z)) (s ∙ sym count) ∙ ap planned_methods (at_end plans plan) ∙ e ∙ sym (ap (λ z. map method_plan (methods_in z)) (ap (slice_get (done ++ (shape ∷ []))) s ∙ at_end done shape))
    | inr l ↦ ap planned_methods (past_end plans plan i (omega (arith, count))) ∙ sym (ap (λ z. map method_plan (methods_in z)) (past_end done shape i l))
  ]
]

-- the methods of the last class
pub last_methods : (done : List Shape) (shape : Shape) → methods_at (done ++ (shape ∷ [])) (length done) ≡ shape.methods
last_methods done shape = ap methods_in (at_end done shape)

-- the plan of a class by its parts
pub plan_by_parts : (done : List Shape) (plans : List ClassOf) (number : ℕ) (class : ClassTree) (methods : List Method) (base : Option ℕ) (ms : List MethodOf) (cs : List ChordOf)
    → methods ≡ (shape_of done class).methods → base ≡ base_of done class → ms ≡ map method_plan (shape_of done class).methods
    → cs ≡ chords_without (overridden (inherited done (base_of done class)) (headers_of class)) (base_chords plans (base_of done class))
    → plan_parts methods base class ms cs number ≡ class_plan done plans number class
plan_by_parts done plans number class methods base ms cs m b p k = rw (m, b, p, k) refl

-- plans and depths stay those of the classes with one class more
pub alike_more : (done table : List Shape) (plans after : List ClassOf) (depths next : List ℕ) (class : ClassTree) (number depth : ℕ)
    → table ≡ done ++ (shape_of done class ∷ []) → after ≡ plans ++ (class_plan done plans number class ∷ []) → AreAlike done plans depths → next ≡ depths ++ (depth ∷ []) → depth ≡ base_depth depths (base_of done class) → AreAlike table after next
alike_more done table plans after depths next class number depth t a h f g = record {
  methods = subst (λ z. ArePlanned z after) (sym t) (subst (λ z. ArePlanned (done ++ (shape_of done class ∷ [])) z) (sym a) (planned_more done plans (shape_of done class) (class_plan done plans number class) h.count refl h.methods));
  count = ap length a ∙ length-append plans (class_plan done plans number class ∷ []) ∙ ap (λ z. z + 1) h.count ∙ sym (length-append done (shape_of done class ∷ [])) ∙ ap length (sym t);
  depths_are = depths_more done class depths next depth h.depths_are f g ∙ ap depths_of (sym t);
}
