-- A class has the methods of the classes above it, by the same numbers.
use Rattle.std.proofs.Common.{◌≡◌, ℕ, List, [], ◌∷◌, ◌++◌, Bool, true, false, cond, ◌||◌, nat_eq, length, refl, sym, ap, ◌∙◌, subst, Option, Some, None, is_some, slice_get}
use Rattle.std.specs.Prelude.{option_map, option_and_then}
use Rattle.std.proofs.lemmas.Bool.{false≢true, eqb-true, eq-eqb, or_left, or_right}
use Rattle.chord_tree.specs.declared.names.Name.{Name}
use Rattle.chord_tree.specs.Tree.{HeaderTree, ClassTree}
use Rattle.chord_tree.specs.Walk.{headers_of}
use Rattle.chord_bodies.specs.Types.{Signature}
use Rattle.chord_classes.specs.Table.{Method, Shape, is_main, method_of, method_named, with_headers, class_named, base_of, methods_in, methods_at, above_in, above, inherited, from_base, shape_of, shapes_after, table_of, among, derives}
use Rattle.chord_classes.specs.Types.{signature, signatures}
use Rattle.chord_classes.specs.Laws.{MethodsInherited}
use Rattle.chord_classes.proofs.Every.{Every, every_both, every_get, every_map}
use Rattle.chord_classes.proofs.Facts.{none_some, same_some}
use Rattle.chord_classes.proofs.Terms.{class_is}
use Rattle.chord_classes.proofs.Lists.{get_left}

-- what stands in the first list stands in the second at the same place
abbrev pub Begins : {X : Type 0} → List X → List X → Type 0
Begins {X} xs ys = (j : ℕ) (x : X) → slice_get xs j ≡ Some x → slice_get ys j ≡ Some x

-- a list that begins each of two lists begins the one that is chosen
begins_choice : {X : Type 0} (b : Bool) (xs ys zs : List X) → Begins xs ys → Begins xs zs → Begins xs (cond b ys zs)
begins_choice true xs ys zs h k = h
begins_choice false xs ys zs h k = k

-- methods begin the list of them and those that headers add
with_headers_begins : (owner : ℕ) (methods : List Method) (headers : List HeaderTree) → Begins methods (with_headers owner methods headers)
with_headers_begins owner methods [] j x h = h
with_headers_begins owner methods (y ∷ ys) j x h =
    with_headers_begins owner (cond (is_main y || is_some (method_named methods y.name.text)) methods (methods ++ (method_of owner y ∷ []))) ys j x
    (begins_choice (is_main y || is_some (method_named methods y.name.text)) methods methods (methods ++ (method_of owner y ∷ [])) (λ i z k. k) (λ i z k. get_left methods (method_of owner y ∷ []) i z k) j x h)

-- a class above another: its methods are the first of that one's, and the classes above it are above that one too
record IsAbove (shapes : List Shape) (shape : Shape) (class : ℕ) : Type 0 where
  itself : Shape
  there : slice_get shapes class ≡ Some itself
  methods : Begins itself.methods shape.methods
  higher : (base : ℕ) → among base itself.above ≡ true → among base shape.above ≡ true

-- all classes that a shape names above itself are above it
abbrev AreAbove : List Shape → Shape → Type 0
AreAbove shapes shape = Every (IsAbove shapes shape) shape.above

-- the classes above a shape stay so where more shapes come behind
above_more : (shapes more : List Shape) (shape : Shape) → AreAbove shapes shape → AreAbove (shapes ++ more) shape
above_more shapes more shape h = every_map (IsAbove shapes shape) (IsAbove (shapes ++ more) shape) shape.above (λ class a. record { itself = a.itself; there = get_left shapes more class a.itself a.there; methods = a.methods; higher = a.higher }) h

-- the classes above a new class
new_above : (done : List Shape) (class : ClassTree) (base : Option ℕ) → base_of done class ≡ base → ((c : ℕ) → base ≡ Some c → (s : Shape) × (slice_get done c ≡ Some s)) → Every (AreAbove done) done
    → Every (IsAbove done (shape_of done class)) (from_base done base)
new_above done class None e there h = tt
new_above done class (Some base) e there h =
    let s = there base refl in
    let methods_is : methods_at done base ≡ s.0.methods = ap methods_in s.1 in
    let above_is : above done base ≡ s.0.above = ap above_in s.1 in
    let from : Begins s.0.methods (shape_of done class).methods = λ j x k.
    subst (λ (z : Option ℕ). slice_get (with_headers (length done) (inherited done z) (headers_of class)) j ≡ Some x) (sym e)
    (with_headers_begins (length done) (methods_at done base) (headers_of class) j x (ap (λ z. slice_get z j) methods_is ∙ k)) in
    let all : from_base done (base_of done class) ≡ base ∷ above done base = ap (from_base done) e in
    let higher : (b : ℕ) → among b s.0.above ≡ true → among b (shape_of done class).above ≡ true = λ b k.
    ap (among b) all ∙ or_right (nat_eq b base) (among b (above done base)) (ap (among b) above_is ∙ k) in (
      record { itself = s.0; there = s.1; methods = from; higher = higher },
      subst (Every (IsAbove done (shape_of done class))) (sym above_is)
          (every_map (IsAbove done s.0) (IsAbove done (shape_of done class)) s.0.above
          (λ c a. record { itself = a.itself; there = a.there; methods = λ j x k. from j x (a.methods j x k); higher = λ b k. higher b (a.higher b k) })
          (every_get (AreAbove done) done base s.0 h s.1)),
    )

-- the base of a class is there
pub base_there : (done : List Shape) (o : Option Name) (c : ℕ) → option_and_then (λ (base : Name). class_named done base.text) o ≡ Some c → (s : Shape) × (slice_get done c ≡ Some s)
base_there done None c h = absurd (none_some h)
base_there done (Some name) c h = class_is done name.text c h

-- where the classes above each class so far are those that its shape names, they are so with more classes behind
shapes_above : (done : List Shape) (classes : List ClassTree) → Every (AreAbove done) done → Every (AreAbove (shapes_after done classes)) (shapes_after done classes)
shapes_above done [] h = h
shapes_above done (c ∷ cs) h =
    let new = shape_of done c in
    let n : AreAbove done new = new_above done c (base_of done c) refl (λ b e. base_there done c.base b e) h in
    shapes_above (done ++ (new ∷ [])) cs
    (every_both (AreAbove (done ++ (new ∷ []))) done (new ∷ [])
    (every_map (AreAbove done) (AreAbove (done ++ (new ∷ []))) done (λ s a. above_more done (new ∷ []) s a) h)
    (above_more done (new ∷ []) new n, tt))

-- a fact of m that under a condition is one of n holds of n where n is m or the condition is true
one_of : (P : ℕ → Type 0) (n m : ℕ) (b more : Bool) → nat_eq n m ≡ b → (b || more) ≡ true → P m → (more ≡ true → P n) → P n
one_of P n m true more same h p f = subst P (sym (eqb-true n m same)) p
one_of P n m false more same h p f = f h

-- a fact of each number holds of one that is among them
pub among_every : (P : ℕ → Type 0) (ns : List ℕ) (n : ℕ) → among n ns ≡ true → Every P ns → P n
among_every P [] n h e = absurd (false≢true h)
among_every P (m ∷ ms) n h e = one_of P n m (nat_eq n m) (among n ms) refl h e.0 (λ k. among_every P ms n k e.1)

-- the shape of a class, and one above it
record Above (table : List Shape) (class base : ℕ) : Type 0 where
  shape : Shape
  there : slice_get table class ≡ Some shape
  listed : among base (above table class) ≡ true
  is : IsAbove table shape base

-- a class that a shape names above itself is above it
above_shape : (table : List Shape) (class base : ℕ) (o : Option Shape) → slice_get table class ≡ o → Every (AreAbove table) table → among base (above_in o) ≡ true → Above table class base
above_shape table class base None e h k = absurd (false≢true k)
above_shape table class base (Some s) e h k = record { shape = s; there = e; listed = ap (λ z. among base (above_in z)) e ∙ k; is = among_every (IsAbove table s) s.above base k (every_get (AreAbove table) table class s h e) }

-- a signature that was found is that of a method that was found
some_mapped : (table : List Shape) (o : Option Method) (m : Signature) → option_map (signature table) o ≡ Some m → (x : Method) × (o ≡ Some x) × (signature table x ≡ m)
some_mapped table None m h = absurd (none_some h)
some_mapped table (Some x) m h = (x, refl, same_some h)

-- a class has each method of a class above it by the same number and with the same signature
inherited_from : (table : List Shape) (d c j : ℕ) (m : Signature) → Above table d c → (signatures table).methods c j ≡ Some m → (signatures table).methods d j ≡ Some m
inherited_from table d c j m a h =
    let x = some_mapped table (slice_get a.is.itself.methods j) m (ap (λ (z : Option Shape). option_map (signature table) (slice_get (methods_in z) j)) (sym a.is.there) ∙ h) in
    ap (λ (z : Option Shape). option_map (signature table) (slice_get (methods_in z) j)) a.there ∙ ap (option_map (signature table)) (a.is.methods j x.0 x.1) ∙ ap Some x.2

-- a class derives from another: it is that one, or that one is above it
derived : (P : Type 0) (table : List Shape) (d c : ℕ) (b : Bool) → nat_eq d c ≡ b → Every (AreAbove table) table → (b || among c (above table d)) ≡ true → (d ≡ c → P) → (Above table d c → P) → P
derived P table d c true e h k same above_it = same (eqb-true d c e)
derived P table d c false e h k same above_it = above_it (above_shape table d c (slice_get table d) refl h k)

pub methods_inherited : MethodsInherited
methods_inherited p =
    let table = table_of p in
    let h : Every (AreAbove table) table = shapes_above [] p.classes tt in
    let reflexive : (c : ℕ) → derives table c c ≡ true = λ c. or_left (nat_eq c c) (among c (above table c)) (eq-eqb c c refl) in
    record {
      inherits = λ d c j m is_derived e. derived ((signatures table).methods d j ≡ Some m) table d c (nat_eq d c) refl h is_derived
          (λ same. ap (λ z. (signatures table).methods z j) same ∙ e) (λ a. inherited_from table d c j m a e);
      itself = reflexive;
      along = λ d c b dc cb. derived (derives table d b ≡ true) table d c (nat_eq d c) refl h dc
          (λ same. ap (λ z. derives table z b) same ∙ cb)
          (λ a. derived (derives table d b ≡ true) table c b (nat_eq c b) refl h cb
          (λ same. subst (λ z. derives table d z ≡ true) same dc)
          (λ z. let above_c : among b a.is.itself.above ≡ true = ap (λ o. among b (above_in o)) (sym a.is.there) ∙ z.listed in
          or_right (nat_eq d b) (among b (above table d)) (ap (λ o. among b (above_in o)) a.there ∙ a.is.higher b above_c)));
    }
