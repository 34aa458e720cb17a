-- Headers of one name have one signature, and so the body of a chord has its methods' parameters laid together.
use Rattle.std.proofs.Common.{◌≡◌, ℕ, zero, suc, ◌+◌, List, [], ◌∷◌, ◌++◌, Bool, true, false, not, cond, ◌&&◌, ◌||◌, length, map, refl, sym, ap, ap₂, ◌∙◌, subst, Option, Some, None, is_some, slice_get, codes, arith, length-append}
use Rattle.std.specs.Prelude.{option_map, unwrap_or, bytes_eq, flat_map}
use Rattle.std.proofs.lemmas.Bool.{false≢true}
use Rattle.std.proofs.lemmas.Slice.Eq.{bytes_eq-Decides}
use Rattle.chord_tree.specs.declared.names.BasicType.{BasicType}
use Rattle.chord_tree.specs.declared.names.BasicType.TheVariants as basics
use Rattle.chord_tree.specs.declared.names.ValueType.{ValueType}
use Rattle.chord_tree.specs.declared.names.ValueType.TheVariants as types
use Rattle.chord_tree.specs.declared.classes.ReturnType.{ReturnType}
use Rattle.chord_tree.specs.declared.classes.ReturnType.TheVariants as results
use Rattle.chord_tree.specs.declared.classes.Formal.{Formal}
use Rattle.chord_tree.specs.Tree.{BlockTree, HeaderTree, MemberTree, ChordMember, ClassTree, ProgramTree}
use Rattle.chord_tree.specs.Walk.{member_headers, headers_of}
use Rattle.chord_base.specs.declared.static_type.StaticType.{StaticType}
use Rattle.chord_base.specs.declared.static_type.StaticType.TheVariants as ty
use Rattle.chord_bodies.specs.Types.{Signature, Signatures}
use Rattle.chord_base.specs.Meaning.{NoneSync, OneSync}
use Rattle.chord_bodies.specs.Planned.{AreConcatenated, gives, if_sync, is_sync_in}
use Rattle.chord_classes.specs.ChordRules.{counts_sync, second_sync}
use Rattle.chord_classes.specs.Table.{Method, Found, Shape, formal_types, is_main, method_of, method_from, method_named, with_headers, class_named, base_of, methods_in, methods_at, inherited, shape_of, shapes_after, table_of}
use Rattle.chord_classes.specs.Types.{basic_type, type_known, is_sync, result_known, signature, signatures}
use Rattle.chord_classes.specs.Site.{due_by, headers_due, has_main}
use Rattle.chord_classes.specs.NameRules.{when}
use Rattle.chord_classes.specs.OverrideRules.{same_basic, same_written, same_all, same_result, overrides, agree, first_named, differs_from, unless_main, differing_headers, missing_override, may_override, wrong_override, over_shapes, in_classes}
use Rattle.chord_classes.specs.Rules.{C05, C09, C10, IsFree, is_header_rule}
use Rattle.chord_classes.specs.Plan.{header_number}
use Rattle.chord_classes.specs.Laws.{chord_methods, ChordsKept, Inherits}
use Rattle.chord_classes.proofs.Every.{Every, every_left, every_right, every_get}
use Rattle.chord_classes.proofs.Facts.{none_some, same_some, true_false, when_not, unless_not, left_nil, right_nil, truth_left, truth_right, neither_left, neither_right}
use Rattle.chord_classes.proofs.Terms.{FoundIn, method_is}
use Rattle.chord_classes.proofs.Kept.{none_contained}
use Rattle.chord_classes.proofs.Inherits.{Begins, methods_inherited}
use Rattle.chord_classes.proofs.Lists.{get_left, get_last}

-- The same written types stand for one.

-- types that are words of the language and pass as the same are one
basic_same : (a b : BasicType) → same_basic a b ≡ true → a ≡ b
basic_same basics.Int basics.Int h = refl
basic_same basics.Bool basics.Bool h = refl
basic_same basics.String basics.String h = refl
basic_same basics.Int basics.Bool h = absurd (false≢true h)
basic_same basics.Int basics.String h = absurd (false≢true h)
basic_same basics.Bool basics.Int h = absurd (false≢true h)
basic_same basics.Bool basics.String h = absurd (false≢true h)
basic_same basics.String basics.Int h = absurd (false≢true h)
basic_same basics.String basics.Bool h = absurd (false≢true h)

-- names that are equal by their bytes are the same
pub bytes_same : (x y : List ℕ) → bytes_eq x y ≡ true → x ≡ y
bytes_same x y h = (bytes_eq-Decides x y).0 h

-- a name is equal to itself
pub bytes_itself : (x : List ℕ) → bytes_eq x x ≡ true
bytes_itself x = (bytes_eq-Decides x x).1 refl

-- written types that are the same stand for one static type
known_same : (table : List Shape) (v w : ValueType) → same_written v w ≡ true → type_known table v ≡ type_known table w
known_same table (types.Basic a i) (types.Basic b j) h = ap basic_type (basic_same a b h)
known_same table (types.Class x) (types.Class y) h = ap (λ z. unwrap_or (option_map ty.Class (class_named table z)) ty.Int) (bytes_same x.text y.text h)
known_same table (types.Basic a i) (types.Class y) h = absurd (false≢true h)
known_same table (types.Class x) (types.Basic b j) h = absurd (false≢true h)

-- lists of written types that are the same, one by one, stand for the same static types
all_known_same : (table : List Shape) (vs ws : List ValueType) → same_all vs ws ≡ true → map (type_known table) vs ≡ map (type_known table) ws
all_known_same table [] [] h = refl
all_known_same table (v ∷ vs) (w ∷ ws) h =
    ap₂ (λ x xs. x ∷ xs) (known_same table v w (truth_left (same_written v w) (same_all vs ws) h)) (all_known_same table vs ws (truth_right (same_written v w) (same_all vs ws) h))
all_known_same table [] (w ∷ ws) h = absurd (false≢true h)
all_known_same table (v ∷ vs) [] h = absurd (false≢true h)

-- the same results wait alike and give the same
record SameResult (table : List Shape) (r s : ReturnType) : Type 0 where
  waits : is_sync r ≡ is_sync s
  known : result_known table r ≡ result_known table s

-- results that are the same wait alike and give the same
result_same : (table : List Shape) (r s : ReturnType) → same_result r s ≡ true → SameResult table r s
result_same table (results.Async i) (results.Async j) h = record { waits = refl; known = refl }
result_same table (results.Void i) (results.Void j) h = record { waits = refl; known = refl }
result_same table (results.Value v) (results.Value w) h = record { waits = refl; known = ap Some (known_same table v w h) }
result_same table (results.Async i) (results.Void j) h = absurd (false≢true h)
result_same table (results.Async i) (results.Value w) h = absurd (false≢true h)
result_same table (results.Void i) (results.Async j) h = absurd (false≢true h)
result_same table (results.Void i) (results.Value w) h = absurd (false≢true h)
result_same table (results.Value v) (results.Async j) h = absurd (false≢true h)
result_same table (results.Value v) (results.Void j) h = absurd (false≢true h)

-- a signature, of whether callers wait, the types of the parameters and that of the result
make_signature : Bool → List StaticType → Option StaticType → Signature
make_signature sync parameters result = record { is_sync = sync; parameters = parameters; result = result }

-- methods with the same result and the same parameter types have one signature
signature_same : (table : List Shape) (m k : Method) → same_result m.result_type k.result_type ≡ true → same_all m.formals k.formals ≡ true → signature table m ≡ signature table k
unfolding make_signature
signature_same table m k hr hf =
    let r = result_same table m.result_type k.result_type hr in
    ap (λ s. make_signature s (map (type_known table) m.formals) (result_known table m.result_type)) r.waits
    ∙ ap (λ ps. make_signature (is_sync k.result_type) ps (result_known table m.result_type)) (all_known_same table m.formals k.formals hf)
    ∙ ap (λ t. make_signature (is_sync k.result_type) (map (type_known table) k.formals) t) r.known

-- What is found by name among methods and more methods.

-- a method that is found among methods is found among them and others behind
named_left : (n : ℕ) (xs ys : List Method) (name : List ℕ) (f : Found) → method_from n xs name ≡ Some f → method_from n (xs ++ ys) name ≡ Some f
named_left n [] ys name f h = absurd (none_some h)
named_left n (x ∷ xs) ys name f h = by_first (bytes_eq x.name name) (method_from (n + 1) xs name) (method_from (n + 1) (xs ++ ys) name) (λ k. named_left (n + 1) xs ys name f k) h
  where
    by_first : (b : Bool) (rest all : Option Found) → (rest ≡ Some f → all ≡ Some f) → cond b (Some (record { number = n; method = x })) rest ≡ Some f → cond b (Some (record { number = n; method = x })) all ≡ Some f
    by_first true rest all g k = k
    by_first false rest all g k = g k

-- a name that is not among methods is that of the one behind them, or of none
named_right : (n : ℕ) (xs : List Method) (m : Method) (name : List ℕ) → method_from n xs name ≡ None → bytes_eq m.name name ≡ true → (f : Found) × (method_from n (xs ++ (m ∷ [])) name ≡ Some f) × (f.method ≡ m)
named_right n [] m name h e = (record { number = n; method = m }, ap (λ b. cond b (Some (record { number = n; method = m })) None) e, refl)
named_right n (x ∷ xs) m name h e = by_first (bytes_eq x.name name) (method_from (n + 1) xs name) (method_from (n + 1) (xs ++ (m ∷ [])) name) (λ k. named_right (n + 1) xs m name k e) h
  where
    by_first : (b : Bool) (rest all : Option Found) → (rest ≡ None → (f : Found) × (all ≡ Some f) × (f.method ≡ m)) → cond b (Some (record { number = n; method = x })) rest ≡ None → (f : Found) × (cond b (Some (record { number = n; method = x })) all ≡ Some f) × (f.method ≡ m)
    by_first true rest all g k = absurd (none_some (sym k))
    by_first false rest all g k = g k

-- a name that is not among methods and not that of the one behind them is not among all
unnamed_right : (n : ℕ) (xs : List Method) (m : Method) (name : List ℕ) → method_from n xs name ≡ None → bytes_eq m.name name ≡ false → method_from n (xs ++ (m ∷ [])) name ≡ None
unnamed_right n [] m name h e = ap (λ b. cond b (Some (record { number = n; method = m })) None) e
unnamed_right n (x ∷ xs) m name h e = by_first (bytes_eq x.name name) (method_from (n + 1) xs name) (method_from (n + 1) (xs ++ (m ∷ [])) name) (λ k. unnamed_right (n + 1) xs m name k e) h
  where
    by_first : (b : Bool) (rest all : Option Found) → (rest ≡ None → all ≡ None) → cond b (Some (record { number = n; method = x })) rest ≡ None → cond b (Some (record { number = n; method = x })) all ≡ None
    by_first true rest all g k = k
    by_first false rest all g k = g k

-- headers keep what is found among the methods before them
kept_by_headers : (owner : ℕ) (methods : List Method) (headers : List HeaderTree) (name : List ℕ) (f : Found) → method_named methods name ≡ Some f → method_named (with_headers owner methods headers) name ≡ Some f
kept_by_headers owner methods [] name f h = h
kept_by_headers owner methods (y ∷ ys) name f h =
    kept_by_headers owner (cond (is_main y || is_some (method_named methods y.name.text)) methods (methods ++ (method_of owner y ∷ []))) ys name f (by_choice (is_main y || is_some (method_named methods y.name.text)))
  where
    by_choice : (b : Bool) → method_named (cond b methods (methods ++ (method_of owner y ∷ []))) name ≡ Some f
    by_choice true = h
    by_choice false = named_left 0 methods (method_of owner y ∷ []) name f h

-- a header of a list: there is a first one of its name
first_there : (headers : List HeaderTree) (i : ℕ) (header : HeaderTree) → slice_get headers i ≡ Some header → (first : HeaderTree) × (first_named headers header.name.text ≡ Some first)
first_there [] i header h = absurd (none_some h)
first_there (y ∷ ys) zero header h =
    let same : y ≡ header = same_some h in
    (y, ap (λ b. cond b (Some y) (first_named ys header.name.text)) (ap (λ (z : HeaderTree). bytes_eq y.name.text z.name.text) (sym same) ∙ bytes_itself y.name.text))
first_there (y ∷ ys) (suc i) header h = by_first (bytes_eq y.name.text header.name.text) (first_there ys i header h)
  where
    by_first : (b : Bool) → (first : HeaderTree) × (first_named ys header.name.text ≡ Some first) → (first : HeaderTree) × (cond b (Some y) (first_named ys header.name.text) ≡ Some first)
    by_first true r = (y, refl)
    by_first false r = r

-- of two truth values that are false, neither holds
neither_is : (a b : Bool) → a ≡ false → b ≡ false → (a || b) ≡ false
neither_is a b h k = rw (h, k) refl

-- a new name is that of its first header
new_method : (owner : ℕ) (methods : List Method) (headers : List HeaderTree) (name : List ℕ) (first : HeaderTree) → bytes_eq name (codes "Main") ≡ false → method_named methods name ≡ None → first_named headers name ≡ Some first
    → (f : Found) × (method_named (with_headers owner methods headers) name ≡ Some f) × (f.method ≡ method_of owner first)
new_method owner methods [] name first m h e = absurd (none_some e)
new_method owner methods (y ∷ ys) name first m h e = by_first (bytes_eq y.name.text name) refl e (λ b k l. new_method owner (cond b methods (methods ++ (method_of owner y ∷ []))) ys name first m k l)
  where
    by_first : (b : Bool) → bytes_eq y.name.text name ≡ b → cond b (Some y) (first_named ys name) ≡ Some first
        → ((c : Bool) → method_named (cond c methods (methods ++ (method_of owner y ∷ []))) name ≡ None → first_named ys name ≡ Some first → (f : Found) × (method_named (with_headers owner (cond c methods (methods ++ (method_of owner y ∷ []))) ys) name ≡ Some f) × (f.method ≡ method_of owner first))
        → (f : Found) × (method_named (with_headers owner (cond (is_main y || is_some (method_named methods y.name.text)) methods (methods ++ (method_of owner y ∷ []))) ys) name ≡ Some f) × (f.method ≡ method_of owner first)
    by_first true same k more =
        let name_is : y.name.text ≡ name = bytes_same y.name.text name same in
        let new : (is_main y || is_some (method_named methods y.name.text)) ≡ false =
        neither_is (is_main y) (is_some (method_named methods y.name.text)) (ap (λ z. bytes_eq z (codes "Main")) name_is ∙ m) (ap (λ z. is_some (method_named methods z)) name_is ∙ ap is_some h) in
        let f = named_right 0 methods (method_of owner y) name h same in
        let kept = kept_by_headers owner (methods ++ (method_of owner y ∷ [])) ys name f.0 f.1 in
        (f.0, ap (λ b. method_named (with_headers owner (cond b methods (methods ++ (method_of owner y ∷ []))) ys) name) new ∙ kept, f.2 ∙ ap (method_of owner) (same_some k))
    by_first false differ k more = more (is_main y || is_some (method_named methods y.name.text)) (still (is_main y || is_some (method_named methods y.name.text)) differ) k
      where
        still : (c : Bool) → bytes_eq y.name.text name ≡ false → method_named (cond c methods (methods ++ (method_of owner y ∷ []))) name ≡ None
        still true d = h
        still false d = unnamed_right 0 methods (method_of owner y) name h d

-- Where no rule on headers is broken.

-- a header is of a method of its class with the signature that it writes
pub record HeaderKept (table : List Shape) (methods : List Method) (header : HeaderTree) : Type 0 where
  pub found : Found
  pub is : method_named methods header.name.text ≡ Some found
  pub same : signature table found.method ≡ signature table (method_of 0 header)

-- a header of which no rule on headers is broken is of a method of its class with the signature that it writes
method_kept : (table : List Shape) (owner : ℕ) (methods : List Method) (headers : List HeaderTree) (i : ℕ) (header : HeaderTree) → slice_get headers i ≡ Some header → is_main header ≡ false
    → unless_main header (differs_from (first_named headers header.name.text) header) ≡ []
    → (o : Option Found) → method_named methods header.name.text ≡ o
    → unless_main header (when (not (overrides header) && is_some o) header.name.at) ≡ []
    → when (overrides header && not (may_override header o)) header.name.at ≡ []
    → HeaderKept table (with_headers owner methods headers) header
method_kept table owner methods headers i header there m d5 (Some f) e d9 d10 =
    let overriding = overrides_it (overrides header) (when_not _ header.name.at (unmain (is_main header) _ m d9)) in
    let may = allowed (overrides header) (may_override header (Some f)) overriding (when_not _ header.name.at d10) in
    record {
      found = f;
      is = kept_by_headers owner methods headers header.name.text f e;
      same = signature_same table f.method (method_of 0 header) (truth_left _ _ may) (truth_left _ _ (truth_right (same_result f.method.result_type header.result_type) _ may));
    }
  where
    unmain : (b : Bool) (xs : List ℕ) → b ≡ false → cond b [] xs ≡ [] → xs ≡ []
    unmain true xs h k = absurd (true_false h)
    unmain false xs h k = k

    overrides_it : (b : Bool) → (not b && true) ≡ false → b ≡ true
    overrides_it true h = refl
    overrides_it false h = absurd (true_false h)

    allowed : (a b : Bool) → a ≡ true → (a && not b) ≡ false → b ≡ true
    allowed true true h k = refl
    allowed true false h k = absurd (true_false k)
    allowed false b h k = absurd (false≢true h)
method_kept table owner methods headers i header there m d5 None e d9 d10 =
    let first = first_there headers i header there in
    let f = new_method owner methods headers header.name.text first.0 m e first.1 in
    let agreeing : agree first.0 header ≡ true = unless_not _ header.name.at (subst (λ (z : Option HeaderTree). differs_from z header ≡ []) first.1 (unmain (is_main header) _ m d5)) in
    record {
      found = f.0;
      is = f.1;
      same = ap (signature table) f.2 ∙ signature_same table (method_of owner first.0) (method_of 0 header) (truth_left _ _ agreeing) (truth_left _ _ (truth_right (same_result first.0.result_type header.result_type) _ agreeing));
    }
  where
    unmain : (b : Bool) (xs : List ℕ) → b ≡ false → cond b [] xs ≡ [] → xs ≡ []
    unmain true xs h k = absurd (true_false h)
    unmain false xs h k = k

-- where a function gives nothing over a list, it gives nothing of each element
every_of_flat : {X : Type 0} (f : X → List ℕ) (xs : List X) → flat_map f xs ≡ [] → Every (λ x. f x ≡ []) xs
every_of_flat f [] h = tt
every_of_flat f (x ∷ xs) h = (left_nil (f x) (flat_map f xs) h, every_of_flat f xs (right_nil (f x) (flat_map f xs) h))

-- what holds of the element at each place holds of each element
every_of_get : {X : Type 0} (P : X → Type 0) (xs : List X) → ((i : ℕ) (x : X) → slice_get xs i ≡ Some x → P x) → Every P xs
every_of_get P [] f = tt
every_of_get P (x ∷ xs) f = (f 0 x refl, every_of_get P xs (λ i y e. f (suc i) y e))

-- all headers of a class
headers_kept : (table done : List Shape) (class : ClassTree) → differing_headers done class ≡ [] → missing_override done class ≡ [] → wrong_override done class ≡ []
    → Every (λ header. is_main header ≡ false → HeaderKept table (shape_of done class).methods header) (headers_of class)
headers_kept table done class h5 h9 h10 =
    let hs = headers_of class in
    let ms = inherited done (base_of done class) in
    every_of_get (λ header. is_main header ≡ false → HeaderKept table (shape_of done class).methods header) hs
    (λ i header there m. method_kept table (length done) ms hs i header there m
    (every_get (λ (z : HeaderTree). unless_main z (differs_from (first_named hs z.name.text) z) ≡ []) hs i header (every_of_flat (λ (z : HeaderTree). unless_main z (differs_from (first_named hs z.name.text) z)) hs h5) there)
    (method_named ms header.name.text) refl
    (every_get (λ (z : HeaderTree). unless_main z (when (not (overrides z) && is_some (method_named ms z.name.text)) z.name.at) ≡ []) hs i header (every_of_flat (λ (z : HeaderTree). unless_main z (when (not (overrides z) && is_some (method_named ms z.name.text)) z.name.at)) hs h9) there)
    (every_get (λ (z : HeaderTree). when (overrides z && not (may_override z (method_named ms z.name.text))) z.name.at ≡ []) hs i header (every_of_flat (λ (z : HeaderTree). when (overrides z && not (may_override z (method_named ms z.name.text))) z.name.at) hs h10) there))

-- Classes by their numbers.

-- the shapes of the classes so far stay
pub shapes_begin : (done : List Shape) (classes : List ClassTree) → Begins done (shapes_after done classes)
shapes_begin done [] j x h = h
shapes_begin done (c ∷ cs) j x h = shapes_begin (done ++ (shape_of done c ∷ [])) cs j x (get_left done (shape_of done c ∷ []) j x h)

-- a class in the table, of which no rule on headers is broken
record ClassAt (table : List Shape) (number : ℕ) (class : ClassTree) : Type 0 where
  before : List Shape
  there : slice_get table number ≡ Some (shape_of before class)
  differing_headers : differing_headers before class ≡ []
  missing_override : missing_override before class ≡ []
  wrongly : wrong_override before class ≡ []

-- where no rule on headers is broken in classes, each stands in the table as one of which none is broken
class_at : (done : List Shape) (classes : List ClassTree) → over_shapes differing_headers done classes ≡ [] → over_shapes missing_override done classes ≡ [] → over_shapes wrong_override done classes ≡ []
    → (i : ℕ) (class : ClassTree) → slice_get classes i ≡ Some class → ClassAt (shapes_after done classes) (length done + i) class
class_at done [] h5 h9 h10 i class e = absurd (none_some e)
class_at done (c ∷ cs) h5 h9 h10 zero class e =
    let same : c ≡ class = same_some e in
    let number : length done + 0 ≡ length done = omega arith in
    subst (ClassAt (shapes_after (done ++ (shape_of done c ∷ [])) cs) (length done + 0)) same (record {
      before = done;
      there = ap (slice_get (shapes_after (done ++ (shape_of done c ∷ [])) cs)) number ∙ shapes_begin (done ++ (shape_of done c ∷ [])) cs (length done) (shape_of done c) (get_last done (shape_of done c));
      differing_headers = left_nil (differing_headers done c) _ h5;
      missing_override = left_nil (missing_override done c) _ h9;
      wrongly = left_nil (wrong_override done c) _ h10;
    })
class_at done (c ∷ cs) h5 h9 h10 (suc i) class e =
    let more = length-append done (shape_of done c ∷ []) in
    let number : length (done ++ (shape_of done c ∷ [])) + i ≡ length done + suc i = omega (arith, more) in
    subst (λ (n : ℕ). ClassAt (shapes_after (done ++ (shape_of done c ∷ [])) cs) n class) number
    (class_at (done ++ (shape_of done c ∷ [])) cs (right_nil (differing_headers done c) _ h5) (right_nil (missing_override done c) _ h9) (right_nil (wrong_override done c) _ h10) i class e)

-- The methods of a chord.

-- a header's number is that of a method with the signature that it writes
pub number_is : (table : List Shape) (class : ℕ) (header : HeaderTree) → HeaderKept table (methods_at table class) header → (signatures table).methods class (header_number (methods_at table class) header) ≡ Some (signature table (method_of 0 header))
unfolding FoundIn
number_is table class header k =
    let f = method_is 0 (methods_at table class) header.name.text k.found k.is in
    let place : k.found.number ≡ f.0 = omega (arith, f.1) in
    let number : header_number (methods_at table class) header ≡ f.0 = ap (λ o. unwrap_or (option_map (λ (z : Found). z.number) o) 0) k.is ∙ place in
    ap (λ n. option_map (signature table) (slice_get (methods_at table class) n)) number ∙ ap (option_map (signature table)) f.2 ∙ ap Some k.same

-- the types of a chord's parameters
abbrev formals_types : List Shape → List Formal → List StaticType
formals_types table formals = map (λ (f : Formal). type_known table f.value_type) formals

-- the types of two lists of parameters joined are those of the one and then those of the other
map_append : (table : List Shape) (fs gs : List Formal) → formals_types table (fs ++ gs) ≡ formals_types table fs ++ formals_types table gs
map_append table [] gs = refl
map_append table (f ∷ fs) gs = ap (λ z. type_known table f.value_type ∷ z) (map_append table fs gs)

-- the static types of parameters are those that their written types stand for
map_twice : (table : List Shape) (fs : List Formal) → formals_types table fs ≡ map (type_known table) (formal_types fs)
map_twice table [] = refl
map_twice table (f ∷ fs) = ap (λ z. type_known table f.value_type ∷ z) (map_twice table fs)

-- the parameters of a chord are those of its methods laid together
pub laid_is : (table : List Shape) (class : ℕ) (headers : List HeaderTree) → Every (HeaderKept table (methods_at table class)) headers
    → AreConcatenated (signatures table) class (chord_methods table class headers) (formals_types table (flat_map (λ (h : HeaderTree). h.formals.parameters) headers))
laid_is table class [] k = refl
laid_is table class (x ∷ xs) k = (
  signature table (method_of 0 x),
  formals_types table (flat_map (λ (h : HeaderTree). h.formals.parameters) xs),
  number_is table class x k.0,
  map_append table x.formals.parameters (flat_map (λ (h : HeaderTree). h.formals.parameters) xs) ∙ ap (λ z. z ++ formals_types table (flat_map (λ (h : HeaderTree). h.formals.parameters) xs)) (map_twice table x.formals.parameters),
  laid_is table class xs k.1,
)

-- what is due is a header's own result where its callers wait, and else what the other methods give
given_by : (table : List Shape) (class : ℕ) (result : ReturnType) (others : Option ValueType) (methods : List ℕ) → gives (signatures table) class methods (option_map (type_known table) others)
    → if_sync (is_sync result) (option_map (type_known table) (due_by result others) ≡ result_known table result) (gives (signatures table) class methods (option_map (type_known table) (due_by result others)))
given_by table class (results.Async at) others methods g = g
given_by table class (results.Void at) others methods g = refl
given_by table class (results.Value written) others methods g = refl

-- a chord gives the result of its synchronous method
pub gives_is : (table : List Shape) (class : ℕ) (headers : List HeaderTree) → Every (HeaderKept table (methods_at table class)) headers → gives (signatures table) class (chord_methods table class headers) (option_map (type_known table) (headers_due headers))
gives_is table class [] k = refl
gives_is table class (x ∷ xs) k = (signature table (method_of 0 x), number_is table class x k.0, given_by table class x.result_type (headers_due xs) (chord_methods table class xs) (gives_is table class xs k.1))

-- parameters are laid together in a deriving class as in its base
pub laid_along : (sig : Signatures) (d c : ℕ) → Inherits sig → sig.derives d c ≡ true → (js : List ℕ) (ts : List StaticType) → AreConcatenated sig c js ts → AreConcatenated sig d js ts
laid_along sig d c i h [] ts l = l
laid_along sig d c i h (j ∷ js) ts l = (l.0, l.1, i.inherits d c j l.0 h l.2, l.3, laid_along sig d c i h js l.1 l.4)

-- the result is the same in a deriving class as in its base
pub gives_along : (sig : Signatures) (d c : ℕ) → Inherits sig → sig.derives d c ≡ true → (js : List ℕ) (r : Option StaticType) → gives sig c js r → gives sig d js r
gives_along sig d c i h [] r g = g
gives_along sig d c i h (j ∷ js) r g = (g.0, i.inherits d c j g.0 h g.1, by_kind g.0.is_sync g.2 (λ k. gives_along sig d c i h js r k))
  where
    by_kind : (b : Bool) → if_sync b (r ≡ g.0.result) (gives sig c js r) → (gives sig c js r → gives sig d js r) → if_sync b (r ≡ g.0.result) (gives sig d js r)
    by_kind true k f = k
    by_kind false k f = f k

-- a synchronous method that a header writes
sync_is : (table : List Shape) (class : ℕ) (header : HeaderTree) → HeaderKept table (methods_at table class) header → is_sync_in ((signatures table).methods class (header_number (methods_at table class) header)) ≡ is_sync header.result_type
sync_is table class header k = ap is_sync_in (number_is table class header k)

-- where no header is a second synchronous one, at most one method is synchronous, and none where one was seen
pub one_sync_is : (table : List Shape) (class : ℕ) (headers : List HeaderTree) → has_main headers ≡ false → Every (HeaderKept table (methods_at table class)) headers → (seen : Bool) → second_sync seen headers ≡ []
    → (seen ≡ true → NoneSync (λ j. is_sync_in ((signatures table).methods class j)) (chord_methods table class headers)) × OneSync (λ j. is_sync_in ((signatures table).methods class j)) (chord_methods table class headers)
one_sync_is table class [] main k seen h = (λ e. tt, tt)
one_sync_is table class (x ∷ xs) main k seen h =
    by_sync (is_sync x.result_type) refl seen (neither_left (is_main x) (has_main xs) main) h (λ s g. one_sync_is table class xs (neither_right (is_main x) (has_main xs) main) k.1 s g)
  where
    by_sync : (b : Bool) → is_sync x.result_type ≡ b → (seen : Bool) → is_main x ≡ false → when (seen && counts_sync x) x.name.at ++ second_sync (seen || counts_sync x) xs ≡ []
        → ((s : Bool) → second_sync s xs ≡ [] → (s ≡ true → NoneSync (λ j. is_sync_in ((signatures table).methods class j)) (chord_methods table class xs)) × OneSync (λ j. is_sync_in ((signatures table).methods class j)) (chord_methods table class xs))
        → (seen ≡ true → NoneSync (λ j. is_sync_in ((signatures table).methods class j)) (chord_methods table class (x ∷ xs))) × OneSync (λ j. is_sync_in ((signatures table).methods class j)) (chord_methods table class (x ∷ xs))
    by_sync true s true m h f =
        let counts : counts_sync x ≡ true = rw (m, s) refl in
        absurd (true_false (sym counts ∙ when_not (counts_sync x) x.name.at (left_nil (when (counts_sync x) x.name.at) _ h)))
    by_sync true s false m h f =
        let counts : counts_sync x ≡ true = rw (m, s) refl in
        let r = f true (subst (λ z. second_sync z xs ≡ []) counts (right_nil (when false x.name.at) _ h)) in
        (λ e. absurd (false≢true e), ((λ e. r.0 refl), r.1))
    by_sync false s seen m h f =
        let none : counts_sync x ≡ false = rw (m, s) refl in
        let same : (seen || counts_sync x) ≡ seen = ap (λ z. seen || z) none ∙ or_false seen in
        let r = f seen (subst (λ z. second_sync z xs ≡ []) same (right_nil (when (seen && counts_sync x) x.name.at) _ h)) in
        let here = sync_is table class x k.0 ∙ s in
        ((λ e. (here, r.0 e)), ((λ e. absurd (false≢true (sym here ∙ e))), r.1))
      where
        or_false : (a : Bool) → (a || false) ≡ a
        or_false true = refl
        or_false false = refl

-- in a class that derives from another, too
none_along : (sig : Signatures) (d c : ℕ) → Inherits sig → sig.derives d c ≡ true → (js : List ℕ) (ts : List StaticType) → AreConcatenated sig c js ts → NoneSync (λ j. is_sync_in (sig.methods c j)) js → NoneSync (λ j. is_sync_in (sig.methods d j)) js
none_along sig d c i h [] ts l n = tt
none_along sig d c i h (j ∷ js) ts l n = (ap is_sync_in (i.inherits d c j l.0 h l.2) ∙ sym (ap is_sync_in l.2) ∙ n.0, none_along sig d c i h js l.1 l.4 n.1)

-- at most one method is synchronous in a deriving class as in its base
pub one_sync_along : (sig : Signatures) (d c : ℕ) → Inherits sig → sig.derives d c ≡ true → (js : List ℕ) (ts : List StaticType) → AreConcatenated sig c js ts → OneSync (λ j. is_sync_in (sig.methods c j)) js → OneSync (λ j. is_sync_in (sig.methods d j)) js
one_sync_along sig d c i h [] ts l n = tt
one_sync_along sig d c i h (j ∷ js) ts l n =
    let same = ap is_sync_in (i.inherits d c j l.0 h l.2) ∙ sym (ap is_sync_in l.2) in
    ((λ e. none_along sig d c i h js l.1 l.4 (n.0 (sym same ∙ e))), one_sync_along sig d c i h js l.1 l.4 n.1)

-- where `Main` is none of the headers each is of a method
pub no_mains : (P : HeaderTree → Type 0) (headers : List HeaderTree) → has_main headers ≡ false → Every (λ header. is_main header ≡ false → P header) headers → Every P headers
no_mains P [] m k = tt
no_mains P (x ∷ xs) m k = (k.0 (neither_left (is_main x) (has_main xs) m), no_mains P xs (neither_right (is_main x) (has_main xs) m) k.1)

-- what holds of each header of members holds of each header of a chord among them
of_chord : (P : HeaderTree → Type 0) (members : List MemberTree) (k : ℕ) (headers : List HeaderTree) (body : BlockTree) → slice_get members k ≡ Some (ChordMember headers body) → Every P (flat_map member_headers members) → Every P headers
of_chord P [] k headers body e h = absurd (none_some e)
of_chord P (m ∷ ms) zero headers body e h = every_left P headers (flat_map member_headers ms) (subst (λ (z : MemberTree). Every P (member_headers z ++ flat_map member_headers ms)) (same_some e) h)
of_chord P (m ∷ ms) (suc k) headers body e h = of_chord P ms k headers body e (every_right P (member_headers m) (flat_map member_headers ms) h)

-- all headers of a class of a program
pub class_headers_kept : (p : ProgramTree) → IsFree is_header_rule p → (n : ℕ) (class : ClassTree) → slice_get p.classes n ≡ Some class → Every (λ header. is_main header ≡ false → HeaderKept (table_of p) (methods_at (table_of p) n) header) (headers_of class)
class_headers_kept p free n class class_there =
    let table = table_of p in
    let at = class_at [] p.classes (none_contained (in_classes differing_headers p) (λ a c. free 5 a refl (C05 a c))) (none_contained (in_classes missing_override p) (λ a c. free 9 a refl (C09 a c)))
    (none_contained (in_classes wrong_override p) (λ a c. free 10 a refl (C10 a c))) n class class_there in
    let number : n ≡ 0 + n = omega arith in
    let there : slice_get table n ≡ Some (shape_of at.before class) = ap (slice_get table) number ∙ at.there in
    let methods : methods_at table n ≡ (shape_of at.before class).methods = ap methods_in there in
    subst (λ (z : List Method). Every (λ header. is_main header ≡ false → HeaderKept table z header) (headers_of class)) (sym methods) (headers_kept table at.before class at.differing_headers at.missing_override at.wrongly)

pub chords_kept : ChordsKept
chords_kept p free n k d class headers body class_there chord_there no_main is_derived =
    let table = table_of p in
    let own = no_mains (HeaderKept table (methods_at table n)) headers no_main
    (of_chord (λ header. is_main header ≡ false → HeaderKept table (methods_at table n) header) class.members k headers body chord_there (class_headers_kept p free n class class_there)) in
    let i = methods_inherited p in
    record {
      parameters = laid_along (signatures table) d n i is_derived (chord_methods table n headers) _ (laid_is table n headers own);
      result = gives_along (signatures table) d n i is_derived (chord_methods table n headers) _ (gives_is table n headers own);
    }
