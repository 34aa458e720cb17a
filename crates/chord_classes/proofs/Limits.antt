-- Where no limit is passed, classes, methods, parameters and chords are few.
use Rattle.std.proofs.Common.{◌≡◌, ℕ, zero, suc, ◌+◌, ◌-◌, ◌<◌, ◌≤◌, List, [], ◌∷◌, ◌++◌, Bool, true, false, cond, ◌||◌, length, drop, refl, sym, ap, ◌∙◌, Option, Some, None, is_some, slice_get, arith, length-append}
use Rattle.std.specs.Prelude.{flat_map, nat_le, nat_lt}
use Rattle.std.proofs.lemmas.Bool.{le-leb}
use Rattle.chord_tree.specs.declared.classes.Formal.{Formal}
use Rattle.chord_tree.specs.Tree.{HeaderTree, MemberTree, ConstructorMember, ChordMember, ClassTree}
use Rattle.chord_tree.specs.Walk.{member_headers, headers_of}
use Rattle.chord_bodies.specs.Resolved.{ClassOf, ChordOf}
use Rattle.chord_classes.specs.Types.{built_from}
use Rattle.chord_classes.specs.Table.{first_builder, Method, Shape, formal_types, is_main, method_of, method_named, with_headers, methods_in, base_of, from_base, inherited, shape_of, shapes_after}
use Rattle.chord_classes.specs.Site.{has_main}
use Rattle.chord_classes.specs.NameRules.{when}
use Rattle.chord_classes.specs.Plan.{header_numbers, overridden, spared, chords_without, own_chords, base_chords, class_plan, plans_after}
use Rattle.chord_classes.specs.ChordRules.{header_tokens, formal_tokens, new_headers, member_limits, chord_tokens, base_token, limits_passed, over_plans, block_names}
use Rattle.chord_classes.proofs.Every.{Every, every_both}
use Rattle.chord_classes.proofs.Facts.{true_false, when_not, left_nil, right_nil}
use Rattle.chord_classes.proofs.Heads.{HasHeader}
use Rattle.chord_classes.proofs.Planned.{few_left, length_tokens, members_within}

-- a number that is not at least another is less
not_least : (m n : ℕ) → nat_le m n ≡ false → n < m
not_least m n h = let d : m ≤ n → ⊥ = λ k. true_false (sym (le-leb m n k) ∙ h) in omega (arith, d)

-- Methods.

-- headers add as many methods as make new ones
length_headers : (owner : ℕ) (methods : List Method) (headers : List HeaderTree) → length (with_headers owner methods headers) ≡ length methods + length (new_headers owner methods headers)
length_headers owner methods [] = omega arith
length_headers owner methods (y ∷ ys) = by_choice (is_main y || is_some (method_named methods y.name.text)) (length_headers owner methods ys) (length_headers owner (methods ++ (method_of owner y ∷ [])) ys)
  where
    by_choice : (b : Bool) → length (with_headers owner methods ys) ≡ length methods + length (new_headers owner methods ys)
        → length (with_headers owner (methods ++ (method_of owner y ∷ [])) ys) ≡ length (methods ++ (method_of owner y ∷ [])) + length (new_headers owner (methods ++ (method_of owner y ∷ [])) ys)
        → length (with_headers owner (cond b methods (methods ++ (method_of owner y ∷ []))) ys) ≡ length methods + length (cond b (new_headers owner methods ys) (y ∷ new_headers owner (methods ++ (method_of owner y ∷ [])) ys))
    by_choice true h k = h
    by_choice false h k = let more = length-append methods (method_of owner y ∷ []) in omega (arith, k, more)

-- a method has few parameters
abbrev pub FewOf : Method → Type 0
FewOf method = length method.formals ≤ 8

-- a class has few methods, each with few parameters
pub record SmallShape (shape : Shape) : Type 0 where
  pub few : length shape.methods ≤ 16
  pub each : Every FewOf shape.methods

-- parameters are as many as their written types
length_formals : (formals : List Formal) → length (formal_types formals) ≡ length formals
length_formals [] = refl
length_formals (f ∷ fs) = ap suc (length_formals fs)

-- parameters are as many as the tokens of their names
length_formal_tokens : (formals : List Formal) → length (formal_tokens formals) ≡ length formals
length_formal_tokens [] = refl
length_formal_tokens (f ∷ fs) = ap suc (length_formal_tokens fs)

-- the method of a header without parameters past the limit has few
few_formals : (owner : ℕ) (header : HeaderTree) → drop 8 (formal_tokens header.formals.parameters) ≡ [] → FewOf (method_of owner header)
few_formals owner header h = let a = length_formals header.formals.parameters in let b = length_formal_tokens header.formals.parameters in let c = few_left 8 (formal_tokens header.formals.parameters) h in omega (arith, a, b, c)

-- a header with few parameters
abbrev FewIn : HeaderTree → Type 0
FewIn header = drop 8 (formal_tokens header.formals.parameters) ≡ []

-- where no header has parameters past the limit, each has few
few_flat : (headers : List HeaderTree) → flat_map (λ (h : HeaderTree). drop 8 (formal_tokens h.formals.parameters)) headers ≡ [] → Every FewIn headers
few_flat [] h = tt
few_flat (x ∷ xs) h = (left_nil (drop 8 (formal_tokens x.formals.parameters)) _ h, few_flat xs (right_nil (drop 8 (formal_tokens x.formals.parameters)) _ h))

-- where members pass no limit, each of their headers has few parameters
members_few : (members : List MemberTree) → flat_map member_limits members ≡ [] → Every FewIn (flat_map member_headers members)
members_few [] h = tt
members_few (ConstructorMember modifiers name formals body ∷ more) h = members_few more (right_nil (member_limits (ConstructorMember modifiers name formals body)) (flat_map member_limits more) h)
members_few (ChordMember headers body ∷ more) h =
    let here = left_nil (member_limits (ChordMember headers body)) (flat_map member_limits more) h in
    every_both FewIn headers (flat_map member_headers more)
    (few_flat headers (left_nil (flat_map (λ (x : HeaderTree). drop 8 (formal_tokens x.formals.parameters)) headers) (drop 256 (block_names body)) (right_nil (drop 8 (header_tokens headers)) _ here)))
    (members_few more (right_nil (member_limits (ChordMember headers body)) (flat_map member_limits more) h))

-- methods, with those that headers add, have few parameters where the methods and the headers have
with_headers_few : (owner : ℕ) (methods : List Method) (headers : List HeaderTree) → Every FewOf methods → Every FewIn headers → Every FewOf (with_headers owner methods headers)
with_headers_few owner methods [] h k = h
with_headers_few owner methods (y ∷ ys) h k = with_headers_few owner (cond (is_main y || is_some (method_named methods y.name.text)) methods (methods ++ (method_of owner y ∷ []))) ys (by_choice (is_main y || is_some (method_named methods y.name.text))) k.1
  where
    by_choice : (b : Bool) → Every FewOf (cond b methods (methods ++ (method_of owner y ∷ [])))
    by_choice true = h
    by_choice false = every_both FewOf methods (method_of owner y ∷ []) h (few_formals owner y k.0, tt)

-- the methods of a class among small ones are few, each with few parameters
inherited_small : (done : List Shape) (base : ℕ) → Every SmallShape done → (length (methods_in (slice_get done base)) ≤ 16) × Every FewOf (methods_in (slice_get done base))
inherited_small [] base h = (omega arith, tt)
inherited_small (s ∷ ss) zero h = (h.0.few, h.0.each)
inherited_small (s ∷ ss) (suc base) h = inherited_small ss base h.1

-- the methods that are inherited from small classes are few, each with few parameters
base_small : (done : List Shape) (base : Option ℕ) → Every SmallShape done → (length (inherited done base) ≤ 16) × Every FewOf (inherited done base)
base_small done None h = (omega arith, tt)
base_small done (Some base) h = inherited_small done base h

-- what a drop leaves: there are at most as many as the limit less those before
few_more : (limit : ℕ) (before : ℕ) (xs : List ℕ) → before ≤ limit → drop (limit - before) xs ≡ [] → before + length xs ≤ limit
few_more limit before xs h k = let l = few_left (limit - before) xs k in omega (arith, h, l)

-- the third and the last of five lists that have nothing together
third : (a b c d e : List ℕ) → a ++ (b ++ (c ++ (d ++ e))) ≡ [] → c ≡ []
third a b c d e h = left_nil c (d ++ e) (right_nil b (c ++ (d ++ e)) (right_nil a (b ++ (c ++ (d ++ e))) h))

-- five lists that have nothing together: the last
fifth : (a b c d e : List ℕ) → a ++ (b ++ (c ++ (d ++ e))) ≡ [] → e ≡ []
fifth a b c d e h = right_nil d e (right_nil c (d ++ e) (right_nil b (c ++ (d ++ e)) (right_nil a (b ++ (c ++ (d ++ e))) h)))

-- a class that passes no limit has no more new methods than sixteen less the inherited ones
methods_within : (done : List Shape) (plans : List ClassOf) (class : ClassTree) → limits_passed done plans class ≡ [] → drop (16 - length (inherited done (base_of done class))) (header_tokens (new_headers (length done) (inherited done (base_of done class)) (headers_of class))) ≡ []
methods_within done plans class h =
    third (when (nat_le 1024 (length done)) class.name.at) (base_token class.base (nat_lt 16 (length (from_base done (base_of done class)))))
    (drop (16 - length (inherited done (base_of done class))) (header_tokens (new_headers (length done) (inherited done (base_of done class)) (headers_of class)))) (flat_map member_limits class.members)
    (drop (256 - length (base_chords plans (base_of done class))) (chord_tokens class.members)) h

-- a class that passes no limit has no more chords of its own than 256 less those of its base
chords_within : (done : List Shape) (plans : List ClassOf) (class : ClassTree) → limits_passed done plans class ≡ [] → drop (256 - length (base_chords plans (base_of done class))) (chord_tokens class.members) ≡ []
chords_within done plans class h =
    fifth (when (nat_le 1024 (length done)) class.name.at) (base_token class.base (nat_lt 16 (length (from_base done (base_of done class)))))
    (drop (16 - length (inherited done (base_of done class))) (header_tokens (new_headers (length done) (inherited done (base_of done class)) (headers_of class)))) (flat_map member_limits class.members)
    (drop (256 - length (base_chords plans (base_of done class))) (chord_tokens class.members)) h

-- a class after small ones is small
small_shape : (done : List Shape) (plans : List ClassOf) (class : ClassTree) → Every SmallShape done → limits_passed done plans class ≡ [] → SmallShape (shape_of done class)
small_shape done plans class h limits =
    let base = base_small done (base_of done class) h in
    let all = length_headers (length done) (inherited done (base_of done class)) (headers_of class) in
    let tokens = length_tokens (new_headers (length done) (inherited done (base_of done class)) (headers_of class)) in
    let within = few_more 16 (length (inherited done (base_of done class))) (header_tokens (new_headers (length done) (inherited done (base_of done class)) (headers_of class))) base.0 (methods_within done plans class limits) in
    record {
      few = omega (arith, all, tokens, within);
      each = with_headers_few (length done) (inherited done (base_of done class)) (headers_of class) base.1 (members_few class.members (members_within done plans class limits));
    }

-- a class within the limits has at most sixteen methods and sixteen classes above it
pub shapes_small : (done : List Shape) (plans : List ClassOf) (number : ℕ) (classes : List ClassTree) → Every SmallShape done → over_plans limits_passed done plans number classes ≡ [] → Every SmallShape (shapes_after done classes)
shapes_small done plans number [] h limits = h
shapes_small done plans number (c ∷ cs) h limits =
    let here = left_nil (limits_passed done plans c) (over_plans limits_passed (done ++ (shape_of done c ∷ [])) (plans ++ (class_plan done plans number c ∷ [])) (number + length c.members) cs) limits in
    shapes_small (done ++ (shape_of done c ∷ [])) (plans ++ (class_plan done plans number c ∷ [])) (number + length c.members) cs
    (every_both SmallShape done (shape_of done c ∷ []) h (small_shape done plans c h here, tt)) (right_nil (limits_passed done plans c) _ limits)

-- the parameters of a constructor are few
abbrev pub FewBuiltShape : Shape → Type 0
FewBuiltShape shape = length (built_from shape.builder) ≤ 8

-- where members pass no limit, the first constructor among them takes at most eight values
few_builder : (members : List MemberTree) → flat_map member_limits members ≡ [] → length (built_from (first_builder members)) ≤ 8
few_builder [] h = omega arith
few_builder (ConstructorMember modifiers name formals body ∷ more) h =
    let a = length_formals formals.parameters in
    let b = length_formal_tokens formals.parameters in
    let c = few_left 8 (formal_tokens formals.parameters) (left_nil (drop 8 (formal_tokens formals.parameters)) _ (left_nil (member_limits (ConstructorMember modifiers name formals body)) (flat_map member_limits more) h)) in
    omega (arith, a, b, c)
few_builder (ChordMember headers body ∷ more) h = few_builder more (right_nil (member_limits (ChordMember headers body)) (flat_map member_limits more) h)

-- a constructor within the limits has at most eight parameters
pub few_builders : (done : List Shape) (plans : List ClassOf) (number : ℕ) (classes : List ClassTree) → Every FewBuiltShape done → over_plans limits_passed done plans number classes ≡ [] → Every FewBuiltShape (shapes_after done classes)
few_builders done plans number [] h limits = h
few_builders done plans number (c ∷ cs) h limits =
    let here = left_nil (limits_passed done plans c) (over_plans limits_passed (done ++ (shape_of done c ∷ [])) (plans ++ (class_plan done plans number c ∷ [])) (number + length c.members) cs) limits in
    few_builders (done ++ (shape_of done c ∷ [])) (plans ++ (class_plan done plans number c ∷ [])) (number + length c.members) cs
    (every_both FewBuiltShape done (shape_of done c ∷ []) h (few_builder c.members (members_within done plans c here), tt)) (right_nil (limits_passed done plans c) _ limits)

-- Classes.

-- a program within the limits has at most 1,024 classes
pub few_classes : (done : List Shape) (plans : List ClassOf) (number : ℕ) (classes : List ClassTree) → length plans ≡ length done → length plans ≤ 1024 → over_plans limits_passed done plans number classes ≡ [] → length (plans_after done plans number classes) ≤ 1024
few_classes done plans number [] same h limits = h
few_classes done plans number (c ∷ cs) same h limits =
    let new = shape_of done c in
    let plan = class_plan done plans number c in
    let here : limits_passed done plans c ≡ [] = left_nil (limits_passed done plans c) (over_plans limits_passed (done ++ (new ∷ [])) (plans ++ (plan ∷ [])) (number + length c.members) cs) limits in
    let below : length done < 1024 = not_least 1024 (length done) (when_not (nat_le 1024 (length done)) c.name.at (left_nil (when (nat_le 1024 (length done)) c.name.at) _ here)) in
    let a = length-append done (new ∷ []) in
    let b = length-append plans (plan ∷ []) in
    few_classes (done ++ (new ∷ [])) (plans ++ (plan ∷ [])) (number + length c.members) cs (omega (arith, a, b, same)) (omega (arith, b, same, below)) (right_nil (limits_passed done plans c) _ limits)

-- Chords.

-- the chords that have none of some methods are at most all chords
fewer : (others : List ℕ) (chords : List ChordOf) → length (chords_without others chords) ≤ length chords
fewer others [] = omega arith
fewer others (k ∷ ks) = by_choice (spared others k.methods) (fewer others ks)
  where
    by_choice : (b : Bool) → length (chords_without others ks) ≤ length ks → length (cond b (k ∷ []) [] ++ chords_without others ks) ≤ suc (length ks)
    by_choice true h = omega (arith, h)
    by_choice false h = omega (arith, h)

-- where each chord has a header, the chords of members are as many as their tokens
own_count : (methods : List Method) (number : ℕ) (members : List MemberTree) → ((j : ℕ) (m : MemberTree) → slice_get members j ≡ Some m → HasHeader m) → length (own_chords methods number members) ≡ length (chord_tokens members)
own_count methods number [] heads = refl
own_count methods number (ConstructorMember modifiers name formals body ∷ more) heads = own_count methods (number + 1) more (λ j m e. heads (suc j) m e)
own_count methods number (ChordMember [] body ∷ more) heads = absurd (nothing_below (heads 0 (ChordMember [] body) refl))
  where
    nothing_below : 0 < 0 → ⊥
    nothing_below h = omega arith
own_count methods number (ChordMember (x ∷ xs) body ∷ more) heads = by_main (has_main (x ∷ xs)) (own_count methods (number + 1) more (λ j m e. heads (suc j) m e))
  where
    by_main : (b : Bool) → length (own_chords methods (number + 1) more) ≡ length (chord_tokens more)
        → length (cond b [] (record { body = number; methods = header_numbers methods (x ∷ xs) } ∷ []) ++ own_chords methods (number + 1) more) ≡ length (cond b [] (x.name.at ∷ []) ++ chord_tokens more)
    by_main true h = h
    by_main false h = ap suc h

-- the plans so far have few chords
abbrev pub FewChords : ClassOf → Type 0
FewChords plan = length plan.chords ≤ 256

-- the effective chords of a base class are at most 256 where the plans so far have few
base_few : (plans : List ClassOf) (base : Option ℕ) → Every FewChords plans → length (base_chords plans base) ≤ 256
base_few plans None h = omega arith
base_few [] (Some base) h = omega arith
base_few (x ∷ xs) (Some zero) h = h.0
base_few (x ∷ xs) (Some (suc base)) h = base_few xs (Some base) h.1

-- a class that passes no limit has few chords where the plans so far have few
few_chords_here : (done : List Shape) (plans : List ClassOf) (number : ℕ) (class : ClassTree) → Every FewChords plans → limits_passed done plans class ≡ [] → ((j : ℕ) (m : MemberTree) → slice_get class.members j ≡ Some m → HasHeader m) → FewChords (class_plan done plans number class)
few_chords_here done plans number class h limits heads =
    let ms = inherited done (base_of done class) in
    let bases = base_chords plans (base_of done class) in
    let before = base_few plans (base_of done class) h in
    let kept = fewer (overridden ms (headers_of class)) bases in
    let own = own_count (shape_of done class).methods number class.members heads in
    let within = few_more 256 (length bases) (chord_tokens class.members) before (chords_within done plans class limits) in
    let all = length-append (chords_without (overridden ms (headers_of class)) bases) (own_chords (shape_of done class).methods number class.members) in
    omega (arith, before, kept, own, within, all)

-- a class within the limits has at most 256 effective chords
pub few_chords : (done : List Shape) (plans : List ClassOf) (number : ℕ) (classes : List ClassTree) → ((n k : ℕ) (class : ClassTree) (member : MemberTree) → slice_get classes n ≡ Some class → slice_get class.members k ≡ Some member → HasHeader member)
    → Every FewChords plans → over_plans limits_passed done plans number classes ≡ [] → Every FewChords (plans_after done plans number classes)
few_chords done plans number [] heads h limits = h
few_chords done plans number (c ∷ cs) heads h limits =
    let new = shape_of done c in
    let plan = class_plan done plans number c in
    let here : limits_passed done plans c ≡ [] = left_nil (limits_passed done plans c) (over_plans limits_passed (done ++ (new ∷ [])) (plans ++ (plan ∷ [])) (number + length c.members) cs) limits in
    few_chords (done ++ (new ∷ [])) (plans ++ (plan ∷ [])) (number + length c.members) cs (λ n k class member e g. heads (suc n) k class member e g)
    (every_both FewChords plans (plan ∷ []) h (few_chords_here done plans number c h here (λ j m e. heads 0 j c m refl e), tt)) (right_nil (limits_passed done plans c) _ limits)
