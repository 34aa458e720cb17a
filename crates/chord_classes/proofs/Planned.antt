-- Each effective chord of a class has a body whose parameters and result are those of its methods.
use Rattle.std.proofs.Common.{◌≡◌, ℕ, zero, suc, ◌+◌, ◌<◌, ◌≤◌, List, [], ◌∷◌, ◌++◌, Bool, true, false, not, cond, ◌&&◌, ◌||◌, ◌==◌, nat_eq, length, map, drop, refl, sym, ap, ◌∙◌, subst, Option, Some, None, slice_get, arith, length-append}
use Rattle.std.specs.Prelude.{option_map, unwrap_or, bytes_eq, flat_map, nat_le, nat_lt, ◌-◌}
use Rattle.std.proofs.lemmas.Bool.{eqb-true, eq-eqb}
use Rattle.chord_base.specs.Messages.{has, AreDifferent}
use Rattle.chord_tree.specs.Tree.{BlockTree, HeaderTree, MemberTree, ConstructorMember, ChordMember, ClassTree, ProgramTree}
use Rattle.chord_tree.specs.Walk.{member_headers, headers_of}
use Rattle.chord_bodies.specs.Resolved.{BodyOf, ChordOf, ClassOf}
use Rattle.chord_bodies.specs.Planned.{ChordIs}
use Rattle.chord_classes.specs.Table.{Method, Found, Shape, is_main, method_from, method_named, methods_in, methods_at, base_of, from_base, inherited, above_in, above, among, shape_of, shapes_after, table_of, derives}
use Rattle.chord_classes.specs.Types.{signatures, signatures_of}
use Rattle.chord_classes.specs.Site.{has_main}
use Rattle.chord_classes.specs.NameRules.{when}
use Rattle.chord_classes.specs.OverrideRules.{over_shapes, in_classes}
use Rattle.chord_classes.specs.Resolve.{resolved_member, resolved_classes, bodies_of}
use Rattle.chord_classes.specs.Plan.{header_number, header_numbers, overridden, spared, chords_without, own_chords, chords_in, base_chords, class_plan, plans_after, resolved_program}
use Rattle.chord_classes.specs.ChordRules.{named_in, repeated, repeated_in, repeated_methods, second_sync, crowded_in, second_synchronous, header_tokens, chord_tokens, new_headers, base_token, member_limits, limits_passed, over_plans}
use Rattle.chord_classes.specs.Rules.{C04, C06, C07, IsFree, is_header_rule, is_plan_rule, limits_in}
use Rattle.chord_classes.specs.Laws.{ChordsPlanned}
use Rattle.chord_classes.proofs.Heads.{HasHeader, HaveHeaders, have_headers}
use Rattle.chord_classes.proofs.Every.{Every, every_left, every_right, every_both, every_get, every_map}
use Rattle.chord_classes.proofs.Facts.{none_some, same_some, true_false, when_not, left_nil, right_nil, neither_left, neither_right}
use Rattle.chord_classes.proofs.Terms.{FoundIn, method_is}
use Rattle.chord_classes.proofs.Kept.{none_contained}
use Rattle.chord_classes.proofs.Inherits.{among_every, methods_inherited}
use Rattle.chord_classes.proofs.Headers.{HeaderKept, laid_is, gives_is, laid_along, gives_along, one_sync_is, one_sync_along, no_mains, shapes_begin, bytes_itself, bytes_same, class_headers_kept}
use Rattle.chord_classes.proofs.Lists.{get_last}

-- Numbers of headers.

-- what is found by name has that name
found_name : (n : ℕ) (methods : List Method) (name : List ℕ) (f : Found) → method_from n methods name ≡ Some f → bytes_eq f.method.name name ≡ true
found_name n [] name f h = absurd (none_some h)
found_name n (m ∷ ms) name f h = by_first (bytes_eq m.name name) refl h (λ k. found_name (n + 1) ms name f k)
  where
    by_first : (b : Bool) → bytes_eq m.name name ≡ b → cond b (Some (record { number = n; method = m })) (method_from (n + 1) ms name) ≡ Some f → (method_from (n + 1) ms name ≡ Some f → bytes_eq f.method.name name ≡ true) → bytes_eq f.method.name name ≡ true
    by_first true e k g = subst (λ (z : Found). bytes_eq z.method.name name ≡ true) (same_some k) e
    by_first false e k g = g k

-- the method at a header's number is the one that was found by its name
number_found : (methods : List Method) (header : HeaderTree) (f : Found) → method_named methods header.name.text ≡ Some f → slice_get methods (header_number methods header) ≡ Some f.method
unfolding FoundIn
number_found methods header f e =
    let r = method_is 0 methods header.name.text f e in
    let place : f.number ≡ r.0 = omega (arith, r.1) in
    ap (slice_get methods) (ap (λ o. unwrap_or (option_map (λ (z : Found). z.number) o) 0) e ∙ place) ∙ r.2

-- headers of one number have one name
same_number : (table : List Shape) (methods : List Method) (x y : HeaderTree) → HeaderKept table methods x → HeaderKept table methods y → header_number methods x ≡ header_number methods y → x.name.text ≡ y.name.text
same_number table methods x y kx ky e =
    let one : kx.found.method ≡ ky.found.method = same_some (sym (number_found methods x kx.found kx.is) ∙ ap (slice_get methods) e ∙ number_found methods y ky.found ky.is) in
    sym (bytes_same kx.found.method.name x.name.text (found_name 0 methods x.name.text kx.found kx.is))
    ∙ ap (λ (z : Method). z.name) one ∙ bytes_same ky.found.method.name y.name.text (found_name 0 methods y.name.text ky.found ky.is)

-- headers of different names have different numbers
differ_by_name : (table : List Shape) (methods : List Method) (x y : HeaderTree) → HeaderKept table methods x → HeaderKept table methods y → bytes_eq y.name.text x.name.text ≡ false → (header_number methods x == header_number methods y) ≡ false
differ_by_name table methods x y kx ky d = by_test (header_number methods x == header_number methods y) refl
  where
    by_test : (b : Bool) → (header_number methods x == header_number methods y) ≡ b → b ≡ false
    by_test false e = refl
    by_test true e =
        let names = same_number table methods x y kx ky (eqb-true (header_number methods x) (header_number methods y) e) in
        absurd (true_false (sym (bytes_itself y.name.text) ∙ ap (bytes_eq y.name.text) (sym names) ∙ d))

-- a number that differs from each of some is not among them
not_has : (table : List Shape) (methods : List Method) (x : HeaderTree) (ys : List HeaderTree) → HeaderKept table methods x → Every (HeaderKept table methods) ys → Every (λ (y : HeaderTree). bytes_eq y.name.text x.name.text ≡ false) ys → has (header_number methods x) (header_numbers methods ys) ≡ false
not_has table methods x [] kx ks ds = refl
not_has table methods x (y ∷ ys) kx ks ds = both_false (header_number methods x == header_number methods y) (has (header_number methods x) (header_numbers methods ys)) (differ_by_name table methods x y kx ks.0 ds.0) (not_has table methods x ys kx ks.1 ds.1)
  where
    both_false : (a b : Bool) → a ≡ false → b ≡ false → (a || b) ≡ false
    both_false a b h k = rw (h, k) refl

-- the headers behind one have other names
others_differ : (name : List ℕ) (before : List (List ℕ)) (headers : List HeaderTree) → has_main headers ≡ false → repeated before headers ≡ [] → ((other : List ℕ) → named_in other before ≡ false → bytes_eq other name ≡ false) → Every (λ (y : HeaderTree). bytes_eq y.name.text name ≡ false) headers
others_differ name before [] m h f = tt
others_differ name before (y ∷ ys) m h f = (
  f y.name.text (unnamed (is_main y) (has_main ys) (named_in y.name.text before) m (when_not _ y.name.at (left_nil _ (repeated (y.name.text ∷ before) ys) h))),
  others_differ name (y.name.text ∷ before) ys (neither_right (is_main y) (has_main ys) m) (right_nil (when (not (is_main y) && named_in y.name.text before) y.name.at) _ h) (λ other k. f other (neither_right (bytes_eq other y.name.text) (named_in other before) k)),
)
  where
    unnamed : (a b c : Bool) → (a || b) ≡ false → (not a && c) ≡ false → c ≡ false
    unnamed true b c h k = absurd (true_false h)
    unnamed false b c h k = k

-- the methods of a chord are different where no name stands twice in its header
different : (table : List Shape) (methods : List Method) (before : List (List ℕ)) (headers : List HeaderTree) → has_main headers ≡ false → repeated before headers ≡ [] → Every (HeaderKept table methods) headers → AreDifferent (header_numbers methods headers)
different table methods before [] m h ks = tt
different table methods before (x ∷ xs) m h ks =
    let rest = right_nil (when (not (is_main x) && named_in x.name.text before) x.name.at) (repeated (x.name.text ∷ before) xs) h in
    let no_main = neither_right (is_main x) (has_main xs) m in (
      not_has table methods x xs ks.0 ks.1 (others_differ x.name.text (x.name.text ∷ before) xs no_main rest (λ other k. neither_left (bytes_eq other x.name.text) (named_in other before) k)),
      different table methods (x.name.text ∷ before) xs no_main rest ks.1,
    )

-- where nothing is left behind the first n there are at most n
pub few_left : (n : ℕ) (xs : List ℕ) → drop n xs ≡ [] → length xs ≤ n
few_left n [] h = omega arith
few_left zero (x ∷ xs) h = absurd (not_nil h)
  where
    not_nil : ◌≡◌ {A = List ℕ} (x ∷ xs) [] → ⊥
    not_nil e = cc
few_left (suc n) (x ∷ xs) h = let k = few_left n xs h in omega (arith, k)

-- there are as many numbers of methods as headers
length_numbers : (methods : List Method) (headers : List HeaderTree) → length (header_numbers methods headers) ≡ length headers
length_numbers methods [] = refl
length_numbers methods (x ∷ xs) = ap suc (length_numbers methods xs)

-- there are as many tokens as headers
pub length_tokens : (headers : List HeaderTree) → length (header_tokens headers) ≡ length headers
length_tokens [] = refl
length_tokens (x ∷ xs) = ap suc (length_tokens xs)

-- five lists that have nothing together: the fourth
fourth : (a b c d e : List ℕ) → a ++ (b ++ (c ++ (d ++ e))) ≡ [] → d ≡ []
fourth a b c d e h = left_nil d e (right_nil c (d ++ e) (right_nil b (c ++ (d ++ e)) (right_nil a (b ++ (c ++ (d ++ e))) h)))

-- where a class passes no limit, its members pass none
pub members_within : (done : List Shape) (plans : List ClassOf) (class : ClassTree) → limits_passed done plans class ≡ [] → flat_map member_limits class.members ≡ []
members_within done plans class h =
    fourth (when (nat_le 1024 (length done)) class.name.at) (base_token class.base (nat_lt 16 (length (from_base done (base_of done class)))))
    (drop (16 - length (inherited done (base_of done class))) (header_tokens (new_headers (length done) (inherited done (base_of done class)) (headers_of class)))) (flat_map member_limits class.members)
    (drop (256 - length (base_chords plans (base_of done class))) (chord_tokens class.members)) h

-- Chords of a program.

module _ (p : ProgramTree) where
  -- the class table of the program
  abbrev table : List Shape
  table = table_of p

  -- what sound code needs of a chord holds of it in the class of this number
  abbrev IsPlannedAt : ℕ → ChordOf → Type 0
  IsPlannedAt class chord = ChordIs (signatures_of p) (resolved_program p) class chord

  -- a chord of a class is one of each class that derives from it
  chord_along : (d c : ℕ) (chord : ChordOf) → derives table d c ≡ true → IsPlannedAt c chord → IsPlannedAt d chord
  chord_along d c chord h k =
      let i = methods_inherited p in
      record {
        body = k.body;
        there = k.there;
        is_chord = k.is_chord;
        derives = i.along d c k.body.class h k.derives;
        some = k.some;
        few = k.few;
        different = k.different;
        one_sync = one_sync_along (signatures table) d c i h chord.methods k.body.parameters k.parameters k.one_sync;
        parameters = laid_along (signatures table) d c i h chord.methods k.body.parameters k.parameters;
        result = gives_along (signatures table) d c i h chord.methods k.body.result k.result;
      }

  -- what sound code needs of chords holds of those that have none of these methods
  without : (class : ℕ) (others : List ℕ) (chords : List ChordOf) → Every (IsPlannedAt class) chords → Every (IsPlannedAt class) (chords_without others chords)
  without class others [] h = tt
  without class others (k ∷ ks) h = every_both (IsPlannedAt class) (cond (spared others k.methods) (k ∷ []) []) (chords_without others ks) (by_choice (spared others k.methods)) (without class others ks h.1)
    where
      by_choice : (b : Bool) → Every (IsPlannedAt class) (cond b (k ∷ []) [])
      by_choice true = (h.0, tt)
      by_choice false = tt

  -- a chord of a class's own
  own_chord : (n : ℕ) (class : ClassTree) (number : ℕ) (headers : List HeaderTree) (body : BlockTree) → slice_get (bodies_of p) number ≡ Some (resolved_member table n class (ChordMember headers body)) → has_main headers ≡ false
      → Every (HeaderKept table (methods_at table n)) headers → drop 8 (header_tokens headers) ≡ [] → repeated [] headers ≡ [] → second_sync false headers ≡ [] → 0 < length headers → IsPlannedAt n (record { body = number; methods = header_numbers (methods_at table n) headers })
  own_chord n class number headers body there m ks few again_nil crowded_nil some_header =
      let i = methods_inherited p in
      let numbers = length_numbers (methods_at table n) headers in
      let tokens = length_tokens headers in
      let at_most = few_left 8 (header_tokens headers) few in
      record {
        body = resolved_member table n class (ChordMember headers body);
        there = there;
        is_chord = (m, refl);
        derives = i.itself n;
        some = omega (arith, numbers, some_header);
        few = omega (arith, numbers, tokens, at_most);
        different = different table (methods_at table n) [] headers m again_nil ks;
        one_sync = (one_sync_is table n headers m ks false crowded_nil).1;
        parameters = laid_is table n headers ks;
        result = gives_is table n headers ks;
      }

  -- what sound code needs of a class's own chords holds of them where nothing is broken at its members
  own_planned : (n : ℕ) (class : ClassTree) (number : ℕ) (members : List MemberTree) → ((j : ℕ) (m : MemberTree) → slice_get members j ≡ Some m → slice_get (bodies_of p) (number + j) ≡ Some (resolved_member table n class m))
      → Every (λ header. is_main header ≡ false → HeaderKept table (methods_at table n) header) (flat_map member_headers members) → flat_map member_limits members ≡ [] → flat_map repeated_in members ≡ [] → flat_map crowded_in members ≡ []
      → ((j : ℕ) (m : MemberTree) → slice_get members j ≡ Some m → HasHeader m) → Every (IsPlannedAt n) (own_chords (methods_at table n) number members)
  own_planned n class number [] at ks limits again_nil crowded_nil heads = tt
  own_planned n class number (ConstructorMember modifiers name formals body ∷ more) at ks limits again_nil crowded_nil heads =
      own_planned n class (number + 1) more (λ j m e. let next : number + 1 + j ≡ number + suc j = omega arith in ap (slice_get (bodies_of p)) next ∙ at (suc j) m e) ks
      (right_nil (member_limits (ConstructorMember modifiers name formals body)) (flat_map member_limits more) limits) again_nil crowded_nil (λ j m e. heads (suc j) m e)
  own_planned n class number (ChordMember headers body ∷ more) at ks limits again_nil crowded_nil heads =
      every_both (IsPlannedAt n) (cond (has_main headers) [] (record { body = number; methods = header_numbers (methods_at table n) headers } ∷ [])) (own_chords (methods_at table n) (number + 1) more)
      (by_main (has_main headers) refl)
      (own_planned n class (number + 1) more (λ j m e. let next : number + 1 + j ≡ number + suc j = omega arith in ap (slice_get (bodies_of p)) next ∙ at (suc j) m e)
      (every_right (λ header. is_main header ≡ false → HeaderKept table (methods_at table n) header) headers (flat_map member_headers more) ks)
      (right_nil (member_limits (ChordMember headers body)) (flat_map member_limits more) limits) (right_nil (repeated [] headers) (flat_map repeated_in more) again_nil) (right_nil (second_sync false headers) (flat_map crowded_in more) crowded_nil) (λ j m e. heads (suc j) m e))
    where
      by_main : (b : Bool) → has_main headers ≡ b → Every (IsPlannedAt n) (cond b [] (record { body = number; methods = header_numbers (methods_at table n) headers } ∷ []))
      by_main true e = tt
      by_main false e =
          let first : number ≡ number + 0 = omega arith in (
            own_chord n class number headers body (ap (slice_get (bodies_of p)) first ∙ at 0 (ChordMember headers body) refl) e
                (no_mains (HeaderKept table (methods_at table n)) headers e (every_left (λ header. is_main header ≡ false → HeaderKept table (methods_at table n) header) headers (flat_map member_headers more) ks))
                (left_nil (drop 8 (header_tokens headers)) _ (left_nil (member_limits (ChordMember headers body)) (flat_map member_limits more) limits))
                (left_nil (repeated [] headers) (flat_map repeated_in more) again_nil) (left_nil (second_sync false headers) (flat_map crowded_in more) crowded_nil) (heads 0 (ChordMember headers body) refl),
            tt,
          )

  -- the effective chords of a base, in the class that has it
  base_planned : (n : ℕ) (done : List Shape) (class : ClassTree) (plans : List ClassOf) (base : Option ℕ) → base_of done class ≡ base → slice_get table n ≡ Some (shape_of done class)
      → ((c : ℕ) (x : ClassOf) → slice_get plans c ≡ Some x → Every (IsPlannedAt c) x.chords) → Every (IsPlannedAt n) (base_chords plans base)
  base_planned n done class plans None e there h = tt
  base_planned n done class plans (Some base) e there h =
      let all : above table n ≡ base ∷ above done base = ap above_in there ∙ ap (from_base done) e in
      let listed : among base (above table n) ≡ true = ap (among base) all ∙ first_true (nat_eq base base) (among base (above done base)) (eq-eqb base base refl) in
      let derived : derives table n base ≡ true = second_true (nat_eq n base) (among base (above table n)) listed in
      by_plan derived (slice_get plans base) refl
    where
      first_true : (a b : Bool) → a ≡ true → (a || b) ≡ true
      first_true a b h = rw h refl

      second_true : (a b : Bool) → b ≡ true → (a || b) ≡ true
      second_true true b h = refl
      second_true false b h = h

      by_plan : derives table n base ≡ true → (o : Option ClassOf) → slice_get plans base ≡ o → Every (IsPlannedAt n) (chords_in o)
      by_plan d None e = tt
      by_plan d (Some x) e = every_map (IsPlannedAt base) (IsPlannedAt n) x.chords (λ k i. chord_along n base k d i) (h base x e)

  -- bodies by the numbers of their members
  pub get_behind : {X : Type 0} (xs ys : List X) (j : ℕ) → slice_get (xs ++ ys) (length xs + j) ≡ slice_get ys j
  get_behind [] ys j = let e : 0 + j ≡ j = omega arith in ap (slice_get ys) e
  get_behind (x ∷ xs) ys j = let e : suc (length xs) + j ≡ suc (length xs + j) = omega arith in ap (slice_get (x ∷ (xs ++ ys))) e ∙ get_behind xs ys j

  -- the body of the member at a place is at this place among the bodies of members
  pub get_mapped : (n : ℕ) (class : ClassTree) (members : List MemberTree) (rest : List BodyOf) (j : ℕ) (m : MemberTree) → slice_get members j ≡ Some m → slice_get (map (resolved_member table n class) members ++ rest) j ≡ Some (resolved_member table n class m)
  get_mapped n class [] rest j m e = absurd (none_some e)
  get_mapped n class (x ∷ xs) rest zero m e = ap Some (ap (resolved_member table n class) (same_some e))
  get_mapped n class (x ∷ xs) rest (suc j) m e = get_mapped n class xs rest j m e

  -- there are as many bodies as members
  pub length_members : (n : ℕ) (class : ClassTree) (members : List MemberTree) → length (map (resolved_member table n class) members) ≡ length members
  length_members n class [] = refl
  length_members n class (x ∷ xs) = ap suc (length_members n class xs)

  -- a new item behind some: each place is one of theirs, or the new one's
  get_either : {X : Type 0} (P : ℕ → X → Type 0) (xs : List X) (x : X) (k : ℕ) → ((c : ℕ) (y : X) → slice_get xs c ≡ Some y → P (k + c) y) → P (k + length xs) x → (c : ℕ) (y : X) → slice_get (xs ++ (x ∷ [])) c ≡ Some y → P (k + c) y
  get_either P [] x k f h zero y e = subst (P (k + 0)) (same_some e) h
  get_either P [] x k f h (suc c) y e = absurd (none_some e)
  get_either P (z ∷ zs) x k f h zero y e = f 0 y e
  get_either P (z ∷ zs) x k f h (suc c) y e =
      let at : k + 1 + c ≡ k + suc c = omega arith in
      let last : k + suc (length zs) ≡ k + 1 + length zs = omega arith in
      subst (λ i. P i y) at (get_either P zs x (k + 1) (λ d w g. let there : k + suc d ≡ k + 1 + d = omega arith in subst (λ i. P i w) there (f (suc d) w g)) (subst (λ i. P i x) last h) c y e)

  module _ (free : IsFree is_header_rule p) (heads : HaveHeaders p) where
    -- what sound code needs of effective chords holds of those of all classes, where it does of the classes so far
    plans_good : (done : List Shape) (plans : List ClassOf) (number : ℕ) (classes : List ClassTree) → shapes_after done classes ≡ table → length plans ≡ length done
        → ((i : ℕ) → slice_get p.classes (length done + i) ≡ slice_get classes i) → ((j : ℕ) → slice_get (bodies_of p) (number + j) ≡ slice_get (resolved_classes table (length done) classes) j)
        → over_plans limits_passed done plans number classes ≡ [] → over_shapes repeated_methods done classes ≡ [] → over_shapes second_synchronous done classes ≡ []
        → ((c : ℕ) (x : ClassOf) → slice_get plans c ≡ Some x → Every (IsPlannedAt c) x.chords) → (c : ℕ) (x : ClassOf) → slice_get (plans_after done plans number classes) c ≡ Some x → Every (IsPlannedAt c) x.chords
    plans_good done plans number [] whole same at bodies limits again_nil crowded_nil h = h
    plans_good done plans number (class ∷ more) whole same at bodies limits again_nil crowded_nil h =
        let n = length done in
        let new = shape_of done class in
        let plan = class_plan done plans number class in
        let within : limits_passed done plans class ≡ [] = left_nil (limits_passed done plans class) (over_plans limits_passed (done ++ (new ∷ [])) (plans ++ (plan ∷ [])) (number + length class.members) more) limits in
        let longer = length-append done (new ∷ []) in
        let plans_longer = length-append plans (plan ∷ []) in
        let there : slice_get table n ≡ Some new = ap (λ z. slice_get z n) (sym whole) ∙ shapes_begin (done ++ (new ∷ [])) more n new (get_last done new) in
        let first : n ≡ n + 0 = omega arith in
        let class_there : slice_get p.classes n ≡ Some class = ap (slice_get p.classes) first ∙ at 0 in
        let kept = class_headers_kept p free n class class_there in
        let methods : methods_at table n ≡ new.methods = ap methods_in there in
        let own : Every (IsPlannedAt n) (own_chords new.methods number class.members) =
        subst (λ (z : List Method). Every (IsPlannedAt n) (own_chords z number class.members)) methods
        (own_planned n class number class.members
        (λ j m e. bodies j ∙ get_mapped n class class.members (resolved_classes table (n + 1) more) j m e)
        kept
        (members_within done plans class within)
        (left_nil (repeated_methods done class) _ again_nil) (left_nil (second_synchronous done class) _ crowded_nil)
        (λ j m e. heads n j class m class_there e)) in
        let base = base_planned n done class plans (base_of done class) refl there h in
        let new_good : Every (IsPlannedAt n) plan.chords = every_both (IsPlannedAt n) (chords_without (overridden (inherited done (base_of done class)) (headers_of class)) (base_chords plans (base_of done class))) (own_chords new.methods number class.members)
        (without n (overridden (inherited done (base_of done class)) (headers_of class)) (base_chords plans (base_of done class)) base) own in
        plans_good (done ++ (new ∷ [])) (plans ++ (plan ∷ [])) (number + length class.members) more whole (omega (arith, longer, plans_longer, same))
        (λ i. let next : length (done ++ (new ∷ [])) + i ≡ n + suc i = omega (arith, longer) in ap (slice_get p.classes) next ∙ at (suc i))
        (λ j.
        let members = map (resolved_member table n class) class.members in
        let many : length members ≡ length class.members = length_members n class class.members in
        let here : number + length class.members + j ≡ number + (length members + j) = omega (arith, many) in
        let next : n + 1 ≡ length (done ++ (new ∷ [])) = omega (arith, longer) in
        ap (slice_get (bodies_of p)) here ∙ bodies (length members + j) ∙ get_behind members (resolved_classes table (n + 1) more) j ∙ ap (λ z. slice_get (resolved_classes table z more) j) next)
        (right_nil (limits_passed done plans class) _ limits) (right_nil (repeated_methods done class) _ again_nil) (right_nil (second_synchronous done class) _ crowded_nil)
        (λ c x e.
        let from : 0 + c ≡ c = omega arith in
        let at_end : n ≡ 0 + length plans = omega (arith, same) in
        subst (λ (z : ℕ). Every (IsPlannedAt z) x.chords) from
        (get_either (λ k (y : ClassOf). Every (IsPlannedAt k) y.chords) plans plan 0 (λ d y g. let to_d : d ≡ 0 + d = omega arith in subst (λ (z : ℕ). Every (IsPlannedAt z) y.chords) to_d (h d y g))
        (subst (λ (z : ℕ). Every (IsPlannedAt z) plan.chords) at_end new_good) c x e))

-- the rules on headers are some of those that a plan rests on
some_rules : (p : ProgramTree) → IsFree is_plan_rule p → IsFree is_header_rule p
some_rules p free rule at mine broken = free rule at (among_every (λ m. is_plan_rule m ≡ true) (5 ∷ 9 ∷ 10 ∷ []) rule mine (refl, (refl, (refl, tt)))) broken

pub chords_planned : ChordsPlanned
chords_planned p program free c k x y class_there chord_there =
    every_get (IsPlannedAt p c) x.chords k y
    (plans_good p (some_rules p free) (have_headers p program) [] [] 0 p.classes refl refl
    (λ i. let e : 0 + i ≡ i = omega arith in ap (slice_get p.classes) e) (λ j. let e : 0 + j ≡ j = omega arith in ap (slice_get (bodies_of p)) e)
    (none_contained (limits_in p) (λ a h. free 4 a refl (C04 a h))) (none_contained (in_classes repeated_methods p) (λ a h. free 7 a refl (C07 a h))) (none_contained (in_classes second_synchronous p) (λ a h. free 6 a refl (C06 a h)))
    (λ d z e. absurd (none_some e)) c x class_there)
    chord_there
