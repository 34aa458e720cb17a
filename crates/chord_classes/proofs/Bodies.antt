-- The body of a member in which no rule is broken keeps to its types.
use Rattle.std.proofs.Common.{◌≡◌, ℕ, zero, suc, ◌+◌, ◌≤◌, ◌<◌, List, [], ◌∷◌, ◌++◌, Bool, true, false, not, ◌&&◌, length, map, refl, sym, ap, ◌∙◌, Option, Some, None, is_some, slice_get, arith, length-append}
use Rattle.std.specs.Prelude.{option_map, unwrap_or, flat_map}
use Rattle.std.proofs.lemmas.List.{length-map}
use Rattle.chord_tree.specs.declared.names.ValueType.{ValueType}
use Rattle.chord_tree.specs.declared.classes.Formal.{Formal}
use Rattle.chord_tree.specs.Tree.{MemberTree, ClassTree}
use Rattle.chord_tree.specs.Walk.{AtMember, body_of, block_end, over_member, over_class, over_classes, spot_of_term, spot_of_item, spot_of_member}
use Rattle.chord_base.specs.declared.static_type.StaticType.{StaticType}
use Rattle.chord_base.specs.declared.static_type.StaticType.TheVariants as ty
use Rattle.chord_bodies.specs.Types.{Scope, BodyIs, opening, slot_types, this_in}
use Rattle.chord_classes.specs.Table.{Shape}
use Rattle.chord_classes.specs.Types.{type_known, signatures}
use Rattle.chord_classes.specs.Site.{after, block_locals, parameters, member_formals, member_due, member_in_main, enter}
use Rattle.chord_classes.specs.NameRules.{when}
use Rattle.chord_classes.specs.ItemRules.{block_surely}
use Rattle.chord_classes.specs.Resolve.{resolved_member, resolved_classes}
use Rattle.chord_classes.proofs.Every.{Every, every_left, every_right, every_both}
use Rattle.chord_classes.proofs.Facts.{none_some, same_some, when_not}
use Rattle.chord_classes.proofs.Free.{Free, FreeMember}
use Rattle.chord_classes.proofs.Terms.{DeclaredTable, Stands, Holds}
use Rattle.chord_classes.proofs.Scopes.{HasRoom}
use Rattle.chord_classes.proofs.Stmts.{DueDeclared, in_block, block_is}
use Rattle.chord_classes.proofs.Returns.{block_returns}
use Rattle.chord_classes.proofs.Declared.{DeclaredFormal, FreeMembers, formals_declared, due_declared}

-- the types of parameters
abbrev types_of : List Shape → List Formal → List StaticType
types_of table formals = map (λ (f : Formal). type_known table f.value_type) formals

-- slots that are in scope, and slots that are not
abbrev given : List StaticType → Scope
given ts = map (λ t. Some t) ts

-- slots that are not in scope
abbrev free : List StaticType → Scope
free ts = map (λ t. None) ts

-- parameters stand in the slots from slot k on
parameters_stand : (table : List Shape) (scope : Scope) (k : ℕ) (formals : List Formal) (rest : Scope) → ((j : ℕ) → slice_get scope (k + j) ≡ slice_get (given (types_of table formals) ++ rest) j) → Every (DeclaredFormal table) formals
    → Every (Stands scope) (parameters table k formals)
parameters_stand table scope k [] rest at d = tt
parameters_stand table scope k (f ∷ fs) rest at d =
    let here : k ≡ k + 0 = omega arith in
    let known : type_known table f.value_type ≡ d.0.kind = ap (λ o. unwrap_or o ty.Int) d.0.is in (
      record { kind = d.0.kind; typed = d.0.is; there = ap (slice_get scope) here ∙ at 0 ∙ ap (λ (z : StaticType). Some (Some z)) known },
      parameters_stand table scope (k + 1) fs rest (λ j. let next : k + 1 + j ≡ k + suc j = omega arith in ap (slice_get scope) next ∙ at (suc j)) d.1,
    )

-- there are as many slots in scope as types that they were given
length_given : (ts : List StaticType) → length (given ts) ≡ length ts
length_given [] = refl
length_given (t ∷ ts) = ap suc (length_given ts)

-- there are as many slots that are not in scope as types
length_free : (ts : List StaticType) → length (free ts) ≡ length ts
length_free [] = refl
length_free (t ∷ ts) = ap suc (length_free ts)

-- parameters are as many as their types
length_types : (table : List Shape) (formals : List Formal) → length (types_of table formals) ≡ length formals
length_types table [] = refl
length_types table (f ∷ fs) = ap suc (length_types table fs)

-- each slot that is not in scope is there, without a type
none_there : (ts : List StaticType) (i : ℕ) → i < length (free ts) → slice_get (free ts) i ≡ Some None
none_there [] i h = absurd (nowhere h)
  where
    nowhere : i < 0 → ⊥
    nowhere h = omega arith
none_there (t ∷ ts) zero h = refl
none_there (t ∷ ts) (suc i) h = none_there ts i (let k : suc i < suc (length (free ts)) = h in omega (arith, k))

-- each slot that is not in scope and stands behind others is there, without a type
none_past : (xs : Scope) (ts : List StaticType) (i : ℕ) → length xs ≤ i → i < length (xs ++ free ts) → slice_get (xs ++ free ts) i ≡ Some None
none_past [] ts i h k = none_there ts i k
none_past (x ∷ xs) ts zero h k = absurd (below h)
  where
    below : suc (length xs) ≤ 0 → ⊥
    below h = omega arith
none_past (x ∷ xs) ts (suc i) h k = none_past xs ts i (let m : suc (length xs) ≤ suc i = h in omega (arith, m)) (let m : suc i < suc (length (xs ++ free ts)) = k in omega (arith, m))

-- what is in scope of parameters and locals where a body begins has its type among those of all of them
given_get : (ps : List StaticType) (ls : List StaticType) (i : ℕ) (t : StaticType) → slice_get (given ps ++ free ls) i ≡ Some (Some t) → slice_get (given (ps ++ ls)) i ≡ Some (Some t)
given_get [] [] i t h = h
given_get [] (l ∷ ls) zero t h = absurd (none_some (same_some h))
given_get [] (l ∷ ls) (suc i) t h = given_get [] ls i t h
given_get (p ∷ ps) ls zero t h = h
given_get (p ∷ ps) ls (suc i) t h = given_get ps ls i t h

-- behind the parameters each local has the static type that is written for it
local_get : (table : List Shape) (ps : List StaticType) (locals : List ValueType) (j : ℕ) (w : ValueType) → slice_get locals j ≡ Some w → slice_get (given (ps ++ map (type_known table) locals)) (length ps + j) ≡ Some (Some (type_known table w))
local_get table [] [] j w h = absurd (none_some h)
local_get table [] (l ∷ ls) zero w h = ap (λ (z : ValueType). Some (Some (type_known table z))) (same_some h)
local_get table [] (l ∷ ls) (suc j) w h =
    let one : 0 + suc j ≡ suc (0 + j) = omega arith in ap (slice_get (given (type_known table l ∷ map (type_known table) ls))) one ∙ local_get table [] ls j w h
local_get table (p ∷ ps) locals j w h =
    let one : suc (length ps) + j ≡ suc (length ps + j) = omega arith in ap (slice_get (given (p ∷ (ps ++ map (type_known table) locals)))) one ∙ local_get table ps locals j w h

-- the room of a body: a slot for each of its locals, which has its type
room_of : (this : Option StaticType) (table : List Shape) (formals : List Formal) (locals : List ValueType)
    → HasRoom table (this ∷ given (types_of table formals ++ map (type_known table) locals)) (this ∷ (given (types_of table formals) ++ free (map (type_known table) locals))) (1 + length formals) locals
room_of this table formals locals =
    let a = length_given (types_of table formals) in
    let b = length_types table formals in
    let c = length_free (map (type_known table) locals) in
    let d = length-map locals (type_known table) in
    let e = length-append (given (types_of table formals)) (free (map (type_known table) locals)) in
    record {
      fits = omega (arith, a, b, c, d, e);
      free = λ i above below. none_past (this ∷ given (types_of table formals)) (map (type_known table) locals) i (let from : 1 + length formals ≤ i = above in omega (arith, from, a, b)) below;
      typed = λ j w h.
          let one : 1 + length formals + j ≡ suc (length (types_of table formals) + j) = omega (arith, b) in
          ap (slice_get (this ∷ given (types_of table formals ++ map (type_known table) locals))) one ∙ local_get table (types_of table formals) locals j w h;
      agrees = agrees_at;
    }
  where
    agrees_at : (i : ℕ) (t : StaticType) → slice_get (this ∷ (given (types_of table formals) ++ free (map (type_known table) locals))) i ≡ Some (Some t) → slice_get (this ∷ given (types_of table formals ++ map (type_known table) locals)) i ≡ Some (Some t)
    agrees_at zero t h = h
    agrees_at (suc i) t h = given_get (types_of table formals) (map (type_known table) locals) i t h

-- where a value is due and nothing is noted of a body, it surely returns
surely_is : (o : Option ValueType) (b : Bool) (at : ℕ) → when (is_some o && not b) at ≡ [] → (t : StaticType) (f : ValueType → StaticType) → option_map f o ≡ Some t → b ≡ true
surely_is None b at h t f e = absurd (none_some e)
surely_is (Some w) true at h t f e = refl
surely_is (Some w) false at h t f e = sym (when_not true at h)

-- The body of a member keeps to its types.
member_is : (table : List Shape) (number : ℕ) (class : ClassTree) (member : MemberTree) → DeclaredTable table → Every (Free table) (over_member after spot_of_term spot_of_item (enter table) spot_of_member number class member) → BodyIs (signatures table) (resolved_member table number class member)
member_is table number class member declared h =
    let site = enter table number class member in
    let body = resolved_member table number class member in
    let f : FreeMember table member = (every_right (Free table) (in_block site (body_of member)) (AtMember class member ∷ []) h).0 in
    let holds : Holds site (opening body) = record {
      table = declared;
      locals = parameters_stand table (opening body) 1 (member_formals member) (free (map (type_known table) (block_locals (body_of member))))
          (λ j. let next : 1 + j ≡ suc j = omega arith in ap (slice_get (opening body)) next) (formals_declared table member f);
      itself = λ e. ap (λ b. Some (this_in b number)) e;
    } in
    let due : DueDeclared site = record { declared = due_declared table member f } in
    let b = block_is (slot_types body) site (opening body) (body_of member) holds due (room_of (this_in (member_in_main member) number) table (member_formals member) (block_locals (body_of member))) (every_left (Free table) (in_block site (body_of member)) (AtMember class member ∷ []) h) in
    record {
      last = b.last;
      stmts = b.are;
      ends = λ t e. block_returns site (body_of member) (surely_is (member_due member) (block_surely (body_of member)) (block_end (body_of member)) f.unreturned t (type_known table) e);
    }

-- the bodies of members at whose spots no rule is broken keep to their types
members_are : (table : List Shape) (number : ℕ) (class : ClassTree) (members : List MemberTree) → DeclaredTable table → Every (Free table) (flat_map (over_member after spot_of_term spot_of_item (enter table) spot_of_member number class) members) → Every (BodyIs (signatures table)) (map (resolved_member table number class) members)
members_are table number class [] declared h = tt
members_are table number class (m ∷ ms) declared h =
    let here = over_member after spot_of_term spot_of_item (enter table) spot_of_member number class m in
    let rest = flat_map (over_member after spot_of_term spot_of_item (enter table) spot_of_member number class) ms in
    (member_is table number class m declared (every_left (Free table) here rest h), members_are table number class ms declared (every_right (Free table) here rest h))

-- the bodies of classes keep to their types
pub classes_are : (table : List Shape) (number : ℕ) (classes : List ClassTree) → DeclaredTable table → Every (Free table) (over_classes after spot_of_term spot_of_item (enter table) spot_of_member number classes) → Every (BodyIs (signatures table)) (resolved_classes table number classes)
classes_are table number [] declared h = tt
classes_are table number (c ∷ cs) declared h =
    let here = over_class after spot_of_term spot_of_item (enter table) spot_of_member number c in
    let rest = over_classes after spot_of_term spot_of_item (enter table) spot_of_member (number + 1) cs in
    every_both (BodyIs (signatures table)) (map (resolved_member table number c) c.members) (resolved_classes table (number + 1) cs)
    (members_are table number c c.members declared (every_left (Free table) here rest h)) (classes_are table (number + 1) cs declared (every_right (Free table) here rest h))

-- Nothing is broken at the members.

-- where no rule is broken at the spots of members, none is broken at the members themselves
members_free : (table : List Shape) (number : ℕ) (class : ClassTree) (members : List MemberTree) → Every (Free table) (flat_map (over_member after spot_of_term spot_of_item (enter table) spot_of_member number class) members) → Every (FreeMember table) members
members_free table number class [] h = tt
members_free table number class (m ∷ ms) h =
    let here = over_member after spot_of_term spot_of_item (enter table) spot_of_member number class m in
    let rest = flat_map (over_member after spot_of_term spot_of_item (enter table) spot_of_member number class) ms in
    ((every_right (Free table) (in_block (enter table number class m) (body_of m)) (AtMember class m ∷ []) (every_left (Free table) here rest h)).0, members_free table number class ms (every_right (Free table) here rest h))

-- nothing is broken at the members of classes
pub classes_free : (table : List Shape) (number : ℕ) (classes : List ClassTree) → Every (Free table) (over_classes after spot_of_term spot_of_item (enter table) spot_of_member number classes) → Every (FreeMembers table) classes
classes_free table number [] h = tt
classes_free table number (c ∷ cs) h =
    let here = over_class after spot_of_term spot_of_item (enter table) spot_of_member number c in
    let rest = over_classes after spot_of_term spot_of_item (enter table) spot_of_member (number + 1) cs in
    (members_free table number c c.members (every_left (Free table) here rest h), classes_free table (number + 1) cs (every_right (Free table) here rest h))
