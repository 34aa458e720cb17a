-- Where there is one `Main` as it should be, its body has neither parameters nor a result.
use Rattle.std.proofs.Common.{◌≡◌, ℕ, suc, ◌+◌, List, [], ◌∷◌, ◌++◌, Bool, true, false, not, cond, ◌||◌, nat_eq, length, map, refl, sym, ap, ◌∙◌, Option, Some, None, slice_get, arith}
use Rattle.std.specs.Prelude.{flat_map, unwrap_or, option_map}
use Rattle.std.proofs.lemmas.Bool.{false≢true, eqb-true}
use Rattle.chord_tree.specs.declared.classes.ReturnType.{ReturnType}
use Rattle.chord_tree.specs.declared.classes.ReturnType.TheVariants as results
use Rattle.chord_tree.specs.declared.classes.Formal.{Formal}
use Rattle.chord_tree.specs.Tree.{BlockTree, HeaderTree, MemberTree, ConstructorMember, ChordMember, ClassTree, ProgramTree}
use Rattle.chord_bodies.specs.Resolved.{BodyOf}
use Rattle.chord_classes.specs.Types.{type_known}
use Rattle.chord_classes.specs.Resolve.{resolved_member, resolved_classes, bodies_of}
use Rattle.chord_classes.proofs.Planned.{get_behind, get_mapped, length_members}
use Rattle.chord_classes.specs.Table.{Shape, table_of, is_main, is_virtual_word, has_word}
use Rattle.chord_classes.specs.Site.{member_formals, due_by, member_due, has_main, member_in_main}
use Rattle.chord_classes.specs.NameRules.{when}
use Rattle.chord_classes.specs.Plan.{main_among, or_else, main_in, main_of}
use Rattle.chord_classes.specs.ChordRules.{is_void, static_word, is_right_main, MainAt, mains_among, member_mains, mains_of, wrong_mains}
use Rattle.chord_classes.proofs.Facts.{none_some, same_some, true_false, unless_not, left_nil, truth_left, truth_right}

-- a member is `Main` as it should be: it has neither parameters nor a value
pub record IsRight (member : MemberTree) : Type 0 where
  pub in_main : member_in_main member ≡ true
  pub formals : member_formals member ≡ []
  pub due : member_due member ≡ None

-- the first main of some is this one
abbrev Begins_with : List MainAt → MainAt → Type 0
Begins_with mains main = (rest : List MainAt) × (mains ≡ main ∷ rest)

-- headers without `Main` have none
no_main_here : (all headers : List HeaderTree) → has_main headers ≡ false → mains_among all headers ≡ []
no_main_here all [] h = refl
no_main_here all (x ∷ xs) h = by_first (is_main x) h (λ k. no_main_here all xs k)
  where
    by_first : (b : Bool) → (b || has_main xs) ≡ false → (has_main xs ≡ false → mains_among all xs ≡ []) → cond b (record { right = is_right_main all x; at = x.name.at } ∷ []) [] ++ mains_among all xs ≡ []
    by_first true h f = absurd (true_false h)
    by_first false h f = f h

-- the first `Main` among headers
first_main : (all headers : List HeaderTree) → has_main headers ≡ true → (header : HeaderTree) × Begins_with (mains_among all headers) (record { right = is_right_main all header; at = header.name.at })
first_main all [] h = absurd (false≢true h)
first_main all (x ∷ xs) h = by_first (is_main x) h (λ k. first_main all xs k)
  where
    by_first : (b : Bool) → (b || has_main xs) ≡ true → (has_main xs ≡ true → (header : HeaderTree) × Begins_with (mains_among all xs) (record { right = is_right_main all header; at = header.name.at }))
        → (header : HeaderTree) × Begins_with (cond b (record { right = is_right_main all x; at = x.name.at } ∷ []) [] ++ mains_among all xs) (record { right = is_right_main all header; at = header.name.at })
    by_first true h f = (x, (mains_among all xs, refl))
    by_first false h f = f h

-- equal lists have one first element
same_head : {X : Type 0} (x y : X) (xs ys : List X) → ◌≡◌ {A = List X} (x ∷ xs) (y ∷ ys) → x ≡ y
same_head x y xs ys e = cc

-- a header whose result is `void` makes no value due
void_due : (result : ReturnType) → is_void result ≡ true → due_by result None ≡ None
void_due (results.Void at) h = refl
void_due (results.Async at) h = absurd (false≢true h)
void_due (results.Value written) h = absurd (false≢true h)

-- parameters whose count is 0 are the empty list
none_of : (formals : List Formal) → nat_eq (length formals) 0 ≡ true → formals ≡ []
none_of [] h = refl
none_of (f ∷ fs) h = absurd (differ (eqb-true (suc (length fs)) 0 h))
  where
    differ : ◌≡◌ {A = ℕ} (suc (length fs)) 0 → ⊥
    differ e = omega arith

-- a chord of one header that is `Main` as it should be
alone_right : (header : HeaderTree) (body : BlockTree) → is_main header ≡ true → is_right_main (header ∷ []) header ≡ true → IsRight (ChordMember (header ∷ []) body)
alone_right header body m r =
    let after_static = truth_right (has_word static_word header.modifiers) _ r in
    let after_virtual = truth_right (not (has_word is_virtual_word header.modifiers)) _ after_static in
    let void = truth_left (is_void header.result_type) _ after_virtual in
    let rest = truth_right (is_void header.result_type) _ after_virtual in
    let formals = none_of header.formals.parameters (truth_left (nat_eq (length header.formals.parameters) 0) _ rest) in
    record { in_main = ap (λ b. b || false) m; formals = ap (λ fs. fs ++ []) formals; due = void_due header.result_type void }

-- a chord whose first header named `Main` is as it should be is `Main` as it should be
right_chord : (headers : List HeaderTree) (body : BlockTree) (m : MainAt) → has_main headers ≡ true → Begins_with (mains_among headers headers) m → m.right ≡ true → IsRight (ChordMember headers body)
right_chord [] body m h b r = absurd (false≢true h)
right_chord (x ∷ []) body m h b r = by_main (is_main x) refl h b.1
  where
    by_main : (c : Bool) → is_main x ≡ c → (c || false) ≡ true → cond c (record { right = is_right_main (x ∷ []) x; at = x.name.at } ∷ []) [] ++ [] ≡ m ∷ b.0 → IsRight (ChordMember (x ∷ []) body)
    by_main true e k same = alone_right x body e (ap (λ (z : MainAt). z.right) (same_head (record { right = is_right_main (x ∷ []) x; at = x.name.at }) m [] b.0 same) ∙ r)
    by_main false e k same = absurd (false≢true k)
right_chord (x ∷ y ∷ zs) body m h b r =
    let f = first_main (x ∷ y ∷ zs) (x ∷ y ∷ zs) h in
    let same : record { right = is_right_main (x ∷ y ∷ zs) f.0; at = f.0.name.at } ≡ m = same_head (record { right = is_right_main (x ∷ y ∷ zs) f.0; at = f.0.name.at }) m f.1.0 b.0 (sym f.1.1 ∙ b.1) in
    let right : is_right_main (x ∷ y ∷ zs) f.0 ≡ true = ap (λ (z : MainAt). z.right) same ∙ r in
    let rest = truth_right (is_void f.0.result_type) _ (truth_right (not (has_word is_virtual_word f.0.modifiers)) _ (truth_right (has_word static_word f.0.modifiers) _ right)) in
    absurd (differ (eqb-true (suc (suc (length zs))) 1 (truth_right (nat_eq (length f.0.formals.parameters) 0) _ rest)))
  where
    differ : ◌≡◌ {A = ℕ} (suc (suc (length zs))) 1 → ⊥
    differ e = omega arith

-- members among which `Main` is
record MainIn (number : ℕ) (members : List MemberTree) (k : ℕ) : Type 0 where
  place : ℕ
  member : MemberTree
  main : MainAt
  is : k ≡ number + place
  there : slice_get members place ≡ Some member
  begins : Begins_with (flat_map member_mains members) main
  right : main.right ≡ true → IsRight member

-- a list of mains behind others that are none
no_more : (xs ys : List MainAt) → xs ≡ [] → ys ≡ [] → xs ++ ys ≡ []
no_more xs ys h k = rw (h, k) refl

-- a member that is not `Main` has no header named `Main`
none_here : (member : MemberTree) → member_in_main member ≡ false → member_mains member ≡ []
none_here (ConstructorMember modifiers name formals body) h = refl
none_here (ChordMember headers body) h = no_main_here headers headers h

-- where no member is `Main`, no header of them is named so
none_among : (number : ℕ) (members : List MemberTree) → main_among number members ≡ None → flat_map member_mains members ≡ []
none_among number [] e = refl
none_among number (m ∷ ms) e = by_main (member_in_main m) refl e (λ k. none_among (number + 1) ms k)
  where
    by_main : (b : Bool) → member_in_main m ≡ b → cond b (Some number) (main_among (number + 1) ms) ≡ None → (main_among (number + 1) ms ≡ None → flat_map member_mains ms ≡ []) → member_mains m ++ flat_map member_mains ms ≡ []
    by_main true h k f = absurd (none_some (sym k))
    by_main false h k f = no_more (member_mains m) (flat_map member_mains ms) (none_here m h) (f k)

-- a member that is `Main`
record MainHere (member : MemberTree) : Type 0 where
  main : MainAt
  begins : Begins_with (member_mains member) main
  right : main.right ≡ true → IsRight member

-- a member that is `Main` has a first header of this name, and where that is as it should be, so is the member
main_here : (member : MemberTree) → member_in_main member ≡ true → MainHere member
main_here (ConstructorMember modifiers name formals body) h = absurd (false≢true h)
main_here (ChordMember headers body) h =
    let f = first_main headers headers h in
    record { main = record { right = is_right_main headers f.0; at = f.0.name.at }; begins = f.1; right = λ r. right_chord headers body (record { right = is_right_main headers f.0; at = f.0.name.at }) h f.1 r }

-- the first main of some is the first of them with others behind
begins_more : (xs ys : List MainAt) (m : MainAt) → Begins_with xs m → Begins_with (xs ++ ys) m
begins_more xs ys m b = (b.0 ++ ys, ap (λ z. z ++ ys) b.1)

-- the first main of some is the first behind a list that is empty
begins_after : (xs ys : List MainAt) (m : MainAt) → xs ≡ [] → Begins_with ys m → Begins_with (xs ++ ys) m
begins_after xs ys m e b = (b.0, ap (λ z. z ++ ys) e ∙ b.1)

-- a member that was found as `Main` is among the members, and it is as it should be where their first header of this name is
some_among : (number : ℕ) (members : List MemberTree) (k : ℕ) → main_among number members ≡ Some k → MainIn number members k
some_among number [] k e = absurd (none_some e)
some_among number (m ∷ ms) k e = by_main (member_in_main m) refl e (λ g. some_among (number + 1) ms k g)
  where
    by_main : (b : Bool) → member_in_main m ≡ b → cond b (Some number) (main_among (number + 1) ms) ≡ Some k → (main_among (number + 1) ms ≡ Some k → MainIn (number + 1) ms k) → MainIn number (m ∷ ms) k
    by_main true h g f =
        let here = main_here m h in
        let at : number ≡ k = same_some g in
        record { place = 0; member = m; main = here.main; is = omega (arith, at); there = refl; begins = begins_more (member_mains m) (flat_map member_mains ms) here.main here.begins; right = here.right }
    by_main false h g f =
        let r = f g in
        let at : k ≡ number + 1 + r.place = r.is in
        record { place = suc r.place; member = r.member; main = r.main; is = omega (arith, at); there = r.there; begins = begins_after (member_mains m) (flat_map member_mains ms) r.main (none_here m h) r.begins; right = r.right }

-- classes among whose members `Main` is
record MainOf (bodies : ℕ → Option BodyOf) (table : List Shape) (classes : List ClassTree) (k : ℕ) : Type 0 where
  number : ℕ
  class : ClassTree
  member : MemberTree
  main : MainAt
  there : bodies k ≡ Some (resolved_member table number class member)
  begins : Begins_with (mains_of classes) main
  right : main.right ≡ true → IsRight member

-- where no member of classes is `Main`, no header of them is named so
none_in : (number : ℕ) (classes : List ClassTree) → main_in number classes ≡ None → mains_of classes ≡ []
none_in number [] e = refl
none_in number (c ∷ cs) e = by_class (main_among number c.members) refl e (λ k. none_in (number + length c.members) cs k)
  where
    by_class : (o : Option ℕ) → main_among number c.members ≡ o → or_else o (main_in (number + length c.members) cs) ≡ None → (main_in (number + length c.members) cs ≡ None → mains_of cs ≡ []) → flat_map member_mains c.members ++ mains_of cs ≡ []
    by_class (Some k) h g f = absurd (none_some (sym g))
    by_class None h g f = no_more (flat_map member_mains c.members) (mains_of cs) (none_among number c.members h) (f g)

module _ (p : ProgramTree) where
  -- the bodies of the program by their numbers
  abbrev bodies : ℕ → Option BodyOf
  bodies j = slice_get (bodies_of p) j

  -- a member of classes that was found as `Main` has its body at this number, and is as it should be where the first header of this name is
  some_in : (n number : ℕ) (classes : List ClassTree) (k : ℕ) → ((j : ℕ) → bodies (number + j) ≡ slice_get (resolved_classes (table_of p) n classes) j) → main_in number classes ≡ Some k → MainOf bodies (table_of p) classes k
  some_in n number [] k at e = absurd (none_some e)
  some_in n number (c ∷ cs) k at e = by_class (main_among number c.members) refl e (λ g. some_in (n + 1) (number + length c.members) cs k next g)
    where
      next : (j : ℕ) → bodies (number + length c.members + j) ≡ slice_get (resolved_classes (table_of p) (n + 1) cs) j
      next j =
          let members = map (resolved_member (table_of p) n c) c.members in
          let many : length members ≡ length c.members = length_members p n c c.members in
          let here : number + length c.members + j ≡ number + (length members + j) = omega (arith, many) in
          ap bodies here ∙ at (length members + j) ∙ get_behind p members (resolved_classes (table_of p) (n + 1) cs) j

      by_class : (o : Option ℕ) → main_among number c.members ≡ o → or_else o (main_in (number + length c.members) cs) ≡ Some k → (main_in (number + length c.members) cs ≡ Some k → MainOf bodies (table_of p) cs k) → MainOf bodies (table_of p) (c ∷ cs) k
      by_class (Some i) h g f =
          let same : i ≡ k = same_some g in
          let r = some_among number c.members i h in
          let place : k ≡ number + r.place = sym same ∙ r.is in
          record {
            number = n;
            class = c;
            member = r.member;
            main = r.main;
            there = ap bodies place ∙ at r.place ∙ get_mapped p n c c.members (resolved_classes (table_of p) (n + 1) cs) r.place r.member r.there;
            begins = begins_more (flat_map member_mains c.members) (mains_of cs) r.main r.begins;
            right = r.right;
          }
      by_class None h g f =
          let r = f g in
          record { number = r.number; class = r.class; member = r.member; main = r.main; there = r.there; begins = begins_after (flat_map member_mains c.members) (mains_of cs) r.main (none_among number c.members h) r.begins; right = r.right }

-- the body of `Main` as the plan names it
pub record MainBody (p : ProgramTree) : Type 0 where
  pub body : BodyOf
  pub there : slice_get (bodies_of p) (main_of p) ≡ Some body
  pub is_main : body.is_main ≡ true
  pub parameters : body.parameters ≡ []
  pub result : body.result ≡ None

-- a list with an element is not empty
not_nil : {X : Type 0} (x : X) (xs : List X) → ◌≡◌ {A = List X} (x ∷ xs) [] → ⊥
not_nil x xs e = cc

-- where no header named `Main` is wrong, the first is as it should be
first_right : (mains : List MainAt) (main : MainAt) (end : ℕ) → wrong_mains mains end ≡ [] → Begins_with mains main → main.right ≡ true
first_right [] main end h b = absurd (not_nil end [] h)
first_right (x ∷ xs) main end h b =
    let same = same_head x main xs b.0 b.1 in
    ap (λ (z : MainAt). z.right) (sym same) ∙ unless_not x.right x.at (left_nil (when (not x.right) x.at) _ h)

-- the body of `Main` is there, without parameters and result
pub main_body : (p : ProgramTree) (end : ℕ) → wrong_mains (mains_of p.classes) end ≡ [] → MainBody p
main_body p end h = by_place (main_in 0 p.classes) refl
  where
    by_place : (o : Option ℕ) → main_in 0 p.classes ≡ o → MainBody p
    by_place None e = absurd (not_nil end [] (sym (ap (λ z. wrong_mains z end) (none_in 0 p.classes e)) ∙ h))
    by_place (Some k) e =
        let r = some_in p 0 0 p.classes k (λ j. let z : 0 + j ≡ j = omega arith in ap (slice_get (bodies_of p)) z) e in
        let right = r.right (first_right (mains_of p.classes) r.main end h r.begins) in
        let at : main_of p ≡ k = ap (λ o. unwrap_or o 0) e in
        record {
          body = resolved_member (table_of p) r.number r.class r.member;
          there = ap (slice_get (bodies_of p)) at ∙ r.there;
          is_main = right.in_main;
          parameters = ap (map (λ (f : Formal). type_known (table_of p) f.value_type)) right.formals;
          result = ap (option_map (type_known (table_of p))) right.due;
        }
