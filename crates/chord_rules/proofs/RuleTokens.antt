-- Of all that a program is noted to break, the tokens of one rule are those at which the rule is broken.
use Rattle.std.proofs.Common.{◌≡◌, ℕ, ◌+◌, ◌<◌, List, [], ◌∷◌, ◌++◌, false, cond, nat_eq, flat_map, length, drop, refl, ap, ◌∙◌, arith, append_assoc}
use Rattle.std.proofs.lemmas.List.{append-nil}
use Rattle.std.specs.Prelude.{nat_le, nat_lt}
use Rattle.chord_tree.specs.Tree.{HeaderTree, MemberTree, ConstructorMember, ChordMember, ClassTree, ProgramTree}
use Rattle.chord_tree.specs.Walk.{headers_of}
use Rattle.chord_tree.specs.Program.{spelling}
use Rattle.chord_bodies.specs.Resolved.{ClassOf}
use Rattle.chord_classes.specs.Table.{Method, Shape, base_of, inherited, from_base, shape_of}
use Rattle.chord_classes.specs.NameRules.{when}
use Rattle.chord_classes.specs.Site.{member_formals}
use Rattle.chord_classes.specs.Plan.{class_plan}
use Rattle.chord_classes.specs.OverrideRules.{over_shapes, in_classes, differing_headers, missing_override, wrong_override}
use Rattle.chord_classes.specs.DeclarationRules.{declared_again, base_missing, repeated_formals, parameter_again, barred_among, barred_in, modifiers_barred, OnConstructor}
use Rattle.chord_classes.specs.ChordRules.{repeated, repeated_in, repeated_methods, second_sync, crowded_in, second_synchronous, formal_tokens, header_tokens, block_names, member_limits, limits_passed, base_token, misnamed_constructors, base_has, wrong_constructors, over_plans, mains_of, wrong_mains}
use Rattle.chord_classes.specs.Rules.{limits_in}
use Rattle.chord_classes.specs.Least.{keys}
use Rattle.chord_rules.specs.FormalNames.{formals_of_header}
use Rattle.chord_rules.specs.Bearers.{header_barred}
use Rattle.chord_rules.specs.Limits.{crowded_formals}
use Rattle.chord_rules.specs.Splits.{split}
use Rattle.chord_rules.specs.ClassKeys.{differing, hiding, misfitting, header_keys, chord_keys, chord_limits, keys_of_member, name_keys, place_keys, method_limits, chord_places, class_keys, classes_keys, program_keys}
use Rattle.chord_rules.proofs.Tokens.{tokens_of, tokens_joined, tokens_flat, tokens_keys}

-- a list, if two rules are one
abbrev of : ℕ → ℕ → List ℕ → List ℕ
of rule other xs = cond (nat_eq other rule) xs []

-- the tokens of a rule in two lists joined are those in the first and then those in the second
two : (r : ℕ) (xs ys us vs : List ℕ) → tokens_of r xs ≡ us → tokens_of r ys ≡ vs → tokens_of r (xs ++ ys) ≡ us ++ vs
two r xs ys us vs e f = tokens_joined r xs ys ∙ ap (λ z. z ++ tokens_of r ys) e ∙ ap (λ z. us ++ z) f

-- the tokens of a rule at a header
abbrev at_header : ℕ → List HeaderTree → List Method → HeaderTree → List ℕ
at_header r headers methods h = of r 5 (differing headers h) ++ (of r 9 (hiding methods h) ++ of r 10 (misfitting methods h))

-- the tokens of a rule in what a header is noted to break are those at the header
header_is : (r : ℕ) (headers : List HeaderTree) (methods : List Method) (h : HeaderTree) → tokens_of r (header_keys headers methods h) ≡ at_header r headers methods h
header_is r headers methods h =
    two r (keys 5 (differing headers h)) _ _ _ (tokens_keys r 5 (differing headers h) (omega arith))
    (two r (keys 9 (hiding methods h)) (keys 10 (misfitting methods h)) _ _ (tokens_keys r 9 (hiding methods h) (omega arith)) (tokens_keys r 10 (misfitting methods h) (omega arith)))

-- the tokens of a rule at a member
abbrev at_member : ℕ → MemberTree → List ℕ
at_member r (ConstructorMember modifiers name formals body) =
    of r 21 (barred_among OnConstructor modifiers [] modifiers) ++ (of r 8 (repeated_formals [] formals.parameters) ++ (of r 4 (drop 8 (formal_tokens formals.parameters)) ++ of r 4 (drop 256 (block_names body))))
at_member r (ChordMember hs body) =
    (of r 21 (flat_map (header_barred (length hs)) hs) ++ (of r 7 (repeated [] hs) ++ (of r 6 (second_sync false hs) ++ of r 8 (repeated_formals [] (flat_map formals_of_header hs)))))
    ++ (of r 4 (drop 8 (header_tokens hs)) ++ (of r 4 (flat_map crowded_formals hs) ++ of r 4 (drop 256 (block_names body))))

-- the tokens of a rule in the keys of four rules are the tokens of those of the four that are this rule
four : (r a b c d : ℕ) (ks ls ms ns : List ℕ) → a < 32 → b < 32 → c < 32 → d < 32 → tokens_of r (keys a ks ++ (keys b ls ++ (keys c ms ++ keys d ns))) ≡ of r a ks ++ (of r b ls ++ (of r c ms ++ of r d ns))
four r a b c d ks ls ms ns la lb lc ld =
    two r (keys a ks) _ _ _ (tokens_keys r a ks la) (two r (keys b ls) _ _ _ (tokens_keys r b ls lb) (two r (keys c ms) (keys d ns) _ _ (tokens_keys r c ms lc) (tokens_keys r d ns ld)))

-- the tokens of a rule in what a member is noted to break are those at the member
member_is : (r : ℕ) (m : MemberTree) → tokens_of r (keys_of_member m) ≡ at_member r m
member_is r (ConstructorMember modifiers name formals body) =
    four r 21 8 4 4 (barred_among OnConstructor modifiers [] modifiers) (repeated_formals [] formals.parameters) (drop 8 (formal_tokens formals.parameters)) (drop 256 (block_names body)) (omega arith) (omega arith) (omega arith) (omega arith)
member_is r (ChordMember hs body) =
    two r (chord_keys hs) (chord_limits hs body) _ _
    (four r 21 7 6 8 (flat_map (header_barred (length hs)) hs) (repeated [] hs) (second_sync false hs) (repeated_formals [] (flat_map formals_of_header hs)) (omega arith) (omega arith) (omega arith) (omega arith))
    (two r (keys 4 (drop 8 (header_tokens hs))) _ _ _ (tokens_keys r 4 (drop 8 (header_tokens hs)) (omega arith))
    (two r (keys 4 (flat_map crowded_formals hs)) (keys 4 (drop 256 (block_names body))) _ _ (tokens_keys r 4 (flat_map crowded_formals hs) (omega arith)) (tokens_keys r 4 (drop 256 (block_names body)) (omega arith))))

-- the tokens of a rule at a class
abbrev at_class : ℕ → List ClassTree → List Shape → List ClassOf → ClassTree → List ℕ
at_class r classes done plans c =
    (of r 1 (declared_again done c) ++ (of r 3 (base_missing done c) ++ (of r 12 (misnamed_constructors c.name.text c.members) ++ of r 12 (base_token c.base (base_has classes (base_of done c))))))
    ++ ((of r 4 (when (nat_le 1024 (length done)) c.name.at) ++ of r 4 (base_token c.base (nat_lt 16 (length (from_base done (base_of done c))))))
    ++ (of r 4 (method_limits done c)
    ++ (flat_map (at_member r) c.members ++ (of r 4 (chord_places plans (base_of done c) c.members)
    ++ (flat_map (at_header r (headers_of c) (inherited done (base_of done c))) (headers_of c) ++ of r 11 (split done plans c))))))

-- the tokens of a rule in what a class is noted to break are those at the class
class_is : (r : ℕ) (classes : List ClassTree) (done : List Shape) (plans : List ClassOf) (c : ClassTree) → tokens_of r (class_keys classes done plans c) ≡ at_class r classes done plans c
class_is r classes done plans c =
    two r (name_keys classes done c) _ _ _
    (four r 1 3 12 12 (declared_again done c) (base_missing done c) (misnamed_constructors c.name.text c.members) (base_token c.base (base_has classes (base_of done c))) (omega arith) (omega arith) (omega arith) (omega arith))
    (two r (place_keys done c) _ _ _
    (two r (keys 4 (when (nat_le 1024 (length done)) c.name.at)) (keys 4 (base_token c.base (nat_lt 16 (length (from_base done (base_of done c)))))) _ _ (tokens_keys r 4 _ (omega arith)) (tokens_keys r 4 _ (omega arith)))
    (two r (keys 4 (method_limits done c)) _ _ _ (tokens_keys r 4 (method_limits done c) (omega arith))
    (two r (flat_map keys_of_member c.members) _ _ _ (tokens_flat r keys_of_member (at_member r) (member_is r) c.members)
    (two r (keys 4 (chord_places plans (base_of done c) c.members)) _ _ _ (tokens_keys r 4 (chord_places plans (base_of done c) c.members) (omega arith))
    (two r (flat_map (header_keys (headers_of c) (inherited done (base_of done c))) (headers_of c)) (keys 11 (split done plans c)) _ _
    (tokens_flat r (header_keys (headers_of c) (inherited done (base_of done c))) (at_header r (headers_of c) (inherited done (base_of done c))) (header_is r (headers_of c) (inherited done (base_of done c))) (headers_of c))
    (tokens_keys r 11 (split done plans c) (omega arith)))))))

-- the tokens of a rule over the classes of a program
tokens_over : (r : ℕ) (f g : List Shape → List ClassOf → ClassTree → List ℕ) → ((done : List Shape) (plans : List ClassOf) (c : ClassTree) → tokens_of r (f done plans c) ≡ g done plans c)
    → (done : List Shape) (plans : List ClassOf) (number : ℕ) (cs : List ClassTree) → tokens_of r (over_plans f done plans number cs) ≡ over_plans g done plans number cs
tokens_over r f g e done plans number [] = refl
tokens_over r f g e done plans number (c ∷ cs) =
    two r (f done plans c) (over_plans f (done ++ (shape_of done c ∷ [])) (plans ++ (class_plan done plans number c ∷ [])) (number + length c.members) cs) _ _ (e done plans c)
    (tokens_over r f g e (done ++ (shape_of done c ∷ [])) (plans ++ (class_plan done plans number c ∷ [])) (number + length c.members) cs)

-- a rule that looks at no plans
over_both : (f : List Shape → ClassTree → List ℕ) (done : List Shape) (plans : List ClassOf) (number : ℕ) (cs : List ClassTree) → over_plans (λ d p c. f d c) done plans number cs ≡ over_shapes f done cs
over_both f done plans number [] = refl
over_both f done plans number (c ∷ cs) = ap (λ z. f done c ++ z) (over_both f (done ++ (shape_of done c ∷ [])) (plans ++ (class_plan done plans number c ∷ [])) (number + length c.members) cs)

-- a rule that has no tokens at any class has none over classes
over_none : (done : List Shape) (plans : List ClassOf) (number : ℕ) (cs : List ClassTree) → over_plans (λ d p c. []) done plans number cs ≡ []
over_none done plans number [] = refl
over_none done plans number (c ∷ cs) = over_none (done ++ (shape_of done c ∷ [])) (plans ++ (class_plan done plans number c ∷ [])) (number + length c.members) cs

-- a function that makes nothing of each element makes nothing of a list
flat_none : {A : Type 0} (f : A → List ℕ) → ((x : A) → f x ≡ []) → (xs : List A) → flat_map f xs ≡ []
flat_none f e [] = refl
flat_none f e (x ∷ xs) = ap (λ z. z ++ flat_map f xs) (e x) ∙ flat_none f e xs

-- functions that make the same of each element make the same of a list
flat_same : {A : Type 0} (f g : A → List ℕ) → ((x : A) → f x ≡ g x) → (xs : List A) → flat_map f xs ≡ flat_map g xs
flat_same f g e [] = refl
flat_same f g e (x ∷ xs) = ap (λ z. z ++ flat_map f xs) (e x) ∙ ap (λ z. g x ++ z) (flat_same f g e xs)

-- what is left where members and headers say nothing
alone : (xs ms hs : List ℕ) → ms ≡ [] → hs ≡ [] → xs ++ (ms ++ (hs ++ [])) ≡ xs
alone xs ms hs m h = ap (λ z. xs ++ (z ++ (hs ++ []))) m ∙ ap (λ z. xs ++ (z ++ [])) h ∙ append-nil xs

-- what is left where headers say nothing
of_members : (ms hs rule : List ℕ) → ms ≡ rule → hs ≡ [] → ms ++ (hs ++ []) ≡ rule
of_members ms hs rule m h = ap (λ z. z ++ (hs ++ [])) m ∙ ap (λ z. rule ++ (z ++ [])) h ∙ append-nil rule

-- what is left where members say nothing
of_headers : (ms hs rule : List ℕ) → ms ≡ [] → hs ≡ rule → ms ++ (hs ++ []) ≡ rule
of_headers ms hs rule m h = ap (λ z. z ++ (hs ++ [])) m ∙ append-nil hs ∙ h

-- a rule that has no tokens at any header has none at those of a class
no_header : (r : ℕ) (headers : List HeaderTree) (methods : List Method) → ((h : HeaderTree) → at_header r headers methods h ≡ []) → flat_map (at_header r headers methods) headers ≡ []
no_header r headers methods e = flat_none (at_header r headers methods) e headers

-- a rule that has no tokens at any member has none at those of a class
no_member : (r : ℕ) (ms : List MemberTree) → ((m : MemberTree) → at_member r m ≡ []) → flat_map (at_member r) ms ≡ []
no_member r ms e = flat_none (at_member r) e ms

-- rules on names of classes, bases and constructors
class_1 : (classes : List ClassTree) (done : List Shape) (plans : List ClassOf) (c : ClassTree) → tokens_of 1 (class_keys classes done plans c) ≡ declared_again done c
class_1 classes done plans c = class_is 1 classes done plans c ∙ ap (λ z. z ++ (flat_map (at_member 1) c.members ++ (flat_map (at_header 1 (headers_of c) (inherited done (base_of done c))) (headers_of c) ++ []))) (append-nil (declared_again done c))
    ∙ alone (declared_again done c) _ _ (no_member 1 c.members silent) (no_header 1 (headers_of c) (inherited done (base_of done c)) (λ h. refl))
  where
    silent : (m : MemberTree) → at_member 1 m ≡ []
    silent (ConstructorMember modifiers name formals body) = refl
    silent (ChordMember hs body) = refl

-- the tokens of C03 in what a class is noted to break are those at which it breaks C03
class_3 : (classes : List ClassTree) (done : List Shape) (plans : List ClassOf) (c : ClassTree) → tokens_of 3 (class_keys classes done plans c) ≡ base_missing done c
class_3 classes done plans c = class_is 3 classes done plans c ∙ ap (λ z. z ++ (flat_map (at_member 3) c.members ++ (flat_map (at_header 3 (headers_of c) (inherited done (base_of done c))) (headers_of c) ++ []))) (append-nil (base_missing done c))
    ∙ alone (base_missing done c) _ _ (no_member 3 c.members silent) (no_header 3 (headers_of c) (inherited done (base_of done c)) (λ h. refl))
  where
    silent : (m : MemberTree) → at_member 3 m ≡ []
    silent (ConstructorMember modifiers name formals body) = refl
    silent (ChordMember hs body) = refl

-- the tokens of C12 in what a class is noted to break are those at which it breaks C12
class_12 : (classes : List ClassTree) (done : List Shape) (plans : List ClassOf) (c : ClassTree) → tokens_of 12 (class_keys classes done plans c) ≡ wrong_constructors classes done c
class_12 classes done plans c = class_is 12 classes done plans c ∙ alone (wrong_constructors classes done c) _ _ (no_member 12 c.members silent) (no_header 12 (headers_of c) (inherited done (base_of done c)) (λ h. refl))
  where
    silent : (m : MemberTree) → at_member 12 m ≡ []
    silent (ConstructorMember modifiers name formals body) = refl
    silent (ChordMember hs body) = refl

-- limits
class_4 : (classes : List ClassTree) (done : List Shape) (plans : List ClassOf) (c : ClassTree) → tokens_of 4 (class_keys classes done plans c) ≡ limits_passed done plans c
class_4 classes done plans c =
    class_is 4 classes done plans c ∙ append_assoc (when (nat_le 1024 (length done)) c.name.at) (base_token c.base (nat_lt 16 (length (from_base done (base_of done c)))))
    (method_limits done c ++ (flat_map (at_member 4) c.members ++ (chord_places plans (base_of done c) c.members ++ (flat_map (at_header 4 (headers_of c) (inherited done (base_of done c))) (headers_of c) ++ []))))
    ∙ ap (λ z. when (nat_le 1024 (length done)) c.name.at ++ (base_token c.base (nat_lt 16 (length (from_base done (base_of done c)))) ++ (method_limits done c ++ (z ++ (chord_places plans (base_of done c) c.members ++ (flat_map (at_header 4 (headers_of c) (inherited done (base_of done c))) (headers_of c) ++ []))))))
    (flat_same (at_member 4) member_limits said c.members)
    ∙ ap (λ z. when (nat_le 1024 (length done)) c.name.at ++ (base_token c.base (nat_lt 16 (length (from_base done (base_of done c)))) ++ (method_limits done c ++ (flat_map member_limits c.members ++ (chord_places plans (base_of done c) c.members ++ (z ++ []))))))
    (no_header 4 (headers_of c) (inherited done (base_of done c)) (λ h. refl))
    ∙ ap (λ z. when (nat_le 1024 (length done)) c.name.at ++ (base_token c.base (nat_lt 16 (length (from_base done (base_of done c)))) ++ (method_limits done c ++ (flat_map member_limits c.members ++ z)))) (append-nil (chord_places plans (base_of done c) c.members))
  where
    said : (m : MemberTree) → at_member 4 m ≡ member_limits m
    said (ConstructorMember modifiers name formals body) = refl
    said (ChordMember hs body) = refl

-- rules on members
class_6 : (classes : List ClassTree) (done : List Shape) (plans : List ClassOf) (c : ClassTree) → tokens_of 6 (class_keys classes done plans c) ≡ second_synchronous done c
class_6 classes done plans c = class_is 6 classes done plans c ∙ of_members _ _ (second_synchronous done c) (flat_same (at_member 6) crowded_in said c.members) (no_header 6 (headers_of c) (inherited done (base_of done c)) (λ h. refl))
  where
    said : (m : MemberTree) → at_member 6 m ≡ crowded_in m
    said (ConstructorMember modifiers name formals body) = refl
    said (ChordMember hs body) = append-nil (second_sync false hs ++ []) ∙ append-nil (second_sync false hs)

-- the tokens of C07 in what a class is noted to break are those at which it breaks C07
class_7 : (classes : List ClassTree) (done : List Shape) (plans : List ClassOf) (c : ClassTree) → tokens_of 7 (class_keys classes done plans c) ≡ repeated_methods done c
class_7 classes done plans c = class_is 7 classes done plans c ∙ of_members _ _ (repeated_methods done c) (flat_same (at_member 7) repeated_in said c.members) (no_header 7 (headers_of c) (inherited done (base_of done c)) (λ h. refl))
  where
    said : (m : MemberTree) → at_member 7 m ≡ repeated_in m
    said (ConstructorMember modifiers name formals body) = refl
    said (ChordMember hs body) = append-nil (repeated [] hs ++ []) ∙ append-nil (repeated [] hs)

-- the tokens of C08 in what a class is noted to break are those at which it breaks C08
class_8 : (classes : List ClassTree) (done : List Shape) (plans : List ClassOf) (c : ClassTree) → tokens_of 8 (class_keys classes done plans c) ≡ parameter_again done c
class_8 classes done plans c = class_is 8 classes done plans c ∙ of_members _ _ (parameter_again done c) (flat_same (at_member 8) (λ m. repeated_formals [] (member_formals m)) said c.members) (no_header 8 (headers_of c) (inherited done (base_of done c)) (λ h. refl))
  where
    said : (m : MemberTree) → at_member 8 m ≡ repeated_formals [] (member_formals m)
    said (ConstructorMember modifiers name formals body) = append-nil (repeated_formals [] formals.parameters)
    said (ChordMember hs body) = append-nil (repeated_formals [] (flat_map formals_of_header hs))

-- the tokens of C21 in what a class is noted to break are those at which it breaks C21
class_21 : (classes : List ClassTree) (done : List Shape) (plans : List ClassOf) (c : ClassTree) → tokens_of 21 (class_keys classes done plans c) ≡ modifiers_barred done c
class_21 classes done plans c = class_is 21 classes done plans c ∙ of_members _ _ (modifiers_barred done c) (flat_same (at_member 21) barred_in said c.members) (no_header 21 (headers_of c) (inherited done (base_of done c)) (λ h. refl))
  where
    said : (m : MemberTree) → at_member 21 m ≡ barred_in m
    said (ConstructorMember modifiers name formals body) = append-nil (barred_among OnConstructor modifiers [] modifiers)
    said (ChordMember hs body) = append-nil (flat_map (header_barred (length hs)) hs ++ []) ∙ append-nil (flat_map (header_barred (length hs)) hs)

-- rules on headers
class_5 : (classes : List ClassTree) (done : List Shape) (plans : List ClassOf) (c : ClassTree) → tokens_of 5 (class_keys classes done plans c) ≡ differing_headers done c
class_5 classes done plans c =
    class_is 5 classes done plans c ∙ of_headers _ _ (differing_headers done c) (no_member 5 c.members silent)
    (flat_same (at_header 5 (headers_of c) (inherited done (base_of done c))) (differing (headers_of c)) (λ h. append-nil (differing (headers_of c) h)) (headers_of c))
  where
    silent : (m : MemberTree) → at_member 5 m ≡ []
    silent (ConstructorMember modifiers name formals body) = refl
    silent (ChordMember hs body) = refl

-- the tokens of C09 in what a class is noted to break are those at which it breaks C09
class_9 : (classes : List ClassTree) (done : List Shape) (plans : List ClassOf) (c : ClassTree) → tokens_of 9 (class_keys classes done plans c) ≡ missing_override done c
class_9 classes done plans c =
    class_is 9 classes done plans c ∙ of_headers _ _ (missing_override done c) (no_member 9 c.members silent)
    (flat_same (at_header 9 (headers_of c) (inherited done (base_of done c))) (hiding (inherited done (base_of done c))) (λ h. append-nil (hiding (inherited done (base_of done c)) h)) (headers_of c))
  where
    silent : (m : MemberTree) → at_member 9 m ≡ []
    silent (ConstructorMember modifiers name formals body) = refl
    silent (ChordMember hs body) = refl

-- the tokens of C10 in what a class is noted to break are those at which it breaks C10
class_10 : (classes : List ClassTree) (done : List Shape) (plans : List ClassOf) (c : ClassTree) → tokens_of 10 (class_keys classes done plans c) ≡ wrong_override done c
class_10 classes done plans c =
    class_is 10 classes done plans c ∙ of_headers _ _ (wrong_override done c) (no_member 10 c.members silent) refl
  where
    silent : (m : MemberTree) → at_member 10 m ≡ []
    silent (ConstructorMember modifiers name formals body) = refl
    silent (ChordMember hs body) = refl

-- the rule on groups
class_11 : (classes : List ClassTree) (done : List Shape) (plans : List ClassOf) (c : ClassTree) → tokens_of 11 (class_keys classes done plans c) ≡ split done plans c
class_11 classes done plans c =
    class_is 11 classes done plans c ∙ ap (λ z. z ++ (flat_map (at_header 11 (headers_of c) (inherited done (base_of done c))) (headers_of c) ++ split done plans c)) (no_member 11 c.members silent)
    ∙ ap (λ z. z ++ split done plans c) (no_header 11 (headers_of c) (inherited done (base_of done c)) (λ h. refl))
  where
    silent : (m : MemberTree) → at_member 11 m ≡ []
    silent (ConstructorMember modifiers name formals body) = refl
    silent (ChordMember hs body) = refl

-- no class is noted to break C13
class_13 : (classes : List ClassTree) (done : List Shape) (plans : List ClassOf) (c : ClassTree) → tokens_of 13 (class_keys classes done plans c) ≡ []
class_13 classes done plans c =
    class_is 13 classes done plans c ∙ of_members _ _ [] (no_member 13 c.members silent) (no_header 13 (headers_of c) (inherited done (base_of done c)) (λ h. refl))
  where
    silent : (m : MemberTree) → at_member 13 m ≡ []
    silent (ConstructorMember modifiers name formals body) = refl
    silent (ChordMember hs body) = refl

-- the tokens of a rule other than that on `Main`
by_classes : (r : ℕ) (p : ProgramTree) (rule : List Shape → ClassTree → List ℕ) → nat_eq 13 r ≡ false → ((done : List Shape) (plans : List ClassOf) (c : ClassTree) → tokens_of r (class_keys p.classes done plans c) ≡ rule done c) → tokens_of r (program_keys p) ≡ in_classes rule p
by_classes r p rule n e =
    two r (classes_keys p) (keys 13 (wrong_mains (mains_of p.classes) (length (spelling p)))) _ _
    (tokens_over r (class_keys p.classes) (λ done plans c. rule done c) e [] [] 0 p.classes ∙ over_both rule [] [] 0 p.classes)
    (tokens_keys r 13 (wrong_mains (mains_of p.classes) (length (spelling p))) (omega arith) ∙ ap (λ z. cond z (wrong_mains (mains_of p.classes) (length (spelling p))) []) n)
    ∙ append-nil (in_classes rule p)

-- the tokens of a rule other than that on `Main`, which may look at plans
by_plans : (r : ℕ) (p : ProgramTree) (rule : List Shape → List ClassOf → ClassTree → List ℕ) → nat_eq 13 r ≡ false → ((done : List Shape) (plans : List ClassOf) (c : ClassTree) → tokens_of r (class_keys p.classes done plans c) ≡ rule done plans c) → tokens_of r (program_keys p) ≡ over_plans rule [] [] 0 p.classes
by_plans r p rule n e =
    two r (classes_keys p) (keys 13 (wrong_mains (mains_of p.classes) (length (spelling p)))) _ _ (tokens_over r (class_keys p.classes) rule e [] [] 0 p.classes)
    (tokens_keys r 13 (wrong_mains (mains_of p.classes) (length (spelling p))) (omega arith) ∙ ap (λ z. cond z (wrong_mains (mains_of p.classes) (length (spelling p))) []) n)
    ∙ append-nil (over_plans rule [] [] 0 p.classes)

-- the tokens of C01
pub tokens_1 : (p : ProgramTree) → tokens_of 1 (program_keys p) ≡ in_classes declared_again p
tokens_1 p = by_classes 1 p declared_again refl (class_1 p.classes)

-- the tokens of C03
pub tokens_3 : (p : ProgramTree) → tokens_of 3 (program_keys p) ≡ in_classes base_missing p
tokens_3 p = by_classes 3 p base_missing refl (class_3 p.classes)

-- the tokens of C04
pub tokens_4 : (p : ProgramTree) → tokens_of 4 (program_keys p) ≡ limits_in p
tokens_4 p = by_plans 4 p limits_passed refl (class_4 p.classes)

-- the tokens of C05
pub tokens_5 : (p : ProgramTree) → tokens_of 5 (program_keys p) ≡ in_classes differing_headers p
tokens_5 p = by_classes 5 p differing_headers refl (class_5 p.classes)

-- the tokens of C06
pub tokens_6 : (p : ProgramTree) → tokens_of 6 (program_keys p) ≡ in_classes second_synchronous p
tokens_6 p = by_classes 6 p second_synchronous refl (class_6 p.classes)

-- the tokens of C07
pub tokens_7 : (p : ProgramTree) → tokens_of 7 (program_keys p) ≡ in_classes repeated_methods p
tokens_7 p = by_classes 7 p repeated_methods refl (class_7 p.classes)

-- the tokens of C08
pub tokens_8 : (p : ProgramTree) → tokens_of 8 (program_keys p) ≡ in_classes parameter_again p
tokens_8 p = by_classes 8 p parameter_again refl (class_8 p.classes)

-- the tokens of C09
pub tokens_9 : (p : ProgramTree) → tokens_of 9 (program_keys p) ≡ in_classes missing_override p
tokens_9 p = by_classes 9 p missing_override refl (class_9 p.classes)

-- the tokens of C10
pub tokens_10 : (p : ProgramTree) → tokens_of 10 (program_keys p) ≡ in_classes wrong_override p
tokens_10 p = by_classes 10 p wrong_override refl (class_10 p.classes)

-- the tokens of C11
pub tokens_11 : (p : ProgramTree) → tokens_of 11 (program_keys p) ≡ over_plans split [] [] 0 p.classes
tokens_11 p = by_plans 11 p split refl (class_11 p.classes)

-- the tokens of C12
pub tokens_12 : (p : ProgramTree) → tokens_of 12 (program_keys p) ≡ in_classes (wrong_constructors p.classes) p
tokens_12 p = by_classes 12 p (wrong_constructors p.classes) refl (class_12 p.classes)

-- the tokens of C13
pub tokens_13 : (p : ProgramTree) → tokens_of 13 (program_keys p) ≡ wrong_mains (mains_of p.classes) (length (spelling p))
tokens_13 p =
    two 13 (classes_keys p) (keys 13 (wrong_mains (mains_of p.classes) (length (spelling p)))) _ _ (tokens_over 13 (class_keys p.classes) (λ done plans c. []) (class_13 p.classes) [] [] 0 p.classes ∙ over_none [] [] 0 p.classes)
    (tokens_keys 13 13 (wrong_mains (mains_of p.classes) (length (spelling p))) (omega arith))

-- the tokens of C21
pub tokens_21 : (p : ProgramTree) → tokens_of 21 (program_keys p) ≡ in_classes modifiers_barred p
tokens_21 p = by_classes 21 p modifiers_barred refl (class_21 p.classes)
