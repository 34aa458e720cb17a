-- The least of what a program is noted to break is the first break of the rules that a layout rests on.
use Rattle.std.proofs.Common.{◌≡◌, ℕ, ◌+◌, ◌<◌, ◌≤◌, ◌/◌, ◌%◌, List, [], ◌∷◌, ◌++◌, Bool, true, false, nat_eq, ◌||◌, flat_map, length, drop, refl, sym, ap, subst, ◌∙◌, arith, Option, Some, None, inl, inr}
use Rattle.std.specs.Prelude.{◌*◌, Contains, nat_le, nat_lt}
use Rattle.std.proofs.lemmas.Bool.{eqb-true, false≢true}
use Rattle.std.proofs.lemmas.Bool.Decides.{leb_tells}
use Rattle.chord_tree.specs.Tree.{HeaderTree, MemberTree, ConstructorMember, ChordMember, ClassTree, ProgramTree}
use Rattle.chord_bodies.specs.Resolved.{ClassOf}
use Rattle.chord_classes.specs.Table.{Method, Shape, base_of, inherited, from_base, shape_of, among}
use Rattle.chord_classes.specs.Plan.{class_plan}
use Rattle.chord_classes.specs.ChordRules.{repeated, second_sync, formal_tokens, header_tokens, block_names, base_token, misnamed_constructors, base_has, over_plans, mains_of, wrong_mains}
use Rattle.chord_classes.specs.NameRules.{when}
use Rattle.chord_classes.specs.DeclarationRules.{declared_again, base_missing, repeated_formals, barred_among, OnConstructor}
use Rattle.chord_tree.specs.Walk.{headers_of}
use Rattle.chord_tree.specs.Program.{spelling}
use Rattle.chord_classes.specs.Rules.{Broken, IsFree, C01, C02, C03, C04, C05, C06, C07, C08, C09, C10, C11, C12, C13, C14, C15, C16, C17, C18, C19, C20, C21, C22, C23, C24}
use Rattle.chord_classes.specs.Breaks.{IsNotAfter, IsBreak}
use Rattle.chord_classes.specs.Least.{keys, least}
use Rattle.chord_classes.proofs.Leasts.{IsIn, contains_in, in_contains, in_either, of_key, not_less, is_least, none_noted, noted_two}
use Rattle.chord_rules.specs.Family.{is_layout_rule}
use Rattle.chord_rules.specs.ClassKeys.{differing, hiding, misfitting, header_keys, chord_keys, chord_limits, keys_of_member, name_keys, place_keys, method_limits, chord_places, inner_keys, class_keys, classes_keys, program_keys}
use Rattle.chord_rules.specs.FormalNames.{formals_of_header}
use Rattle.chord_rules.specs.Bearers.{header_barred}
use Rattle.chord_rules.specs.Limits.{crowded_formals}
use Rattle.chord_rules.specs.Splits.{split}
use Rattle.chord_rules.proofs.Tokens.{tokens_of, key_of, token_in}
use Rattle.chord_rules.proofs.GroupSplits.{splits_listed}
use Rattle.chord_rules.proofs.RuleTokens.{tokens_1, tokens_3, tokens_4, tokens_5, tokens_6, tokens_7, tokens_8, tokens_9, tokens_10, tokens_11, tokens_12, tokens_13, tokens_21}

-- Each number that is noted is one of these rules.

-- each of these keys is one of a layout rule
abbrev AreMine : List ℕ → Type 0
AreMine ks = (k : ℕ) → IsIn ks k → is_layout_rule (k % 32) ≡ true

-- keys of a layout rule are of layout rules
mine_keys : (r : ℕ) (xs : List ℕ) → r < 32 → is_layout_rule r ≡ true → AreMine (keys r xs)
mine_keys r xs l m k h =
    let s = of_key r xs k h in
    let e : k % 32 ≡ r = (let f = s.1 in omega (arith, f)) in
    ap is_layout_rule e ∙ m

-- two joined lists of keys of layout rules are of layout rules
mine_both : (xs ys : List ℕ) → AreMine xs → AreMine ys → AreMine (xs ++ ys)
mine_both xs ys a b k h = elim (in_either xs ys k h) [ inl i ↦ a k i | inr i ↦ b k i ]

-- lists of keys of layout rules, laid together, are of layout rules
mine_flat : {A : Type 0} (f : A → List ℕ) → ((x : A) → AreMine (f x)) → (xs : List A) → AreMine (flat_map f xs)
mine_flat f m [] k h = absurd h
mine_flat f m (x ∷ xs) k h = elim (in_either (f x) (flat_map f xs) k h) [ inl i ↦ m x k i | inr i ↦ mine_flat f m xs k i ]

-- the keys of four layout rules, joined, are of layout rules
mine_four : (a b c d : ℕ) (ks ls ms ns : List ℕ) → a < 32 → b < 32 → c < 32 → d < 32 → is_layout_rule a ≡ true → is_layout_rule b ≡ true → is_layout_rule c ≡ true → is_layout_rule d ≡ true → AreMine (keys a ks ++ (keys b ls ++ (keys c ms ++ keys d ns)))
mine_four a b c d ks ls ms ns la lb lc ld ma mb mc md =
    mine_both (keys a ks) (keys b ls ++ (keys c ms ++ keys d ns)) (mine_keys a ks la ma) (mine_both (keys b ls) (keys c ms ++ keys d ns) (mine_keys b ls lb mb) (mine_both (keys c ms) (keys d ns) (mine_keys c ms lc mc) (mine_keys d ns ld md)))

-- the keys of three layout rules, joined, are of layout rules
mine_three : (a b c : ℕ) (ks ls ms : List ℕ) → a < 32 → b < 32 → c < 32 → is_layout_rule a ≡ true → is_layout_rule b ≡ true → is_layout_rule c ≡ true → AreMine (keys a ks ++ (keys b ls ++ keys c ms))
mine_three a b c ks ls ms la lb lc ma mb mc = mine_both (keys a ks) (keys b ls ++ keys c ms) (mine_keys a ks la ma) (mine_both (keys b ls) (keys c ms) (mine_keys b ls lb mb) (mine_keys c ms lc mc))

-- what a header is noted to break are layout rules
mine_header : (headers : List HeaderTree) (methods : List Method) (h : HeaderTree) → AreMine (header_keys headers methods h)
mine_header headers methods h = mine_three 5 9 10 (differing headers h) (hiding methods h) (misfitting methods h) (omega arith) (omega arith) (omega arith) refl refl refl

-- what a member is noted to break are layout rules
mine_member : (m : MemberTree) → AreMine (keys_of_member m)
mine_member (ConstructorMember modifiers name formals body) =
    mine_four 21 8 4 4 (barred_among OnConstructor modifiers [] modifiers) (repeated_formals [] formals.parameters) (drop 8 (formal_tokens formals.parameters)) (drop 256 (block_names body)) (omega arith) (omega arith) (omega arith) (omega arith) refl refl refl refl
mine_member (ChordMember hs body) =
    mine_both (chord_keys hs) (chord_limits hs body)
    (mine_four 21 7 6 8 (flat_map (header_barred (length hs)) hs) (repeated [] hs) (second_sync false hs) (repeated_formals [] (flat_map formals_of_header hs)) (omega arith) (omega arith) (omega arith) (omega arith) refl refl refl refl)
    (mine_three 4 4 4 (drop 8 (header_tokens hs)) (flat_map crowded_formals hs) (drop 256 (block_names body)) (omega arith) (omega arith) (omega arith) refl refl refl)

-- what a class is noted to break by its members and their headers are layout rules
mine_inner : (done : List Shape) (plans : List ClassOf) (c : ClassTree) → AreMine (inner_keys done plans c)
mine_inner done plans c =
    mine_both (flat_map keys_of_member c.members) (keys 4 (chord_places plans (base_of done c) c.members) ++ (flat_map (header_keys (headers_of c) (inherited done (base_of done c))) (headers_of c) ++ keys 11 (split done plans c))) (mine_flat keys_of_member mine_member c.members)
    (mine_both (keys 4 (chord_places plans (base_of done c) c.members)) (flat_map (header_keys (headers_of c) (inherited done (base_of done c))) (headers_of c) ++ keys 11 (split done plans c)) (mine_keys 4 (chord_places plans (base_of done c) c.members) (omega arith) refl)
    (mine_both (flat_map (header_keys (headers_of c) (inherited done (base_of done c))) (headers_of c)) (keys 11 (split done plans c))
    (mine_flat (header_keys (headers_of c) (inherited done (base_of done c))) (mine_header (headers_of c) (inherited done (base_of done c))) (headers_of c)) (mine_keys 11 (split done plans c) (omega arith) refl)))

-- what a class is noted to break are layout rules
mine_class : (classes : List ClassTree) (done : List Shape) (plans : List ClassOf) (c : ClassTree) → AreMine (class_keys classes done plans c)
mine_class classes done plans c =
    mine_both (name_keys classes done c) (place_keys done c ++ (keys 4 (method_limits done c) ++ inner_keys done plans c))
    (mine_four 1 3 12 12 (declared_again done c) (base_missing done c) (misnamed_constructors c.name.text c.members) (base_token c.base (base_has classes (base_of done c))) (omega arith) (omega arith) (omega arith) (omega arith) refl refl refl refl)
    (mine_both (place_keys done c) (keys 4 (method_limits done c) ++ inner_keys done plans c)
    (mine_both (keys 4 (when (nat_le 1024 (length done)) c.name.at)) (keys 4 (base_token c.base (nat_lt 16 (length (from_base done (base_of done c))))))
    (mine_keys 4 (when (nat_le 1024 (length done)) c.name.at) (omega arith) refl) (mine_keys 4 (base_token c.base (nat_lt 16 (length (from_base done (base_of done c))))) (omega arith) refl))
    (mine_both (keys 4 (method_limits done c)) (inner_keys done plans c) (mine_keys 4 (method_limits done c) (omega arith) refl) (mine_inner done plans c)))

-- what classes are noted to break, one after the other, are layout rules
mine_over : (classes : List ClassTree) (done : List Shape) (plans : List ClassOf) (number : ℕ) (cs : List ClassTree) → AreMine (over_plans (class_keys classes) done plans number cs)
mine_over classes done plans number [] k h = absurd h
mine_over classes done plans number (c ∷ cs) k h =
    mine_both (class_keys classes done plans c) (over_plans (class_keys classes) (done ++ (shape_of done c ∷ [])) (plans ++ (class_plan done plans number c ∷ [])) (number + length c.members) cs) (mine_class classes done plans c)
    (mine_over classes (done ++ (shape_of done c ∷ [])) (plans ++ (class_plan done plans number c ∷ [])) (number + length c.members) cs) k h

-- what a program is noted to break are layout rules
mine_program : (p : ProgramTree) → AreMine (program_keys p)
mine_program p = mine_both (classes_keys p) (keys 13 (wrong_mains (mains_of p.classes) (length (spelling p)))) (mine_over p.classes [] [] 0 p.classes) (mine_keys 13 (wrong_mains (mains_of p.classes) (length (spelling p))) (omega arith) refl)

-- What holds of each of some numbers holds of one that is among them.

-- something holds of each of some numbers
abbrev pub OfEach : (ℕ → Type 0) → List ℕ → Type 0
OfEach P [] = Unit {0}
OfEach P (x ∷ xs) = P x × OfEach P xs

-- what holds of each of some numbers holds of one that is among them
pub of_one : (P : ℕ → Type 0) (r : ℕ) (xs : List ℕ) → OfEach P xs → among r xs ≡ true → P r
of_one P r [] all h = absurd (false≢true h)
of_one P r (x ∷ xs) all h = by_first (nat_eq r x) refl h (λ m. of_one P r xs all.1 m)
  where
    by_first : (b : Bool) → nat_eq r x ≡ b → (b || among r xs) ≡ true → (among r xs ≡ true → P r) → P r
    by_first true e h more = subst P (sym (eqb-true r x e)) all.0
    by_first false e h more = more h

-- The tokens of a rule are those at which it is broken.

-- a program breaks a rule at each token at which that is noted
abbrev IsBrokenAt : ProgramTree → ℕ → Type 0
IsBrokenAt p r = (at : ℕ) → IsIn (tokens_of r (program_keys p)) at → Broken p r at

-- what is in a list is contained in a list equal to it
there : (xs ys : List ℕ) (at : ℕ) → xs ≡ ys → IsIn xs at → Contains ys at
there xs ys at e h = contains_in ys at (subst (λ z. IsIn z at) e h)

-- each layout rule is broken at the tokens at which that is noted
each_broken : (p : ProgramTree) → OfEach (IsBrokenAt p) (1 ∷ 3 ∷ 4 ∷ 5 ∷ 6 ∷ 7 ∷ 8 ∷ 9 ∷ 10 ∷ 11 ∷ 12 ∷ 13 ∷ 21 ∷ [])
each_broken p = (
  (λ at h. C01 at (there (tokens_of 1 (program_keys p)) _ at (tokens_1 p) h)),
  (
    (λ at h. C03 at (there (tokens_of 3 (program_keys p)) _ at (tokens_3 p) h)),
    (
      (λ at h. C04 at (there (tokens_of 4 (program_keys p)) _ at (tokens_4 p) h)),
      (
        (λ at h. C05 at (there (tokens_of 5 (program_keys p)) _ at (tokens_5 p) h)),
        (
          (λ at h. C06 at (there (tokens_of 6 (program_keys p)) _ at (tokens_6 p) h)),
          (
            (λ at h. C07 at (there (tokens_of 7 (program_keys p)) _ at (tokens_7 p) h)),
            (
              (λ at h. C08 at (there (tokens_of 8 (program_keys p)) _ at (tokens_8 p) h)),
              (
                (λ at h. C09 at (there (tokens_of 9 (program_keys p)) _ at (tokens_9 p) h)),
                (
                  (λ at h. C10 at (there (tokens_of 10 (program_keys p)) _ at (tokens_10 p) h)),
                  (
                    (λ at h. C11 at ((splits_listed [] [] 0 p.classes at).0 (there (tokens_of 11 (program_keys p)) (over_plans split [] [] 0 p.classes) at (tokens_11 p) h))),
                    (
                      (λ at h. C12 at (there (tokens_of 12 (program_keys p)) _ at (tokens_12 p) h)),
                      (
                        (λ at h. C13 at (there (tokens_of 13 (program_keys p)) _ at (tokens_13 p) h)),
                        (
                          (λ at h. C21 at (there (tokens_of 21 (program_keys p)) _ at (tokens_21 p) h)),
                          tt,
                        ),
                      ),
                    ),
                  ),
                ),
              ),
            ),
          ),
        ),
      ),
    ),
  ),
)

-- what a list contains is in a list equal to it
back : (xs ys : List ℕ) (at : ℕ) → xs ≡ ys → Contains ys at → IsIn xs at
back xs ys at e h = subst (λ z. IsIn z at) (sym e) (in_contains ys at h)

-- what is broken is noted
noted : (p : ProgramTree) (r at : ℕ) → is_layout_rule r ≡ true → Broken p r at → IsIn (tokens_of r (program_keys p)) at
noted p r at_ m (C01 at h) = back _ _ at (tokens_1 p) h
noted p r at_ m (C02 at h) = absurd (false≢true m)
noted p r at_ m (C03 at h) = back _ _ at (tokens_3 p) h
noted p r at_ m (C04 at h) = back _ _ at (tokens_4 p) h
noted p r at_ m (C05 at h) = back _ _ at (tokens_5 p) h
noted p r at_ m (C06 at h) = back _ _ at (tokens_6 p) h
noted p r at_ m (C07 at h) = back _ _ at (tokens_7 p) h
noted p r at_ m (C08 at h) = back _ _ at (tokens_8 p) h
noted p r at_ m (C09 at h) = back _ _ at (tokens_9 p) h
noted p r at_ m (C10 at h) = back _ _ at (tokens_10 p) h
noted p r at_ m (C11 at h) = back _ _ at (tokens_11 p) ((splits_listed [] [] 0 p.classes at).1 h)
noted p r at_ m (C12 at h) = back _ _ at (tokens_12 p) h
noted p r at_ m (C13 at h) = back _ _ at (tokens_13 p) h
noted p r at_ m (C14 at h) = absurd (false≢true m)
noted p r at_ m (C15 at h) = absurd (false≢true m)
noted p r at_ m (C16 at h) = absurd (false≢true m)
noted p r at_ m (C17 at h) = absurd (false≢true m)
noted p r at_ m (C18 at h) = absurd (false≢true m)
noted p r at_ m (C19 at h) = absurd (false≢true m)
noted p r at_ m (C20 at h) = absurd (false≢true m)
noted p r at_ m (C21 at h) = back _ _ at (tokens_21 p) h
noted p r at_ m (C22 at h) = absurd (false≢true m)
noted p r at_ m (C23 at h) = absurd (false≢true m)
noted p r at_ m (C24 at h) = absurd (false≢true m)

-- the number of a rule is below 32
abbrev IsSmall : ℕ → Type 0
IsSmall r = r < 32

-- the number of a layout rule is below 32
small : (r : ℕ) → is_layout_rule r ≡ true → r < 32
small r m = of_one IsSmall r (1 ∷ 3 ∷ 4 ∷ 5 ∷ 6 ∷ 7 ∷ 8 ∷ 9 ∷ 10 ∷ 11 ∷ 12 ∷ 13 ∷ 21 ∷ [])
    (omega arith, (omega arith, (omega arith, (omega arith, (omega arith, (omega arith, (omega arith, (omega arith, (omega arith, (omega arith, (omega arith, (omega arith, (omega arith, tt))))))))))))) m

-- a break whose key is at most that of rule s at token l comes before that one, or is that one
not_after : (k s l : ℕ) → s < 32 → k ≤ 32 * l + s → IsNotAfter (k % 32) (k / 32) s l
not_after k s l a h = elim (leb_tells l (k / 32)) [ inl t ↦ (let u = t.1 in inr (omega arith, omega arith)) | inr t ↦ inl t.1 ]

-- The least that is noted is the first break.
pub is_break : (p : ProgramTree) (o : Option ℕ) (k : ℕ) → o ≡ least None (program_keys p) → o ≡ Some k → IsBreak is_layout_rule p (k % 32) (k / 32)
is_break p o k e f =
    let found = is_least (program_keys p) k (sym e ∙ f) in
    let mine = mine_program p k found.0 in
    record {
      is_mine = mine;
      broken = of_one (IsBrokenAt p) (k % 32) (1 ∷ 3 ∷ 4 ∷ 5 ∷ 6 ∷ 7 ∷ 8 ∷ 9 ∷ 10 ∷ 11 ∷ 12 ∷ 13 ∷ 21 ∷ []) (each_broken p) mine (k / 32) (token_in k (program_keys p) found.0);
      first = λ s l m b. not_after k s l (small s m) (not_less (program_keys p) k (32 * l + s) found.1 (key_of s l (program_keys p) (noted p s l m b)));
    }

-- Where nothing is noted no rule is broken.
pub is_free : (p : ProgramTree) (o : Option ℕ) → o ≡ least None (program_keys p) → o ≡ None → IsFree is_layout_rule p
is_free p o e f s l m b = none_noted (program_keys p) (32 * l + s) (sym e ∙ f) (key_of s l (program_keys p) (noted p s l m b))

-- what the classes are noted to break, and then `Main`, is what the program is noted to break
pub program_noted : (p : ProgramTree) (classes : List ClassTree) (end : ℕ) (q r : Option ℕ) → classes ≡ p.classes → end ≡ length (spelling p)
    → q ≡ least None (over_plans (class_keys classes) [] [] 0 classes) → r ≡ least q (keys 13 (wrong_mains (mains_of classes) end)) → r ≡ least None (program_keys p)
program_noted p classes end q r c e hq hr =
    noted_two None q r (classes_keys p) (keys 13 (wrong_mains (mains_of p.classes) (length (spelling p))))
    (hq ∙ ap (λ z. least None (over_plans (class_keys z) [] [] 0 z)) c)
    (hr ∙ ap (λ z. least q (keys 13 (wrong_mains (mains_of z) end))) c ∙ ap (λ z. least q (keys 13 (wrong_mains (mains_of p.classes) z))) e)
