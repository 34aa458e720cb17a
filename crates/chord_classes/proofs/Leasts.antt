-- The least of a list of numbers; membership in a joined list.
use Rattle.std.proofs.Common.{◌≡◌, ℕ, zero, suc, ◌+◌, ◌≤◌, List, [], ◌∷◌, ◌++◌, refl, sym, ap, subst, ◌∙◌, Option, Some, None, min, arith, ◌⊎◌, inl, inr}
use Rattle.std.specs.Prelude.{◌*◌, Contains}
use Rattle.std.proofs.lemmas.Bool.Decides.{leb_tells}
use Rattle.chord_classes.specs.Least.{keys, lesser, least}

-- a number is in a list
abbrev pub IsIn : List ℕ → ℕ → Type 0
IsIn [] k = ⊥
IsIn (x ∷ xs) k = (x ≡ k) ⊎ IsIn xs k

-- no number of a list is less
abbrev pub NoneLess : List ℕ → ℕ → Type 0
NoneLess [] k = Unit {0}
NoneLess (x ∷ xs) k = (k ≤ x) × NoneLess xs k

-- what is in a list stands at one of its places
pub contains_in : (xs : List ℕ) (k : ℕ) → IsIn xs k → Contains xs k
contains_in [] k h = absurd h
contains_in (x ∷ xs) k (inl e) = (0, omega arith, e)
contains_in (x ∷ xs) k (inr h) = let r = contains_in xs k h in (suc r.0, (let l = r.1 in omega arith), r.2)

-- what stands at a place of a list is in it
pub in_contains : (xs : List ℕ) (k : ℕ) → Contains xs k → IsIn xs k
in_contains [] k (i, l, e) = absurd (omega arith)
in_contains (x ∷ xs) k (zero, l, e) = inl e
in_contains (x ∷ xs) k (suc i, l, e) = inr (in_contains xs k (i, omega arith, e))

-- what is in the first of two lists is in both joined
pub in_left : (xs ys : List ℕ) (k : ℕ) → IsIn xs k → IsIn (xs ++ ys) k
in_left [] ys k h = absurd h
in_left (x ∷ xs) ys k (inl e) = inl e
in_left (x ∷ xs) ys k (inr h) = inr (in_left xs ys k h)

-- what is in the second of two lists is in both joined
pub in_right : (xs ys : List ℕ) (k : ℕ) → IsIn ys k → IsIn (xs ++ ys) k
in_right [] ys k h = h
in_right (x ∷ xs) ys k h = inr (in_right xs ys k h)

-- what is in two joined lists is in one of them
pub in_either : (xs ys : List ℕ) (k : ℕ) → IsIn (xs ++ ys) k → IsIn xs k ⊎ IsIn ys k
in_either [] ys k h = inr h
in_either (x ∷ xs) ys k (inl e) = inl (inl e)
in_either (x ∷ xs) ys k (inr h) = elim (in_either xs ys k h) [ inl a ↦ inl (inr a) | inr b ↦ inr b ]

-- a rule that is broken at a token is among its numbers
pub at_key : (r : ℕ) (xs : List ℕ) (at : ℕ) → IsIn xs at → IsIn (keys r xs) (32 * at + r)
at_key r [] at h = absurd h
at_key r (x ∷ xs) at (inl e) = inl (ap (λ z. 32 * z + r) e)
at_key r (x ∷ xs) at (inr h) = inr (at_key r xs at h)

-- a number of a rule is that of a token at which it is broken
pub of_key : (r : ℕ) (xs : List ℕ) (k : ℕ) → IsIn (keys r xs) k → (at : ℕ) × (k ≡ 32 * at + r) × IsIn xs at
of_key r [] k h = absurd h
of_key r (x ∷ xs) k (inl e) = (x, sym e, inl refl)
of_key r (x ∷ xs) k (inr h) = let s = of_key r xs k h in (s.0, s.1, inr s.2)

-- where no number of a list is less than one, none is less than what is not above that
none_less : (ks : List ℕ) (k m : ℕ) → k ≤ m → NoneLess ks m → NoneLess ks k
none_less [] k m l h = tt
none_less (x ∷ ks) k m l h = (let a = h.0 in omega arith, none_less ks k m l h.1)

-- a number in a list is not less than what is not above it
pub not_less : (ks : List ℕ) (m k : ℕ) → NoneLess ks m → IsIn ks k → m ≤ k
not_less [] m k h i = absurd i
not_less (x ∷ ks) m k h (inl e) = let a = h.0 in omega arith
not_less (x ∷ ks) m k h (inr i) = not_less ks m k h.1 i

-- the lesser of two numbers is one of them
one_of : (m x : ℕ) → (min m x ≡ m) ⊎ (min m x ≡ x)
one_of m x = elim (leb_tells m x) [ inl (t, h) ↦ inl (omega arith) | inr (t, h) ↦ inr (omega arith) ]

-- what is the lesser of m and x, or in a list, is m, or in the list with x before it
found_in : (x : ℕ) (ks : List ℕ) (m k : ℕ) → (min m x ≡ k) ⊎ IsIn ks k → (m ≡ k) ⊎ IsIn (x ∷ ks) k
found_in x ks m k (inr h) = inr (inr h)
found_in x ks m k (inl e) = elim (one_of m x) [ inl f ↦ inl (sym f ∙ e) | inr f ↦ inr (inl (sym f ∙ e)) ]

-- the least of a number and a list is there: it is the number or in the list, and neither has a lesser one
within : (ks : List ℕ) (m : ℕ) → (k : ℕ) × (least (Some m) ks ≡ Some k) × (k ≤ m) × NoneLess ks k × ((m ≡ k) ⊎ IsIn ks k)
within [] m = (m, refl, omega arith, tt, inl refl)
within (x ∷ ks) m =
    let r = within ks (min m x) in
    let small : (r.0 ≤ m) × (r.0 ≤ x) = (let h = r.2 in omega arith, let h = r.2 in omega arith) in
    (r.0, r.1, small.0, (small.1, r.3), found_in x ks m r.0 r.4)

-- the least of a list is in it, and none is less
pub is_least : (ks : List ℕ) (k : ℕ) → least None ks ≡ Some k → IsIn ks k × NoneLess ks k
is_least [] k e = cc
is_least (x ∷ ks) k e = let r = within ks x in subst (λ z. IsIn (x ∷ ks) z × NoneLess (x ∷ ks) z) (same (sym r.1 ∙ e)) (turn r.4, (r.2, r.3))
  where
    same : {a b : ℕ} → ◌≡◌ {A = Option ℕ} (Some a) (Some b) → a ≡ b
    same e = cc

    turn : {y : ℕ} → (x ≡ y) ⊎ IsIn ks y → (x ≡ y) ⊎ IsIn ks y
    turn h = h

-- where nothing is noted the list is empty
pub none_noted : (ks : List ℕ) (k : ℕ) → least None ks ≡ None → IsIn ks k → ⊥
none_noted [] k e h = h
none_noted (x ∷ ks) k e h = never (sym (within ks x).1 ∙ e)
  where
    never : {a : ℕ} → ◌≡◌ {A = Option ℕ} (Some a) None → ⊥
    never e = cc

-- the least of two joined lists is that of the second, after that of the first
pub least_append : (o : Option ℕ) (xs ys : List ℕ) → least o (xs ++ ys) ≡ least (least o xs) ys
least_append o [] ys = refl
least_append o (x ∷ xs) ys = least_append (lesser o x) xs ys

-- what is noted after two lists, one after the other, is noted after both joined
pub noted_two : (o p q : Option ℕ) (a b : List ℕ) → p ≡ least o a → q ≡ least p b → q ≡ least o (a ++ b)
noted_two o p q a b hp hq = hq ∙ ap (λ z. least z b) hp ∙ sym (least_append o a b)

-- the same of three lists
pub noted_three : (o p q r : Option ℕ) (a b c : List ℕ) → p ≡ least o a → q ≡ least p b → r ≡ least q c → r ≡ least o (a ++ (b ++ c))
noted_three o p q r a b c hp hq hr = noted_two o p r a (b ++ c) hp (noted_two p q r b c hq hr)

-- the same of four lists
pub noted_four : (o p q r s : Option ℕ) (a b c d : List ℕ) → p ≡ least o a → q ≡ least p b → r ≡ least q c → s ≡ least r d → s ≡ least o (a ++ (b ++ (c ++ d)))
noted_four o p q r s a b c d hp hq hr hs = noted_two o p s a (b ++ (c ++ d)) hp (noted_three p q r s b c d hq hr hs)
