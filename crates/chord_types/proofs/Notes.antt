-- The least of what was noted, step by step.
use Rattle.std.proofs.Common.{◌≡◌, ℕ, List, [], ◌∷◌, ◌++◌, refl, sym, ap, ◌∙◌, Option, Some, None, is_some, min, Bool, true, false, nat_lt, ◌≤◌, arith, inl, inr}
use Rattle.std.proofs.lemmas.Bool.{false≢true, lt-ltb}
use Rattle.std.proofs.lemmas.Bool.Decides.{leb_tells}
use Rattle.chord_classes.specs.NameRules.{when}
use Rattle.chord_classes.specs.Least.{keys, least}

-- nothing after a list is the list
pub nothing_after : {A : Type 0} (xs : List A) → xs ++ [] ≡ xs
nothing_after [] = refl
nothing_after (x ∷ xs) = ap (λ z. x ∷ z) (nothing_after xs)

-- joined lists, from either side
pub append_more : {A : Type 0} (xs ys zs : List A) → xs ++ (ys ++ zs) ≡ (xs ++ ys) ++ zs
append_more [] ys zs = refl
append_more (x ∷ xs) ys zs = ap (λ z. x ∷ z) (append_more xs ys zs)

-- a list and nothing after it were noted
pub and_nothing : (o p : Option ℕ) (a : List ℕ) → p ≡ least o a → p ≡ least o (a ++ [])
and_nothing o p a h = h ∙ ap (least o) (sym (nothing_after a))

-- where something was noted before, something is noted in the end
some_stays : (m : ℕ) (xs : List ℕ) → least (Some m) xs ≡ None → ⊥
some_stays m [] h = false≢true (sym (ap is_some h))
some_stays m (x ∷ xs) h = some_stays (min m x) xs h

-- where nothing was noted in the end, nothing was noted before
pub nothing_before : (o p : Option ℕ) (xs : List ℕ) → p ≡ least o xs → p ≡ None → o ≡ None
nothing_before None p xs h e = refl
nothing_before (Some m) p xs h e = absurd (some_stays m xs (sym h ∙ e))

-- where nothing was noted in the end, there was nothing to note
pub nothing_there : (o p : Option ℕ) (xs : List ℕ) → p ≡ least o xs → p ≡ None → xs ≡ []
nothing_there o p [] h e = refl
nothing_there None p (x ∷ xs) h e = absurd (some_stays x xs (sym h ∙ e))
nothing_there (Some m) p (x ∷ xs) h e = absurd (some_stays (min m x) xs (sym h ∙ e))

-- a condition of which nothing is noted is false
nothing_by : (b : Bool) (at : ℕ) → keys 24 (when b at) ++ [] ≡ [] → b ≡ false
nothing_by true at h = cc
nothing_by false at h = refl

-- a literal of which nothing was noted is short
pub short_text : (count at : ℕ) → keys 24 (when (nat_lt 1024 count) at) ++ [] ≡ [] → count ≤ 1024
short_text count at h = elim (leb_tells count 1024) [ inl y ↦ y.1 | inr o ↦ absurd (false≢true (sym (nothing_by (nat_lt 1024 count) at h) ∙ lt-ltb 1024 count (let l = o.1 in omega arith))) ]
