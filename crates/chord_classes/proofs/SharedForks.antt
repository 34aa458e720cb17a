-- Versions that share what they have in common.
use Rattle.std.proofs.Common.{◌≡◌, ℕ, zero, suc, ◌+◌, ◌-◌, ◌*◌, ◌^◌, ◌<◌, ◌≤◌, ◌%◌, ◌/◌, ◌⊎◌, inl, inr, List, [], ◌∷◌, ◌++◌, Bool, true, false, cond, length, refl, sym, ap, subst, ◌∙◌, Option, Some, None, slice_get, arith, nat_eq, length-append}
use mathlib.Core.List.{append_assoc}
use Rattle.std.proofs.Math.Nat.{pow-suc, lt_of_not-le}
use Rattle.std.proofs.Math.Pow.{pow_mono}
use Rattle.std.proofs.lemmas.Bool.{eqb-true, eqb-false, eq-eqb, ne_eqb, true≢false, false≢true}
use Rattle.chord_classes.specs.declared.versions.Fork.{Fork}
use Rattle.chord_classes.specs.Forks.{empty_fork, fork_or_empty, fork_of, side, with_side, under_within, under, IsVersion, AreForks, IsFork, IsNextVersion}
use Rattle.chord_classes.proofs.Facts.{same_some}
use Rattle.chord_classes.proofs.Lists.{get_last}

-- half of a number is not greater than it
half_least : (k : ℕ) → k / 2 ≤ k
half_least k = omega arith

-- What a version has does not depend on the bound.
bounds_agree : (f g : ℕ) (forks : List Fork) (version : Option ℕ) (number : ℕ) → number < f → number < g → under_within f forks version number ≡ under_within g forks version number
bounds_agree zero g forks version number a b = absurd (omega (arith, a))
bounds_agree (suc f) zero forks version number a b = absurd (omega (arith, b))
bounds_agree (suc f) (suc g) forks version zero a b = refl
bounds_agree (suc f) (suc g) forks version (suc k) a b = let h = half_least k in bounds_agree f g forks (side (fork_of forks version) (suc k)) (k / 2) (omega (arith, h, a)) (omega (arith, h, b))

-- what a version has under a number other than 0 is what its side has under the half
pub under_half : (forks : List Fork) (version : Option ℕ) (k : ℕ) → under forks version (suc k) ≡ under forks (side (fork_of forks version) (suc k)) (k / 2)
under_half forks version k = let h = half_least k in bounds_agree (suc k) (suc (k / 2)) forks (side (fork_of forks version) (suc k)) (k / 2) (omega (arith, h)) (omega arith)

-- the same of a number that is greater than 0
pub under_side : (forks : List Fork) (version : Option ℕ) (k : ℕ) → 0 < k → under forks version k ≡ under forks (side (fork_of forks version) k) ((k - 1) / 2)
under_side forks version zero h = absurd (omega (arith, h))
under_side forks version (suc k) h = let e : suc k - 1 ≡ k = omega arith in under_half forks version k ∙ ap (λ z. under forks (side (fork_of forks version) (suc k)) (z / 2)) (sym e)

-- what comes later changes nothing at a place that was there
pub stands_earlier : {A : Type 0} (xs more : List A) (at : ℕ) → at < length xs → slice_get (xs ++ more) at ≡ slice_get xs at
stands_earlier [] more at h = absurd (omega (arith, h))
stands_earlier (x ∷ xs) more zero h = refl
stands_earlier (x ∷ xs) more (suc at) h = stands_earlier xs more at (let less : suc at < suc (length xs) = h in omega (arith, less))

-- forks that come later change no fork of a version that was there
pub fork_stays : (forks more : List Fork) (version : Option ℕ) → IsVersion (length forks) version → fork_of (forks ++ more) version ≡ fork_of forks version
fork_stays forks more None h = refl
fork_stays forks more (Some at) h = ap fork_or_empty (stands_earlier forks more at (h at refl))

-- the side of a version is one of those that are there
pub side_within : (forks : List Fork) (version : Option ℕ) (number : ℕ) → AreForks forks → IsVersion (length forks) (side (fork_of forks version) number)
side_within forks None number c = by_parity (nat_eq (number % 2) 1)
  where
    by_parity : (b : Bool) → IsVersion (length forks) (cond b None None)
    by_parity true at e = cc
    by_parity false at e = cc
side_within forks (Some at) number c = by_parity (nat_eq (number % 2) 1)
  where
    by_parity : (b : Bool) → IsVersion (length forks) (cond b (fork_of forks (Some at)).odd (fork_of forks (Some at)).even)
    by_parity true = c.odd at
    by_parity false = c.even at

-- forks that come later change nothing of what a version that was there has, under any bound
within_stays : (f : ℕ) (forks more : List Fork) (version : Option ℕ) (number : ℕ) → AreForks forks → IsVersion (length forks) version → under_within f (forks ++ more) version number ≡ under_within f forks version number
within_stays zero forks more version number c h = refl
within_stays (suc f) forks more version zero c h = ap (λ (n : Fork). n.value) (fork_stays forks more version h)
within_stays (suc f) forks more version (suc k) c h =
    ap (λ (n : Fork). under_within f (forks ++ more) (side n (suc k)) (k / 2)) (fork_stays forks more version h)
    ∙ within_stays f forks more (side (fork_of forks version) (suc k)) (k / 2) c (side_within forks version (suc k) c)

-- forks that come later change nothing of what a version that was there has
pub under_stays : (forks more : List Fork) (version : Option ℕ) (number : ℕ) → AreForks forks → IsVersion (length forks) version → under (forks ++ more) version number ≡ under forks version number
under_stays forks more version number c h = within_stays (suc number) forks more version number c h

-- one of fewer is one of more
pub version_of_more : (m n : ℕ) (version : Option ℕ) → m ≤ n → IsVersion m version → IsVersion n version
version_of_more m n version l h = λ at e. let less = h at e in omega (arith, less, l)

-- the empty version is there
pub empty_version : (n : ℕ) → IsVersion n None
empty_version n at e = cc

-- the odd keys of a version are in a version that is there
pub odd_version : (forks : List Fork) (version : Option ℕ) → AreForks forks → IsVersion (length forks) (fork_of forks version).odd
odd_version forks None c = empty_version (length forks)
odd_version forks (Some at) c = c.odd at

-- the even keys of a version are in a version that is there
pub even_version : (forks : List Fork) (version : Option ℕ) → AreForks forks → IsVersion (length forks) (fork_of forks version).even
even_version forks None c = empty_version (length forks)
even_version forks (Some at) c = c.even at

-- forks with one more that names them alone name one another alone
pub forks_more : (forks : List Fork) (fork : Fork) → AreForks forks → IsVersion (length forks) fork.odd → IsVersion (length forks) fork.even → AreForks (forks ++ (fork ∷ []))
forks_more forks fork c odd even = record {
  odd = λ at. by_place at (λ n. n.odd) (c.odd at) odd (empty_version _);
  even = λ at. by_place at (λ n. n.even) (c.even at) even (empty_version _);
}
  where
    longer : length forks ≤ length (forks ++ (fork ∷ []))
    longer = let e = length-append forks (fork ∷ []) in omega (arith, e)

    at_end : (ns : List Fork) (at : ℕ) → (slice_get (ns ++ (fork ∷ [])) at ≡ slice_get ns at) ⊎ ((slice_get (ns ++ (fork ∷ [])) at ≡ Some fork) ⊎ (slice_get (ns ++ (fork ∷ [])) at ≡ None))
    at_end [] zero = inr (inl refl)
    at_end [] (suc at) = inr (inr refl)
    at_end (n ∷ ns) zero = inl refl
    at_end (n ∷ ns) (suc at) = at_end ns at

    by_place : (at : ℕ) (part : Fork → Option ℕ) → IsVersion (length forks) (part (fork_of forks (Some at))) → IsVersion (length forks) (part fork) → IsVersion (length forks) (part empty_fork) → IsVersion (length (forks ++ (fork ∷ []))) (part (fork_of (forks ++ (fork ∷ [])) (Some at)))
    by_place at part here last none = elim (at_end forks at) [
      | inl e ↦ subst (λ z. IsVersion (length (forks ++ (fork ∷ []))) (part (fork_or_empty z))) (sym e) (version_of_more _ _ _ longer here)
      | inr r ↦ elim r [
        | inl e ↦ subst (λ z. IsVersion (length (forks ++ (fork ∷ []))) (part (fork_or_empty z))) (sym e) (version_of_more _ _ _ longer last)
        | inr e ↦ subst (λ z. IsVersion (length (forks ++ (fork ∷ []))) (part (fork_or_empty z))) (sym e) (version_of_more _ _ _ longer none)
      ]
    ]

-- A version with another value under 0.
pub next_at_none : (old new : List Fork) (version : Option ℕ) (value made : ℕ) → AreForks old → IsVersion (length old) version
    → IsFork old new (record { value = Some value; odd = (fork_of old version).odd; even = (fork_of old version).even }) made → IsNextVersion old new version 0 value made
next_at_none old new version value made c h p = record {
  more = fork ∷ [];
  forks = p.forks;
  few = let one : 2 ^ 1 ≡ 2 = refl in omega (arith, one);
  within = let e = ap length p.forks in let f = length-append old (fork ∷ []) in let m = p.last in omega (arith, e, f, m);
  closed = subst AreForks (sym p.forks) (forks_more old fork c (odd_version old version c) (even_version old version c));
  stays = λ other there k. ap (λ z. under z other k) p.forks ∙ under_stays old (fork ∷ []) other k c there;
  each = λ k. by_number k;
}
  where
    fork : Fork
    fork = record { value = Some value; odd = (fork_of old version).odd; even = (fork_of old version).even }

    here : fork_of new (Some made) ≡ fork
    here = ap fork_or_empty (ap (slice_get new) p.last ∙ ap (λ z. slice_get z (length old)) p.forks ∙ get_last old fork)

    by_number : (k : ℕ) → under new (Some made) k ≡ cond (nat_eq k 0) (Some value) (under old version k)
    by_number zero = ap (λ (n : Fork). n.value) here
    by_number (suc k) =
        under_half new (Some made) k ∙ ap (λ (n : Fork). under new (side n (suc k)) (k / 2)) here
        ∙ ap (λ z. under z (side (fork_of old version) (suc k)) (k / 2)) p.forks
        ∙ under_stays old (fork ∷ []) (side (fork_of old version) (suc k)) (k / 2) c (side_within old version (suc k) c)
        ∙ sym (under_half old version k)
        ∙ ap (λ z. cond z (Some value) (under old version (suc k))) (sym (ne_eqb (suc k) 0 (λ e. omega (arith, e))))

-- Halves of numbers.

-- two truth values are equal where each follows from the other
alike : (x y : Bool) → (x ≡ true → y ≡ true) → (y ≡ true → x ≡ true) → x ≡ y
alike true true f g = refl
alike true false f g = sym (f refl)
alike false true f g = g refl
alike false false f g = refl

-- remainders of 2 are equal where they are 1 alike
same_rest : (j k : ℕ) → nat_eq (j % 2) 1 ≡ nat_eq (k % 2) 1 → j % 2 ≡ k % 2
same_rest j k h = by_parity (nat_eq (j % 2) 1) (nat_eq (k % 2) 1) refl refl h
  where
    by_parity : (p q : Bool) → nat_eq (j % 2) 1 ≡ p → nat_eq (k % 2) 1 ≡ q → p ≡ q → j % 2 ≡ k % 2
    by_parity true true a b e = eqb-true (j % 2) 1 a ∙ sym (eqb-true (k % 2) 1 b)
    by_parity true false a b e = absurd (true≢false e)
    by_parity false true a b e = absurd (false≢true e)
    by_parity false false a b e = let x = eqb-false (j % 2) 1 a in let y = eqb-false (k % 2) 1 b in omega (arith, x, y)

-- numbers of one parity are equal where their halves are
same_half : (j k : ℕ) → nat_eq (suc k % 2) 1 ≡ nat_eq (suc j % 2) 1 → nat_eq (j / 2) (k / 2) ≡ nat_eq (suc j) (suc k)
same_half j k h =
    let rest = same_rest (suc k) (suc j) h in
    alike _ _
    (λ e. let halves = eqb-true (j / 2) (k / 2) e in eq-eqb (suc j) (suc k) (omega (arith, rest, halves)))
    (λ e. let same = eqb-true (suc j) (suc k) e in eq-eqb (j / 2) (k / 2) (omega (arith, same)))

-- numbers of two parities are not equal
other_half : (j k : ℕ) → (nat_eq (suc k % 2) 1 ≡ nat_eq (suc j % 2) 1 → ⊥) → nat_eq (suc j) (suc k) ≡ false
other_half j k h = ne_eqb (suc j) (suc k) (λ e. h (ap (λ z. nat_eq (z % 2) 1) (sym e)))

-- the side that a fork got
side_got : (p q : Bool) (n : Fork) (version : Option ℕ) → p ≡ q
    → cond q (cond {A = Fork} p (record { value = n.value; odd = version; even = n.even }) (record { value = n.value; odd = n.odd; even = version })).odd (cond {A = Fork} p (record { value = n.value; odd = version; even = n.even }) (record { value = n.value; odd = n.odd; even = version })).even ≡ version
side_got true true n version e = refl
side_got true false n version e = absurd (true≢false e)
side_got false true n version e = absurd (false≢true e)
side_got false false n version e = refl

-- the side that it kept
side_kept : (p q : Bool) (n : Fork) (version : Option ℕ) → (p ≡ q → ⊥)
    → cond q (cond {A = Fork} p (record { value = n.value; odd = version; even = n.even }) (record { value = n.value; odd = n.odd; even = version })).odd (cond {A = Fork} p (record { value = n.value; odd = version; even = n.even }) (record { value = n.value; odd = n.odd; even = version })).even ≡ cond q n.odd n.even
side_kept true true n version e = absurd (e refl)
side_kept true false n version e = refl
side_kept false true n version e = refl
side_kept false false n version e = absurd (e refl)

-- a fork with another side has the value that it had
value_kept : (p : Bool) (n : Fork) (version : Option ℕ) → (cond {A = Fork} p (record { value = n.value; odd = version; even = n.even }) (record { value = n.value; odd = n.odd; even = version })).value ≡ n.value
value_kept true n version = refl
value_kept false n version = refl

-- two truth values are equal, or not
equal_or_not : (p q : Bool) → (p ≡ q) ⊎ (p ≡ q → ⊥)
equal_or_not true true = inl refl
equal_or_not true false = inr true≢false
equal_or_not false true = inr false≢true
equal_or_not false false = inl refl

-- A version with another value under a number other than 0.
pub next_at_more : (old mid new : List Fork) (version : Option ℕ) (k value inner made : ℕ) → AreForks old → AreForks mid → IsVersion (length old) version
    → IsNextVersion old mid (side (fork_of old version) (suc k)) (k / 2) value inner → IsFork mid new (with_side (fork_of old version) (suc k) (Some inner)) made → IsNextVersion old new version (suc k) value made
next_at_more old mid new version k value inner made c d h w p = record {
  more = w.more ++ (fork ∷ []);
  forks = all;
  few = few;
  within = let e = ap length p.forks in let f = length-append mid (fork ∷ []) in let m = p.last in omega (arith, e, f, m);
  closed = subst AreForks (sym p.forks) (forks_more mid fork d (odd_with (nat_eq (suc k % 2) 1)) (even_with (nat_eq (suc k % 2) 1)));
  stays = λ other there k. ap (λ z. under z other k) all ∙ under_stays old (w.more ++ (fork ∷ [])) other k c there;
  each = λ j. by_number j;
}
  where
    before : Fork
    before = fork_of old version

    fork : Fork
    fork = with_side before (suc k) (Some inner)

    all : new ≡ old ++ (w.more ++ (fork ∷ []))
    all = p.forks ∙ ap (λ z. z ++ (fork ∷ [])) w.forks ∙ append_assoc old w.more (fork ∷ [])

    few : 2 ^ length (w.more ++ (fork ∷ [])) ≤ 2 * (suc k + 1)
    few =
        let one = length-append w.more (fork ∷ []) in
        let count : suc (length w.more) ≡ length (w.more ++ (fork ∷ [])) = omega (arith, one) in
        let half = w.few in
        let twice = pow-suc 2 (length w.more) in
        subst (λ z. 2 ^ z ≤ 2 * (suc k + 1)) count (omega (arith, twice, half))

    here : fork_of new (Some made) ≡ fork
    here = ap fork_or_empty (ap (slice_get new) p.last ∙ ap (λ z. slice_get z (length mid)) p.forks ∙ get_last mid fork)

    longer : length old ≤ length mid
    longer = let e = ap length w.forks in let f = length-append old w.more in omega (arith, e, f)

    inner_within : IsVersion (length mid) (Some inner)
    inner_within at e = let less = w.within in let same : inner ≡ at = same_some e in omega (arith, less, same)

    odd_with : (b : Bool) → IsVersion (length mid) (cond {A = Fork} b (record { value = before.value; odd = Some inner; even = before.even }) (record { value = before.value; odd = before.odd; even = Some inner })).odd
    odd_with true = inner_within
    odd_with false = version_of_more _ _ _ longer (odd_version old version c)

    even_with : (b : Bool) → IsVersion (length mid) (cond {A = Fork} b (record { value = before.value; odd = Some inner; even = before.even }) (record { value = before.value; odd = before.odd; even = Some inner })).even
    even_with true = version_of_more _ _ _ longer (even_version old version c)
    even_with false = inner_within

    got : (j : ℕ) → nat_eq (suc k % 2) 1 ≡ nat_eq (suc j % 2) 1 → under new (side fork (suc j)) (j / 2) ≡ cond (nat_eq (suc j) (suc k)) (Some value) (under old version (suc j))
    got j e =
        ap (λ z. under new z (j / 2)) (side_got (nat_eq (suc k % 2) 1) (nat_eq (suc j % 2) 1) before (Some inner) e)
        ∙ ap (λ z. under z (Some inner) (j / 2)) p.forks
        ∙ under_stays mid (fork ∷ []) (Some inner) (j / 2) d inner_within
        ∙ w.each (j / 2)
        ∙ ap (λ z. cond z (Some value) (under old (side before (suc k)) (j / 2))) (same_half j k e)
        ∙ ap (λ z. cond (nat_eq (suc j) (suc k)) (Some value) (under old (cond z before.odd before.even) (j / 2))) e
        ∙ ap (cond (nat_eq (suc j) (suc k)) (Some value)) (sym (under_half old version j))

    kept : (j : ℕ) → (nat_eq (suc k % 2) 1 ≡ nat_eq (suc j % 2) 1 → ⊥) → under new (side fork (suc j)) (j / 2) ≡ cond (nat_eq (suc j) (suc k)) (Some value) (under old version (suc j))
    kept j e =
        ap (λ z. under new z (j / 2)) (side_kept (nat_eq (suc k % 2) 1) (nat_eq (suc j % 2) 1) before (Some inner) e)
        ∙ ap (λ z. under z (side before (suc j)) (j / 2)) all
        ∙ under_stays old (w.more ++ (fork ∷ [])) (side before (suc j)) (j / 2) c (side_within old version (suc j) c)
        ∙ sym (under_half old version j)
        ∙ ap (λ z. cond z (Some value) (under old version (suc j))) (sym (other_half j k e))

    by_number : (j : ℕ) → under new (Some made) j ≡ cond (nat_eq j (suc k)) (Some value) (under old version j)
    by_number zero = ap (λ (n : Fork). n.value) here ∙ value_kept (nat_eq (suc k % 2) 1) before (Some inner) ∙ ap (λ z. cond z (Some value) before.value) (sym (ne_eqb 0 (suc k) (λ e. omega (arith, e))))
    by_number (suc j) =
        under_half new (Some made) j ∙ ap (λ (n : Fork). under new (side n (suc j)) (j / 2)) here
        ∙ elim (equal_or_not (nat_eq (suc k % 2) 1) (nat_eq (suc j % 2) 1)) [ inl e ↦ got j e | inr e ↦ kept j e ]

-- the same of a number that is 0, and of a fork that is the version's
pub made_at_zero : (old new : List Fork) (version : Option ℕ) (number value made : ℕ) (n : Fork) → AreForks old → IsVersion (length old) version → number ≡ 0 → n ≡ fork_of old version
    → IsFork old new (record { value = Some value; odd = n.odd; even = n.even }) made → IsNextVersion old new version number value made
made_at_zero old new version number value made n c h e same p =
    subst (λ z. IsNextVersion old new version z value made) (sym e)
    (next_at_none old new version value made c h (subst (λ (m : Fork). IsFork old new (record { value = Some value; odd = m.odd; even = m.even }) made) same p))

-- the same of a number that is greater than 0, and of a fork and a side that are the version's
pub made_below : (old mid new : List Fork) (version below : Option ℕ) (number value inner made : ℕ) (n last : Fork) → AreForks old → IsVersion (length old) version → 0 < number → n ≡ fork_of old version → below ≡ side n number
    → IsNextVersion old mid below ((number - 1) / 2) value inner → last ≡ with_side n number (Some inner) → IsFork mid new last made → IsNextVersion old new version number value made
made_below old mid new version below zero value inner made n last c h pos same is w ends p = absurd (omega (arith, pos))
made_below old mid new version below (suc k) value inner made n last c h pos same is w ends p =
    let e : suc k - 1 ≡ k = omega arith in
    next_at_more old mid new version k value inner made c w.closed h
    (subst (λ z. IsNextVersion old mid z (k / 2) value inner) (is ∙ ap (λ (m : Fork). side m (suc k)) same) (subst (λ z. IsNextVersion old mid below (z / 2) value inner) e w))
    (subst (λ z. IsFork mid new z made) (ends ∙ ap (λ (m : Fork). with_side m (suc k) (Some inner)) same) p)

-- a version with one more number takes at most as many forks as a greater number has halves
pub few_halves : (forks number count halves : ℕ) → 2 ^ forks ≤ 2 * (number + 1) → number < count → count < 2 ^ halves → forks ≤ halves
few_halves forks number count halves few less within = let below : forks < suc halves = lt_of_not-le too_many in omega (arith, below)
  where
    too_many : suc halves ≤ forks → ⊥
    too_many many = let more : 2 ^ suc halves ≤ 2 ^ forks = pow_mono many in let twice = pow-suc 2 halves in omega (arith, few, less, within, more, twice)

-- the empty version has nothing, under any bound
none_within : (bound : ℕ) (forks : List Fork) (k : ℕ) → under_within bound forks None k ≡ None
none_within zero forks k = refl
none_within (suc bound) forks zero = refl
none_within (suc bound) forks (suc k) = by_side (nat_eq (suc k % 2) 1) (none_within bound forks (k / 2))
  where
    by_side : (b : Bool) → under_within bound forks None (k / 2) ≡ None → under_within bound forks (cond b None None) (k / 2) ≡ None
    by_side true e = e
    by_side false e = e

-- the empty version has nothing
pub under_none : (forks : List Fork) (k : ℕ) → under forks None k ≡ None
under_none forks k = none_within (suc k) forks k
