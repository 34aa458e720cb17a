-- Tests of bytes, and runs of bytes that pass one.
use Rattle.std.proofs.Common.{◌≡◌, ℕ, zero, suc, ◌+◌, ◌<◌, ◌≤◌, Bool, true, false, ◌&&◌, ◌||◌, List, [], ◌∷◌, ◌++◌, length, take, drop, get_or, refl, sym, ap, subst, ◌∙◌, arith, add-one, ◌⊎◌, inl, inr, Option, Some, None, IfNone}
use Rattle.chord_lexer.specs.Letters.{all_pass, first_passes, IsMaximalRun}

-- the first of two that hold
pub and_left : (a b : Bool) → (a && b) ≡ true → a ≡ true
and_left true b h = refl
and_left false b h = cc

-- the second of two that hold
pub and_right : (a b : Bool) → (a && b) ≡ true → b ≡ true
and_right true b h = h
and_right false b h = cc

-- two that hold, together
pub and_both : (a b : Bool) → a ≡ true → b ≡ true → (a && b) ≡ true
and_both true b h k = k
and_both false b h k = cc

-- one of the two holds
pub or_cases : (a b : Bool) → (a || b) ≡ true → (a ≡ true) ⊎ (b ≡ true)
or_cases true b h = inl refl
or_cases false b h = inr h

-- the first holds, and so one of the two
pub or_left : (a b : Bool) → a ≡ true → (a || b) ≡ true
or_left true b h = refl
or_left false b h = cc

-- where the first n bytes pass a test and the byte after them does, the first n and that one pass it
more_at : (test : ℕ → Bool) (text : List ℕ) (n : ℕ) → n < length text → all_pass test (take n text) ≡ true → test (get_or text n 0) ≡ true → all_pass test (take (suc n) text) ≡ true
more_at test [] n l h k = absurd (omega arith)
more_at test (b ∷ text) zero l h k = and_both _ _ k refl
more_at test (b ∷ text) (suc n) l h k = and_both _ _ (and_left _ _ h) (more_at test text n (omega arith) (and_right (test b) _ h) k)

-- one more byte that passes
pub all_pass_more : (test : ℕ → Bool) (text : List ℕ) (n : ℕ) → n < length text → all_pass test (take n text) ≡ true → test (get_or text n 0) ≡ true → all_pass test (take (n + 1) text) ≡ true
all_pass_more test text n l h k = rw add-one (more_at test text n l h k)

-- each byte of them passes
pub all_pass_at : (test : ℕ → Bool) (text : List ℕ) (i : ℕ) → all_pass test text ≡ true → i < length text → test (get_or text i 0) ≡ true
all_pass_at test [] i h l = absurd (omega arith)
all_pass_at test (b ∷ text) zero h l = and_left _ _ h
all_pass_at test (b ∷ text) (suc i) h l = all_pass_at test text i (and_right (test b) _ h) (omega arith)

-- what passes one test passes a wider one
pub all_pass_wider : (test wider : ℕ → Bool) → ((b : ℕ) → test b ≡ true → wider b ≡ true) → (text : List ℕ) → all_pass test text ≡ true → all_pass wider text ≡ true
all_pass_wider test wider f [] h = refl
all_pass_wider test wider f (b ∷ text) h = and_both _ _ (f b (and_left _ _ h)) (all_pass_wider test wider f text (and_right (test b) _ h))

-- the byte after the first n
pub first_passes_at : (test : ℕ → Bool) (text : List ℕ) (n : ℕ) → n < length text → first_passes test (drop n text) ≡ test (get_or text n 0)
first_passes_at test [] n l = absurd (omega arith)
first_passes_at test (b ∷ text) zero l = refl
first_passes_at test (b ∷ text) (suc n) l = first_passes_at test text n (omega arith)

-- no byte stands after the end
pub first_passes_past : (test : ℕ → Bool) (text : List ℕ) (n : ℕ) → length text ≤ n → first_passes test (drop n text) ≡ false
first_passes_past test [] zero l = refl
first_passes_past test [] (suc n) l = refl
first_passes_past test (b ∷ text) zero l = absurd (omega arith)
first_passes_past test (b ∷ text) (suc n) l = first_passes_past test text n (omega arith)

-- Two whole runs at the front of one text are the same run.
pub run_same : (test : ℕ → Bool) (u x v y : List ℕ) → IsMaximalRun test u x → IsMaximalRun test v y → v ++ y ≡ u ++ x → (v ≡ u) × (y ≡ x)
run_same test [] x [] y h k e = (refl, e)
run_same test (a ∷ u) x [] y h k e = let f : first_passes test y ≡ true = subst (λ z. first_passes test z ≡ true) (sym e) (and_left _ _ h.0) in absurd (let g = sym f ∙ k.1 in cc)
run_same test [] x (b ∷ v) y h k e = let f : first_passes test x ≡ true = subst (λ z. first_passes test z ≡ true) e (and_left _ _ k.0) in absurd (let g = sym f ∙ h.1 in cc)
run_same test (a ∷ u) x (b ∷ v) y h k e =
    let t : v ++ y ≡ u ++ x = cc in
    let i : b ≡ a = cc in
    let r = run_same test u x v y (and_right (test a) _ h.0, h.1) (and_right (test b) _ k.0, k.1) t in
    (let j = r.0 in cc, r.1)

-- the first n and the k after them
pub take_plus : (n k : ℕ) (text : List ℕ) → n ≤ length text → take (n + k) text ≡ take n text ++ take k (drop n text)
take_plus zero k text l = let e : 0 + k ≡ k = omega arith in rw e refl
take_plus (suc n) k [] l = absurd (omega arith)
take_plus (suc n) k (b ∷ text) l = let e : suc n + k ≡ suc (n + k) = omega arith in rw e (ap (λ z. b ∷ z) (take_plus n k text (omega arith)))

-- what follows the first n, where a byte follows
pub drop_first : (n : ℕ) (text : List ℕ) → n < length text → drop n text ≡ get_or text n 0 ∷ drop (n + 1) text
drop_first zero [] l = absurd (omega arith)
drop_first zero (b ∷ text) l = refl
drop_first (suc n) [] l = absurd (omega arith)
drop_first (suc n) (b ∷ text) l = let e : suc n + 1 ≡ suc (n + 1) = omega arith in rw e (drop_first n text (omega arith))

-- what holds anyway holds where there is nothing
pub none_told : {A P : Type 0} (o : Option A) → P → IfNone o P
none_told None p = p
none_told (Some x) p = tt
