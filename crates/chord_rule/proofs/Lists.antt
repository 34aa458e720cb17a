-- Numbers, claims and entries in lists that change.
use Rattle.std.proofs.Common.{◌≡◌, ◌==◌, ◌≢◌, ◌⊎◌, inl, inr, ⊎_elim, ℕ, eqb, not, Bool, true, false, ltb, if◌then◌else◌, List, [], ◌∷◌, ◌++◌, refl, sym, ap, ◌∙◌, subst, eq-eqb, Some}
use Rattle.std.proofs.lemmas.Bool.{eqb-true}
use Rattle.chord_base.specs.Messages.{has, AreDifferent}
use Rattle.chord_base.specs.Story.{IsIn}
use Rattle.chord_base.specs.declared.event.Entry.{Entry}
use Rattle.chord_rule.specs.declared.view.Claim.{Claim}
use Rattle.chord_rule.specs.Numbers.{HasNumber}
use Rattle.chord_base.specs.Story.{insert, together}
use Rattle.chord_rule.specs.Kinds.{without, drop_claim}
use Rattle.chord_rule.specs.Claims.{HasThe, claimed_numbers, fired_with}
use Rattle.chord_base.proofs.Waits.{either}

-- what is there is one
pub some_is : {A : Type 0} (a b : A) → Some a ≡ Some b → a ≡ b
some_is a b e = cc

-- a number that is left is another one
pub has_without : (i x : ℕ) (xs : List ℕ) → HasNumber i (without x xs) → (i ≢ x) × HasNumber i xs
has_without i x [] h = absurd h
has_without i x (y ∷ ys) h = cases (eqb y x) refl h (λ k. has_without i x ys k)
  where
    cases : (b : Bool) → eqb y x ≡ b → HasNumber i (if not b then y ∷ without x ys else without x ys) → (HasNumber i (without x ys) → (i ≢ x) × HasNumber i ys) → (i ≢ x) × HasNumber i (y ∷ ys)
    cases true e k later = let r = later k in (r.0, inr r.1)
    cases false e k later = ⊎_elim (λ q. ((λ z. let t = sym (eq-eqb y x (sym q ∙ z)) ∙ e in let u : true ≡ false = t in absurd (cc)), inl q)) (λ q. let r = later q in (r.0, inr r.1)) k

-- another number is left
pub without_has : (i x : ℕ) (xs : List ℕ) → i ≢ x → HasNumber i xs → HasNumber i (without x xs)
without_has i x [] ne h = absurd h
without_has i x (y ∷ ys) ne h = cases (eqb y x) refl h (λ k. without_has i x ys ne k)
  where
    cases : (b : Bool) → eqb y x ≡ b → HasNumber i (y ∷ ys) → (HasNumber i ys → HasNumber i (without x ys)) → HasNumber i (if not b then y ∷ without x ys else without x ys)
    cases true e k later = ⊎_elim (λ q. absurd (ne (q ∙ eqb-true y x e))) later k
    cases false e k later = ⊎_elim (λ q. inl q) (λ q. inr (later q)) k

-- a number of two joined lists is one of the first or of the second
pub has_append : (i : ℕ) (xs ys : List ℕ) → HasNumber i (xs ++ ys) → HasNumber i xs ⊎ HasNumber i ys
has_append i [] ys h = inr h
has_append i (x ∷ xs) ys (inl e) = inl (inl e)
has_append i (x ∷ xs) ys (inr h) = ⊎_elim (λ a. inl (inr a)) inr (has_append i xs ys h)

-- a number of the first list is one of the two joined
pub append_left : (i : ℕ) (xs ys : List ℕ) → HasNumber i xs → HasNumber i (xs ++ ys)
append_left i [] ys h = absurd h
append_left i (x ∷ xs) ys h = ⊎_elim inl (λ k. inr (append_left i xs ys k)) h

-- a number of the second list is one of the two joined
pub append_right : (i : ℕ) (xs ys : List ℕ) → HasNumber i ys → HasNumber i (xs ++ ys)
append_right i [] ys h = h
append_right i (x ∷ xs) ys h = inr (append_right i xs ys h)

-- a claim that is left is on another message
pub has_dropped : (c : Claim) (i : ℕ) (cs : List Claim) → HasThe c (drop_claim i cs) → (c.number ≢ i) × HasThe c cs
has_dropped c i [] h = absurd h
has_dropped c i (d ∷ ds) h = cases (eqb d.number i) refl h (λ k. has_dropped c i ds k)
  where
    cases : (b : Bool) → eqb d.number i ≡ b → HasThe c (if not b then d ∷ drop_claim i ds else drop_claim i ds) → (HasThe c (drop_claim i ds) → (c.number ≢ i) × HasThe c ds) → (c.number ≢ i) × HasThe c (d ∷ ds)
    cases true e k later = let r = later k in (r.0, inr r.1)
    cases false e k later = ⊎_elim (λ q. ((λ z. let u : true ≡ false = sym (eq-eqb d.number i (sym (ap (λ (y : Claim). y.number) q) ∙ z)) ∙ e in absurd (cc)), inl q)) (λ q. let r = later q in (r.0, inr r.1)) k

-- a claim on another message is left
pub dropped_has : (c : Claim) (i : ℕ) (cs : List Claim) → c.number ≢ i → HasThe c cs → HasThe c (drop_claim i cs)
dropped_has c i [] ne h = absurd h
dropped_has c i (d ∷ ds) ne h = cases (eqb d.number i) refl h (λ k. dropped_has c i ds ne k)
  where
    cases : (b : Bool) → eqb d.number i ≡ b → HasThe c (d ∷ ds) → (HasThe c ds → HasThe c (drop_claim i ds)) → HasThe c (if not b then d ∷ drop_claim i ds else drop_claim i ds)
    cases true e k later = ⊎_elim (λ q. absurd (ne (ap (λ (y : Claim). y.number) q ∙ eqb-true d.number i e))) later k
    cases false e k later = ⊎_elim (λ q. inl q) (λ q. inr (later q)) k

-- the claim with its firing
abbrev pub with_firing : ℕ → List ℕ → Claim → Claim
with_firing f ms c = if has c.number ms then record c { firing = Some f } else c

-- each claim has its firing
pub has_fired : (c : Claim) (f : ℕ) (ms : List ℕ) (cs : List Claim) → HasThe c (fired_with f ms cs) → (d : Claim) × HasThe d cs × (c ≡ with_firing f ms d)
has_fired c f ms [] h = absurd h
has_fired c f ms (d ∷ ds) h = ⊎_elim (λ q. (d, inl refl, q)) (λ k. let r = has_fired c f ms ds k in (r.0, inr r.1, r.2)) h

-- a claim is there after a firing was drawn, with the firing if it is one of its members
pub fired_has : (d : Claim) (f : ℕ) (ms : List ℕ) (cs : List Claim) → HasThe d cs → HasThe (with_firing f ms d) (fired_with f ms cs)
fired_has d f ms [] h = absurd h
fired_has d f ms (c ∷ cs) h = ⊎_elim (λ q. inl (ap (with_firing f ms) q)) (λ k. inr (fired_has d f ms cs k)) h

-- a firing leaves the number of a claim
pub fired_number : (f : ℕ) (ms : List ℕ) (d : Claim) → (with_firing f ms d).number ≡ d.number
fired_number f ms d = elim (either (has d.number ms)) [ inl y ↦ rw y refl | inr o ↦ rw o refl ]

-- a message that is not claimed has no number there
pub not_numbered : (i : ℕ) (cs : List Claim) → ((c : Claim) → HasThe c cs → c.number ≡ i → ⊥) → has i (claimed_numbers cs) ≡ false
not_numbered i [] no_one = refl
not_numbered i (c ∷ cs) no_one = elim (either (i == c.number)) [
  | inl y ↦ absurd (no_one c (inl refl) (sym (eqb-true i c.number y)))
  | inr o ↦ rw o (not_numbered i cs (λ d h e. no_one d (inr h) e))
]

-- a number that is not claimed is not claimed after a claim was dropped
pub dropped_not : (i x : ℕ) (cs : List Claim) → has i (claimed_numbers cs) ≡ false → has i (claimed_numbers (drop_claim x cs)) ≡ false
dropped_not i x [] e = refl
dropped_not i x (c ∷ cs) e = elim (either (c.number == x)) [
  | inl y ↦ rw y (dropped_not i x cs (tail_not i c cs e))
  | inr o ↦ rw (o, head_not i c cs e) (dropped_not i x cs (tail_not i c cs e))
]
  where
    head_not : (i : ℕ) (c : Claim) (cs : List Claim) → has i (claimed_numbers (c ∷ cs)) ≡ false → (i == c.number) ≡ false
    head_not i c cs e = elim (either (i == c.number)) [ inl y ↦ (let z : true ≡ false = rw y at e in cc) | inr o ↦ o ]

    tail_not : (i : ℕ) (c : Claim) (cs : List Claim) → has i (claimed_numbers (c ∷ cs)) ≡ false → has i (claimed_numbers cs) ≡ false
    tail_not i c cs e = rw (head_not i c cs e) at e

-- claims on different messages stay so where one goes
pub dropped_different : (x : ℕ) (cs : List Claim) → AreDifferent (claimed_numbers cs) → AreDifferent (claimed_numbers (drop_claim x cs))
dropped_different x [] d = d
dropped_different x (c ∷ cs) d = elim (either (c.number == x)) [
  | inl y ↦ rw y (dropped_different x cs d.1)
  | inr o ↦ rw o (dropped_not c.number x cs d.0, dropped_different x cs d.1)
]

-- and where a firing was drawn with them
pub fired_numbers : (f : ℕ) (ms : List ℕ) (cs : List Claim) → claimed_numbers (fired_with f ms cs) ≡ claimed_numbers cs
fired_numbers f ms [] = refl
fired_numbers f ms (c ∷ cs) = (λ z. fired_number f ms c z ∷ fired_numbers f ms cs z)

-- ## Entries

-- an entry of a history is there after another was inserted
pub insert_has : (e x : Entry) (xs : List Entry) → IsIn e xs → IsIn e (insert x xs)
insert_has e x [] h = absurd h
insert_has e x (y ∷ ys) h = cases (ltb y.number x.number) (λ k. insert_has e x ys k)
  where
    cases : (b : Bool) → (IsIn e ys → IsIn e (insert x ys)) → IsIn e (if b then x ∷ y ∷ ys else y ∷ insert x ys)
    cases true later = inr h
    cases false later = ⊎_elim inl (λ k. inr (later k)) h

-- an entry that was inserted is there
pub insert_it : (x : Entry) (xs : List Entry) → IsIn x (insert x xs)
insert_it x [] = inl refl
insert_it x (y ∷ ys) = cases (ltb y.number x.number) (insert_it x ys)
  where
    cases : (b : Bool) → IsIn x (insert x ys) → IsIn x (if b then x ∷ y ∷ ys else y ∷ insert x ys)
    cases true later = inl refl
    cases false later = inr later

-- what one of two histories has, both together have
pub together_left : (e : Entry) (xs ys : List Entry) → IsIn e xs → IsIn e (together xs ys)
together_left e xs [] h = h
together_left e xs (y ∷ ys) h = together_left e (insert y xs) ys (insert_has e y xs h)

-- an entry of the second history is one of the two together
pub together_right : (e : Entry) (xs ys : List Entry) → IsIn e ys → IsIn e (together xs ys)
together_right e xs [] h = absurd h
together_right e xs (y ∷ ys) h = ⊎_elim (λ q. together_left e (insert y xs) ys (subst (λ (z : Entry). IsIn z (insert y xs)) (sym q) (insert_it y xs))) (λ k. together_right e (insert y xs) ys k) h
