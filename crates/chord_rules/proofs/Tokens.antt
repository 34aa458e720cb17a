-- The tokens at which one rule is broken, of all that is noted.
use Rattle.std.proofs.Common.{◌≡◌, ℕ, ◌+◌, ◌<◌, ◌/◌, ◌%◌, List, [], ◌∷◌, ◌++◌, Bool, true, false, cond, nat_eq, flat_map, refl, sym, ap, subst, ◌∙◌, arith, append_assoc, ◌⊎◌, inl, inr}
use Rattle.std.specs.Prelude.{◌*◌}
use Rattle.std.proofs.lemmas.Bool.{eqb-true, eq-eqb}
use Rattle.chord_classes.specs.Least.{keys}
use Rattle.chord_classes.proofs.Leasts.{IsIn}

-- the token of a number, if it is one of this rule
abbrev pub token_of : ℕ → ℕ → List ℕ
token_of rule key = cond (nat_eq (key % 32) rule) (key / 32 ∷ []) []

-- the tokens at which this rule is broken
abbrev pub tokens_of : ℕ → List ℕ → List ℕ
tokens_of rule [] = []
tokens_of rule (key ∷ more) = token_of rule key ++ tokens_of rule more

-- the tokens of two lists joined
pub tokens_joined : (rule : ℕ) (xs ys : List ℕ) → tokens_of rule (xs ++ ys) ≡ tokens_of rule xs ++ tokens_of rule ys
tokens_joined rule [] ys = refl
tokens_joined rule (x ∷ xs) ys = ap (λ z. token_of rule x ++ z) (tokens_joined rule xs ys) ∙ sym (append_assoc (token_of rule x) (tokens_of rule xs) (tokens_of rule ys))

-- the tokens of lists laid together
pub tokens_flat : {A : Type 0} (rule : ℕ) (f g : A → List ℕ) → ((x : A) → tokens_of rule (f x) ≡ g x) → (xs : List A) → tokens_of rule (flat_map f xs) ≡ flat_map g xs
tokens_flat rule f g e [] = refl
tokens_flat rule f g e (x ∷ xs) = tokens_joined rule (f x) (flat_map f xs) ∙ ap (λ z. z ++ tokens_of rule (flat_map f xs)) (e x) ∙ ap (λ z. g x ++ z) (tokens_flat rule f g e xs)

-- the key of a rule at a token has that token if the rule is this one, and none if it is another
token_at : (rule other at : ℕ) → other < 32 → token_of rule (32 * at + other) ≡ cond (nat_eq other rule) (at ∷ []) []
token_at rule other at l =
    let e : (32 * at + other) % 32 ≡ other = omega arith in
    let f : (32 * at + other) / 32 ≡ at = omega arith in
    ap (λ z. cond (nat_eq z rule) ((32 * at + other) / 32 ∷ []) []) e ∙ ap (λ z. cond (nat_eq other rule) (z ∷ []) []) f

-- a token and then others, each on one condition, are all of them on that condition
cond_cons : (b : Bool) (x : ℕ) (xs : List ℕ) → cond b (x ∷ []) [] ++ cond b xs [] ≡ cond b (x ∷ xs) []
cond_cons true x xs = refl
cond_cons false x xs = refl

-- no tokens on a condition are no tokens
no_tokens : (b : Bool) → ◌≡◌ {A = List ℕ} [] (cond b [] [])
no_tokens true = refl
no_tokens false = refl

-- the tokens of the numbers of one rule: all if it is this one, else none
pub tokens_keys : (rule other : ℕ) (xs : List ℕ) → other < 32 → tokens_of rule (keys other xs) ≡ cond (nat_eq other rule) xs []
tokens_keys rule other [] l = no_tokens (nat_eq other rule)
tokens_keys rule other (x ∷ xs) l = ap (λ z. token_of rule (32 * x + other) ++ z) (tokens_keys rule other xs l) ∙ ap (λ z. z ++ cond (nat_eq other rule) xs []) (token_at rule other x l) ∙ cond_cons (nat_eq other rule) x xs

-- what is in a token on a condition and more is that token, where the condition is true, or is in the rest
in_token : (b : Bool) (at token : ℕ) (more : List ℕ) → IsIn (cond b (token ∷ []) [] ++ more) at → ((b ≡ true) × (token ≡ at)) ⊎ IsIn more at
in_token true at token more (inl e) = inl (refl, e)
in_token true at token more (inr h) = inr h
in_token false at token more h = inr h

-- a token at which a rule is broken is that of a number
pub key_of : (rule at : ℕ) (ks : List ℕ) → IsIn (tokens_of rule ks) at → IsIn ks (32 * at + rule)
key_of rule at [] h = absurd h
key_of rule at (k ∷ ks) h = elim (in_token (nat_eq (k % 32) rule) at (k / 32) (tokens_of rule ks) h) [
  | inl p ↦ inl (whole k rule at (eqb-true (k % 32) rule p.0) p.1)
  | inr m ↦ inr (key_of rule at ks m)
]
  where
    whole : (k rule at : ℕ) → k % 32 ≡ rule → k / 32 ≡ at → k ≡ 32 * at + rule
    whole k rule at e f = omega (arith, e, f)

-- what is in a list is in it behind a token on a condition
more_tokens : (b : Bool) (token at : ℕ) (more : List ℕ) → IsIn more at → IsIn (cond b (token ∷ []) [] ++ more) at
more_tokens true token at more h = inr h
more_tokens false token at more h = h

-- a number is that of a token at which its rule is broken
pub token_in : (k : ℕ) (ks : List ℕ) → IsIn ks k → IsIn (tokens_of (k % 32) ks) (k / 32)
token_in k [] h = absurd h
token_in k (x ∷ xs) (inl e) = subst (λ z. IsIn (token_of (k % 32) x ++ tokens_of (k % 32) xs) (z / 32)) e (subst (λ z. IsIn (cond z (x / 32 ∷ []) [] ++ tokens_of (k % 32) xs) (x / 32)) (sym (eq-eqb (x % 32) (k % 32) (ap (λ z. z % 32) e))) (inl refl))
token_in k (x ∷ xs) (inr h) = more_tokens (nat_eq (x % 32) (k % 32)) (x / 32) (k / 32) (tokens_of (k % 32) xs) (token_in k xs h)
