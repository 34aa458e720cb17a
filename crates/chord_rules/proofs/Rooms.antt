-- Names that take room, one list after the other.
use Rattle.std.proofs.Common.{◌≡◌, ℕ, zero, suc, ◌-◌, List, [], ◌∷◌, ◌++◌, length, drop, refl, sym, ap, subst, ◌∙◌, arith, Option, length-append}
use Rattle.chord_classes.specs.Least.{least, keys}
use Rattle.chord_rules.specs.Limits.{TakesRoom}
use Rattle.chord_rules.proofs.Noted.{then_noted}

-- what is left of two lists joined is what is left of the first, and what is left of the second where the first is used up
pub drop_joined : {A : Type 0} (n : ℕ) (xs ys : List A) → drop n (xs ++ ys) ≡ drop n xs ++ drop (n - length xs) ys
drop_joined zero [] ys = refl
drop_joined (suc n) [] ys = let e : suc n - 0 ≡ suc n = omega arith in ap (λ z. drop z ys) (sym e)
drop_joined zero (x ∷ xs) ys = let e : 0 - suc (length xs) ≡ 0 = omega arith in ap (λ z. x ∷ (xs ++ drop z ys)) (sym e)
drop_joined (suc n) (x ∷ xs) ys = let e : suc n - suc (length xs) ≡ n - length xs = omega arith in drop_joined n xs ys ∙ ap (λ z. drop n xs ++ drop z ys) (sym e)

-- a name that took room, and then others
pub next_room : (room left at : ℕ) (rest : List ℕ) (o p : Option ℕ) → left ≡ room - 1 → p ≡ least o (keys 4 (drop room (at ∷ []))) → least o (keys 4 (drop room (at ∷ rest))) ≡ least p (keys 4 (drop left rest))
next_room room left at rest o p e h =
    ap (λ z. least o (keys 4 z)) (drop_joined room (at ∷ []) rest) ∙ then_noted 4 o p (drop room (at ∷ [])) (drop (room - 1) rest) h ∙ ap (λ z. least p (keys 4 (drop z rest))) (sym e)

-- names that took room, and then others
pub next_rooms : (room over : ℕ) (names rest : List ℕ) (o p : Option ℕ) → over ≡ room - length names → p ≡ least o (keys 4 (drop room names)) → least o (keys 4 (drop room (names ++ rest))) ≡ least p (keys 4 (drop over rest))
next_rooms room over names rest o p e h =
    ap (λ z. least o (keys 4 z)) (drop_joined room names rest) ∙ then_noted 4 o p (drop room names) (drop (room - length names) rest) h ∙ ap (λ z. least p (keys 4 (drop z rest))) (sym e)

-- no name takes no room
pub takes_none : {room : ℕ} {o : Option ℕ} → TakesRoom [] room room o o
takes_none {room} {o} = record { left = omega arith; noted = nothing room }
  where
    nothing : (n : ℕ) → o ≡ least o (keys 4 (drop n []))
    nothing zero = refl
    nothing (suc n) = refl

-- names, and then others, take room for both
pub rooms_taken : {names others : List ℕ} {room mid over : ℕ} {o p q : Option ℕ} → TakesRoom names room mid o p → TakesRoom others mid over p q → TakesRoom (names ++ others) room over o q
rooms_taken {names} {others} {room} {mid} {over} {o} {p} {q} a b = record {
  left = (let e = a.left in let f = b.left in let g = length-append names others in omega (arith, e, f, g));
  noted = b.noted ∙ sym (next_rooms room mid names others o p a.left a.noted);
}

-- one name takes room
pub takes_one : {at room over : ℕ} {o p : Option ℕ} → over ≡ room - 1 → p ≡ least o (keys 4 (drop room (at ∷ []))) → TakesRoom (at ∷ []) room over o p
takes_one e h = record { left = e; noted = h }

-- the names that take room are these others
pub takes_as : {names others : List ℕ} {room over : ℕ} {o p : Option ℕ} → others ≡ names → TakesRoom names room over o p → TakesRoom others room over o p
takes_as {room = room} {over = over} {o = o} {p = p} e t = subst (λ z. TakesRoom z room over o p) (sym e) t
