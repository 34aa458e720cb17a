-- What is noted one list after the other.
use Rattle.std.proofs.Common.{◌≡◌, ℕ, ◌+◌, List, [], ◌∷◌, ◌++◌, refl, sym, ap, ◌∙◌, Option}
use Rattle.std.specs.Prelude.{◌*◌}
use Rattle.chord_classes.specs.Least.{keys, least}
use Rattle.chord_classes.proofs.Leasts.{least_append}

-- the numbers of two lists joined
pub keys_append : (rule : ℕ) (xs ys : List ℕ) → keys rule (xs ++ ys) ≡ keys rule xs ++ keys rule ys
keys_append rule [] ys = refl
keys_append rule (x ∷ xs) ys = ap (λ z. (32 * x + rule) ∷ z) (keys_append rule xs ys)

-- what a rule notes in one list and then in another it notes in both joined
pub then_noted : (rule : ℕ) (o p : Option ℕ) (xs ys : List ℕ) → p ≡ least o (keys rule xs) → least o (keys rule (xs ++ ys)) ≡ least p (keys rule ys)
then_noted rule o p xs ys h = ap (least o) (keys_append rule xs ys) ∙ least_append o (keys rule xs) (keys rule ys) ∙ ap (λ z. least z (keys rule ys)) (sym h)

-- the same of numbers of any rules
pub then_all : (o p : Option ℕ) (xs ys : List ℕ) → p ≡ least o xs → least o (xs ++ ys) ≡ least p ys
then_all o p xs ys h = least_append o xs ys ∙ ap (λ z. least z ys) (sym h)
