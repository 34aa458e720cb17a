-- Lists by their parts, and calls, operators and arguments of them.
use Rattle.std.proofs.Common.{◌≡◌, ℕ, zero, suc, ◌+◌, ◌<◌, ◌≤◌, List, [], ◌∷◌, ◌++◌, refl, sym, ap, ◌∙◌, length, map, take, get_or, arith, add-one}
use Rattle.chord_tree.specs.Tree.{LinkTree, DotTree, MakeLink, MakeDot, MakeActuals, dots, links}
use Rattle.chord_tree.proofs.Weights.{total}
use Rattle.chord_tree.specs.Terms.{Term, called, operated, terms, term, CallTerm, OperationTerm}

-- what a function makes of a list with one more at its end
pub map_last : {A B : Type 0} (f : A → B) (xs : List A) (x : A) → map f (xs ++ (x ∷ [])) ≡ map f xs ++ (f x ∷ [])
map_last f [] x = refl
map_last f (a ∷ xs) x = ap (λ z. f a ∷ z) (map_last f xs x)

-- the first elements of a list and the next one are one more of its first elements
take_suc : {A : Type 0} (xs : List A) (i : ℕ) (x : A) → i < length xs → x ≡ get_or xs i x → take (suc i) xs ≡ take i xs ++ (x ∷ [])
take_suc [] i x l e = absurd (omega arith)
take_suc (a ∷ xs) zero x l e = ap (λ z. z ∷ []) (sym e)
take_suc (a ∷ xs) (suc i) x l e = ap (λ z. a ∷ z) (take_suc xs i x (omega arith) e)

-- the first elements of a list, and one more
pub take_step : {A : Type 0} (xs : List A) (i : ℕ) (x : A) → i < length xs → x ≡ get_or xs i x → take (i + 1) xs ≡ take i xs ++ (x ∷ [])
take_step xs i x l e = rw add-one (take_suc xs i x l e)

-- all elements of a list
pub take_all : {A : Type 0} (xs : List A) (i : ℕ) → length xs ≤ i → take i xs ≡ xs
take_all [] zero l = refl
take_all [] (suc i) l = refl
take_all (a ∷ xs) zero l = absurd (omega arith)
take_all (a ∷ xs) (suc i) l = ap (λ z. a ∷ z) (take_all xs i (omega arith))

-- calls and one more are that one on what the others give
pub dots_end : (ds : List DotTree) (d : DotTree) (t : Term) → called (dots (ds ++ (d ∷ []))) t ≡ called (dots (d ∷ [])) (called (dots ds) t)
dots_end [] d t = refl
dots_end (MakeDot dot name (MakeActuals at all) ∷ ds) d t = dots_end ds d (CallTerm t dot name at (terms all))

-- operators and one more are that one on what the others give
pub links_end : (ls : List LinkTree) (l : LinkTree) (t : Term) → operated (links (ls ++ (l ∷ []))) t ≡ operated (links (l ∷ [])) (operated (links ls) t)
links_end [] l t = refl
links_end (MakeLink operator at operand ∷ ls) l t = links_end ls l (OperationTerm operator at t (term operand))

module _ {X : Type 0} (f : X → DotTree) where
  -- the first calls and one more
  pub dots_taken : (xs : List X) (i : ℕ) (x : X) (t : Term) → i < length xs → x ≡ get_or xs i x → called (dots (map f (take (i + 1) xs))) t ≡ called (dots (f x ∷ [])) (called (dots (map f (take i xs))) t)
  dots_taken xs i x t l e = ap (λ z. called (dots (map f z)) t) (take_step xs i x l e) ∙ ap (λ z. called (dots z) t) (map_last f (take i xs) x) ∙ dots_end (map f (take i xs)) (f x) t

  -- all calls, by the last of them
  pub dots_last : (xs front : List X) (x : X) (t : Term) → xs ≡ front ++ (x ∷ []) → called (dots (map f xs)) t ≡ called (dots (f x ∷ [])) (called (dots (map f front)) t)
  dots_last xs front x t e = ap (λ z. called (dots (map f z)) t) e ∙ ap (λ z. called (dots z) t) (map_last f front x) ∙ dots_end (map f front) (f x) t

-- the first operators and one more
pub links_taken : {X : Type 0} (f : X → LinkTree) (xs : List X) (i : ℕ) (x : X) (t : Term) → i < length xs → x ≡ get_or xs i x → operated (links (map f (take (i + 1) xs))) t ≡ operated (links (f x ∷ [])) (operated (links (map f (take i xs))) t)
links_taken f xs i x t l e = ap (λ z. operated (links (map f z)) t) (take_step xs i x l e) ∙ ap (λ z. operated (links z) t) (map_last f (take i xs) x) ∙ links_end (map f (take i xs)) (f x) t

-- what the elements of a list and one more weigh is what they weigh and what that one does
total_end : {A : Type 0} (f : A → ℕ) (xs : List A) (x : A) → total (map f (xs ++ (x ∷ []))) ≡ total (map f xs) + f x
total_end f [] x = omega arith
total_end f (a ∷ xs) x = let h = total_end f xs x in omega arith

-- what the elements of a list weigh, by its last element
pub total_ends : {A : Type 0} (f : A → ℕ) (xs front : List A) (x : A) → xs ≡ front ++ (x ∷ []) → total (map f xs) ≡ total (map f front) + f x
total_ends f xs front x e = ap (λ z. total (map f z)) e ∙ total_end f front x
