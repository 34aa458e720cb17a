-- Numbered lines, written one after the other.
use Rattle.std.proofs.Common.{◌≡◌, ℕ, zero, suc, ◌+◌, ◌<◌, List, [], ◌∷◌, ◌++◌, length, take, get_or, Option, refl, sym, ap, ◌∙◌, subst, arith, append_assoc}
use Rattle.chord_io.specs.Pen.{Writes}
use Rattle.chord_io.proofs.Pens.{Writes-join}
use Rattle.chord_gen.specs.Listing.{numbered}

-- nothing behind a text changes nothing
append_none : (xs : List ℕ) → xs ++ [] ≡ xs
append_none [] = refl
append_none (x ∷ xs) = ap (λ ys. x ∷ ys) (append_none xs)

-- the lines of one item more are those before it and its own
numbered_more : {A : Type 0} (line : ℕ → A → List ℕ) (n : ℕ) (xs : List A) (k : ℕ) (x d : A) → k < length xs → x ≡ get_or xs k d → numbered line n (take (suc k) xs) ≡ numbered line n (take k xs) ++ line (n + k) x
numbered_more line n [] k x d l e = absurd (omega arith)
numbered_more line n (a ∷ xs) zero x d l e =
    let m : n ≡ n + 0 = omega arith in
    append_none (line n a) ∙ ap (λ y. line n y) (sym e) ∙ ap (λ j. line j x) m
numbered_more line n (a ∷ xs) (suc k) x d l e =
    let m : suc n + k ≡ n + suc k = omega arith in
    ap (λ t. line n a ++ t) (numbered_more line (suc n) xs k x d (omega arith) e)
    ∙ sym (append_assoc (line n a) (numbered line (suc n) (take k xs)) (line (suc n + k) x))
    ∙ ap (λ j. (line n a ++ numbered line (suc n) (take k xs)) ++ line j x) m

-- the lines before an item, and then its line
pub writes_numbered : {A : Type 0} {a b c : Option (List ℕ)} {f g h : ℕ} {p q r : Option (List ℕ)} (line : ℕ → A → List ℕ) (xs : List A) (k : ℕ) (x d : A) → k < length xs → x ≡ get_or xs k d → Writes a f p (numbered line 0 (take k xs)) b g q → Writes b g q (line k x) c h r → Writes a f p (numbered line 0 (take (k + 1) xs)) c h r
writes_numbered {A} {a} {b} {c} {f} {g} {h} {p} {q} {r} line xs k x d l e first second =
    let n : suc k ≡ k + 1 = omega arith in
    let m : k ≡ 0 + k = omega arith in
    subst (λ t. Writes a f p t c h r) (sym (numbered_more line 0 xs k x d l e) ∙ ap (λ j. numbered line 0 (take j xs)) n) (Writes-join first (subst (λ j. Writes b g q (line j x) c h r) m second))
