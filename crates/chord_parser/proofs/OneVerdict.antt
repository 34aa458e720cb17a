-- Tokens are refused at one place, or found too deep at one, and not both.
use Rattle.std.proofs.Common.{◌≡◌, ℕ, suc, ◌+◌, ◌<◌, ◌≤◌, List, [], ◌∷◌, ◌++◌, length, refl, sym, ap, subst, ◌∙◌, arith, append_assoc, ◌⊎◌, inl, inr}
use Rattle.std.proofs.lemmas.List.{length-append}
use Rattle.chord_lexer.specs.declared.token.Kind.{Kind}
use Rattle.chord_tree.specs.Derivation.{Spelled, kinds_of, NotTall, Derives}
use Rattle.chord_tree.proofs.OneTree.{start_legal}
use Rattle.chord_tree.specs.Tree.{ProgramTree}
use Rattle.chord_parser.specs.declared.parser.ParseFault.{ParseFault}
use Rattle.chord_parser.specs.declared.parser.ParseFault.TheVariants as answers
use Rattle.chord_parser.specs.Answers.{start, IsAnswer}
use Rattle.chord_parser.proofs.Whole.{IsWholeFound, not_wrong, never_tall}
use Rattle.chord_parser.specs.Exact.{BeginsThrough, IsWrong, IsTall}
use Rattle.chord_parser.proofs.Prefix.{one_prefix, alike, DepthAt}

-- the kinds of two lists of tokens, one behind the other, are those of the first and then those of the second
kinds_append : (a b : List Spelled) → kinds_of (a ++ b) ≡ kinds_of a ++ kinds_of b
kinds_append [] b = refl
kinds_append ((k, d) ∷ a) b = ap (λ z. k ∷ z) (kinds_append a b)

-- there are as many kinds as tokens
kinds_length : (a : List Spelled) → length (kinds_of a) ≡ length a
kinds_length [] = refl
kinds_length ((k, d) ∷ a) = ap suc (kinds_length a)

-- what is longer than a part of the same list goes on with what follows the part
longer : (fs gs suffix : List Kind) (k : Kind) (after : List Kind) → fs ++ suffix ≡ gs ++ (k ∷ after) → length gs < length fs → (more : List Kind) × (fs ≡ gs ++ (k ∷ more))
longer [] gs suffix k after e l = absurd (omega arith)
longer (f ∷ fs) [] suffix k after e l = let a : f ≡ k = cc in (fs, ap (λ z. z ∷ fs) a)
longer (f ∷ fs) (g ∷ gs) suffix k after e l =
    let a : f ≡ g = cc in
    let b : fs ++ suffix ≡ gs ++ (k ∷ after) = cc in
    let h = longer fs gs suffix k after b (omega arith) in
    (h.0, ap (λ z. z ∷ fs) a ∙ ap (λ z. g ∷ z) h.1)

-- what begins with more of the tokens begins with fewer of them and the next
begins_more : (fs gs suffix after w : List Kind) → fs ++ suffix ≡ gs ++ after → length fs < length gs → BeginsThrough (gs ++ w) fs suffix
begins_more fs gs [] after w e l = let n : length fs + 0 ≡ length gs + length after = sym (length-append fs []) ∙ ap length e ∙ length-append gs after in absurd (omega arith)
begins_more fs gs (k ∷ suffix) after w e l =
    let h = longer gs fs after k suffix (sym e) l in
    (h.0 ++ w, ap (λ z. z ++ w) h.1 ∙ append_assoc fs (k ∷ h.0) w)

-- a token that stands among tokens of which none is tall is at most 200 deep
not_tall_front : (fs y rest : List Spelled) (g : ℕ) → NotTall y → length fs < length y → DepthAt fs (y ++ rest) g → g ≤ 200
not_tall_front fs [] rest g l m h = absurd (omega arith)
not_tall_front [] ((j, d) ∷ y) rest g l m h = let a = l.0 in omega (arith, h)
not_tall_front (f ∷ fs) ((j, d) ∷ y) rest g l m h = not_tall_front fs y rest g l.1 (omega arith) h

-- the tokens of a refusal are no fewer than those that begin a program
no_fewer : (ks : List Kind) (n : ℕ) (o : IsWrong start ks n) (prefix rest : List Spelled) (after : List Kind) → ks ≡ kinds_of prefix ++ after → (w : List Spelled) → kinds_of w ≡ kinds_of prefix ++ kinds_of rest → length (kinds_of o.prefix) < length (kinds_of prefix) → BeginsThrough (kinds_of w) (kinds_of o.prefix) o.suffix
no_fewer ks n o prefix rest after e w q l = subst (λ z. BeginsThrough z (kinds_of o.prefix) o.suffix) (sym q) (begins_more (kinds_of o.prefix) (kinds_of prefix) o.suffix after (kinds_of rest) (sym o.cut ∙ e) l)

-- of two refusals of the same tokens neither stands before the other
wrong_less : (ks : List Kind) (n m : ℕ) → (o : IsWrong start ks n) (p : IsWrong start ks m) → length o.prefix < length p.prefix → ⊥
wrong_less ks n m o p l =
    let a = kinds_length o.prefix in
    let b = kinds_length p.prefix in
    o.refuses (p.prefix ++ p.rest) (no_fewer ks n o p.prefix p.rest p.suffix p.cut (p.prefix ++ p.rest) (kinds_append p.prefix p.rest) (omega arith)) p.opens

-- the tokens before a refusal and those that are left at it are all tokens
left_of : (ks : List Kind) (n : ℕ) → (o : IsWrong start ks n) → n + length o.prefix ≡ length ks
left_of ks n o = let e = ap length o.cut ∙ length-append (kinds_of o.prefix) o.suffix in let a = kinds_length o.prefix in let c = o.count in omega arith

-- the tokens before the first that is tall and those that are left at it are all tokens
left_tall : (ks : List Kind) (n : ℕ) → (o : IsTall start ks n) → n + length o.prefix ≡ length ks
left_tall ks n o = let e = ap length o.cut ∙ length-append (kinds_of o.prefix) (o.kind ∷ o.suffix) in let a = kinds_length o.prefix in let c = o.count in omega arith

-- tokens are refused at one place at most
pub one_wrong : (ks : List Kind) (n m : ℕ) → IsWrong start ks n → IsWrong start ks m → n ≡ m
one_wrong ks n m o p =
    let a = left_of ks n o in
    let b = left_of ks m p in
    let c : length o.prefix < length p.prefix → ⊥ = wrong_less ks n m o p in
    let d : length p.prefix < length o.prefix → ⊥ = wrong_less ks m n p o in
    omega arith

-- the token that is too deep does not stand among tokens that are not
tall_inside : (ks : List Kind) (n : ℕ) (o : IsTall start ks n) (prefix rest : List Spelled) (after : List Kind) → ks ≡ kinds_of prefix ++ after → NotTall prefix → Derives start (prefix ++ rest) → length o.prefix < length prefix → ⊥
tall_inside ks n o prefix rest after e not_tall r l =
    let a = kinds_length o.prefix in
    let b = kinds_length prefix in
    let h = longer (kinds_of prefix) (kinds_of o.prefix) after o.kind o.suffix (sym e ∙ o.cut) (omega arith) in
    let y : kinds_of (prefix ++ rest) ≡ kinds_of o.prefix ++ (o.kind ∷ (h.0 ++ kinds_of rest)) = kinds_append prefix rest ∙ ap (λ z. z ++ kinds_of rest) h.1 ∙ append_assoc (kinds_of o.prefix) (o.kind ∷ h.0) (kinds_of rest) in
    let d = one_prefix o.prefix o.depth o.opens r refl (alike o.prefix o.kind o.depth o.rest (prefix ++ rest) (h.0 ++ kinds_of rest) y) start_legal in
    let m = not_tall_front o.prefix prefix rest o.depth not_tall l d in
    let k = o.tall in
    omega arith

-- one token at most is the first that is tall
pub one_tall : (ks : List Kind) (n m : ℕ) → IsTall start ks n → IsTall start ks m → n ≡ m
one_tall ks n m o p =
    let a = left_tall ks n o in
    let b = left_tall ks m p in
    let c : length o.prefix < length p.prefix → ⊥ = tall_inside ks n o p.prefix ((p.kind, p.depth) ∷ p.rest) (p.kind ∷ p.suffix) p.cut p.not_tall p.opens in
    let d : length p.prefix < length o.prefix → ⊥ = tall_inside ks m p o.prefix ((o.kind, o.depth) ∷ o.rest) (o.kind ∷ o.suffix) o.cut o.not_tall o.opens in
    omega arith

-- tokens that are refused at a place have no tall token before it
pub not_wrong_and_tall : (ks : List Kind) (n m : ℕ) → IsWrong start ks n → IsTall start ks m → ⊥
not_wrong_and_tall ks n m o p =
    let x = kinds_length o.prefix in
    let y = kinds_length p.prefix in
    let prefix : List Spelled = p.prefix ++ ((p.kind, p.depth) ∷ []) in
    let q : kinds_of (p.prefix ++ ((p.kind, p.depth) ∷ p.rest)) ≡ kinds_of prefix ++ kinds_of p.rest =
    ap kinds_of (sym (append_assoc p.prefix ((p.kind, p.depth) ∷ []) p.rest)) ∙ kinds_append prefix p.rest in
    let e : ks ≡ kinds_of prefix ++ p.suffix = p.cut ∙ sym (append_assoc (kinds_of p.prefix) (p.kind ∷ []) p.suffix) ∙ ap (λ z. z ++ p.suffix) (sym (kinds_append p.prefix ((p.kind, p.depth) ∷ []))) in
    let z : length (kinds_of prefix) ≡ length p.prefix + 1 = ap length (kinds_append p.prefix ((p.kind, p.depth) ∷ [])) ∙ length-append (kinds_of p.prefix) (p.kind ∷ []) ∙ ap (λ v. v + 1) y in
    let c : length o.prefix < length p.prefix + 1 → ⊥ = λ l. o.refuses (p.prefix ++ ((p.kind, p.depth) ∷ p.rest)) (no_fewer ks n o prefix p.rest p.suffix e (p.prefix ++ ((p.kind, p.depth) ∷ p.rest)) q (omega arith)) p.opens in
    let d : length p.prefix < length o.prefix → ⊥ = tall_inside ks m p o.prefix o.rest o.suffix o.cut o.not_tall o.opens in
    absurd (omega arith)

-- where a token is the first that fits nothing, the answer names it or lacks memory
pub at_only : (ks : List Kind) (f : ParseFault) → IsAnswer ks f → (k : ℕ) → IsAnswer ks (answers.At k) → (f ≡ answers.Memory) ⊎ (f ≡ answers.At k)
at_only ks answers.Memory h k a = inl refl
at_only ks (answers.At j) h k a = let e = one_wrong ks h.0 a.0 h.2 a.2 in let x = h.1 in let y = a.1 in let z : j ≡ k = omega arith in inr (ap answers.At z)
at_only ks (answers.Tall j) h k a = absurd (not_wrong_and_tall ks a.0 h.0 a.2 h.2)

-- where a token is the first that is tall, the answer names it or lacks memory
pub tall_only : (ks : List Kind) (f : ParseFault) → IsAnswer ks f → (k : ℕ) → IsAnswer ks (answers.Tall k) → (f ≡ answers.Memory) ⊎ (f ≡ answers.Tall k)
tall_only ks answers.Memory h k a = inl refl
tall_only ks (answers.At j) h k a = absurd (not_wrong_and_tall ks h.0 a.0 h.2 a.2)
tall_only ks (answers.Tall j) h k a = let e = one_tall ks h.0 a.0 h.2 a.2 in let x = h.1 in let y = a.1 in let z : j ≡ k = omega arith in inr (ap answers.Tall z)

-- tokens of a program are not refused
pub found_not_at : (ks : List Kind) (t : ProgramTree) → IsWholeFound ks t → (k : ℕ) → IsAnswer ks (answers.At k) → ⊥
found_not_at ks t f k a = not_wrong ks t a.0 f.program f.spelled a.2

-- tokens of a program have no tall one
pub found_not_tall : (ks : List Kind) (t : ProgramTree) → IsWholeFound ks t → (k : ℕ) → IsAnswer ks (answers.Tall k) → ⊥
found_not_tall ks t f k a = never_tall ks t a.0 f.program f.not_tall f.spelled a.2
