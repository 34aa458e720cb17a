-- Pieces given or taken one after the other are one piece.
use Rattle.std.proofs.Common.{◌≡◌, ℕ, List, [], ◌++◌, Option, None, Some, IfSome, refl, ap, sym, ◌∙◌, append_assoc, append-nil, arith, length, take, drop, ◌<◌, ◌+◌, ◌∷◌, length-append, add-one, suc, get_or}
use Rattle.std.proofs.Math.Seq.{drop-cons, take-suc, take-append-add}
use Rattle.std.proofs.lemmas.List.{length-take-le, take-append-le, take-append-drop}
use Rattle.std.proofs.lemmas.Grind.{flat_map-append}
use Rattle.std.specs.List.{flat_map}
use Rattle.std.specs.Option.{option_map}
use Rattle.chord_io.specs.Pieces.{Gave, IsSpent, Took, TookProperPrefix}

-- nothing was taken
pub Took-nothing : (a : Option (List ℕ)) → Took a [] a
Took-nothing None = refl
Took-nothing (Some bytes) = ap (λ (x : List ℕ). Some x) (sym (append-nil bytes))

-- two pieces taken one after the other are one
pub Took-join : (a b c : Option (List ℕ)) (p q : List ℕ) → Took a p b → Took b q c → Took a (p ++ q) c
Took-join None b c p q first second = second ∙ ap (λ (x : Option (List ℕ)). option_map (λ bytes. bytes ++ q) x) first
Took-join (Some bytes) b c p q first second =
    second ∙ ap (λ (x : Option (List ℕ)). option_map (λ bytes. bytes ++ q) x) first ∙ ap (λ (x : List ℕ). Some x) (append_assoc bytes p q)

-- a piece was taken, and then nothing happened
pub Took-kept : (a b c : Option (List ℕ)) (p : List ℕ) → Took a p b → c ≡ b → Took a p c
Took-kept a b c p first same = same ∙ first

-- nothing was given
pub Gave-nothing : (a : Option (List ℕ)) → Gave a [] a
Gave-nothing None = refl
Gave-nothing (Some bytes) = refl

-- two pieces given one after the other are one
pub Gave-join : (a b c : Option (List ℕ)) (p q : List ℕ) → Gave a p b → Gave b q c → Gave a (p ++ q) c
Gave-join a b None p q first second = first ∙ ap (λ (x : Option (List ℕ)). option_map (λ rest. p ++ rest) x) second
Gave-join a b (Some rest) p q first second =
    first ∙ ap (λ (x : Option (List ℕ)). option_map (λ rest. p ++ rest) x) second ∙ ap (λ (x : List ℕ). Some x) (sym (append_assoc p q rest))

-- a piece was given, and then nothing happened
pub Gave-kept : (a b c : Option (List ℕ)) (p : List ℕ) → Gave a p b → c ≡ b → Gave a p c
Gave-kept a b c p first same = first ∙ ap (λ (x : Option (List ℕ)). option_map (λ rest. p ++ rest) x) (sym same)

-- where a piece was given and no byte is left, the piece is all that was left
pub Gave-all : (a b : Option (List ℕ)) (p : List ℕ) → Gave a p b → IsSpent b → IfSome a (λ bytes. p ≡ bytes)
Gave-all None b p gave spent = tt
Gave-all (Some bytes) None p gave spent = absurd (cc)
Gave-all (Some bytes) (Some rest) p gave spent =
    let whole : bytes ≡ p ++ rest = cc in
    sym (whole ∙ ap (λ (x : List ℕ). p ++ x) spent ∙ append-nil p)

-- a front of a first text is a front of the two together
pub TookProperPrefix-first : (a b : Option (List ℕ)) (p q : List ℕ) → TookProperPrefix a p b → TookProperPrefix a (p ++ q) b
TookProperPrefix-first a b p q front = record {
  count = front.count;
  short = omega (arith, length-append p q, front.short);
  took = rw (take-append-le front.count p q (omega (arith, front.short))) front.took;
}

-- a first text was taken, and then a front of a second
pub TookProperPrefix-second : (a b c : Option (List ℕ)) (p q : List ℕ) → Took a p b → TookProperPrefix b q c → TookProperPrefix a (p ++ q) c
TookProperPrefix-second a b c p q first front = record {
  count = length p + front.count;
  short = omega (arith, length-append p q, front.short);
  took = rw (take-append-add p q front.count) (Took-join a b c p (take front.count q) first front.took);
}

-- where a front was taken, the whole was not
pub not_whole : (bytes : List ℕ) (after : Option (List ℕ)) (text : List ℕ) → Took (Some bytes) text after → TookProperPrefix (Some bytes) text after → ⊥
not_whole bytes after text whole front =
    let same : bytes ++ text ≡ bytes ++ take front.count text = (let took = front.took in cc) in
    let shorter : length (take front.count text) ≡ front.count = length-take-le front.count text (omega (arith, front.short)) in
    omega (arith, ap length same, length-append bytes text, length-append bytes (take front.count text), shorter, front.short)

-- a list is what stands before a place, what stands at it, and what stands behind it
pub around : {X : Type 0} (xs : List X) (i : ℕ) (x d : X) → i < length xs → x ≡ get_or xs i d → xs ≡ take i xs ++ (x ∷ drop (i + 1) xs)
around xs i x d within at =
    let tail : drop i xs ≡ x ∷ drop (i + 1) xs = rw add-one (drop-cons xs i d within ∙ ap (λ y. y ∷ drop (suc i) xs) (sym at)) in
    sym (take-append-drop i xs) ∙ ap (λ t. take i xs ++ t) tail

-- the items before the next place are those before this one, and the one that stands here
pub before_next : {X : Type 0} (xs : List X) (i : ℕ) (x d : X) → i < length xs → x ≡ get_or xs i d → take (i + 1) xs ≡ take i xs ++ (x ∷ [])
before_next xs i x d within at = rw add-one (take-suc xs i d within ∙ ap (λ y. take i xs ++ (y ∷ [])) (sym at))

-- of texts that are written one by one: those before the next place were taken
pub Took-next :
    {X : Type 0} (text : X → List ℕ) (xs : List X) (i : ℕ) (x d : X) (a b c : Option (List ℕ)) → i < length xs → x ≡ get_or xs i d →
    Took a (flat_map text (take i xs)) b → Took b (text x) c → Took a (flat_map text (take (i + 1) xs)) c
Took-next text xs i x d a b c within at first second =
    rw (before_next xs i x d within at, flat_map-append text (take i xs) (x ∷ []), append-nil (text x)) (Took-join a b c _ _ first second)

-- of texts that are written one by one: a front of all was taken, where a front of the next was
pub TookProperPrefix-next :
    {X : Type 0} (text : X → List ℕ) (xs : List X) (i : ℕ) (x d : X) (a b c : Option (List ℕ)) → i < length xs → x ≡ get_or xs i d →
    Took a (flat_map text (take i xs)) b → TookProperPrefix b (text x) c → TookProperPrefix a (flat_map text xs) c
TookProperPrefix-next text xs i x d a b c within at first second =
    let whole : flat_map text xs ≡ flat_map text (take i xs) ++ (text x ++ flat_map text (drop (i + 1) xs)) =
    ap (λ ys. flat_map text ys) (around xs i x d within at) ∙ flat_map-append text (take i xs) (x ∷ drop (i + 1) xs) in
    rw whole (TookProperPrefix-second a b c _ _ first (TookProperPrefix-first b c (text x) _ second))
