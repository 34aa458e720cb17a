-- The headers named `Main`, one list after the other.
use Rattle.std.proofs.Common.{◌≡◌, ℕ, List, [], ◌∷◌, ◌++◌, Bool, true, false, not, ◌||◌, map, refl, sym, ap, ◌∙◌, append_assoc, Option}
use Rattle.std.proofs.Math.Bool.{or-false, or-true, or_assoc}
use Rattle.std.proofs.lemmas.List.{append-nil}
use Rattle.chord_classes.specs.NameRules.{when}
use Rattle.chord_classes.specs.ChordRules.{MainAt, mains_among, member_mains, wrong_mains}
use Rattle.chord_tree.specs.Tree.{HeaderTree, MemberTree, ConstructorMember, ChordMember}
use Rattle.chord_tree.specs.Walk.{member_headers}
use Rattle.chord_classes.specs.Least.{least, keys}
use Rattle.chord_rules.specs.Mains.{some_main, wrong_from}
use Rattle.chord_rules.proofs.Noted.{then_noted}

-- the wrong ones of two lists joined
wrong_joined : (seen : Bool) (xs ys : List MainAt) → wrong_from seen (xs ++ ys) ≡ wrong_from seen xs ++ wrong_from (seen || some_main xs) ys
wrong_joined seen [] ys = ap (λ z. wrong_from z ys) (sym (or-false seen))
wrong_joined seen (x ∷ xs) ys =
    ap (λ z. when (seen || not x.right) x.at ++ z) (wrong_joined true xs ys)
    ∙ sym (append_assoc (when (seen || not x.right) x.at) (wrong_from true xs) (wrong_from true ys))
    ∙ ap (λ z. (when (seen || not x.right) x.at ++ wrong_from true xs) ++ wrong_from z ys) (sym (or-true seen))

-- the wrong ones of a list, and then of another
pub next_mains : (seen after : Bool) (xs ys : List MainAt) (o p : Option ℕ) → after ≡ (seen || some_main xs) → p ≡ least o (keys 13 (wrong_from seen xs)) → least o (keys 13 (wrong_from seen (xs ++ ys))) ≡ least p (keys 13 (wrong_from after ys))
next_mains seen after xs ys o p e h =
    ap (λ z. least o (keys 13 z)) (wrong_joined seen xs ys) ∙ then_noted 13 o p (wrong_from seen xs) (wrong_from (seen || some_main xs) ys) h ∙ ap (λ z. least p (keys 13 (wrong_from z ys))) (sym e)

-- there is a header named `Main` in two lists joined exactly if there is one in the first or in the second
some_joined : (xs ys : List MainAt) → some_main (xs ++ ys) ≡ (some_main xs || some_main ys)
some_joined [] ys = refl
some_joined (x ∷ xs) ys = refl

-- whether one was seen, after a list and then after another
pub next_seen : (seen after : Bool) (xs ys : List MainAt) → after ≡ (seen || some_main xs) → (seen || some_main (xs ++ ys)) ≡ (after || some_main ys)
next_seen seen after xs ys e = ap (λ z. seen || z) (some_joined xs ys) ∙ sym (or_assoc seen (some_main xs) (some_main ys)) ∙ ap (λ z. z || some_main ys) (sym e)

-- behind a header named `Main` all others are wrong
behind_one : (xs : List MainAt) → wrong_from true xs ≡ map (λ (main : MainAt). main.at) xs
behind_one [] = refl
behind_one (x ∷ xs) = ap (λ z. x.at ∷ z) (behind_one xs)

-- the wrong ones of all, and the end of the text where there is none
pub all_mains : (mains : List MainAt) (end : ℕ) → wrong_from false mains ++ when (not (some_main mains)) end ≡ wrong_mains mains end
all_mains [] end = refl
all_mains (x ∷ xs) end = append-nil (wrong_from false (x ∷ xs)) ∙ ap (λ z. when (not x.right) x.at ++ z) (behind_one xs)

-- the headers named `Main` of a member are those among its headers
pub mains_in : (member : MemberTree) (headers : List HeaderTree) → headers ≡ member_headers member → mains_among headers headers ≡ member_mains member
mains_in (ConstructorMember modifiers name formals body) headers e = ap (λ z. mains_among z z) e
mains_in (ChordMember hs body) headers e = ap (λ z. mains_among z z) e

-- the wrong ones of all, and then the end of the text where there is none
pub mains_and_end : (mains : List MainAt) (end : ℕ) (o p q : Option ℕ) (seen : Bool) → seen ≡ (false || some_main mains) → p ≡ least o (keys 13 (wrong_from false mains)) → q ≡ least p (keys 13 (when (not seen) end)) → q ≡ least o (keys 13 (wrong_mains mains end))
mains_and_end mains end o p q seen e h k =
    k ∙ ap (λ z. least p (keys 13 (when (not z) end))) e ∙ sym (then_noted 13 o p (wrong_from false mains) (when (not (some_main mains)) end) h) ∙ ap (λ z. least o (keys 13 z)) (all_mains mains end)
