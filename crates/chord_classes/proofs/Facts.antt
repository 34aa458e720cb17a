-- Small facts on lists of tokens, truth values and options.
use Rattle.std.proofs.Common.{◌≡◌, ℕ, List, [], ◌∷◌, ◌++◌, Bool, true, false, not, cond, ◌&&◌, ◌||◌, refl, sym, ap, Option, Some, None, is_some}
use Rattle.std.specs.Prelude.{is_none}
use Rattle.std.proofs.lemmas.Bool.{false≢true}
use Rattle.chord_classes.specs.NameRules.{when}
use Rattle.chord_classes.specs.Typed.{is_nil}

-- nothing is not something
pub none_some : {X : Type 0} {x : X} → ◌≡◌ {A = Option X} None (Some x) → ⊥
none_some e = cc

-- what is there is the same where its options are
pub same_some : {X : Type 0} {x y : X} → ◌≡◌ {A = Option X} (Some x) (Some y) → x ≡ y
same_some e = cc

-- true is not false
pub true_false : true ≡ false → ⊥
true_false e = false≢true (sym e)

-- the first of two truth values of which neither is true
pub neither_left : (a b : Bool) → (a || b) ≡ false → a ≡ false
neither_left true b h = h
neither_left false b h = refl

-- the second of two truth values of which neither is true
pub neither_right : (a b : Bool) → (a || b) ≡ false → b ≡ false
neither_right true b h = absurd (true_false h)
neither_right false b h = h

-- a condition under which nothing is noted is false
pub when_not : (b : Bool) (at : ℕ) → when b at ≡ [] → b ≡ false
when_not false at h = refl
when_not true at h = cc

-- a condition is true where its contrary notes nothing
pub unless_not : (b : Bool) (at : ℕ) → when (not b) at ≡ [] → b ≡ true
unless_not true at h = refl
unless_not false at h = cc

-- the first of two lists joined to nothing is empty
pub left_nil : (xs ys : List ℕ) → xs ++ ys ≡ [] → xs ≡ []
left_nil [] ys h = refl
left_nil (x ∷ xs) ys h = cc

-- the second of two lists joined to nothing is empty
pub right_nil : (xs ys : List ℕ) → xs ++ ys ≡ [] → ys ≡ []
right_nil [] ys h = h
right_nil (x ∷ xs) ys h = cc

-- what is not missing is there
pub there_is : {X : Type 0} (o : Option X) → is_none o ≡ false → (x : X) × (o ≡ Some x)
there_is None h = absurd (true_false h)
there_is (Some x) h = (x, refl)

-- what is there is something
pub there_is_some : {X : Type 0} (o : Option X) → is_some o ≡ true → (x : X) × (o ≡ Some x)
there_is_some None h = absurd (false≢true h)
there_is_some (Some x) h = (x, refl)

-- something is there
pub is_there : {X : Type 0} (o : Option X) (x : X) → o ≡ Some x → is_some o ≡ true
is_there o x h = ap is_some h

-- both of two truths are true
pub and_true : (a b : Bool) → a ≡ true → b ≡ true → (a && b) ≡ true
and_true a b h k = rw (h, k) refl

-- the first of two truths
pub truth_left : (a b : Bool) → (a && b) ≡ true → a ≡ true
truth_left true b h = refl
truth_left false b h = h

-- the second of two truths
pub truth_right : (a b : Bool) → (a && b) ≡ true → b ≡ true
truth_right true b h = h
truth_right false b h = cc

-- a number of lists, all without items
pub nothing : (a b c d e f : List ℕ) → a ≡ [] → b ≡ [] → c ≡ [] → d ≡ [] → e ≡ [] → f ≡ [] → is_nil (a ++ (b ++ (c ++ (d ++ (e ++ f))))) ≡ true
nothing a b c d e f ha hb hc hd he hf = rw (ha, hb, hc, hd, he, hf) refl

-- a choice by two truth values that both hold
pub picked : {X : Type 0} (p b : Bool) (o : Option X) (x : X) → p ≡ true → b ≡ true → o ≡ Some x → cond (p && b) o None ≡ Some x
picked p b o x hp hb ho = rw (hp, hb) ho
