-- Two families of rules have one break.
use Rattle.std.proofs.Common.{◌≡◌, ℕ, ◌<◌, ◌≤◌, ◌⊎◌, inl, inr, Bool, true, refl, arith}
use Rattle.chord_tree.specs.Tree.{ProgramTree}
use Rattle.chord_classes.specs.Rules.{Broken, IsFree}
use Rattle.chord_classes.specs.Breaks.{IsNotAfter, IsBreak, BreaksJoin, AllJoin}

-- a break that is not after a second, which is not after a third, is not after the third
first_on : (r k s l t m : ℕ) → IsNotAfter r k s l → IsNotAfter s l t m → IsNotAfter r k t m
first_on r k s l t m (inl a) (inl b) = inl (omega (arith, a, b))
first_on r k s l t m (inl a) (inr b) = let e : l ≡ m = b.0 in inl (omega (arith, a, e))
first_on r k s l t m (inr a) (inl b) = let e : k ≡ l = a.0 in inl (omega (arith, e, b))
first_on r k s l t m (inr a) (inr b) = let e : k ≡ l = a.0 in let f : l ≡ m = b.0 in let g : r ≤ s = a.1 in let h : s ≤ t = b.1 in inr (omega (arith, e, f), omega (arith, g, h))

-- two breaks neither of which is after the other are one
same_place : (r k s l : ℕ) → IsNotAfter r k s l → IsNotAfter s l r k → (r ≡ s) × (k ≡ l)
same_place r k s l (inl a) (inl b) = absurd (circle a b)
  where
    circle : k < l → l < k → ⊥
    circle a b = omega arith
same_place r k s l (inl a) (inr b) = absurd (circle a b.0)
  where
    circle : k < l → l ≡ k → ⊥
    circle a b = omega arith
same_place r k s l (inr a) (inl b) = absurd (circle a.0 b)
  where
    circle : k ≡ l → l < k → ⊥
    circle a b = omega arith
same_place r k s l (inr a) (inr b) = let g : r ≤ s = a.1 in let h : s ≤ r = b.1 in (omega (arith, g, h), a.0)

module _ (p : ProgramTree) (mine others : ℕ → Bool) (covers : (r k : ℕ) → Broken p r k → (mine r ≡ true) ⊎ (others r ≡ true)) where
  -- the first break of a family is not after a break of it, nor after one of the other family that it is not after
  by_family : (r k t m : ℕ) → IsBreak mine p r k → Broken p t m → (others t ≡ true → IsNotAfter r k t m) → (mine t ≡ true) ⊎ (others t ≡ true) → IsNotAfter r k t m
  by_family r k t m b x f (inl y) = b.first t m y x
  by_family r k t m b x f (inr y) = f y

  -- where no rule of either family is broken, none is
  either_pass : (r k : ℕ) → Broken p r k → IsFree mine p → IsFree others p → (mine r ≡ true) ⊎ (others r ≡ true) → ⊥
  either_pass r k x free none (inl y) = free r k y x
  either_pass r k x free none (inr y) = none r k y x

  -- two families one of which each broken rule is of have one break
  families_join : BreaksJoin p mine others
  families_join = record {
    earlier = λ r k s l b o f. record { is_mine = refl; broken = b.broken; first = λ t m e x. by_family r k t m b x (λ y. first_on r k s l t m f (o.first t m y x)) (covers t m x) };
    resolved_alone = λ r k b free. record { is_mine = refl; broken = b.broken; first = λ t m e x. by_family r k t m b x (λ y. absurd (free t m y x)) (covers t m x) };
    accepted = λ free none r k e x. either_pass r k x free none (covers r k x);
    only_one = λ r k s l a b. same_place r k s l (a.first s l b.is_mine b.broken) (b.first r k a.is_mine a.broken);
  }

-- the same of every program
pub all_join : AllJoin
all_join = families_join
