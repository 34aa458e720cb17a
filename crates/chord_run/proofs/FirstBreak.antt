-- A program breaks some rule first, or none: each rule has a list of the tokens at which it is broken.
use Rattle.std.proofs.Common.{◌≡◌, ℕ, zero, suc, ◌+◌, ◌<◌, ◌≤◌, List, [], ◌∷◌, ◌++◌, length, slice_get, Option, Some, None, refl, sym, subst, arith, ◌⊎◌, inl, inr}
use Rattle.std.specs.Prelude.{◌*◌, Contains}
use Rattle.std.proofs.lemmas.Bool.Decides.{leb_tells}
use Rattle.chord_tree.specs.Program.{spelling}
use Rattle.chord_tree.specs.Tree.{ProgramTree}
use Rattle.chord_classes.proofs.Leasts.{IsIn, contains_in, in_contains, in_left, in_right, in_either, at_key, of_key, not_less, is_least, none_noted}
use Rattle.chord_classes.specs.Breaks.{IsBreak, IsNotAfter, KeepsEveryRule, every_rule}
use Rattle.chord_classes.specs.ChordRules.{second_synchronous, repeated_methods, over_plans, wrong_constructors, mains_of, wrong_mains}
use Rattle.chord_classes.specs.DeclarationRules.{declared_again, base_missing, parameter_again, modifiers_barred}
use Rattle.chord_classes.specs.Least.{keys, least}
use Rattle.chord_classes.specs.OverrideRules.{in_classes, differing_headers, missing_override, wrong_override}
use Rattle.chord_classes.specs.Rules.{Broken, C01, C02, C03, C04, C05, C06, C07, C08, C09, C10, C11, C12, C13, C14, C15, C16, C17, C18, C19, C20, C21, C22, C23, C24, in_program, limits_in, notes_02, notes_14, notes_15, notes_16, notes_17, notes_18, notes_19, notes_20, notes_22, notes_23, notes_24}
use Rattle.chord_rules.specs.Splits.{SplitsAreListed, split}

-- the tokens at which each rule is broken, from the first rule on
abbrev broken_at : ProgramTree → List (List ℕ)
broken_at p =
    in_classes declared_again p ∷ in_program p (notes_02 p) ∷ in_classes base_missing p ∷ limits_in p
    ∷ in_classes differing_headers p ∷ in_classes second_synchronous p ∷ in_classes repeated_methods p ∷ in_classes parameter_again p
    ∷ in_classes missing_override p ∷ in_classes wrong_override p ∷ over_plans split [] [] 0 p.classes ∷ in_classes (wrong_constructors p.classes) p
    ∷ wrong_mains (mains_of p.classes) (length (spelling p)) ∷ in_program p notes_14 ∷ in_program p notes_15 ∷ in_program p notes_16
    ∷ in_program p notes_17 ∷ in_program p notes_18 ∷ in_program p notes_19 ∷ in_program p notes_20
    ∷ in_classes modifiers_barred p ∷ in_program p notes_22 ∷ in_program p notes_23 ∷ in_program p notes_24
    ∷ []

-- tokens of rules as numbers, where the first list is of this rule
abbrev numbered : ℕ → List (List ℕ) → List ℕ
numbered rule [] = []
numbered rule (tokens ∷ more) = keys rule tokens ++ numbered (suc rule) more

-- at each token of each list the rule of the list is broken
abbrev AllBroken : ProgramTree → ℕ → List (List ℕ) → Type 0
AllBroken p rule [] = Unit {0}
AllBroken p rule (tokens ∷ more) = ((at : ℕ) → Contains tokens at → Broken p rule at) × AllBroken p (suc rule) more

-- a token of a list is among the numbers, with the rule of the list
among_numbered : (rule : ℕ) (lists : List (List ℕ)) (n mine : ℕ) (tokens : List ℕ) (at : ℕ) → slice_get lists n ≡ Some tokens → mine ≡ rule + n → Contains tokens at → IsIn (numbered rule lists) (32 * at + mine)
among_numbered rule [] n mine tokens at e m h = cc
among_numbered rule (l ∷ ls) zero mine tokens at e m h =
    let same : l ≡ tokens = cc in
    let own : rule ≡ mine = omega (arith, m) in
    in_left (keys rule l) (numbered (suc rule) ls) (32 * at + mine)
    (subst (λ z. IsIn (keys rule l) (32 * at + z)) own (at_key rule l at (subst (λ z. IsIn z at) (sym same) (in_contains tokens at h))))
among_numbered rule (l ∷ ls) (suc n) mine tokens at e m h =
    in_right (keys rule l) (numbered (suc rule) ls) (32 * at + mine) (among_numbered (suc rule) ls n mine tokens at e (omega (arith, m)) h)

-- a break and its number
record HasNumber (p : ProgramTree) (number most : ℕ) : Type 0 where
  pub rule : ℕ
  pub at : ℕ
  pub number_is : number ≡ 32 * at + rule
  pub few : rule < most
  pub broken : Broken p rule at

-- each of the numbers is that of a break
of_numbered : (p : ProgramTree) (rule : ℕ) (lists : List (List ℕ)) (k : ℕ) → AllBroken p rule lists → IsIn (numbered rule lists) k → HasNumber p k (rule + length lists)
of_numbered p rule [] k all h = absurd h
of_numbered p rule (l ∷ ls) k all h = elim (in_either (keys rule l) (numbered (suc rule) ls) k h) [
  | inl a ↦ (let x = of_key rule l k a in record { rule = rule; at = x.0; number_is = x.1; few = omega arith; broken = all.0 x.0 (contains_in l x.0 x.2) })
  | inr b ↦ (let x = of_numbered p (suc rule) ls k all.1 b in record { rule = x.rule; at = x.at; number_is = x.number_is; few = (let f = x.few in omega arith); broken = x.broken })
]

-- all that a program breaks, as numbers
abbrev all_numbers : ProgramTree → List ℕ
all_numbers p = numbered 1 (broken_at p)

-- each list of a program is of its rule
all_broken : SplitsAreListed → (p : ProgramTree) → AllBroken p 1 (broken_at p)
all_broken listed p = (C01, (C02, (C03, (C04, (C05, (C06, (C07, (C08, (C09, (C10, (λ at h. C11 at ((listed [] [] 0 p.classes at).0 h), (C12, (C13, (C14, (C15, (C16, (C17, (C18, (C19, (C20, (C21, (C22, (C23, (C24, tt))))))))))))))))))))))))

-- a break is among the numbers
is_numbered : SplitsAreListed → (p : ProgramTree) (rule at : ℕ) → Broken p rule at → IsIn (all_numbers p) (32 * at + rule) × (rule < 32)
is_numbered listed p rule at (C01 k h) = (among_numbered 1 (broken_at p) 0 1 _ k refl refl h, omega arith)
is_numbered listed p rule at (C02 k h) = (among_numbered 1 (broken_at p) 1 2 _ k refl refl h, omega arith)
is_numbered listed p rule at (C03 k h) = (among_numbered 1 (broken_at p) 2 3 _ k refl refl h, omega arith)
is_numbered listed p rule at (C04 k h) = (among_numbered 1 (broken_at p) 3 4 _ k refl refl h, omega arith)
is_numbered listed p rule at (C05 k h) = (among_numbered 1 (broken_at p) 4 5 _ k refl refl h, omega arith)
is_numbered listed p rule at (C06 k h) = (among_numbered 1 (broken_at p) 5 6 _ k refl refl h, omega arith)
is_numbered listed p rule at (C07 k h) = (among_numbered 1 (broken_at p) 6 7 _ k refl refl h, omega arith)
is_numbered listed p rule at (C08 k h) = (among_numbered 1 (broken_at p) 7 8 _ k refl refl h, omega arith)
is_numbered listed p rule at (C09 k h) = (among_numbered 1 (broken_at p) 8 9 _ k refl refl h, omega arith)
is_numbered listed p rule at (C10 k h) = (among_numbered 1 (broken_at p) 9 10 _ k refl refl h, omega arith)
is_numbered listed p rule at (C11 k h) = (among_numbered 1 (broken_at p) 10 11 _ k refl refl ((listed [] [] 0 p.classes k).1 h), omega arith)
is_numbered listed p rule at (C12 k h) = (among_numbered 1 (broken_at p) 11 12 _ k refl refl h, omega arith)
is_numbered listed p rule at (C13 k h) = (among_numbered 1 (broken_at p) 12 13 _ k refl refl h, omega arith)
is_numbered listed p rule at (C14 k h) = (among_numbered 1 (broken_at p) 13 14 _ k refl refl h, omega arith)
is_numbered listed p rule at (C15 k h) = (among_numbered 1 (broken_at p) 14 15 _ k refl refl h, omega arith)
is_numbered listed p rule at (C16 k h) = (among_numbered 1 (broken_at p) 15 16 _ k refl refl h, omega arith)
is_numbered listed p rule at (C17 k h) = (among_numbered 1 (broken_at p) 16 17 _ k refl refl h, omega arith)
is_numbered listed p rule at (C18 k h) = (among_numbered 1 (broken_at p) 17 18 _ k refl refl h, omega arith)
is_numbered listed p rule at (C19 k h) = (among_numbered 1 (broken_at p) 18 19 _ k refl refl h, omega arith)
is_numbered listed p rule at (C20 k h) = (among_numbered 1 (broken_at p) 19 20 _ k refl refl h, omega arith)
is_numbered listed p rule at (C21 k h) = (among_numbered 1 (broken_at p) 20 21 _ k refl refl h, omega arith)
is_numbered listed p rule at (C22 k h) = (among_numbered 1 (broken_at p) 21 22 _ k refl refl h, omega arith)
is_numbered listed p rule at (C23 k h) = (among_numbered 1 (broken_at p) 22 23 _ k refl refl h, omega arith)
is_numbered listed p rule at (C24 k h) = (among_numbered 1 (broken_at p) 23 24 _ k refl refl h, omega arith)

-- of two breaks the one with the lesser number is not after the other
lesser_first : (r k s l : ℕ) → 32 * k + r ≤ 32 * l + s → r < 32 → s < 32 → IsNotAfter r k s l
lesser_first r k s l h a b = elim (leb_tells l k) [ inl (t, g) ↦ inr (omega arith, omega arith) | inr (t, g) ↦ inl (omega arith) ]

-- the least of all numbers, if there is one
least_told : (ks : List ℕ) → ((k : ℕ) × (least None ks ≡ Some k)) ⊎ (least None ks ≡ None)
least_told ks = told (least None ks)
  where
    told : (o : Option ℕ) → ((k : ℕ) × (o ≡ Some k)) ⊎ (o ≡ None)
    told None = inr refl
    told (Some k) = inl (k, refl)

-- the least number is that of the first break
first_of_least : SplitsAreListed → (p : ProgramTree) (k : ℕ) → least None (all_numbers p) ≡ Some k → (r : ℕ) × ((at : ℕ) × IsBreak every_rule p r at)
first_of_least listed p k e =
    let found = is_least (all_numbers p) k e in
    let x : HasNumber p k 25 = of_numbered p 1 (broken_at p) k (all_broken listed p) found.0 in (
      x.rule,
      (
        x.at,
        record {
          is_mine = refl;
          broken = x.broken;
          first = λ s l mine b.
              let n = is_numbered listed p s l b in
              let h = not_less (all_numbers p) k (32 * l + s) found.1 n.0 in
              let f = x.few in
              let g = x.number_is in
              lesser_first x.rule x.at s l (omega (arith, g, h)) (omega (arith, f)) n.1;
        },
      ),
    )

-- a program breaks some rule first, or it breaks none
pub broken_or_kept : SplitsAreListed → (p : ProgramTree) → ((r : ℕ) × ((k : ℕ) × IsBreak every_rule p r k)) ⊎ KeepsEveryRule p
broken_or_kept listed p = elim (least_told (all_numbers p)) [
  | inl h ↦ inl (first_of_least listed p h.0 h.1)
  | inr e ↦ inr (λ rule at mine b. none_noted (all_numbers p) (32 * at + rule) e (is_numbered listed p rule at b).0)
]
