-- The break of a program: the least token at which a rule is broken, then the least rule.
use Rattle.std.specs.Prelude.{◌≡◌, ℕ, ◌<◌, ◌≤◌, ◌⊎◌, Bool, true}
use Rattle.chord_tree.specs.Tree.{ProgramTree}
use Rattle.chord_classes.specs.Rules.{Broken, IsFree}

-- rule r at token k comes before rule s at token l, or is that
abbrev pub IsNotAfter : ℕ → ℕ → ℕ → ℕ → Type 0
IsNotAfter r k s l = (k < l) ⊎ ((k ≡ l) × (r ≤ s))

-- of these rules, this is the break of the program
pub record IsBreak (mine : ℕ → Bool) (p : ProgramTree) (r k : ℕ) : Type 0 where
  pub is_mine : mine r ≡ true
  pub broken : Broken p r k
  pub first : (s l : ℕ) → mine s ≡ true → Broken p s l → IsNotAfter r k s l

-- all rules
abbrev pub every_rule : ℕ → Bool
every_rule rule = true

-- no rule is broken
abbrev pub KeepsEveryRule : ProgramTree → Type 0
KeepsEveryRule p = IsFree every_rule p

-- Two families of rules, one of which each broken rule is of: the break of all is the first of theirs, and a family has at most one.
pub record BreaksJoin (p : ProgramTree) (mine others : ℕ → Bool) : Type 0 where
  pub earlier : (r k s l : ℕ) → IsBreak mine p r k → IsBreak others p s l → IsNotAfter r k s l → IsBreak every_rule p r k
  pub resolved_alone : (r k : ℕ) → IsBreak mine p r k → IsFree others p → IsBreak every_rule p r k
  pub accepted : IsFree mine p → IsFree others p → KeepsEveryRule p
  pub only_one : (r k s l : ℕ) → IsBreak mine p r k → IsBreak mine p s l → (r ≡ s) × (k ≡ l)

-- This holds of every program and of two families of rules, one of which each broken rule is of.
abbrev pub AllJoin : Type 0
AllJoin = (p : ProgramTree) (mine others : ℕ → Bool) → ((rule at : ℕ) → Broken p rule at → (mine rule ≡ true) ⊎ (others rule ≡ true)) → BreaksJoin p mine others
