-- The rules that a layout rests on, and why a program has none.
use Rattle.std.specs.Prelude.{ℕ, [], ◌∷◌, Bool}
use Rattle.chord_tree.specs.Tree.{ProgramTree}
use Rattle.chord_classes.specs.Table.{among}
use Rattle.chord_classes.specs.Rules.{IsFree, is_type_rule, is_plan_rule}
use Rattle.chord_classes.specs.Breaks.{IsBreak, BreaksJoin}
use Rattle.chord_rules.specs.declared.fault.RuleFault.{RuleFault}
use Rattle.chord_rules.specs.declared.fault.RuleFault.TheVariants as faults

-- the rules on declarations, headers, chords, constructors, `Main` and limits: all but those on names and types
abbrev pub is_layout_rule : ℕ → Bool
is_layout_rule rule = among rule (1 ∷ 3 ∷ 4 ∷ 5 ∷ 6 ∷ 7 ∷ 8 ∷ 9 ∷ 10 ∷ 11 ∷ 12 ∷ 13 ∷ 21 ∷ [])

-- a rule that is broken is the first break of these rules
abbrev pub IsRuleFault : ProgramTree → RuleFault → Type 0
IsRuleFault program faults.Memory = Unit {0}
IsRuleFault program (faults.Rule rule at) = IsBreak is_layout_rule program rule at

-- Of every program: the break of all rules is the first of those of its layout rules and of its rules on names and types.
abbrev pub PassesJoin : Type 0
PassesJoin = (p : ProgramTree) → BreaksJoin p is_type_rule is_layout_rule × BreaksJoin p is_layout_rule is_type_rule

-- Of every program: if it breaks no layout rule, it breaks none that the soundness of its plan rests on.
abbrev pub PlanRulesKept : Type 0
PlanRulesKept = (p : ProgramTree) → IsFree is_layout_rule p → IsFree is_plan_rule p
