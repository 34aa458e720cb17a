-- The breaks of the two passes are those of all rules.
use Rattle.std.proofs.Common.{◌≡◌, ℕ, ◌⊎◌, inl, inr, true, [], ◌∷◌, refl}
use Rattle.chord_tree.specs.Tree.{ProgramTree}
use Rattle.chord_classes.specs.Rules.{Broken, is_type_rule, C01, C02, C03, C04, C05, C06, C07, C08, C09, C10, C11, C12, C13, C14, C15, C16, C17, C18, C19, C20, C21, C22, C23, C24}
use Rattle.chord_classes.proofs.Breaks.{all_join}
use Rattle.chord_rules.specs.Family.{is_layout_rule, PassesJoin, PlanRulesKept}
use Rattle.chord_rules.proofs.FirstBreak.{of_one}

-- each rule that is broken is of one of the two passes
of_a_pass : (p : ProgramTree) (r k : ℕ) → Broken p r k → (is_type_rule r ≡ true) ⊎ (is_layout_rule r ≡ true)
of_a_pass p r k_ (C01 at h) = inr refl
of_a_pass p r k_ (C02 at h) = inl refl
of_a_pass p r k_ (C03 at h) = inr refl
of_a_pass p r k_ (C04 at h) = inr refl
of_a_pass p r k_ (C05 at h) = inr refl
of_a_pass p r k_ (C06 at h) = inr refl
of_a_pass p r k_ (C07 at h) = inr refl
of_a_pass p r k_ (C08 at h) = inr refl
of_a_pass p r k_ (C09 at h) = inr refl
of_a_pass p r k_ (C10 at h) = inr refl
of_a_pass p r k_ (C11 at h) = inr refl
of_a_pass p r k_ (C12 at h) = inr refl
of_a_pass p r k_ (C13 at h) = inr refl
of_a_pass p r k_ (C14 at h) = inl refl
of_a_pass p r k_ (C15 at h) = inl refl
of_a_pass p r k_ (C16 at h) = inl refl
of_a_pass p r k_ (C17 at h) = inl refl
of_a_pass p r k_ (C18 at h) = inl refl
of_a_pass p r k_ (C19 at h) = inl refl
of_a_pass p r k_ (C20 at h) = inl refl
of_a_pass p r k_ (C21 at h) = inr refl
of_a_pass p r k_ (C22 at h) = inl refl
of_a_pass p r k_ (C23 at h) = inl refl
of_a_pass p r k_ (C24 at h) = inl refl

-- of two, one or the other
turned_over : {A B : Type 0} → A ⊎ B → B ⊎ A
turned_over (inl a) = inr a
turned_over (inr b) = inl b

-- the break of all rules is the first of the two passes' breaks
pub passes_join : PassesJoin
passes_join p = (all_join p is_type_rule is_layout_rule (of_a_pass p), all_join p is_layout_rule is_type_rule (λ r k x. turned_over (of_a_pass p r k x)))

-- the rule is one that a layout rests on
abbrev IsLayoutRule : ℕ → Type 0
IsLayoutRule r = is_layout_rule r ≡ true

-- the rules that a plan rests on are layout rules
pub plan_rules_kept : PlanRulesKept
plan_rules_kept p free r k m x = free r k (of_one IsLayoutRule r (4 ∷ 5 ∷ 6 ∷ 7 ∷ 9 ∷ 10 ∷ 12 ∷ 13 ∷ []) (refl, (refl, (refl, (refl, (refl, (refl, (refl, (refl, tt)))))))) m) x
