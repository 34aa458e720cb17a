-- What is noted at a call and at `new`, of what they name.
use Rattle.std.proofs.Common.{◌≡◌, ℕ, ◌++◌, List, Bool, true, not, ◌&&◌, refl, sym, ap, ◌∙◌, Option, Some, length, map, nat_eq, arith}
use Rattle.std.proofs.lemmas.Bool.Decides.{nat_tests}
use Rattle.std.specs.Prelude.{is_none}
use Rattle.chord_tree.specs.declared.names.ValueType.{ValueType}
use Rattle.chord_tree.specs.declared.classes.Formal.{Formal}
use Rattle.chord_tree.specs.Walk.{Role}
use Rattle.chord_classes.specs.Types.{value_type}
use Rattle.chord_classes.specs.Site.{Site}
use Rattle.chord_classes.specs.Table.{formal_types}
use Rattle.chord_classes.specs.TypedTerms.{Passed, Target}
use Rattle.chord_classes.specs.NameRules.{when, may_reach, is_used, class_formals, barred_class}
use Rattle.chord_classes.specs.TypeRules.{misfits_for}
use Rattle.chord_classes.specs.Least.{keys, least}
use Rattle.chord_types.specs.CallKeys.{call_keys, built_keys}
use Rattle.chord_classes.proofs.Leasts.{noted_three, noted_four}
use Rattle.chord_classes.proofs.Search.{map_length}
use Rattle.chord_types.specs.declared.site.Passed as memory
use Rattle.chord_types.specs.Views.{see_passed}

-- what is noted at a call of a method that is there
pub called_noted : (site : Site) (role : Role) (t : Target) (at : ℕ) (actuals : List Passed) (o p q r s : Option ℕ) (formals : List ValueType) (reached used less counted : Bool)
    → p ≡ least o (keys 15 (misfits_for site.table (Some formals) actuals)) → q ≡ least p (keys 16 (when (not reached) at)) → r ≡ least q (keys 19 (when (used && less) at)) → s ≡ least r (keys 22 (when (not counted) at))
    → formals ≡ t.method.formals → reached ≡ may_reach site t.class t.method.owner t.method.access → used ≡ is_used role → less ≡ is_none (value_type t.method.result_type) → counted ≡ nat_eq (length actuals) (length formals)
    → s ≡ least o (call_keys site role (Some t) at actuals)
called_noted site role t at actuals o p q r s formals reached used less counted hp hq hr hs hf hreached hused hless hcounted =
    noted_four o p q r s (keys 15 (misfits_for site.table (Some formals) actuals)) (keys 16 (when (not reached) at)) (keys 19 (when (used && less) at)) (keys 22 (when (not counted) at)) hp hq hr hs ∙ ap (least o) same
  where
    same : keys 15 (misfits_for site.table (Some formals) actuals) ++ (keys 16 (when (not reached) at) ++ (keys 19 (when (used && less) at) ++ keys 22 (when (not counted) at))) ≡ call_keys site role (Some t) at actuals
    same = rw (hcounted, hreached, hused, hless, hf) refl

-- what is noted at `new` of a class that is declared
pub built_noted : (site : Site) (class at : ℕ) (actuals : List Passed) (o p q r : Option ℕ) (formals : List ValueType) (reached counted : Bool)
    → p ≡ least o (keys 15 (misfits_for site.table (Some formals) actuals)) → q ≡ least p (keys 16 (when (not reached) at)) → r ≡ least q (keys 22 (when (not counted) at))
    → formals ≡ class_formals site.table class → ((at : ℕ) → barred_class site (Some class) at ≡ when (not reached) at) → counted ≡ nat_eq (length actuals) (length formals)
    → r ≡ least o (built_keys site class at actuals)
built_noted site class at actuals o p q r formals reached counted hp hq hr hf hb hc =
    noted_three o p q r (keys 15 (misfits_for site.table (Some formals) actuals)) (keys 16 (when (not reached) at)) (keys 22 (when (not counted) at)) hp hq hr ∙ ap (least o) same
  where
    same : keys 15 (misfits_for site.table (Some formals) actuals) ++ (keys 16 (when (not reached) at) ++ keys 22 (when (not counted) at)) ≡ built_keys site class at actuals
    same = rw (sym (hb at), hc, hf) refl

-- where arguments are as many as parameters, so are what they are seen as and the types of those
pub same_count : (formals : List Formal) (actuals : List memory.Passed) → length actuals ≡ length formals → nat_eq (length (map see_passed actuals)) (length (formal_types formals)) ≡ true
same_count formals actuals e = rw (map_length see_passed actuals, map_length (λ (formal : Formal). formal.value_type) formals, e) (equal_to_itself (length formals))
  where
    equal_to_itself : (n : ℕ) → nat_eq n n ≡ true
    equal_to_itself n = grind (arith, nat_tests)
