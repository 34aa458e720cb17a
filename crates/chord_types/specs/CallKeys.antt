-- What a call breaks and gives, by what it names.
use Rattle.std.specs.Prelude.{ℕ, List, ◌++◌, cond, ◌&&◌, is_none, Option, Some, None}
use Rattle.chord_tree.specs.Walk.{Role}
use Rattle.chord_base.specs.declared.static_type.StaticType.{StaticType}
use Rattle.chord_base.specs.declared.static_type.StaticType.TheVariants as ty
use Rattle.chord_classes.specs.Site.{Site}
use Rattle.chord_classes.specs.TypedTerms.{Passed, Target, all_typed}
use Rattle.chord_classes.specs.NameRules.{when, barred, barred_class, class_formals, is_used, valueless, miscounted_for, target_formals}
use Rattle.chord_classes.specs.TypeRules.{misfits_for}
use Rattle.chord_classes.specs.Typed.{is_nil, target_type}
use Rattle.chord_classes.specs.Least.{keys}

-- what a call breaks, by the method that it names
abbrev pub call_keys : Site → Role → Option Target → ℕ → List Passed → List ℕ
call_keys site role target at actuals =
    keys 14 (when (is_none target) at) ++ (keys 15 (misfits_for site.table (target_formals target) actuals) ++ (keys 16 (barred site target at)
    ++ (keys 19 (when (is_used role && valueless target) at) ++ keys 22 (miscounted_for (target_formals target) actuals at))))

-- the tokens at which a call breaks a rule, by the method that it names
abbrev pub call_faults : Site → Role → Option Target → ℕ → List Passed → List ℕ
call_faults site role target at actuals =
    when (is_none target) at ++ (misfits_for site.table (target_formals target) actuals ++ (barred site target at
    ++ (when (is_used role && valueless target) at ++ miscounted_for (target_formals target) actuals at)))

-- the type of a call, by the method that it names
abbrev pub call_type : Site → Role → Option Target → ℕ → List Passed → Option StaticType
call_type site role target at actuals = cond (all_typed actuals && is_nil (call_faults site role target at actuals)) (target_type site target) None

-- what `new` breaks, where its class is declared
abbrev pub built_keys : Site → ℕ → ℕ → List Passed → List ℕ
built_keys site class at actuals =
    keys 15 (misfits_for site.table (Some (class_formals site.table class)) actuals) ++ (keys 16 (barred_class site (Some class) at) ++ keys 22 (miscounted_for (Some (class_formals site.table class)) actuals at))

-- the type of `new`, where its class is declared
abbrev pub built_type : Site → ℕ → ℕ → List Passed → Option StaticType
built_type site class at actuals =
    cond (all_typed actuals && is_nil (misfits_for site.table (Some (class_formals site.table class)) actuals ++ (barred_class site (Some class) at ++ miscounted_for (Some (class_formals site.table class)) actuals at))) (Some (ty.Class class)) None
