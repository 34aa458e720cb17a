-- Variables, arguments and what calls name, as they lie in memory.
use Rattle.std.specs.Prelude.{ℕ, List, map}
use Rattle.chord_tree.specs.Walk as walk
use Rattle.chord_classes.specs.Site as sites
use Rattle.chord_classes.specs.TypedTerms as terms
use Rattle.chord_classes.specs.MethodViews.{see_method}
use Rattle.chord_types.specs.declared.scope.Local.{Local}
use Rattle.chord_types.specs.declared.site.Role.{Role}
use Rattle.chord_types.specs.declared.site.Role.TheVariants as role
use Rattle.chord_types.specs.declared.site.Passed.{Passed}
use Rattle.chord_types.specs.declared.site.Target.{Target}

-- how an expression in memory stands
abbrev pub see_role : Role → walk.Role
see_role role.Used = walk.Used
see_role role.Alone = walk.Alone
see_role role.Receiver = walk.Receiver

-- the variable that one in memory stands for
abbrev pub see_local : Local → sites.Local
see_local local = record { name = local.name.now; slot = local.slot; static_type = local.static_type }

-- the names of variables in memory
abbrev pub local_names : List Local → List (List ℕ)
local_names locals = map (λ (local : Local). local.name.now) locals

-- the argument that one in memory stands for
abbrev pub see_passed : Passed → terms.Passed
see_passed passed = record { first = passed.first; static_type = passed.static_type }

-- what a call in memory names
abbrev pub see_target : Target → terms.Target
see_target target = record { class = target.class; number = target.found.number; method = see_method target.found.method }
