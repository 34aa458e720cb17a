-- The rule on modifiers, modifier by modifier.
use Rattle.std.specs.Prelude.{ℕ, List, [], ◌∷◌, ◌++◌, Bool, true, not, ◌&&◌, ◌||◌, nat_eq}
use Rattle.chord_tree.specs.declared.classes.ModifierKeyword.{ModifierKeyword}
use Rattle.chord_tree.specs.declared.classes.ModifierKeyword.TheVariants as modifiers
use Rattle.chord_tree.specs.declared.classes.Modifier.{Modifier}
use Rattle.chord_tree.specs.Tree.{HeaderTree}
use Rattle.chord_classes.specs.Table.{is_main}
use Rattle.chord_classes.specs.NameRules.{when}
use Rattle.chord_classes.specs.DeclarationRules as rules
use Rattle.chord_rules.specs.declared.modifiers.Bearer.{Bearer}
use Rattle.chord_rules.specs.declared.modifiers.Bearer.TheVariants as bearers
use Rattle.chord_rules.specs.declared.modifiers.Seen.{Seen}

-- the bearer that one in memory stands for
abbrev pub see_bearer : Bearer → rules.Bearer
see_bearer bearers.Constructor = rules.OnConstructor
see_bearer (bearers.Header main_alone) = rules.InHeader main_alone

-- a modifier is not allowed behind those that were seen, beside others of which one may be `public` or `protected`
abbrev pub barred_by : rules.Bearer → Seen → Bool → ModifierKeyword → Bool
barred_by bearer seen open_access modifiers.Public = seen.access
barred_by bearer seen open_access modifiers.Protected = seen.access
barred_by bearer seen open_access modifiers.Private = seen.access
barred_by bearer seen open_access modifiers.Static = seen.of_static || (seen.of_virtual || not (rules.bears_static bearer))
barred_by bearer seen open_access modifiers.Virtual = seen.of_virtual || (seen.of_static || (not (rules.bears_virtual bearer) || not open_access))
barred_by bearer seen open_access modifiers.Override = seen.of_virtual || (seen.of_static || (not (rules.bears_virtual bearer) || not open_access))

-- what was seen, and one modifier more
abbrev pub seen_with : Seen → ModifierKeyword → Seen
seen_with seen modifiers.Public = record { access = true; of_static = seen.of_static; of_virtual = seen.of_virtual }
seen_with seen modifiers.Protected = record { access = true; of_static = seen.of_static; of_virtual = seen.of_virtual }
seen_with seen modifiers.Private = record { access = true; of_static = seen.of_static; of_virtual = seen.of_virtual }
seen_with seen modifiers.Static = record { access = seen.access; of_static = true; of_virtual = seen.of_virtual }
seen_with seen modifiers.Virtual = record { access = seen.access; of_static = seen.of_static; of_virtual = true }
seen_with seen modifiers.Override = record { access = seen.access; of_static = seen.of_static; of_virtual = true }

-- the modifiers that are not allowed, behind those that were seen
abbrev pub barred_from : rules.Bearer → Bool → Seen → List Modifier → List ℕ
barred_from bearer open_access seen [] = []
barred_from bearer open_access seen (modifier ∷ more) =
    when (barred_by bearer seen open_access modifier.keyword) modifier.at ++ barred_from bearer open_access (seen_with seen modifier.keyword) more

-- the modifiers of a header that are not allowed, where its chord has so many headers
abbrev pub header_barred : ℕ → HeaderTree → List ℕ
header_barred count header = rules.barred_among (rules.InHeader (is_main header && nat_eq count 1)) header.modifiers [] header.modifiers
