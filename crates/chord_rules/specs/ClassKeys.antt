-- What a class breaks of the rules on declarations, chords, constructors, `Main` and limits, each break as one number.
use Rattle.std.specs.Prelude.{ℕ, ◌-◌, List, [], ◌++◌, false, not, ◌&&◌, nat_le, nat_lt, length, drop, Option, is_some, flat_map}
use Rattle.chord_tree.specs.declared.classes.Modifier.{Modifier}
use Rattle.chord_tree.specs.declared.classes.Formal.{Formal}
use Rattle.chord_tree.specs.Tree.{BlockTree, HeaderTree, MemberTree, ConstructorMember, ChordMember, ClassTree, ProgramTree}
use Rattle.chord_tree.specs.Walk.{headers_of}
use Rattle.chord_tree.specs.Program.{spelling}
use Rattle.chord_bodies.specs.Resolved.{ClassOf}
use Rattle.chord_classes.specs.Table.{Method, Shape, method_named, base_of, inherited, from_base}
use Rattle.chord_classes.specs.NameRules.{when}
use Rattle.chord_classes.specs.OverrideRules.{unless_main, differs_from, first_named, overrides, may_override}
use Rattle.chord_classes.specs.Plan.{base_chords}
use Rattle.chord_classes.specs.DeclarationRules.{declared_again, base_missing, repeated_formals, barred_among, OnConstructor}
use Rattle.chord_classes.specs.ChordRules.{repeated, second_sync, formal_tokens, block_names, header_tokens, new_headers, chord_tokens, base_token, misnamed_constructors, base_has, over_plans, mains_of, wrong_mains}
use Rattle.chord_classes.specs.Least.{keys}
use Rattle.chord_rules.specs.FormalNames.{formals_of_header}
use Rattle.chord_rules.specs.Bearers.{header_barred}
use Rattle.chord_rules.specs.Limits.{crowded_formals}
use Rattle.chord_rules.specs.Splits.{split}

-- C05 at one header of a class with these headers
abbrev pub differing : List HeaderTree → HeaderTree → List ℕ
differing headers header = unless_main header (differs_from (first_named headers header.name.text) header)

-- C09 at one header of a class that inherits these methods
abbrev pub hiding : List Method → HeaderTree → List ℕ
hiding methods header = unless_main header (when (not (overrides header) && is_some (method_named methods header.name.text)) header.name.at)

-- C10 at one header of a class that inherits these methods
abbrev pub misfitting : List Method → HeaderTree → List ℕ
misfitting methods header = when (overrides header && not (may_override header (method_named methods header.name.text))) header.name.at

-- what a header breaks of the rules on headers of one name
abbrev pub header_keys : List HeaderTree → List Method → HeaderTree → List ℕ
header_keys headers methods header = keys 5 (differing headers header) ++ (keys 9 (hiding methods header) ++ keys 10 (misfitting methods header))

-- what a constructor breaks
abbrev pub constructor_keys : List Modifier → List Formal → BlockTree → List ℕ
constructor_keys modifiers formals body =
    keys 21 (barred_among OnConstructor modifiers [] modifiers) ++ (keys 8 (repeated_formals [] formals) ++ (keys 4 (drop 8 (formal_tokens formals)) ++ keys 4 (drop 256 (block_names body))))

-- what a chord breaks as a whole
abbrev pub chord_keys : List HeaderTree → List ℕ
chord_keys headers =
    keys 21 (flat_map (header_barred (length headers)) headers) ++ (keys 7 (repeated [] headers) ++ (keys 6 (second_sync false headers) ++ keys 8 (repeated_formals [] (flat_map formals_of_header headers))))

-- the limits that a chord passes
abbrev pub chord_limits : List HeaderTree → BlockTree → List ℕ
chord_limits headers body = keys 4 (drop 8 (header_tokens headers)) ++ (keys 4 (flat_map crowded_formals headers) ++ keys 4 (drop 256 (block_names body)))

-- what a member breaks
abbrev pub keys_of_member : MemberTree → List ℕ
keys_of_member (ConstructorMember modifiers name formals body) = constructor_keys modifiers formals.parameters body
keys_of_member (ChordMember headers body) = chord_keys headers ++ chord_limits headers body

-- what a class breaks of the rules on names of classes, bases and constructors
abbrev pub name_keys : List ClassTree → List Shape → ClassTree → List ℕ
name_keys classes done class =
    keys 1 (declared_again done class) ++ (keys 3 (base_missing done class)
    ++ (keys 12 (misnamed_constructors class.name.text class.members) ++ keys 12 (base_token class.base (base_has classes (base_of done class)))))

-- the limits that a class passes by its place
abbrev pub place_keys : List Shape → ClassTree → List ℕ
place_keys done class = keys 4 (when (nat_le 1024 (length done)) class.name.at) ++ keys 4 (base_token class.base (nat_lt 16 (length (from_base done (base_of done class)))))

-- the headers of a class past its sixteenth method
abbrev pub method_limits : List Shape → ClassTree → List ℕ
method_limits done class = drop (16 - length (inherited done (base_of done class))) (header_tokens (new_headers (length done) (inherited done (base_of done class)) (headers_of class)))

-- the chords of a class past those that it may have
abbrev pub chord_places : List ClassOf → Option ℕ → List MemberTree → List ℕ
chord_places plans base members = drop (256 - length (base_chords plans base)) (chord_tokens members)

-- what a class breaks by its members and their headers
abbrev pub inner_keys : List Shape → List ClassOf → ClassTree → List ℕ
inner_keys done plans class =
    flat_map keys_of_member class.members ++ (keys 4 (chord_places plans (base_of done class) class.members)
    ++ (flat_map (header_keys (headers_of class) (inherited done (base_of done class))) (headers_of class) ++ keys 11 (split done plans class)))

-- what a class breaks, after those declared before it
abbrev pub class_keys : List ClassTree → List Shape → List ClassOf → ClassTree → List ℕ
class_keys classes done plans class = name_keys classes done class ++ (place_keys done class ++ (keys 4 (method_limits done class) ++ inner_keys done plans class))

-- what the classes of a program break
abbrev pub classes_keys : ProgramTree → List ℕ
classes_keys program = over_plans (class_keys program.classes) [] [] 0 program.classes

-- what a program breaks of these rules
abbrev pub program_keys : ProgramTree → List ℕ
program_keys program = classes_keys program ++ keys 13 (wrong_mains (mains_of program.classes) (length (spelling program)))
