-- The plan of a program: the methods, the effective chords and the constructor of each class, by their numbers.
use Rattle.std.specs.Prelude.{ℕ, ◌+◌, List, [], ◌∷◌, ◌++◌, Bool, true, not, cond, ◌&&◌, length, map, slice_get, Option, Some, None, option_map, unwrap_or}
use Rattle.chord_tree.specs.Tree.{HeaderTree, MemberTree, ConstructorMember, ChordMember, ClassTree, ProgramTree}
use Rattle.chord_tree.specs.Walk.{headers_of}
use Rattle.chord_bodies.specs.Resolved.{MethodOf, ChordOf, ClassOf, Resolved}
use Rattle.chord_classes.specs.Table.{Method, Found, Shape, method_named, base_of, inherited, shape_of, among}
use Rattle.chord_classes.specs.Types.{is_sync}
use Rattle.chord_classes.specs.Site.{has_main, member_in_main}
use Rattle.chord_classes.specs.OverrideRules.{overrides}
use Rattle.chord_classes.specs.Resolve.{bodies_of}

-- the number of the method that a header is of
abbrev pub header_number : List Method → HeaderTree → ℕ
header_number methods header = unwrap_or (option_map (λ (found : Found). found.number) (method_named methods header.name.text)) 0

-- the methods of a chord, in the order of its headers
abbrev pub header_numbers : List Method → List HeaderTree → List ℕ
header_numbers methods headers = map (header_number methods) headers

-- the number of a method that was found
abbrev pub number_in : Option Found → List ℕ
number_in None = []
number_in (Some found) = found.number ∷ []

-- the methods of the base class that headers with `override` name
abbrev pub overridden : List Method → List HeaderTree → List ℕ
overridden methods [] = []
overridden methods (header ∷ more) = cond (overrides header) (number_in (method_named methods header.name.text)) [] ++ overridden methods more

-- none of these methods is among those
abbrev pub spared : List ℕ → List ℕ → Bool
spared others [] = true
spared others (method ∷ more) = not (among method others) && spared others more

-- the chords that have none of these methods
abbrev pub chords_without : List ℕ → List ChordOf → List ChordOf
chords_without others [] = []
chords_without others (chord ∷ more) = cond (spared others chord.methods) (chord ∷ []) [] ++ chords_without others more

-- the chords of members, of which the first has this number; that of `Main` is none
abbrev pub own_chords : List Method → ℕ → List MemberTree → List ChordOf
own_chords methods number [] = []
own_chords methods number (ConstructorMember modifiers name formals body ∷ more) = own_chords methods (number + 1) more
own_chords methods number (ChordMember headers body ∷ more) = cond (has_main headers) [] (record { body = number; methods = header_numbers methods headers } ∷ []) ++ own_chords methods (number + 1) more

-- the first constructor among members, of which the first has this number
abbrev pub own_builder : ℕ → List MemberTree → Option ℕ
own_builder number [] = None
own_builder number (ConstructorMember modifiers name formals body ∷ more) = Some number
own_builder number (ChordMember headers body ∷ more) = own_builder (number + 1) more

-- the effective chords of a class that is there
abbrev pub chords_in : Option ClassOf → List ChordOf
chords_in None = []
chords_in (Some class) = class.chords

-- the effective chords of a base class
abbrev pub base_chords : List ClassOf → Option ℕ → List ChordOf
base_chords plans None = []
base_chords plans (Some base) = chords_in (slice_get plans base)

-- what the plan says of a method
abbrev pub method_plan : Method → MethodOf
method_plan method = record { name = method.name; is_sync = is_sync method.result_type; parameters = length method.formals }

-- A class after those before it, where its first member has this number. Its effective chords are those of its base that have no overridden method, and then its own.
abbrev pub class_plan : List Shape → List ClassOf → ℕ → ClassTree → ClassOf
class_plan done plans number class = record {
  name = class.name.text;
  base = base_of done class;
  methods = map method_plan (shape_of done class).methods;
  chords = chords_without (overridden (inherited done (base_of done class)) (headers_of class)) (base_chords plans (base_of done class)) ++ own_chords (shape_of done class).methods number class.members;
  own = map (λ (chord : ChordOf). chord.body) (own_chords (shape_of done class).methods number class.members);
  constructor_body = own_builder number class.members;
}

-- the classes so far, and the others after them
abbrev pub plans_after : List Shape → List ClassOf → ℕ → List ClassTree → List ClassOf
plans_after done plans number [] = plans
plans_after done plans number (class ∷ more) = plans_after (done ++ (shape_of done class ∷ [])) (plans ++ (class_plan done plans number class ∷ [])) (number + length class.members) more

-- the plan of a program
abbrev pub plan_of : ProgramTree → List ClassOf
plan_of program = plans_after [] [] 0 program.classes

-- the first member that is `Main`, among members of which the first has this number
abbrev pub main_among : ℕ → List MemberTree → Option ℕ
main_among number [] = None
main_among number (member ∷ more) = cond (member_in_main member) (Some number) (main_among (number + 1) more)

-- the first of two numbers that is there
abbrev pub or_else : Option ℕ → Option ℕ → Option ℕ
or_else (Some number) others = Some number
or_else None others = others

-- the first member that is `Main` among classes, of which the first member has this number
abbrev pub main_in : ℕ → List ClassTree → Option ℕ
main_in number [] = None
main_in number (class ∷ more) = or_else (main_among number class.members) (main_in (number + length class.members) more)

-- the member that is `Main`; where there is none, which is broken, any
abbrev pub main_of : ProgramTree → ℕ
main_of program = unwrap_or (main_in 0 program.classes) 0

-- a program with all names resolved
abbrev pub resolved_program : ProgramTree → Resolved
resolved_program program = record { classes = plan_of program; bodies = bodies_of program; main = main_of program }
