-- What holds of every program, and of those that break none of the rules on names and types, on headers, or that a plan rests on.
use Rattle.std.specs.Prelude.{◌≡◌, ℕ, List, true, false, Some, slice_get}
use Rattle.chord_tree.specs.Tree.{BlockTree, HeaderTree, ChordMember, ClassTree, ProgramTree}
use Rattle.chord_tree.specs.Program.{IsProgram}
use Rattle.chord_bodies.specs.Resolved.{BodyOf, ClassOf, ChordOf}
use Rattle.chord_bodies.specs.Types.{Signatures, BodyIs}
use Rattle.chord_bodies.specs.Planned.{AreConcatenated, gives, ChordIs}
pub use Rattle.chord_bodies.specs.Planned.{Inherits, IsBuilder, IsPlanned}
use Rattle.chord_classes.specs.Table.{Shape, methods_at, derives, table_of}
use Rattle.chord_classes.specs.Types.{signatures_of}
use Rattle.chord_classes.specs.Site.{has_main}
use Rattle.chord_classes.specs.Plan.{header_numbers, plan_of, resolved_program}
use Rattle.chord_classes.specs.Rules.{IsFree, is_type_rule, is_header_rule, is_plan_rule}
use Rattle.chord_classes.specs.Resolve.{resolved_member, bodies_of}

-- Each body keeps to its static types.
abbrev pub TypesKept : Type 0
TypesKept = (p : ProgramTree) → IsProgram p → IsFree is_type_rule p → (i : ℕ) (b : BodyOf) → slice_get (bodies_of p) i ≡ Some b → BodyIs (signatures_of p) b

-- This holds of every program: the class table takes a method's shape from its first header, in the topmost class that has it.
abbrev pub MethodsInherited : Type 0
MethodsInherited = (p : ProgramTree) → Inherits (signatures_of p)

-- the methods of a chord of a class
abbrev pub chord_methods : List Shape → ℕ → List HeaderTree → List ℕ
chord_methods table class headers = header_numbers (methods_at table class) headers

-- The body of a chord has the parameters of the chord's methods laid together, and gives the result of the synchronous one: in the class of its text and in each that derives from it.
pub record ChordKept (sig : Signatures) (class : ℕ) (methods : List ℕ) (body : BodyOf) : Type 0 where
  pub parameters : AreConcatenated sig class methods body.parameters
  pub result : gives sig class methods body.result

-- Where the headers of one name agree in a program, this holds of each of its chords but that of `Main`.
abbrev pub ChordsKept : Type 0
ChordsKept =
    (p : ProgramTree) → IsFree is_header_rule p → (n k d : ℕ) (class : ClassTree) (headers : List HeaderTree) (body : BlockTree)
    → slice_get p.classes n ≡ Some class → slice_get class.members k ≡ Some (ChordMember headers body) → has_main headers ≡ false → derives (table_of p) d n ≡ true
    → ChordKept (signatures_of p) d (chord_methods (table_of p) n headers) (resolved_member (table_of p) n class (ChordMember headers body))

-- Each effective chord of a class has a body whose parameters and result are those of its methods, which are some, few and different.
abbrev pub ChordsPlanned : Type 0
ChordsPlanned =
    (p : ProgramTree) → IsProgram p → IsFree is_plan_rule p → (c k : ℕ) (x : ClassOf) (y : ChordOf) → slice_get (plan_of p) c ≡ Some x → slice_get x.chords k ≡ Some y
    → ChordIs (signatures_of p) (resolved_program p) c y

-- The plan of a program that breaks none of its rules is as sound code needs it.
abbrev pub PlanKept : Type 0
PlanKept = (p : ProgramTree) → IsProgram p → IsFree is_plan_rule p → IsPlanned (signatures_of p) (resolved_program p)
