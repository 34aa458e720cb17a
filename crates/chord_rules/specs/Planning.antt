-- The plan of a class, part by part.
use Rattle.std.specs.Prelude.{◌≡◌, ℕ, List, [], ◌++◌, length, map, slice_get, Option, Some, None}
use Rattle.chord_bodies.specs.Resolved.{MethodOf, ChordOf, ClassOf}
use Rattle.chord_tree.specs.Tree.{ClassTree}
use Rattle.chord_classes.specs.Table.{Method, Shape, methods_at}
use Rattle.chord_classes.specs.Plan.{method_plan, own_chords, own_builder}

-- the members that are bodies of chords
abbrev pub chord_bodies : List ChordOf → List ℕ
chord_bodies chords = map (λ (chord : ChordOf). chord.body) chords

-- the methods of the plan of a class that is there
abbrev pub planned_methods : Option ClassOf → List MethodOf
planned_methods None = []
planned_methods (Some plan) = plan.methods

-- the methods of the plan of a base class
abbrev pub base_methods : List ClassOf → Option ℕ → List MethodOf
base_methods plans None = []
base_methods plans (Some base) = planned_methods (slice_get plans base)

-- The plan of each class has the methods of its shape.
abbrev pub ArePlanned : List Shape → List ClassOf → Type 0
ArePlanned shapes plans = (class : ℕ) → planned_methods (slice_get plans class) ≡ map method_plan (methods_at shapes class)

-- how many classes are above each class
abbrev pub depths_of : List Shape → List ℕ
depths_of shapes = map (λ (shape : Shape). length shape.above) shapes

-- Plans and depths are those of the classes of these shapes.
pub record AreAlike (shapes : List Shape) (plans : List ClassOf) (depths : List ℕ) : Type 0 where
  pub methods : ArePlanned shapes plans
  pub count : length plans ≡ length shapes
  pub depths_are : depths ≡ depths_of shapes

-- the plan of a class with these methods, of its plan's methods and the chords that it inherits, where its first member has this number
abbrev pub plan_parts : List Method → Option ℕ → ClassTree → List MethodOf → List ChordOf → ℕ → ClassOf
plan_parts methods base class plans inherited number = record {
  name = class.name.text;
  base = base;
  methods = plans;
  chords = inherited ++ own_chords methods number class.members;
  own = chord_bodies (own_chords methods number class.members);
  constructor_body = own_builder number class.members;
}
