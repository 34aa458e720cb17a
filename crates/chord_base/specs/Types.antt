-- Static types of values, and the signatures of methods.
use Rattle.std.specs.Prelude.{◌≡◌, ℕ, List, [], ◌∷◌, Bool, true, Option, Some, None}
use Rattle.chord_base.specs.declared.value.Value as value
use Rattle.chord_base.specs.declared.value.Value.TheVariants as a_value
use Rattle.chord_base.specs.declared.static_type.StaticType.{StaticType}
use Rattle.chord_base.specs.declared.static_type.StaticType.TheVariants as ty

-- a method: whether its callers wait, the types of its parameters, and that of its result, if it has one
pub record Signature : Type 0 where
  pub is_sync : Bool
  pub parameters : List StaticType
  pub result : Option StaticType

-- the methods of each class by their numbers, the parameters of what builds its objects, and which class is another or derives from it
pub record Signatures : Type 0 where
  pub methods : ℕ → ℕ → Option Signature
  pub builders : ℕ → Option (List StaticType)
  pub derives : ℕ → ℕ → Bool

-- a value has a type; where no type is due it is the unit value
abbrev pub Has : Signatures → Option StaticType → value.Value → Type 0
Has sig None a_value.Unit = Unit {0}
Has sig (Some ty.Int) (a_value.Int n) = Unit {0}
Has sig (Some ty.Bool) (a_value.Flag b) = Unit {0}
Has sig (Some ty.Text) (a_value.Text t) = Unit {0}
Has sig (Some (ty.Class c)) (a_value.Ref o) = sig.derives o.class c ≡ true
Has sig _ _ = ⊥

-- values have these types, one by one, and are as many
abbrev pub HaveAll : Signatures → List StaticType → List value.Value → Type 0
HaveAll sig [] [] = Unit {0}
HaveAll sig (t ∷ ts) (v ∷ vs) = Has sig (Some t) v × HaveAll sig ts vs
HaveAll sig [] (v ∷ vs) = ⊥
HaveAll sig (t ∷ ts) [] = ⊥
