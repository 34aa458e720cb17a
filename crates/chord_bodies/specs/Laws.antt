-- What holds of expressions and scopes that keep to their types.
use Rattle.std.specs.Prelude.{◌≡◌, ℕ, Option, Some, slice_get}
use Rattle.chord_base.specs.declared.static_type.StaticType.{StaticType}
use Rattle.chord_bodies.specs.Resolved.{ExprOf, StmtOf, StmtsOf, BodyOf}
use Rattle.chord_bodies.specs.Types.{Signatures, Scope, ValueDue, ExprIs, StmtIs, StmtsAre, opening, slot_types, slot_type, type_of}

-- each variable in scope has the type of its slot
abbrev pub IsScopeOf : BodyOf → Scope → Type 0
IsScopeOf b g = (i : ℕ) (t : StaticType) → slice_get g i ≡ Some (Some t) → slot_type b i ≡ Some t

-- An expression that has a type, in a scope of its body, shows it by its outermost form.
abbrev pub TypesShown : Type 0
TypesShown = (sig : Signatures) (b : BodyOf) (g : Scope) (e : ExprOf) (t : Option StaticType) → IsScopeOf b g → ExprIs sig g e t → type_of b e ≡ t

-- A body begins in a scope of its own, and what keeps to the types of its slots leads from one to another. So each scope of a body that keeps to its types is one of its own.
pub record ScopesKept : Type 0 where
  pub opened : (b : BodyOf) → IsScopeOf b (opening b)
  pub stmt : (sig : Signatures) (b : BodyOf) (due : ValueDue) (s : StmtOf) (g d : Scope) → IsScopeOf b g → StmtIs sig (slot_types b) due s g d → IsScopeOf b d
  pub stmts : (sig : Signatures) (b : BodyOf) (due : ValueDue) (ss : StmtsOf) (g d : Scope) → IsScopeOf b g → StmtsAre sig (slot_types b) due ss g d → IsScopeOf b d
