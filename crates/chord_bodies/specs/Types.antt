-- When resolved expressions, statements and bodies keep to their static types.
use Rattle.std.specs.Prelude.{◌≡◌, ℕ, zero, suc, List, [], ◌∷◌, ◌++◌, map, Bool, true, false, ◌&&◌, ◌||◌, Option, Some, None, slice_get}
use Rattle.chord_base.specs.declared.operation.Operation.{Operation}
use Rattle.chord_base.specs.declared.operation.Operation.TheVariants.{Add, Subtract, Multiply, Divide, Remainder, Join, Equal, NotEqual, Less, Greater, LessOrEqual, GreaterOrEqual}
use Rattle.chord_base.specs.declared.static_type.StaticType.{StaticType}
use Rattle.chord_base.specs.declared.static_type.StaticType.TheVariants as ty
pub use Rattle.chord_base.specs.Types.{Signature, Signatures, Has, HaveAll}
use Rattle.chord_bodies.specs.Resolved.{ExprOf, ExprsOf, StmtOf, StmtsOf, BodyOf, IntOf, FlagOf, TextOf, Load, This, Negate, Deny, Operate, Both, Either, New, Call, NoExprs, MoreExprs, Store, Do, Send, Print, IfThen, IfElse, While, Return, Give, Block, NoStmts, MoreStmts}

-- a value of the first type may stand where the second is wanted: a class fits its base classes
abbrev pub fits : Signatures → StaticType → StaticType → Bool
fits sig ty.Int ty.Int = true
fits sig ty.Bool ty.Bool = true
fits sig ty.Text ty.Text = true
fits sig (ty.Class d) (ty.Class c) = sig.derives d c
fits sig _ _ = false

-- the types of the slots that are in scope
abbrev pub Scope : Type 0
Scope = List (Option StaticType)

-- the type of what an operator gives, where its operands fit it; two objects of any classes do, and which of them a source may compare is a rule of chord_classes (C15)
abbrev pub operation_result : Signatures → Operation → StaticType → StaticType → Option StaticType
operation_result sig Add ty.Int ty.Int = Some ty.Int
operation_result sig Subtract ty.Int ty.Int = Some ty.Int
operation_result sig Multiply ty.Int ty.Int = Some ty.Int
operation_result sig Divide ty.Int ty.Int = Some ty.Int
operation_result sig Remainder ty.Int ty.Int = Some ty.Int
operation_result sig Less ty.Int ty.Int = Some ty.Bool
operation_result sig Greater ty.Int ty.Int = Some ty.Bool
operation_result sig LessOrEqual ty.Int ty.Int = Some ty.Bool
operation_result sig GreaterOrEqual ty.Int ty.Int = Some ty.Bool
operation_result sig Join ty.Text ty.Int = Some ty.Text
operation_result sig Join ty.Text ty.Bool = Some ty.Text
operation_result sig Join ty.Text ty.Text = Some ty.Text
operation_result sig Join ty.Int ty.Text = Some ty.Text
operation_result sig Join ty.Bool ty.Text = Some ty.Text
operation_result sig Equal ty.Int ty.Int = Some ty.Bool
operation_result sig Equal ty.Bool ty.Bool = Some ty.Bool
operation_result sig Equal ty.Text ty.Text = Some ty.Bool
operation_result sig Equal (ty.Class c) (ty.Class d) = Some ty.Bool
operation_result sig NotEqual ty.Int ty.Int = Some ty.Bool
operation_result sig NotEqual ty.Bool ty.Bool = Some ty.Bool
operation_result sig NotEqual ty.Text ty.Text = Some ty.Bool
operation_result sig NotEqual (ty.Class c) (ty.Class d) = Some ty.Bool
operation_result sig _ _ _ = None

abbrev mutual
  -- an expression has this type in a scope; None is that of a call without a value
  pub ExprIs : Signatures → Scope → ExprOf → Option StaticType → Type 0
  ExprIs sig g (IntOf n) t = t ≡ Some ty.Int
  ExprIs sig g (FlagOf b) t = t ≡ Some ty.Bool
  ExprIs sig g (TextOf bs) t = t ≡ Some ty.Text
  ExprIs sig g (Load i) t = (a : StaticType) × (slice_get g i ≡ Some (Some a)) × (t ≡ Some a)
  ExprIs sig g This t = (a : StaticType) × (slice_get g 0 ≡ Some (Some a)) × (t ≡ Some a)
  ExprIs sig g (Negate e) t = ExprIs sig g e (Some ty.Int) × (t ≡ Some ty.Int)
  ExprIs sig g (Deny e) t = ExprIs sig g e (Some ty.Bool) × (t ≡ Some ty.Bool)
  ExprIs sig g (Operate op l r) t = (a b c : StaticType) × ExprIs sig g l (Some a) × ExprIs sig g r (Some b) × (operation_result sig op a b ≡ Some c) × (t ≡ Some c)
  ExprIs sig g (Both l r) t = ExprIs sig g l (Some ty.Bool) × ExprIs sig g r (Some ty.Bool) × (t ≡ Some ty.Bool)
  ExprIs sig g (Either l r) t = ExprIs sig g l (Some ty.Bool) × ExprIs sig g r (Some ty.Bool) × (t ≡ Some ty.Bool)
  ExprIs sig g (New c args) t = (ps : List StaticType) × (sig.builders c ≡ Some ps) × ExprsAre sig g args ps × (t ≡ Some (ty.Class c))
  ExprIs sig g (Call r c j result args) t =
      (m : Signature) × ExprIs sig g r (Some (ty.Class c)) × (sig.methods c j ≡ Some m) × (m.is_sync ≡ true) × ExprsAre sig g args m.parameters × (result ≡ m.result) × (t ≡ result)

  -- each argument fits its parameter
  pub ExprsAre : Signatures → Scope → ExprsOf → List StaticType → Type 0
  ExprsAre sig g NoExprs [] = Unit {0}
  ExprsAre sig g (MoreExprs e es) (p ∷ ps) = (a : StaticType) × ExprIs sig g e (Some a) × (fits sig a p ≡ true) × ExprsAre sig g es ps
  ExprsAre sig g NoExprs (p ∷ ps) = ⊥
  ExprsAre sig g (MoreExprs e es) [] = ⊥

-- a value of this type can be printed
abbrev pub prints : StaticType → Bool
prints ty.Int = true
prints ty.Bool = true
prints ty.Text = true
prints (ty.Class c) = false

-- a slot that had a type has it still
abbrev pub Keeps : Option StaticType → Option StaticType → Type 0
Keeps more None = Unit {0}
Keeps more (Some t) = more ≡ Some t

-- the first scope has as many slots as the second, and what that has in scope
abbrev pub Extends : Scope → Scope → Type 0
Extends [] [] = Unit {0}
Extends (m ∷ ms) (k ∷ ks) = Keeps m k × Extends ms ks
Extends [] (k ∷ ks) = ⊥
Extends (m ∷ ms) [] = ⊥

-- the scope where this slot has this type
abbrev pub declared : ℕ → StaticType → Scope → Scope
declared i t [] = []
declared zero t (x ∷ xs) = Some t ∷ xs
declared (suc i) t (x ∷ xs) = x ∷ declared i t xs

-- the type of the value that `return` is to give: none in a constructor and where no value is due
abbrev pub ValueDue : Type 0
ValueDue = Option StaticType

abbrev mutual
  -- A statement keeps to its types, from one scope to the next. Each variable has the type that its slot has among those of all slots.
  pub StmtIs : Signatures → Scope → ValueDue → StmtOf → Scope → Scope → Type 0
  StmtIs sig types due (Store i e) g d = (a t : StaticType) × (old : Option StaticType) × ExprIs sig g e (Some a) × (fits sig a t ≡ true) × (slice_get types i ≡ Some (Some t)) × (slice_get g i ≡ Some old) × Keeps (Some t) old × (d ≡ declared i t g)
  StmtIs sig types due (Do e) g d = (t : Option StaticType) × ExprIs sig g e t × (d ≡ g)
  StmtIs sig types due (Send r c j args) g d = (m : Signature) × ExprIs sig g r (Some (ty.Class c)) × (sig.methods c j ≡ Some m) × (m.is_sync ≡ false) × ExprsAre sig g args m.parameters × (d ≡ g)
  StmtIs sig types due (Print e) g d = (a : StaticType) × ExprIs sig g e (Some a) × (prints a ≡ true) × (d ≡ g)
  StmtIs sig types due (IfThen e s) g d = (a : Scope) × ExprIs sig g e (Some ty.Bool) × StmtIs sig types due s g a × Extends a g × (d ≡ g)
  StmtIs sig types due (IfElse e s u) g d = (a b : Scope) × ExprIs sig g e (Some ty.Bool) × StmtIs sig types due s g a × StmtIs sig types due u g b × Extends a g × Extends b g × (d ≡ g)
  StmtIs sig types due (While e s) g d = (a : Scope) × ExprIs sig g e (Some ty.Bool) × StmtIs sig types due s g a × Extends a g × (d ≡ g)
  StmtIs sig types due Return g d = (due ≡ None) × (d ≡ g)
  StmtIs sig types due (Give e) g d = (a t : StaticType) × ExprIs sig g e (Some a) × (due ≡ Some t) × (fits sig a t ≡ true) × (d ≡ g)
  StmtIs sig types due (Block ss) g d = (a : Scope) × StmtsAre sig types due ss g a × Extends a g × (d ≡ g)

  -- the statements of a block keep to their types, each in the scope that the one before it leaves
  pub StmtsAre : Signatures → Scope → ValueDue → StmtsOf → Scope → Scope → Type 0
  StmtsAre sig types due NoStmts g d = d ≡ g
  StmtsAre sig types due (MoreStmts s ss) g d = (a : Scope) × StmtIs sig types due s g a × StmtsAre sig types due ss a d

-- the word `true`
abbrev pub is_true : ExprOf → Bool
is_true (FlagOf b) = b
is_true _ = false

abbrev mutual
  -- a statement surely returns
  pub returns : StmtOf → Bool
  returns Return = true
  returns (Give e) = true
  returns (Block ss) = one_returns ss
  returns (IfElse e s u) = returns s && returns u
  returns (While e s) = is_true e
  returns (IfThen e s) = false
  returns (Store i e) = false
  returns (Do e) = false
  returns (Send r c j args) = false
  returns (Print e) = false

  -- one of the statements surely returns
  pub one_returns : StmtsOf → Bool
  one_returns NoStmts = false
  one_returns (MoreStmts s ss) = returns s || one_returns ss

-- the type of `this`, which `Main` has not
abbrev pub this_in : Bool → ℕ → Option StaticType
this_in true c = None
this_in false c = Some (ty.Class c)

-- the scope in which a body begins: parameters are in scope, locals are not
abbrev pub opening : BodyOf → Scope
opening b = this_in b.is_main b.class ∷ (map (λ t. Some t) b.parameters ++ map (λ t. None) b.locals)

-- the types of all slots of a body; `this` has none in `Main`
abbrev pub slot_types : BodyOf → List (Option StaticType)
slot_types b = this_in b.is_main b.class ∷ map (λ t. Some t) (b.parameters ++ b.locals)

-- a body keeps to its types, and one with a value does not fall off its end
pub record BodyIs (sig : Signatures) (b : BodyOf) : Type 0 where
  pub last : Scope
  pub stmts : StmtsAre sig (slot_types b) b.result b.stmts (opening b) last
  pub ends : (t : StaticType) → b.result ≡ Some t → one_returns b.stmts ≡ true

-- the type of what is there, if it has one
abbrev pub typed_slot : Option (Option StaticType) → Option StaticType
typed_slot None = None
typed_slot (Some t) = t

-- the type of a slot of a body
abbrev pub slot_type : BodyOf → ℕ → Option StaticType
slot_type b slot = typed_slot (slice_get (slot_types b) slot)

-- the type of what an operator gives, whatever its operands are
abbrev pub operation_type : Operation → StaticType
operation_type Add = ty.Int
operation_type Subtract = ty.Int
operation_type Multiply = ty.Int
operation_type Divide = ty.Int
operation_type Remainder = ty.Int
operation_type Join = ty.Text
operation_type Equal = ty.Bool
operation_type NotEqual = ty.Bool
operation_type Less = ty.Bool
operation_type Greater = ty.Bool
operation_type LessOrEqual = ty.Bool
operation_type GreaterOrEqual = ty.Bool

-- the type that an expression of a body shows by its outermost form; None where it has no value
abbrev pub type_of : BodyOf → ExprOf → Option StaticType
type_of b (IntOf n) = Some ty.Int
type_of b (FlagOf x) = Some ty.Bool
type_of b (TextOf bs) = Some ty.Text
type_of b (Load i) = slot_type b i
type_of b This = slot_type b 0
type_of b (Negate e) = Some ty.Int
type_of b (Deny e) = Some ty.Bool
type_of b (Operate op l r) = Some (operation_type op)
type_of b (Both l r) = Some ty.Bool
type_of b (Either l r) = Some ty.Bool
type_of b (New c args) = Some (ty.Class c)
type_of b (Call r c j result args) = result
