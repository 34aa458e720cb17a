-- What the plan of an accepted program says of its bodies.
use Rattle.std.specs.Prelude.{◌≡◌, ◌<◌, ◌≤◌, ℕ, List, [], ◌∷◌, ◌++◌, length, Bool, true, false, Option, Some, None, slice_get}
use Rattle.chord_base.specs.Meaning.{OneSync}
use Rattle.chord_base.specs.Messages.{AreDifferent, has}
use Rattle.chord_base.specs.declared.static_type.StaticType.{StaticType}
use Rattle.chord_bodies.specs.Resolved.{BodyOf, ClassOf, ChordOf, MethodOf, Resolved}
use Rattle.chord_bodies.specs.Types.{Signature, Signatures}

-- the parameters of these methods of a class, laid together
abbrev pub AreConcatenated : Signatures → ℕ → List ℕ → List StaticType → Type 0
AreConcatenated sig c [] ts = ts ≡ []
AreConcatenated sig c (j ∷ js) ts = (m : Signature) × (rest : List StaticType) × (sig.methods c j ≡ Some m) × (ts ≡ m.parameters ++ rest) × AreConcatenated sig c js rest

-- one of two facts, by whether callers wait
abbrev pub if_sync : Bool → Type 0 → Type 0 → Type 0
if_sync true A B = A
if_sync false A B = B

-- the result of the one synchronous method of these, or none
abbrev pub gives : Signatures → ℕ → List ℕ → Option StaticType → Type 0
gives sig c [] r = r ≡ None
gives sig c (j ∷ js) r = (m : Signature) × (sig.methods c j ≡ Some m) × if_sync m.is_sync (r ≡ m.result) (gives sig c js r)

-- whether callers of a method wait
abbrev pub is_sync_in : Option Signature → Bool
is_sync_in None = false
is_sync_in (Some m) = m.is_sync

-- what sound code needs of an effective chord of a class
pub record ChordIs (sig : Signatures) (p : Resolved) (c : ℕ) (k : ChordOf) : Type 0 where
  pub body : BodyOf
  pub there : slice_get p.bodies k.body ≡ Some body
  pub is_chord : (body.is_main ≡ false) × (body.is_constructor ≡ false)
  pub derives : sig.derives c body.class ≡ true
  pub some : 0 < length k.methods
  pub few : length k.methods ≤ 8
  pub different : AreDifferent k.methods
  pub one_sync : OneSync (λ j. is_sync_in (sig.methods c j)) k.methods
  pub parameters : AreConcatenated sig c k.methods body.parameters
  pub result : gives sig c k.methods body.result

-- A class has the methods of the classes that it derives from, by the same numbers and with the same signatures; deriving is reflexive and transitive.
pub record Inherits (sig : Signatures) : Type 0 where
  pub inherits : (d c j : ℕ) (m : Signature) → sig.derives d c ≡ true → sig.methods c j ≡ Some m → sig.methods d j ≡ Some m
  pub itself : (c : ℕ) → sig.derives c c ≡ true
  pub along : (d c b : ℕ) → sig.derives d c ≡ true → sig.derives c b ≡ true → sig.derives d b ≡ true

-- The constructor of a class is a body of that class without a result, and its parameters are what the class's objects are built from.
pub record IsBuilder (sig : Signatures) (p : Resolved) (c i : ℕ) : Type 0 where
  pub body : BodyOf
  pub there : slice_get p.bodies i ≡ Some body
  pub not_main : body.is_main ≡ false
  pub is_constructor : body.is_constructor ≡ true
  pub class : body.class ≡ c
  pub result : body.result ≡ None
  pub parameters : sig.builders c ≡ Some body.parameters

-- What sound code needs of a plan.
pub record IsPlanned (sig : Signatures) (p : Resolved) : Type 0 where
  pub few : length p.classes ≤ 1024
  pub few_methods : (c : ℕ) (x : ClassOf) → slice_get p.classes c ≡ Some x → length x.methods ≤ 16
  pub few_chords : (c : ℕ) (x : ClassOf) → slice_get p.classes c ≡ Some x → length x.chords ≤ 256
  pub few_parameters : (c j : ℕ) (x : ClassOf) (y : MethodOf) → slice_get p.classes c ≡ Some x → slice_get x.methods j ≡ Some y → y.parameters ≤ 8
  pub few_built : (c : ℕ) (ps : List StaticType) → sig.builders c ≡ Some ps → length ps ≤ 8
  -- a base class stands before its classes
  pub bases : (c b : ℕ) (x : ClassOf) → slice_get p.classes c ≡ Some x → x.base ≡ Some b → b < c
  pub inherits : Inherits sig
  -- a method has the kind and the number of parameters of its signature
  pub kinds : (c j : ℕ) (x : ClassOf) (y : MethodOf) → slice_get p.classes c ≡ Some x → slice_get x.methods j ≡ Some y → (m : Signature) × (sig.methods c j ≡ Some m) × (y.is_sync ≡ m.is_sync) × (y.parameters ≡ length m.parameters)
  pub chords : (c k : ℕ) (x : ClassOf) (y : ChordOf) → slice_get p.classes c ≡ Some x → slice_get x.chords k ≡ Some y → ChordIs sig p c y
  -- the body of `Main` has no parameters and no result
  pub main : (b : BodyOf) × (slice_get p.bodies p.main ≡ Some b) × (b.is_main ≡ true) × (b.parameters ≡ []) × (b.result ≡ None)
  -- each method of a signature is one of the plan
  pub methods : (c j : ℕ) (m : Signature) → sig.methods c j ≡ Some m → (x : ClassOf) × (y : MethodOf) × (slice_get p.classes c ≡ Some x) × (slice_get x.methods j ≡ Some y) × (y.is_sync ≡ m.is_sync) × (y.parameters ≡ length m.parameters)
  -- a class derives from its base
  pub derives : (c b : ℕ) (x : ClassOf) → slice_get p.classes c ≡ Some x → x.base ≡ Some b → sig.derives c b ≡ true
  -- the body of each chord is one of some class's own
  pub owned : (c k : ℕ) (x : ClassOf) (y : ChordOf) → slice_get p.classes c ≡ Some x → slice_get x.chords k ≡ Some y → (d : ℕ) × (z : ClassOf) × (slice_get p.classes d ≡ Some z) × (has y.body z.own ≡ true)
  -- what objects are built of is a class, and its own constructor is one
  pub classes : (c : ℕ) (ps : List StaticType) → sig.builders c ≡ Some ps → (x : ClassOf) × (slice_get p.classes c ≡ Some x)
  pub own : (c i : ℕ) (x : ClassOf) → slice_get p.classes c ≡ Some x → x.constructor_body ≡ Some i → IsBuilder sig p c i
  -- a base class is built from nothing, and so is a class without a constructor
  pub bases_built : (c b : ℕ) (x : ClassOf) → slice_get p.classes c ≡ Some x → x.base ≡ Some b → sig.builders b ≡ Some []
  pub unbuilt : (c : ℕ) (x : ClassOf) → slice_get p.classes c ≡ Some x → x.constructor_body ≡ None → sig.builders c ≡ Some []
