-- How `new` makes and builds an object.
use Rattle.std.specs.Prelude.{ℕ, ◌==◌, zero, suc, List, [], ◌∷◌, length, Bool, true, false, Option, Some, None, slice_get, option_and_then}
use Rattle.chord_base.specs.declared.value.Value.{Value}
use Rattle.chord_base.specs.declared.value.Value.TheVariants.{Ref}
use Rattle.chord_base.specs.declared.event.Trap.TheVariants.{TooDeep}
use Rattle.chord_base.specs.declared.event.End.TheVariants.{Traps}
use Rattle.chord_bodies.specs.Resolved.{BodyOf, ClassOf, Resolved}
use Rattle.chord_code.specs.Plays.{Play, MakesObject, EndsBody, GoesWrong}
use Rattle.chord_source.specs.Continuing.{Maker, on_found}
use Rattle.chord_source.specs.Statements.{run_body}

-- the constructor that a class has itself
abbrev pub constructor_of : Resolved → ClassOf → Option BodyOf
constructor_of p x = option_and_then (λ i. slice_get p.bodies i) x.constructor_body

-- the class that a class is derived from
abbrev pub base_class : Resolved → ClassOf → Option ClassOf
base_class p x = option_and_then (λ b. slice_get p.classes b) x.base

-- how many arguments a constructor takes; where there is none, none
abbrev pub constructor_arity : Option BodyOf → ℕ
constructor_arity None = 0
constructor_arity (Some b) = length b.parameters

-- how many arguments `new` of a class takes
abbrev pub class_arity : Resolved → ClassOf → ℕ
class_arity p x = constructor_arity (constructor_of p x)

-- a constructor runs on the object and its arguments, if there is one
abbrev pub run_constructor : ℕ → Maker → Option BodyOf → Value → List Value → (ℕ → Play) → ℕ → Play
run_constructor room maker None o xs k t = k t
run_constructor room maker (Some b) o xs k t = run_body room maker (Some k) b (o ∷ xs) t

-- The constructors of the classes above run, from the topmost one down, on no arguments, and then the class's own on these. There are fewer classes above than classes.
abbrev pub build : Resolved → ℕ → Maker → Option ClassOf → ℕ → Value → List Value → (ℕ → Play) → ℕ → Play
build p room maker None n o xs k t = k t
build p room maker (Some x) zero o xs k t = GoesWrong
build p room maker (Some x) (suc n) o xs k t = build p room maker (base_class p x) n o [] (run_constructor room maker (constructor_of p x) o xs k) t

-- there are as many arguments as the class takes
abbrev pub if_arity : Bool → Play → Play
if_arity false p = GoesWrong
if_arity true p = p

-- `new`: a trap at the depth limit; else the object is made, and its constructors run in the same body, one deeper, and count its turns
abbrev pub make_object : Resolved → ℕ → Maker
make_object p zero c xs k t = EndsBody (Traps TooDeep)
make_object p (suc room) c xs k t =
    on_found (slice_get p.classes c) (λ x. if_arity (length xs == class_arity p x) (MakesObject c (λ o. build p room (make_object p room) (Some x) (length p.classes) (Ref o) xs (k (Ref o)) t)))
