-- The join machine of a source: what each of its bodies does, the chords of its classes, and which methods' callers wait.
use Rattle.std.specs.Prelude.{ℕ, ◌-◌, List, [], ◌∷◌, map, Bool, false, Option, Some, None, slice_get}
use Rattle.chord_base.specs.Meaning.{Start, Main, Chord, Program}
use Rattle.chord_base.specs.declared.event.Limits.{Limits}
use Rattle.chord_base.specs.declared.value.Value.TheVariants.{Unit, Ref}
use Rattle.chord_bodies.specs.Resolved.{BodyOf, ClassOf, ChordOf, MethodOf, Resolved}
use Rattle.chord_code.specs.Plays.{Play, ask_of, left_after}
use Rattle.chord_source.specs.Continuing.{on_found}
use Rattle.chord_source.specs.Statements.{run_body}
use Rattle.chord_source.specs.Objects.{make_object}

-- the effective chords of a class, and none where there is no such class
abbrev pub class_chords : Option ClassOf → List ChordOf
class_chords None = []
class_chords (Some x) = x.chords

-- the methods of a class, and none where there is no such class
abbrev pub class_methods : Option ClassOf → List MethodOf
class_methods None = []
class_methods (Some x) = x.methods

-- whether callers of a method of the plan wait
abbrev pub plan_is_sync : Option MethodOf → Bool
plan_is_sync None = false
plan_is_sync (Some m) = m.is_sync

-- the body of a chord of the plan
abbrev pub chord_body : Resolved → Option ChordOf → Option BodyOf
chord_body p None = None
chord_body p (Some k) = slice_get p.bodies k.body

-- What a body does that begins so at this depth: `Main` on nothing, the body of a chord on its object and the arguments of the messages taken. The room is what the depth leaves of the limit.
abbrev pub play_of : Resolved → Limits → Start → ℕ → Play
play_of p limits Main d = on_found (slice_get p.bodies p.main) (λ b. run_body (limits.depth - d) (make_object p (limits.depth - d)) None b (Unit ∷ []) limits.turns)
play_of p limits (Chord k o vs) d =
    on_found (chord_body p (slice_get (class_chords (slice_get p.classes o.class)) k)) (λ b. run_body (limits.depth - d) (make_object p (limits.depth - d)) None b (Ref o ∷ vs) limits.turns)

-- the meaning of a source under limits
abbrev pub source_program : Resolved → Limits → Program
source_program p limits = record {
  next = λ s d rs. ask_of limits (left_after (play_of p limits s d) rs);
  chords = λ c. map (λ k. k.methods) (class_chords (slice_get p.classes c));
  is_sync = λ c j. plan_is_sync (slice_get (class_methods (slice_get p.classes c)) j);
}
