-- What a code means to the join machine: the next ask of each of its bodies.
use Rattle.std.specs.Prelude.{◌≡◌, ℕ, ◌-◌, List, [], ◌∷◌, Bool, Option, Some, None, slice_get, map}
use Rattle.chord_base.specs.declared.value.Object.{Object}
use Rattle.chord_base.specs.declared.value.Value.{Value}
use Rattle.chord_base.specs.declared.value.Value.TheVariants as a_value
use Rattle.chord_base.specs.declared.event.Trap.{Trap}
use Rattle.chord_base.specs.declared.event.End.{End}
use Rattle.chord_base.specs.declared.event.End.TheVariants.{Gives, Traps}
use Rattle.chord_base.specs.declared.event.What.{What}
use Rattle.chord_base.specs.declared.event.What.TheVariants.{Begun, Made, Sent, Called, Printed, Fired, Ended}
use Rattle.chord_base.specs.declared.event.Limits.{Limits}
use Rattle.chord_base.specs.Meaning.{Start, Main, Chord, Asked, Program}
use Rattle.chord_code.specs.declared.parts.ChordLine.{ChordLine}
use Rattle.chord_code.specs.declared.parts.ClassLine.{ClassLine}
use Rattle.chord_code.specs.declared.parts.MethodLine.{MethodLine}
use Rattle.chord_code.specs.Valid.{line_is_sync}
use Rattle.chord_code.specs.declared.parts.Parts.{Parts}
use Rattle.chord_code.specs.declared.awaited.Awaited.{Awaited}
use Rattle.chord_code.specs.declared.awaited.Awaited.TheVariants.{ForNothing, ForValue, ForObject}
use Rattle.chord_code.specs.Machine.{Machine, Waiting, Did, Goes, Asking, Bad, with_answer, body_in_block}
use Rattle.chord_code.specs.Fuel.{comes_to}

-- the kind of answer that an ask waits for; an end waits for none
abbrev pub IsAsked : What → Awaited → Type 0
IsAsked (Made c) p = (b : Option (ℕ × ℕ)) × (n : ℕ) × (p ≡ ForObject b n)
IsAsked (Sent o j vs) p = p ≡ ForNothing
IsAsked (Called o j vs) p = p ≡ ForValue
IsAsked (Printed t) p = p ≡ ForNothing
IsAsked (Ended e) p = Unit {0}
IsAsked Begun p = ⊥
IsAsked (Fired k o ms vs) p = ⊥

-- where a body stands after its answers: at a machine that goes on, at its end by the trap of its call, or nowhere
pub data Point : Type 0 where
  At : Machine → Point
  FailsBy : Trap → Point
  Lost : Point

-- a body stands at a machine, if there is one
abbrev pub point_of : Option Machine → Point
point_of None = Lost
point_of (Some m) = At m

-- only a call may be answered by a trap
abbrev pub failed : Awaited → Trap → Point
failed ForValue t = FailsBy t
failed ForNothing t = Lost
failed (ForObject b n) t = Lost

-- where a body stands once its ask is answered
abbrev pub reply : Waiting → End → Point
reply w (Gives v) = point_of (with_answer w.machine w.awaited v)
reply w (Traps t) = failed w.awaited t

-- where a body stands once what it came to is answered; only an ask is answered
abbrev pub reply_to : Did → End → Point
reply_to (Asking a w) r = reply w r
reply_to (Goes m) r = Lost
reply_to Bad r = Lost

-- after one more answer
abbrev pub point_replied : Parts → Point → End → Point
point_replied code (At m) r = reply_to (comes_to code m) r
point_replied code (FailsBy t) r = Lost
point_replied code Lost r = Lost

-- where a body stands after these answers
abbrev pub points : Parts → Point → List End → Point
points code p [] = p
points code p (r ∷ rs) = points code (point_replied code p r) rs

-- of an ask's place only that of a call is told
abbrev pub place : What → ℕ → ℕ
place (Called o j vs) d = d
place Begun d = 0
place (Made c) d = 0
place (Sent o j vs) d = 0
place (Printed t) d = 0
place (Fired k o ms vs) d = 0
place (Ended e) d = 0

-- the depth of a place is what its room leaves of the limit
abbrev pub asked_at : Limits → Did → Option Asked
asked_at limits (Asking a w) = Some (record { what = a; depth = place a (limits.depth - w.machine.top.room) })
asked_at limits (Goes m) = None
asked_at limits Bad = None

-- the next ask of a body that stands here
abbrev pub asked_of : Parts → Limits → Point → Option Asked
asked_of code limits (At m) = asked_at limits (comes_to code m)
asked_of code limits (FailsBy t) = Some (record { what = Ended (Traps t); depth = 0 })
asked_of code limits Lost = None

-- the chords of a class, and none where there is no such class
abbrev pub chords_of_line : Option ClassLine → List ChordLine
chords_of_line None = []
chords_of_line (Some c) = c.chords

-- the chords of the class of this number
abbrev pub chord_lines : Parts → ℕ → List ChordLine
chord_lines code c = chords_of_line (slice_get code.classes c)

-- the body of a chord begins on the object and the arguments, if the chord is there
abbrev pub start_line : Parts → Limits → Object → List Value → ℕ → Option ChordLine → Option Machine
start_line code limits o vs d None = None
start_line code limits o vs d (Some line) = body_in_block code line.block (limits.depth - d) (a_value.Ref o ∷ vs) limits.turns

-- a body begins
abbrev pub begins : Parts → Limits → Start → ℕ → Option Machine
begins code limits Main d = body_in_block code 0 (limits.depth - d) (a_value.Unit ∷ []) limits.turns
begins code limits (Chord k o vs) d = start_line code limits o vs d (slice_get (chord_lines code o.class) k)

-- where a body stands
abbrev pub stands : Parts → Limits → Start → ℕ → List End → Point
stands code limits s d rs = points code (point_of (begins code limits s d)) rs

-- the methods of a class, and none where there is no such class
abbrev pub methods_of_line : Option ClassLine → List MethodLine
methods_of_line None = []
methods_of_line (Some c) = c.methods

-- the methods of the class of this number
abbrev pub listed_methods : Parts → ℕ → List MethodLine
listed_methods code c = methods_of_line (slice_get code.classes c)

-- whether callers of a method of a class wait
abbrev pub method_is_sync : Parts → ℕ → ℕ → Bool
method_is_sync code c j = line_is_sync (slice_get (listed_methods code c) j)

-- the methods of a chord
abbrev pub methods_of : ChordLine → List ℕ
methods_of line = line.methods

-- the meaning of a code under limits
abbrev pub code_program : Parts → Limits → Program
code_program code limits = record {
  next = λ s d rs. asked_of code limits (stands code limits s d rs);
  chords = λ c. map methods_of (chord_lines code c);
  is_sync = method_is_sync code;
}
