-- Sound code: in every run the next ask of each body is defined, and each message names a method of its object's class, with its parameters.
use Rattle.std.specs.Prelude.{◌≡◌, ◌<◌, ◌≤◌, ℕ, List, ◌∷◌, length, Some, slice_get}
use Rattle.chord_base.specs.declared.event.Entry.{Entry}
use Rattle.chord_base.specs.declared.event.Limits.{Limits}
use Rattle.chord_base.specs.declared.event.What.{What}
use Rattle.chord_base.specs.declared.event.What.TheVariants.{Begun, Made, Sent, Called, Printed, Fired, Ended}
use Rattle.chord_base.specs.Machine.{IsPast}
use Rattle.chord_base.specs.Story.{IsSound}
use Rattle.chord_code.specs.declared.parts.MethodLine.{MethodLine}
use Rattle.chord_code.specs.declared.parts.Parts.{Parts}
use Rattle.chord_code.specs.Meaning.{listed_methods, code_program}

-- the class has this method, with so many parameters
pub record HasMethod (code : Parts) (class method parameters : ℕ) : Type 0 where
  pub line : MethodLine
  pub found : slice_get (listed_methods code class) method ≡ Some line
  pub parameters_are : line.parameters ≡ parameters

-- a message names a method of its object's class, and has its parameters
abbrev pub NamesMethod : Parts → What → Type 0
NamesMethod code (Sent o j vs) = HasMethod code o.class j (length vs)
NamesMethod code (Called o j vs) = HasMethod code o.class j (length vs)
NamesMethod code Begun = Unit {0}
NamesMethod code (Made c) = Unit {0}
NamesMethod code (Printed t) = Unit {0}
NamesMethod code (Fired k o ms vs) = Unit {0}
NamesMethod code (Ended x) = Unit {0}

-- in every run under these limits
pub record IsSoundUnder (code : Parts) (limits : Limits) : Type 0 where
  pub sound : IsSound (code_program code limits)
  pub methods : (h : List Entry) (e : Entry) → IsPast (code_program code limits) (e ∷ h) → NamesMethod code e.what

-- under every depth limit that a run may have
abbrev pub IsSoundCode : Parts → Type 0
IsSoundCode code = (limits : Limits) → 0 < limits.depth → limits.depth ≤ 256 → IsSoundUnder code limits
