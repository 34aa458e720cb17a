-- Code whose bodies do what those of a source do, and what then holds of its runs.
use Rattle.std.specs.Prelude.{◌≡◌, ℕ, Option, Some, slice_get}
use Rattle.chord_base.specs.Meaning.{Start, HasOneSync}
use Rattle.chord_base.specs.declared.event.Limits.{Limits}
use Rattle.chord_base.specs.declared.static_type.StaticType.{StaticType}
use Rattle.chord_base.specs.Types.{Signatures}
use Rattle.chord_base.specs.Agreement.{AgreeInRuns}
use Rattle.chord_bodies.specs.Resolved.{MethodOf, Resolved}
use Rattle.chord_bodies.specs.Planned.{IsPlanned}
use Rattle.chord_code.specs.declared.parts.Parts.{Parts}
use Rattle.chord_code.specs.Machine.{IsForward}
use Rattle.chord_code.specs.Meaning.{begins, code_program}
use Rattle.chord_code.specs.Plays.{Plays}
use Rattle.chord_code.specs.Sound.{HasMethod, IsSoundUnder}
use Rattle.chord_source.specs.Source.{class_methods, play_of, source_program}
use Rattle.chord_source.specs.Laws.{AreWellTyped, StartFits}

-- The code has the chords of the plan and its methods with as many parameters, its jumps go forward but for those of loops, and each body that begins as it may plays what the source's does.
pub record IsCodeOf (code : Parts) (p : Resolved) (sig : Signatures) : Type 0 where
  pub forward : IsForward code
  pub chords : (limits : Limits) → (code_program code limits).chords ≡ (source_program p limits).chords
  pub is_sync : (limits : Limits) → (code_program code limits).is_sync ≡ (source_program p limits).is_sync
  pub methods : (c j : ℕ) (m : MethodOf) → slice_get (class_methods (slice_get p.classes c)) j ≡ Some m → HasMethod code c j m.parameters
  pub plays : (limits : Limits) (s : Start) (d : ℕ) (r : Option StaticType) → StartFits sig p s r → Plays code (play_of p limits s d) (begins code limits s d)

-- the code is sound under these limits, each of its chords has at most one method whose callers wait, and its runs are the source's
pub record IsSoundAs (code : Parts) (p : Resolved) (limits : Limits) : Type 0 where
  pub sound : IsSoundUnder code limits
  pub one_sync : HasOneSync (code_program code limits)
  pub runs : AgreeInRuns (code_program code limits) (source_program p limits)

-- Code of a source whose bodies keep to their static types, and whose plan is as it must be, is sound in every run, and its runs are the source's.
abbrev pub SoundRuns : Type 0
SoundRuns = (sig : Signatures) (p : Resolved) (code : Parts) → AreWellTyped sig p → IsPlanned sig p → IsCodeOf code p sig → (limits : Limits) → IsSoundAs code p limits
