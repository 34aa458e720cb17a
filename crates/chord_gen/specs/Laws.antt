-- What the code of a source keeps of it.
use Rattle.std.specs.Prelude.{◌≡◌, ℕ, List, Option}
use Rattle.chord_base.specs.Meaning.{Start}
use Rattle.chord_base.specs.declared.event.End.{End}
use Rattle.chord_base.specs.declared.event.Limits.{Limits}
use Rattle.chord_base.specs.declared.static_type.StaticType.{StaticType}
use Rattle.chord_base.specs.Types.{Signatures}
use Rattle.chord_base.specs.Agreement.{AgreeInRuns}
use Rattle.chord_bodies.specs.Resolved.{Resolved}
use Rattle.chord_bodies.specs.Planned.{IsPlanned}
use Rattle.chord_code.specs.declared.parts.Parts.{Parts}
use Rattle.chord_code.specs.Meaning.{code_program}
use Rattle.chord_code.specs.Sound.{IsSoundCode}
use Rattle.chord_code.specs.Valid.{IsValid}
use Rattle.chord_source.specs.Source.{play_of, source_program}
use Rattle.chord_source.specs.Laws.{AreWellTyped, StartFits, AnswersFit}
use Rattle.chord_gen.specs.Translation.{code_of}

-- Whatever the limits, and whatever fits a body is answered, the code's next ask is the source's; its runs are the source's; and it is sound.
pub record KeepsMeaning (code : Parts) (p : Resolved) (sig : Signatures) : Type 0 where
  pub asks : (limits : Limits) (s : Start) (d : ℕ) (rs : List End) (r : Option StaticType) → StartFits sig p s r → AnswersFit sig (play_of p limits s d) rs
      → (code_program code limits).next s d rs ≡ (source_program p limits).next s d rs
  pub runs : (limits : Limits) → AgreeInRuns (code_program code limits) (source_program p limits)
  pub sound : IsSoundCode code

-- The code of a source whose bodies keep to their static types, and whose plan is as it must be, keeps its meaning, and is sound.
abbrev pub TranslationKeeps : Type 0
TranslationKeeps = (sig : Signatures) (p : Resolved) → AreWellTyped sig p → IsPlanned sig p → KeepsMeaning (code_of p) p sig

-- And it is valid.
abbrev pub TranslationValid : Type 0
TranslationValid = (sig : Signatures) (p : Resolved) → AreWellTyped sig p → IsPlanned sig p → IsValid (code_of p)
