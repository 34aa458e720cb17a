-- The code of a source keeps its meaning.
use Rattle.std.proofs.Common.{◌≡◌, ℕ, List, [], ◌∷◌, Option, refl}
use Rattle.chord_base.specs.Meaning.{Start}
use Rattle.chord_base.specs.declared.event.End.{End}
use Rattle.chord_base.specs.declared.event.Limits.{Limits}
use Rattle.chord_base.specs.declared.static_type.StaticType.{StaticType}
use Rattle.chord_base.specs.Types.{Signatures}
use Rattle.chord_bodies.specs.Resolved.{Resolved}
use Rattle.chord_bodies.specs.Planned.{IsPlanned}
use Rattle.chord_code.specs.declared.parts.Parts.{Parts}
use Rattle.chord_code.specs.Machine.{IsForward}
use Rattle.chord_code.specs.Meaning.{Point, point_of, points, point_replied, begins, code_program, asked_of}
use Rattle.chord_code.specs.Plays.{Play, PlaysAt, left_of, left_after, ask_of, Good}
use Rattle.chord_code.proofs.Plays.{good_left, plays_left, plays_point, asks_exactly}
use Rattle.chord_code.proofs.Validity.{valid_forward}
use Rattle.chord_source.specs.Source.{play_of, source_program}
use Rattle.chord_source.specs.Laws.{AreWellTyped, StartFits, AnswersFit}
use Rattle.chord_source.specs.Sources.{IsCodeOf}
use Rattle.chord_source.proofs.GoodPlays.{good_plays}
use Rattle.chord_source.proofs.SoundRuns.{sound_runs}
use Rattle.chord_gen.specs.Translation.{code_of}
use Rattle.chord_gen.specs.Laws.{TranslationKeeps}
use Rattle.chord_gen.proofs.BlocksPlay.{bodies_play, same_chords, same_kinds, plan_methods_there}
use Rattle.chord_gen.proofs.Valid.{translation_valid}

-- after answers that fit, code that plays a good play asks what is left of it
asks_after : (code : Parts) → IsForward code → (limits : Limits) (sig : Signatures) (r : Option StaticType) (p : Play) (x : Point) (rs : List End) → Good sig r p → PlaysAt code p x → AnswersFit sig p rs → asked_of code limits (points code x rs) ≡ ask_of limits (left_after p rs)
asks_after code fwd limits sig r p x [] g h f = asks_exactly code fwd limits sig r p x g h
asks_after code fwd limits sig r p x (e ∷ rs) g h f =
    asks_after code fwd limits sig r (left_of p e) (point_replied code x e) rs (good_left sig r p e g f.0) (plays_left code fwd sig r p x e g f.0 h) f.1

module _ (sig : Signatures) (p : Resolved) (code : Parts) (typed : AreWellTyped sig p) (plan : IsPlanned sig p) (same : code ≡ code_of p) (fwd : IsForward code) where
  -- the code of a source is code that does what the source does
  is_code : IsCodeOf code p sig
  is_code = record {
    forward = fwd;
    chords = same_chords p code same plan.bases;
    is_sync = same_kinds p code same plan.bases;
    methods = plan_methods_there p code same plan.bases;
    plays = λ limits s d r f. bodies_play p code same plan.bases plan.owned sig limits s d r f;
  }

  -- its next ask after answers that fit is the source's
  asks_the_same : (limits : Limits) (s : Start) (d : ℕ) (rs : List End) (r : Option StaticType) → StartFits sig p s r → AnswersFit sig (play_of p limits s d) rs → (code_program code limits).next s d rs ≡ (source_program p limits).next s d rs
  asks_the_same limits s d rs r f fit =
      let good = good_plays sig p typed plan limits s d r f in
      asks_after code fwd limits sig r (play_of p limits s d) (point_of (begins code limits s d)) rs good
      (plays_point code sig r (play_of p limits s d) (begins code limits s d) good (is_code.plays limits s d r f)) fit

pub translation_keeps : TranslationKeeps
translation_keeps sig p typed plan =
    let fwd : IsForward (code_of p) = valid_forward (code_of p) (translation_valid sig p typed plan) in
    let code = is_code sig p (code_of p) typed plan refl fwd in
    record {
      asks = asks_the_same sig p (code_of p) typed plan refl fwd;
      runs = λ limits. (sound_runs sig p (code_of p) typed plan code limits).runs;
      sound = λ limits low high. (sound_runs sig p (code_of p) typed plan code limits).sound;
    }
