use Rattle.std.proofs.Common.{◌≡◌, ◌<◌, ℕ, Some}
use Rattle.std.specs.Prelude.{slice_get}
use Rattle.chord_code.specs.declared.parts.ChordLine.{ChordLine}
use Rattle.chord_code.specs.Valid.{IsChordLine}
use Rattle.chord_code.proofs.valid.are_chords.Given as goal

abbrev pub invariant-loop-chord : goal.invariant-loop-chord
invariant-loop-chord l = (k : ℕ) (x : ChordLine) → k < l.chord-index → slice_get l.chord-items k ≡ Some x → IsChordLine l.parts l.class x
