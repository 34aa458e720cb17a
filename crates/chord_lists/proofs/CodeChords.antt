-- The chords of a class of a valid code, as they are looked up.
use Rattle.std.proofs.Common.{◌≡◌, ℕ, ◌<◌, ◌≤◌, List, length, Some, sym, ap, ◌∙◌, subst, arith, map, get_or}
use Rattle.std.specs.Prelude.{slice_get}
use Rattle.std.proofs.lemmas.List.{length-map}
use Rattle.chord_base.specs.declared.event.Limits.{Limits}
use Rattle.chord_code.specs.declared.parts.ChordLine.{ChordLine}
use Rattle.chord_code.specs.declared.parts.Parts.{Parts}
use Rattle.chord_code.specs.Meaning.{code_program, chord_lines, methods_of}
use Rattle.chord_code.specs.Valid.{IsValid}
use Rattle.chord_code.proofs.Headers.{methods_at}
use Rattle.chord_code.proofs.Validity.{valid_chords, valid_different, valid_methods}
use Rattle.chord_lists.specs.Engine.{HasChord}

-- the number of its lines is that of its chords
pub lines_count : (code : Parts) (limits : Limits) (c : ℕ) (lines : List ChordLine) → lines ≡ chord_lines code c → length lines ≡ length ((code_program code limits).chords c)
lines_count code limits c lines e = ap length e ∙ sym (length-map (chord_lines code c) methods_of)

-- there are at most 256
pub lines_few : (code : Parts) (c : ℕ) (lines : List ChordLine) → IsValid code → lines ≡ chord_lines code c → length lines ≤ 256
lines_few code c lines valid e = (let n = lines_count code (record { events = 0; turns = 0; depth = 0 }) c lines e in let l = valid_chords code valid c in omega (arith, n, l))

-- the methods of a chord are those of its line
pub methods_there : (code : Parts) (limits : Limits) (c k : ℕ) (lines : List ChordLine) (line : ChordLine) (js : List ℕ) → lines ≡ chord_lines code c → k < length lines → js ≡ (get_or lines k line).methods → slice_get ((code_program code limits).chords c) k ≡ Some js
methods_there code limits c k lines line js e lt is = ap (λ z. slice_get (map methods_of z) k) (sym e) ∙ methods_at lines k line lt ∙ ap Some (sym is)

-- a line of a valid code is a chord, where it has no more than eight methods
pub chord_there : (code : Parts) (limits : Limits) (c k : ℕ) (lines : List ChordLine) (line : ChordLine) (js : List ℕ) → IsValid code → lines ≡ chord_lines code c → k < length lines → js ≡ (get_or lines k line).methods → length (get_or lines k line).methods ≤ 8 → HasChord ((code_program code limits).chords c) k js
chord_there code limits c k lines line js valid e lt is few =
    let there = methods_there code limits c k lines line js e lt is in
    let most = lines_few code c lines valid e in
    record {
      is = there;
      numbered = omega (arith, lt, most);
      some = valid_methods code limits valid c k js there;
      few = subst (λ (z : List ℕ). length z ≤ 8) (sym is) few;
      different = valid_different code valid c k js there;
    }
