-- A meaning that is listed: the asks of finitely many bodies, written down.
use Rattle.std.specs.Prelude.{ℕ, Bool, true, false, ◌==◌, ◌&&◌, nat_eq, List, [], length, map, take, find, slice_get, unwrap_or, Option, Some, None, Vec, option_and_then}
use Rattle.std.specs.Ordering.{int_eq}
use Rattle.std.specs.Global.{Global}
use Rattle.std.specs.Cmp.Lexicographic.{pointwise}
use Rattle.std.proofs.Math.Bool.{beq}
use Rattle.chord_base.specs.Meaning.{Main, Chord, Asked, Program}
use Rattle.chord_base.specs.Meaning as meaning
use Rattle.chord_base.specs.Called.{start_of, asked_by}
use Rattle.chord_base.specs.declared.value.Object.{Object}
use Rattle.chord_base.specs.declared.value.Value as value
use Rattle.chord_base.specs.declared.value.Value.TheVariants as a_value
use Rattle.chord_base.specs.declared.event.Trap.{Trap}
use Rattle.chord_base.specs.declared.event.Trap.TheVariants.{DivideByZero, OutOfTurns, TooDeep, TextTooLong}
use Rattle.chord_base.specs.declared.event.End.{End}
use Rattle.chord_base.specs.declared.event.End.TheVariants.{Gives, Traps}
use Rattle.chord_base.specs.declared.listed.Tale.{Tale}
use Rattle.chord_base.specs.declared.listed.Class.{Class}
use Rattle.chord_base.specs.declared.listed.Listed.{Listed}

-- whether two objects are one
abbrev pub equal_objects : Object → Object → Bool
equal_objects o q = (o.number == q.number) && (o.class == q.class)

-- whether two values are equal
abbrev pub equal_values : value.Value → value.Value → Bool
equal_values a_value.Unit a_value.Unit = true
equal_values (a_value.Int m) (a_value.Int n) = int_eq m n
equal_values (a_value.Flag a) (a_value.Flag b) = beq a b
equal_values (a_value.Text s) (a_value.Text t) = pointwise nat_eq s t
equal_values (a_value.Ref o) (a_value.Ref q) = equal_objects o q
equal_values _ _ = false

-- whether two traps are one
abbrev pub equal_traps : Trap → Trap → Bool
equal_traps DivideByZero DivideByZero = true
equal_traps OutOfTurns OutOfTurns = true
equal_traps TooDeep TooDeep = true
equal_traps TextTooLong TextTooLong = true
equal_traps _ _ = false

-- whether two ends are equal
abbrev pub equal_ends : End → End → Bool
equal_ends (Gives v) (Gives w) = equal_values v w
equal_ends (Traps t) (Traps u) = equal_traps t u
equal_ends _ _ = false

-- whether two bodies begin in the same way
abbrev pub equal_starts : meaning.Start → meaning.Start → Bool
equal_starts Main Main = true
equal_starts (Chord k o vs) (Chord l q ws) = (k == l) && equal_objects o q && pointwise equal_values vs ws
equal_starts _ _ = false

-- the tale is of a body that began so at this depth, and that got these answers first
abbrev pub is_tale_of : meaning.Start → ℕ → List End → Tale → Bool
is_tale_of s d rs tale = equal_starts (start_of tale.start) s && (tale.depth == d) && pointwise equal_ends (take (length rs) tale.answers.items) rs

-- the ask of the tale after so many answers
abbrev pub ask_after : ℕ → Tale → Option Asked
ask_after n tale = asked_by (slice_get tale.asks.items n)

-- the methods of each chord of a class
abbrev pub chords_of : Option Class → List (List ℕ)
chords_of None = []
chords_of (Some class) = map (λ (v : Vec ℕ Global). v.items) class.chords.items

-- whether the class has this method, and its callers wait
abbrev pub waits_in : ℕ → Option Class → Bool
waits_in j None = false
waits_in j (Some class) = unwrap_or (slice_get class.waits.items j) false

-- the meaning that is listed so: the first tale that tells of the body says what it asks
abbrev pub listed : Listed → Program
listed it = record {
  next = λ s d rs. option_and_then (ask_after (length rs)) (find (is_tale_of s d rs) it.tales.items);
  chords = λ c. chords_of (slice_get it.classes.items c);
  is_sync = λ c j. waits_in j (slice_get it.classes.items c);
}
