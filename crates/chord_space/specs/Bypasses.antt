-- When a desk may move a head or a next past consumed messages, and what it then knows.
use Rattle.std.specs.Prelude.{◌≡◌, ◌≢◌, ◌<◌, ℕ, Option, Some}
use Rattle.chord_word.specs.declared.cells.Cell.TheVariants.{Consumed}
use Rattle.chord_word.specs.declared.cells.Word.{Word}
use Rattle.chord_rule.specs.declared.view.View.{View}
use Rattle.chord_rule.specs.Bags.{head_number}
use Rattle.chord_rule.specs.Kinds.{saw, saw_head}
use Rattle.chord_rule.specs.Looks.{LastHead}
use Rattle.chord_rule.specs.Made.{key}
use Rattle.chord_rule.specs.Tells.{a_word}
use Rattle.chord_rule.specs.Ways.{LastSeen, WentPast}
use Rattle.chord_space.specs.declared.bypasses.Pointer.{Pointer}
use Rattle.chord_space.specs.declared.bypasses.Pointer.TheVariants.{Head, Next}

-- the object and the method of a head, or the message of a next, are of a table for n events with so many heads an object
abbrev pub IsPointerBelow : (n width : ℕ) → Pointer → Type 0
IsPointerBelow n width (Head o j) = (o.number < n) × (o.class < 1024) × (j < width)
IsPointerBelow n width (Next i) = i < n

-- the desk read consumed the message of the next, or the first one from the head, and each that followed before `to`, where that way led
abbrev pub MayBypass : View → Pointer → (from to : Option ℕ) → Type 0
MayBypass v (Head o j) from to = (x : ℕ) × (from ≡ Some x) × WentPast v x to
MayBypass v (Next i) from to = WentPast v i to

-- what the desk last read or wrote of the pointer: the head, or the word of a consumed message
abbrev pub LastPointed : View → Pointer → Option ℕ → Type 0
LastPointed v (Head o j) from = LastHead (head_number (key o j)) from v.looked.heads
LastPointed v (Next i) from = LastSeen i (a_word Consumed from) v.looked.seen

-- the desk remembers where the pointer leads
abbrev pub pointed : View → Pointer → Option ℕ → View
pointed v (Head o j) to = saw_head v (head_number (key o j)) to
pointed v (Next i) to = saw v i (a_word Consumed to)

-- the pointer was another, which the desk remembers
abbrev pub PointsElsewhere : View → View → Pointer → Option ℕ → Type 0
PointsElsewhere v w (Head o j) from = (h : Option ℕ) × (h ≢ from) × (w ≡ saw_head v (head_number (key o j)) h)
PointsElsewhere v w (Next i) from = (c : Word) × (c ≢ a_word Consumed from) × (w ≡ saw v i c)
