-- Bodies: what each does after a history, and what it asks next.
--
-- A body begins with its first entry. From then on its own entries and the end of the body that serves its open call are
-- all that it sees of a history.
use Rattle.std.specs.Prelude.{◌≡◌, ℕ, ◌+◌, Bool, ◌==◌, List, [], ◌∷◌, ◌++◌, Option, Some, None, slice_get, if◌then◌else◌}
use Rattle.chord_base.specs.Meaning.{Start, Main, Chord, Asked, Program}
use Rattle.chord_base.specs.Messages.{maker}
use Rattle.chord_base.specs.declared.value.Value.TheVariants as a_value
use Rattle.chord_base.specs.declared.event.End.{End}
use Rattle.chord_base.specs.declared.event.End.TheVariants.{Gives}
use Rattle.chord_base.specs.declared.event.What.{What}
use Rattle.chord_base.specs.declared.event.What.TheVariants.{Begun, Made, Sent, Called, Printed, Fired, Ended}
use Rattle.chord_base.specs.declared.event.Entry.{Entry}

-- ## What a body does

-- what a body does after a history
pub data Doing : Type 0 where
  -- it has no entry
  Absent : Doing
  -- it serves a call that the history does not hold
  Unplaced : Doing
  -- it may make its next entry: it began so, at this depth, and got these answers, oldest first
  Ready : (start : Start) (depth : ℕ) (answers : List End) → Doing
  -- it waits for the end of a call that it made at a place of this depth
  Waits : (start : Start) (depth : ℕ) (answers : List End) (call place : ℕ) → Doing
  -- it has ended
  Over : (end : End) → Doing

-- the body waits for this call
abbrev pub WaitsFor : ℕ → Doing → Type 0
WaitsFor q (Waits s d rs c l) = q ≡ c
WaitsFor q (Ready s d rs) = ⊥
WaitsFor q Absent = ⊥
WaitsFor q Unplaced = ⊥
WaitsFor q (Over x) = ⊥

-- the body goes on with one more answer
abbrev pub replied : End → Doing → Doing
replied a (Ready s d rs) = Ready s d (rs ++ a ∷ [])
replied a (Waits s d rs q l) = Ready s d (rs ++ a ∷ [])
replied a Absent = Absent
replied a Unplaced = Unplaced
replied a (Over x) = Over x

-- the depth of the place of an ask
abbrev pub ask_depth : Option Asked → ℕ
ask_depth None = 0
ask_depth (Some a) = a.depth

-- the body waits for a call that it has made now
abbrev pub waiting : Program → ℕ → Doing → Doing
waiting p q (Ready s d rs) = Waits s d rs q (ask_depth (p.next s d rs))
waiting p q (Waits s d rs q' l) = Waits s d rs q' l
waiting p q Absent = Absent
waiting p q Unplaced = Unplaced
waiting p q (Over x) = Over x

-- ## Which call a body serves

-- of the members, the one that stands at the first synchronous method
abbrev pub served_among : (ℕ → Bool) → List ℕ → List ℕ → Option ℕ
served_among sync [] ms = None
served_among sync (j ∷ js) [] = None
served_among sync (j ∷ js) (i ∷ ms) = if sync j then Some i else served_among sync js ms

-- the methods of a chord, none where the class has no such chord
abbrev pub or_none : Option (List ℕ) → List ℕ
or_none None = []
or_none (Some js) = js

-- the call that a firing serves: its member at the synchronous method of its chord
abbrev pub served : Program → What → Option ℕ
served p (Fired k o ms vs) = served_among (p.is_sync o.class) (or_none (slice_get (p.chords o.class) k)) ms
served p _ = None

-- the call that a body serves is the one that the firing which began it serves
abbrev pub serves : Program → ℕ → List Entry → Option ℕ
serves p b [] = None
serves p b (e ∷ h) = if e.number == b then served p e.what else serves p b h

-- ## How a body begins

-- a body that serves a call begins one deeper than the place of that call, where its caller waits for it
abbrev pub placed : Start → ℕ → Doing → Doing
placed s q (Waits s' d rs q' l) = if q == q' then Ready s (l + 1) [] else Unplaced
placed s q Absent = Unplaced
placed s q Unplaced = Unplaced
placed s q (Ready s' d rs) = Unplaced
placed s q (Over x) = Unplaced

-- how a body begins that serves a call of this maker, by what each body did before; it lacks its call where there is no maker
abbrev pub begun_by : Start → ℕ → Option ℕ → (ℕ → Doing) → Doing
begun_by s q None before = Unplaced
begun_by s q (Some b) before = placed s q (before b)

-- how a body begins: at depth 1 where it serves no call
abbrev pub begun : Start → Option ℕ → (ℕ → Option ℕ) → (ℕ → Doing) → Doing
begun s None maker_of before = Ready s 1 []
begun s (Some q) maker_of before = begun_by s q (maker_of q) before

-- ## Entry by entry

-- what a body does after an entry of its own, which has this number
abbrev pub own : Program → ℕ → What → (ℕ → Option ℕ) → (ℕ → Doing) → Doing → Doing
own p n Begun m before d = Ready Main 1 []
own p n (Fired k o ms vs) m before d = begun (Chord k o vs) (served p (Fired k o ms vs)) m before
own p n (Made c) m before d = replied (Gives (a_value.Ref (record { number = n; class = c }))) d
own p n (Sent o j vs) m before d = replied (Gives a_value.Unit) d
own p n (Printed t) m before d = replied (Gives a_value.Unit) d
own p n (Called o j vs) m before d = waiting p n d
own p n (Ended x) m before d = Over x

-- a caller that waits for the call which has ended gets the end
abbrev pub answered : End → Option ℕ → Doing → Doing
answered x None d = d
answered x (Some c) (Waits s d rs q l) = if c == q then Ready s d (rs ++ x ∷ []) else Waits s d rs q l
answered x (Some c) (Ready s d rs) = Ready s d rs
answered x (Some c) Absent = Absent
answered x (Some c) Unplaced = Unplaced
answered x (Some c) (Over y) = Over y

-- what a body does after an entry of another body, which serves this call, if any
abbrev pub heard : What → Option ℕ → Doing → Doing
heard (Ended x) c d = answered x c d
heard Begun c d = d
heard (Made k) c d = d
heard (Sent o j vs) c d = d
heard (Called o j vs) c d = d
heard (Printed t) c d = d
heard (Fired k o ms vs) c d = d

-- what a body does after a history: what the newest entry makes of what it did before
abbrev pub doing : Program → List Entry → ℕ → Doing
doing p [] b = Absent
doing p (e ∷ h) b =
    if e.body == b then own p e.number e.what (λ q. maker q h) (doing p h) (doing p h b)
    else heard e.what (serves p e.body h) (doing p h b)

-- ## What a body asks

-- only a ready body asks, and it asks what the program's meaning says
abbrev pub asked : Program → Doing → Option Asked
asked p (Ready s d rs) = p.next s d rs
asked p (Waits s d rs q l) = None
asked p Absent = None
asked p Unplaced = None
asked p (Over x) = None

-- the body's next ask after the history is this
abbrev pub Asks : Program → List Entry → ℕ → What → Type 0
Asks p h b w = (l : ℕ) × (asked p (doing p h b) ≡ Some (record { what = w; depth = l }))
