-- The engine of one thread, over any program: what it keeps from entry to entry.
--
-- `stands` says what the bodies of the program are after a history. Histories have their newest entry first.
use Rattle.std.specs.Prelude.{◌≡◌, ℕ, ◌+◌, ◌<◌, ◌≤◌, ◌⊎◌, List, [], ◌∷◌, length, Option, Some, None, true, slice_get}
use Rattle.chord_base.specs.declared.value.Object.{Object}
use Rattle.chord_base.specs.declared.value.Value as value
use Rattle.chord_base.specs.declared.event.What.{What}
use Rattle.chord_base.specs.declared.event.What.TheVariants.{Begun, Fired}
use Rattle.chord_base.specs.declared.event.Entry.{Entry}
use Rattle.chord_base.specs.Meaning.{Program}
use Rattle.chord_base.specs.Messages.{AreDifferent, Message, message_of, members_of, has, pending}
use Rattle.chord_base.specs.Machine.{MayFollow, Fires, NoneFires, NoneAsks, IsPast, IsFinal}
use Rattle.chord_base.specs.Bounds.{AreWithin}
use Rattle.chord_lists.specs.declared.engine.Turn.{Turn}
use Rattle.chord_lists.specs.declared.engine.Turn.TheVariants as a_turn
use Rattle.chord_lists.specs.declared.engine.Step.{Step}
use Rattle.chord_lists.specs.declared.engine.Step.TheVariants.{Done, Idle, Fresh}
use Rattle.chord_lists.specs.Bag.{Address, LacksAMessage, Lists}

-- the history in which `Main` has just begun
abbrev pub main_begun : List Entry
main_begun = record { number = 0; body = 0; what = Begun } ∷ []

-- a run of n entries, each within its bounds
pub record IsRunOfLength (p : Program) (n : ℕ) (h : List Entry) : Type 0 where
  pub past : IsPast p h
  pub within : AreWithin h
  pub so_long : length h ≡ n

-- a firing of a chord as an entry
abbrev pub fired : ℕ → ℕ → Object → List ℕ → List value.Value → Entry
fired n k o ms vs = record { number = n; body = n; what = Fired k o ms vs }

-- the chord of this number has these methods: each once, some, and no more than a firing takes messages
pub record HasChord (chords : List (List ℕ)) (k : ℕ) (js : List ℕ) : Type 0 where
  pub is : slice_get chords k ≡ Some js
  pub numbered : k < 256
  pub some : 0 < length js
  pub few : length js ≤ 8
  pub different : AreDifferent js

-- the bodies stand after a run of n entries
abbrev pub MayGoOn : Program → (List Entry → Type 0) → ℕ → Type 0
MayGoOn p stands n = (h : List Entry) × IsRunOfLength p n h × stands h

-- the bodies have made this entry, which may follow
pub record Made (p : Program) (stands : List Entry → Type 0) (h : List Entry) (e : Entry) : Type 0 where
  pub follows : MayFollow p h e
  pub within : AreWithin (e ∷ h)
  pub after : stands (e ∷ h)
  pub no_firing : members_of e.what ≡ []

-- an entry is a message to this method of this object
abbrev pub IsMessageTo : Object → ℕ → What → Type 0
IsMessageTo o j w = (vs : List value.Value) × (message_of w ≡ Some (record { object = o; method = j; arguments = vs }))

-- what a turn of the bodies was, after this history
abbrev pub WentFrom : Program → (List Entry → Type 0) → List Entry → Turn → Type 0
WentFrom p stands h a_turn.Over = NoneAsks p h × stands h
WentFrom p stands h a_turn.Plain = (e : Entry) × Made p stands h e × (message_of e.what ≡ None)
WentFrom p stands h (a_turn.Message o j) = (e : Entry) × Made p stands h e × IsMessageTo o j e.what

-- what a turn of the bodies was, after each run of n entries after which they can have stood
abbrev pub Went : Program → (List Entry → Type 0) → (List Entry → Type 0) → ℕ → Turn → Type 0
Went p before after n turn = (h : List Entry) → IsRunOfLength p n h → before h → WentFrom p after h turn

-- the bodies stand after a run of n entries, and a firing that takes these messages may follow
abbrev pub MayBegin : Program → (List Entry → Type 0) → ℕ → ℕ → Object → List ℕ → Type 0
MayBegin p stands n k o ms =
    (h : List Entry) × (vs : List value.Value) × IsRunOfLength p n h × stands h × Fires p h k o ms vs × AreWithin (fired n k o ms vs ∷ h)

-- the bodies stand after the firing, with the arguments of the messages
abbrev pub Began : Program → (List Entry → Type 0) → (List Entry → Type 0) → ℕ → ℕ → Object → List ℕ → Type 0
Began p before after n k o ms =
    (h : List Entry) (vs : List value.Value) → IsRunOfLength p n h → before h → Fires p h k o ms vs → after (fired n k o ms vs ∷ h)

-- each chord of the object that has this method lacks a message
abbrev pub EachLacksAMessage : Program → Object → ℕ → (Address → List ℕ) → Type 0
EachLacksAMessage p o j index = (k : ℕ) (js : List ℕ) → slice_get (p.chords o.class) k ≡ Some js → has j js ≡ true → LacksAMessage o js index

-- the last entry is a message to this method of this object, and before it no chord was enabled
pub record IsAfterMessage (p : Program) (h : List Entry) (o : Object) (j : ℕ) : Type 0 where
  pub before : List Entry
  pub last : Entry
  pub sent : Message
  pub is : h ≡ last ∷ before
  pub numbered : last.number ≡ length before
  pub idle : NoneFires p before
  pub is_message : message_of last.what ≡ Some sent
  pub no_firing : members_of last.what ≡ []
  pub object : sent.object ≡ o
  pub method : sent.method ≡ j

-- the one object, and the one method of it, of which a chord may be enabled, if there may be one
abbrev pub IsFresh : Program → List Entry → Option (Object × ℕ) → Type 0
IsFresh p h None = NoneFires p h
IsFresh p h (Some to) = IsAfterMessage p h to.0 to.1

-- the engine after n entries: the bodies stand there, and the bag lists exactly the pending messages
pub record State (p : Program) (stands : List Entry → Type 0) (index : Address → List ℕ) (fresh : Option (Object × ℕ)) (n : ℕ) : Type 0 where
  pub history : List Entry
  pub played : IsRunOfLength p n history
  pub bodies : stands history
  pub lists : Lists (λ i. pending i history) n index
  pub is_fresh : IsFresh p history fresh

-- nothing may follow the n entries
abbrev pub IsOver : Program → (List Entry → Type 0) → ℕ → Type 0
IsOver p stands n = (h : List Entry) × IsRunOfLength p n h × stands h × IsFinal p h

-- the engine after a step from n entries
abbrev pub Stepped : Program → (List Entry → Type 0) → (Address → List ℕ) → ℕ → Step → Type 0
Stepped p stands index n Done = IsOver p stands n
Stepped p stands index n Idle = State p stands index None (n + 1)
Stepped p stands index n (Fresh o j) = State p stands index (Some (o, j)) (n + 1)

-- the bodies stand after a run that is complete or has n entries, and no more than n
pub record IsPlayedOut (p : Program) (stands : List Entry → Type 0) (n : ℕ) : Type 0 where
  pub history : List Entry
  pub past : IsPast p history
  pub within : AreWithin history
  pub bodies : stands history
  pub few : length history ≤ n
  pub whole : IsFinal p history ⊎ (length history ≡ n)

-- the bodies stand after a run that a journal can hold
abbrev pub Ends : Program → (List Entry → Type 0) → Type 0
Ends p stands = (h : List Entry) × stands h × IsPast p h × AreWithin h × (length h ≤ 65536)
