-- Whether a run may go on: which messages are pending, and whether a chord has all of its.
use Rattle.std.specs.Prelude.{◌≡◌, ◌||◌, ℕ, List, [], ◌∷◌, ◌++◌, length, Option, Some, None, Bool, true, false, get_or, slice_get}
use Rattle.chord_base.specs.declared.value.Object.{Object}
use Rattle.chord_base.specs.declared.value.Value.{Value}
use Rattle.chord_base.specs.declared.event.Entry.{Entry}
use Rattle.chord_base.specs.Meaning.{Program}
use Rattle.chord_base.specs.Messages.{Message, message_of, has, pending}
use Rattle.chord_base.specs.Machine.{Fires}
use Rattle.chord_lists.specs.Bag.{Address, address_of, HasMessages, IsPushed}
use Rattle.chord_lists.specs.Engine.{EachLacksAMessage}
use Rattle.chord_lists.specs.CodeStands.{message_at}

-- the message of this number came, if there is one
abbrev pub IsNoted : ℕ → Option Message → (Address → List ℕ) → (Address → List ℕ) → Type 0
IsNoted n None old new = (k : Address) → new k ≡ old k
IsNoted n (Some m) old new = IsPushed (address_of m) n old new

-- a message, if no firing has taken it
abbrev pub message_left : Bool → Option Message → Option Message
message_left true m = None
message_left false m = m

-- whether the entry of a number was taken, by a list that says it of each; one that is not there yet is none to take
abbrev pub is_taken : List Bool → ℕ → Bool
is_taken taken n = get_or taken n true

-- these numbers were taken too
pub record HasTaken (ms : List ℕ) (old new : List Bool) : Type 0 where
  pub taken : (n : ℕ) → is_taken new n ≡ (has n ms || is_taken old n)
  pub long : length new ≡ length old

-- one entry more, which took these numbers, and which none has taken
pub record HasTakenNext (ms : List ℕ) (old new : List Bool) : Type 0 where
  pub between : List Bool
  pub before : HasTaken ms old between
  pub is : new ≡ between ++ false ∷ []

-- of the entries of a history, which are the first of these, it is said whether a firing has taken them
pub record MarksTaken (taken : List Bool) (entries h : List Entry) : Type 0 where
  pub left : (n : ℕ) → pending n h ≡ message_left (is_taken taken n) (message_at entries n)
  pub long : length taken ≡ length h

-- some chord may fire
abbrev pub CanFire : Program → List Entry → Type 0
CanFire p h = (k : ℕ) × (o : Object) × (ms : List ℕ) × (vs : List Value) × Fires p h k o ms vs

-- to each method of some chord of an object a message is in the bag
abbrev pub FiresAt : Program → (Address → List ℕ) → Type 0
FiresAt p index = (o : Object) × (k : ℕ) × (js : List ℕ) × (slice_get (p.chords o.class) k ≡ Some js) × HasMessages o js index

-- each chord that has the method to which the entry is a message lacks one
abbrev pub LacksAt : Program → (Address → List ℕ) → Entry → Type 0
LacksAt p index e = (m : Message) → message_of e.what ≡ Some m → EachLacksAMessage p m.object m.method index
