-- What there is of a number, by how it stands: its entry, its cell, its place word, its slot, and where it was linked.
use Rattle.std.specs.Prelude.{◌≡◌, ◌<◌, ℕ, List, Option, Some, None}
use mathlib.Core.Option.{some, none}
use Rattle.chord_base.specs.declared.event.What.{What}
use Rattle.chord_base.specs.declared.event.Entry.{Entry}
use Rattle.chord_base.specs.Messages.{Message, message_of}
use Rattle.chord_base.specs.Story.{IsIn}
use Rattle.chord_word.specs.declared.cells.Cell.{Cell}
use Rattle.chord_word.specs.declared.cells.Cell.TheVariants as a_cell
use Rattle.chord_word.specs.declared.cells.Word.{Word}
use Rattle.chord_rule.specs.Moment.{Home, Place, empty_word}
use Rattle.chord_rule.specs.Bags.{LinkOrder}
use Rattle.chord_rule.specs.Made.{key}
use Rattle.chord_rule.specs.Stages.{Hold, Fresh, Placing, Flying, Claiming, Emptying, Unposted, Posting, Starting, Stage, Vacant, InHand, Armed, Spent, Posted, Played, said_at, message_in, IsFiringEntry, IsNeither, claimed_message}

-- the entry of this number sends or calls the message
abbrev pub SaysMessage : List Entry → ℕ → Message → Type 0
SaysMessage h i x = (e : Entry) × IsIn e h × (e.number ≡ i) × (message_of e.what ≡ Some x)

-- the cell of a message that is armed and free
abbrev pub IsOpen : Cell → Type 0
IsOpen a_cell.Pending = Unit {0}
IsOpen (a_cell.Woken q) = Unit {0}
IsOpen _ = ⊥

-- the message is linked in the bag of its object and method, which its place word names
pub record IsLinked (m : Message) (place : Option Place) (bag : Option ℕ) : Type 0 where
  pub placed : place ≡ Some (m.object, m.method)
  pub bagged : bag ≡ Some (key m.object m.method)
  pub few : m.method < 16

module _ {P : Type 0} where
  -- nothing was done with the number
  pub record HasNothing (word : Word) (place : Option Place) (home : Home P) (bag : Option ℕ) : Type 0 where
    pub cell : word ≡ empty_word
    pub unplaced : place ≡ None
    pub slot : home ≡ some None
    pub unlinked : bag ≡ None

  -- a parcel is at home
  abbrev pub IsLoaded : Home P → Type 0
  IsLoaded home = (q : P) × (home ≡ some (Some q))

  -- a number that a desk has in hand
  abbrev pub Holding : Hold → Option What → Word → Option Place → Home P → Option ℕ → Option ℕ → Type 0
  Holding Fresh what word place home bag next = ((m : Message) × (message_in what ≡ Some m)) × HasNothing word place home bag
  Holding Placing what word place home bag next = (m : Message) × (message_in what ≡ Some m) × (word ≡ empty_word) × (place ≡ Some (m.object, m.method)) × (home ≡ none) × (bag ≡ None)
  Holding (Flying k above) what word place home bag next = (m : Message) × (message_in what ≡ Some m) × IsLinked m place bag × (word ≡ empty_word) × IsLoaded home × (bag ≡ Some k) × (next ≡ above)
  Holding (Claiming c) what word place home bag next = (message_in what ≡ Some (claimed_message c)) × IsLinked (claimed_message c) place bag × (word ≡ record { cell = a_cell.Claimed; next = c.next }) × IsLoaded home
  Holding Emptying what word place home bag next = (m : Message) × (message_in what ≡ Some m) × IsLinked m place bag × (word.cell ≡ a_cell.Consumed) × (home ≡ none)
  Holding Unposted what word place home bag next = IsFiringEntry what × HasNothing word place home bag
  Holding Posting what word place home bag next = IsFiringEntry what × (word ≡ empty_word) × (place ≡ None) × (home ≡ none) × (bag ≡ None)
  Holding Starting what word place home bag next = IsFiringEntry what × (word.cell ≡ a_cell.Started) × (place ≡ None) × (home ≡ none) × (bag ≡ None)

  -- a number, as it stands
  abbrev pub Stands : Stage → Option What → Word → Option Place → Home P → Option ℕ → Option ℕ → Type 0
  Stands Vacant what word place home bag next = IsNeither what × HasNothing word place home bag
  Stands (InHand j x) what word place home bag next = Holding x what word place home bag next
  Stands Armed what word place home bag next = (m : Message) × (message_in what ≡ Some m) × IsLinked m place bag × IsOpen word.cell × IsLoaded home
  Stands Spent what word place home bag next = (m : Message) × (message_in what ≡ Some m) × IsLinked m place bag × (word.cell ≡ a_cell.Consumed) × (home ≡ some None)
  Stands Posted what word place home bag next = IsFiringEntry what × (word ≡ record { cell = a_cell.Ready; next = None }) × (place ≡ None) × IsLoaded home × (bag ≡ None)
  Stands Played what word place home bag next = IsFiringEntry what × (word.cell ≡ a_cell.Started) × (place ≡ None) × (home ≡ some None) × (bag ≡ None)

  -- each number of the table stands so
  pub record Messages (h : List Entry) (cells : ℕ → Word) (places : ℕ → Option Place) (homes : ℕ → Home P) (o : LinkOrder) (stage : ℕ → Stage) : Type 0 where
    pub stands : (i : ℕ) → Stands (stage i) (said_at i h) (cells i) (places i) (homes i) (o.bag i) (o.next i)
